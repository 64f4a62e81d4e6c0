use Rattle.std.proofs.Common.{rules, ◌≡◌, true, false, inl, inr}
use Rattle.bm_web_server.proofs.Hosts.{not_so}
use Rattle.bm_web_server.proofs.pages.PagesServiceRequestIncoming.call.Goals as goal

-- a host that is none
pub returns-then-not-has_host-clause-called : goal.returns-then-not-has_host-clause-called
returns-then-not-has_host-clause-called g c =
    let failed : c.has_host.result ≡ false = search rules in
    let none = rw c.headers.ensures at (not_so _ c.has_host.result c.has_host.ensures failed) in
    rw c.ok.ensures (inr (none, c.bad_request.ensures.reply, c.bad_request.ensures.fields))

pub returns-clause-called : goal.returns-clause-called
returns-clause-called g c =
    let told = rw (c.as_str-method.ensures.value, c.method.ensures, c.target_in-target.ensures, c.uri.ensures) at c.page.ensures.given in
    let yes : c.has_host.result ≡ true = search rules in
    let host = rw c.headers.ensures at (c.has_host.ensures.0 yes) in
    rw c.ok-2.ensures (inl (host, (told.0, told.1, told.2, told.3), c.page.ensures.fields))

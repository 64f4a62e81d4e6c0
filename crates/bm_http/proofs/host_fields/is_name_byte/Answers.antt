use Rattle.std.proofs.Common.{rules, ◌≡◌, ◌∙◌, ◌||◌, true, false, sym, ap}
use Rattle.bm_http.specs.HostFields.{is_name_byte, is_mark}
use Rattle.std.specs.Char.{is_ascii_alphanumeric}
use Rattle.bm_http.proofs.host_fields.is_name_byte.Goals as goal

pub returns-then-is_ascii_alphanumeric : goal.returns-then-is_ascii_alphanumeric
unfolding is_name_byte
returns-then-is_ascii_alphanumeric c =
    let yes : c.is_ascii_alphanumeric.result ≡ true = search rules in
    let known : is_ascii_alphanumeric c.args.byte ≡ true = sym c.is_ascii_alphanumeric.ensures.value ∙ yes in
    yes ∙ sym (ap (λ t. t || is_mark c.args.byte) known)

pub returns-else-is_ascii_alphanumeric : goal.returns-else-is_ascii_alphanumeric
unfolding is_name_byte
returns-else-is_ascii_alphanumeric c =
    let no : c.is_ascii_alphanumeric.result ≡ false = search rules in
    let known : is_ascii_alphanumeric c.args.byte ≡ false = sym c.is_ascii_alphanumeric.ensures.value ∙ no in
    c.contains.ensures.value ∙ sym (ap (λ t. t || is_mark c.args.byte) known)

use Rattle.std.proofs.Common.{◌∙◌, refl, sym, ap, List, ℕ}
use Rattle.bm_link.specs.Users.{place_of}
use Rattle.bm_link.proofs.login.admit.Goals as goal

-- the user is that of the login that was read
pub returns-in-Some : goal.returns-in-Some
returns-in-Some g c = (
  c.in-Ok.credentials,
  c.in-Ok.ensures.login,
  ap (λ (name : List ℕ). place_of c.args.users.now name c.in-Ok.credentials.password) (sym c.as_str-username.ensures)
      ∙ (ap (λ (password : List ℕ). place_of c.args.users.now c.as_str-username.result.now password) (sym c.as_str.ensures)
      ∙ (sym c.place_of.ensures ∙ c.in-Some.is)),
  refl,
)

-- no user is, which the worker is told
pub returns-in-None : goal.returns-in-None
returns-in-None g c = (
  c.in-Ok.credentials,
  c.read_login.new.socket,
  c.in-Ok.ensures.login,
  ap (λ (name : List ℕ). place_of c.args.users.now name c.in-Ok.credentials.password) (sym c.as_str-username.ensures)
      ∙ (ap (λ (password : List ℕ). place_of c.args.users.now c.as_str-username.result.now password) (sym c.as_str.ensures)
      ∙ (sym c.place_of.ensures ∙ c.in-None.is)),
  refl,
  c.send_refusal.ensures,
)

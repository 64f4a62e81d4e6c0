use Rattle.std.proofs.Common.{◌≡◌, ◌||◌, ◌∙◌, ap, cond, false, None, ℕ}
use Rattle.bm_session.specs.Session.{SessionState}
use Rattle.bm_session.specs.Trace.{Trace, Moment, is_up, is_cut, seen, verdict, first_with}
use Rattle.std.specs.Prelude.{option_map}
use Rattle.bm_session.proofs.Merged.{merged-none}
use Rattle.bm_session.proofs.session.Session.seen.Goals as goal

seen-none : (t : Trace) (n : ℕ) → (is_up t || is_cut t) ≡ false → seen t n ≡ None
seen-none t n down = ap (λ b. cond b (option_map (λ (m : Moment). verdict m.past m.event) (first_with t n)) None) down

pub returns-clause-none : goal.returns-clause-none
returns-clause-none c = λ down.
    let same = ap (λ (s : SessionState). s.trace) c.self.view_is in
    c.as_slice.ensures.ranges
    ∙ merged-none c.self.inside.table.seen.ranges c.as_slice.ensures.merged (λ n. c.self.invariant.table.had n ∙ ap (λ t. seen t n) same ∙ seen-none c.args.self.now.trace n down)

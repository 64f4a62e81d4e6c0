use Rattle.std.proofs.Common.{◌≡◌, ◌++◌, ◌∷◌, [], Some, None, Bool, ℕ, ℤ, Option, List, refl, sym, ◌∙◌, ap, subst, true, map}
use Rattle.std.specs.Prelude.{find, ◌==◌}
use Rattle.bm_lines.specs.declared.line_batch.LogLines.{LogLines}
use Rattle.bm_session.specs.declared.event.Event.TheVariants.{In}
use Rattle.bm_session.specs.declared.event.Body.{Body}
use Rattle.bm_session.specs.declared.event.Body.TheVariants.{Update, Complete, Answered}
use Rattle.bm_session.specs.declared.reply.Verdict.{Verdict}
use Rattle.bm_session.specs.declared.open.Open.{Open}
use Rattle.bm_session.specs.declared.table.Table.{Table}
use Rattle.bm_session.specs.Events.{rc_of}
use Rattle.bm_session.specs.Trace.{Trace, is_up, verdict, result_of_rc}
use Rattle.bm_session.specs.Ranges.{RangeList, HoldsAlso}
use Rattle.bm_session.specs.Table.{IsTable, with_told, asks}
use Rattle.bm_session.proofs.Stepped.{ends_nothing}
use Rattle.bm_session.proofs.Hearing.{IsFresh, IsClosed, listed-inside, taken-code, taken-complete, taken-quiet, ends-none, complete-none}
use Rattle.bm_session.proofs.table.Table.take_request.Goals as goal

-- the laws, at a body that is known by an equation

code-of : (tb tb' : Table) (t : Trace) (n j : ℕ) (body : Body) (batch : List LogLines) (z : ℤ) (v : Verdict) → body ≡ Update j batch (Some z) → IsTable tb t → is_up t ≡ true → IsFresh tb tb' n v → v ≡ verdict t (In n body)
    → tb'.link ≡ tb.link → tb'.orders ≡ tb.orders → tb'.outcomes ≡ tb.outcomes → tb'.opened.items ≡ map (with_told j (result_of_rc (Some z))) tb.opened.items → IsTable tb' (t ++ In n body ∷ [])
code-of tb tb' t n j body batch z v e is up fresh ev e-link e-orders e-outcomes e-open =
    subst (λ b. IsTable tb' (t ++ In n b ∷ [])) (sym e) (taken-code tb tb' t n j batch z v is up fresh (ev ∙ ap (λ b. verdict t (In n b)) e) e-link e-orders e-outcomes e-open)

complete-of : (tb tb' : Table) (t : Trace) (n j : ℕ) (body : Body) (f : Bool) (v : Verdict) (x : Open) → body ≡ Complete j f → IsTable tb t → is_up t ≡ true → IsFresh tb tb' n v → v ≡ verdict t (In n body)
    → find (λ (o : Open). j == o.command) tb.opened.items ≡ Some x → IsClosed tb tb' x f → IsTable tb' (t ++ In n body ∷ [])
complete-of tb tb' t n j body f v x e is up fresh ev at closed =
    subst (λ b. IsTable tb' (t ++ In n b ∷ [])) (sym e) (taken-complete tb tb' t n j f v x is up fresh (ev ∙ ap (λ b. verdict t (In n b)) e) at closed)

quiet-of : (tb tb' : Table) (t : Trace) (n : ℕ) (body b : Body) (v : Verdict) → body ≡ b → asks b ≡ true → ((u : Unit {0}) → ends_nothing b ≡ true) → rc_of (In n b) ≡ None → IsTable tb t → is_up t ≡ true → IsFresh tb tb' n v → v ≡ verdict t (In n body)
    → tb'.link ≡ tb.link → tb'.orders ≡ tb.orders → tb'.outcomes ≡ tb.outcomes → tb'.opened ≡ tb.opened → IsTable tb' (t ++ In n body ∷ [])
quiet-of tb tb' t n body b v e a q no_rc is up fresh ev e-link e-orders e-outcomes e-open =
    subst (λ x. IsTable tb' (t ++ In n x ∷ [])) (sym e) (taken-quiet tb tb' t n b v is up fresh (ev ∙ ap (λ x. verdict t (In n x)) e) a (ends-none t n b (q tt)) no_rc e-link e-orders e-outcomes e-open)

-- a complete of no open command
missed-of : (tb tb' : Table) (t : Trace) (n j : ℕ) (body : Body) (f : Bool) (v : Verdict) → body ≡ Complete j f → find (λ (o : Open). j == o.command) tb.opened.items ≡ None → IsTable tb t → is_up t ≡ true → IsFresh tb tb' n v → v ≡ verdict t (In n body)
    → tb'.link ≡ tb.link → tb'.orders ≡ tb.orders → tb'.outcomes ≡ tb.outcomes → tb'.opened ≡ tb.opened → IsTable tb' (t ++ In n body ∷ [])
missed-of tb tb' t n j body f v e none is up fresh ev e-link e-orders e-outcomes e-open =
    subst (λ x. IsTable tb' (t ++ In n x ∷ [])) (sym e) (taken-quiet tb tb' t n (Complete j f) v is up fresh (ev ∙ ap (λ x. verdict t (In n x)) e) refl (complete-none tb t n j f is up fresh.new none) refl e-link e-orders e-outcomes e-open)

-- a request that is neither an update nor a complete
other-ends : (body : Body) → asks body ≡ true → ((j : ℕ) (batch : List LogLines) (rc : Option ℤ) → body ≡ Update j batch rc → ⊥) → ((j : ℕ) (f : Bool) → body ≡ Complete j f → ⊥) → ends_nothing body ≡ true
other-ends (Complete j f) a u h = absurd (h j f refl)
other-ends (Answered f) a u h = cc
other-ends body a u h = refl

other-rc : (n : ℕ) (body : Body) → ((j : ℕ) (batch : List LogLines) (rc : Option ℤ) → body ≡ Update j batch rc → ⊥) → rc_of (In n body) ≡ None
other-rc n (Update j batch rc) u = absurd (u j batch rc refl)
other-rc n body u = refl

pub end-requires : goal.end-requires
end-requires c =
    listed-inside c.args.self.now c.requires.known.0 (λ (o : Open). c.in-Complete.command == o.command) c.in-Some-with_command.entry c.requires.known.1
    (sym (c.with_command.ensures ∙ ap (find (λ (o : Open). c.in-Complete.command == o.command)) c.as_slice.ensures.value) ∙ c.in-Some-with_command.is)

pub returns-in-Some-clause-table : goal.returns-in-Some-clause-table
returns-in-Some-clause-table c = λ t is up.
    code-of c.args.self.now _ t c.args.number c.in-Update.command c.args.body.now c.in-Update.batch c.in-Some.rc c.verdict-verdict.result (c.in-Update.is ∙ ap (Update c.in-Update.command c.in-Update.batch) c.in-Some.is) is up
    (record { new = c.requires.fresh; holds = c.insert.ensures.holds }) (c.verdict-verdict.ensures t c.args.number is) refl refl refl
    (c.note_told.ensures.items ∙ ap (λ r. map (with_told c.in-Update.command r) c.args.self.now.opened.items) c.result_of_code.ensures)

pub returns-in_default-rc-clause-table : goal.returns-in_default-rc-clause-table
returns-in_default-rc-clause-table c = λ t is up.
    quiet-of c.args.self.now _ t c.args.number c.args.body.now (Update c.in-Update.command c.in-Update.batch None) c.verdict-verdict.result (c.in-Update.is ∙ ap (Update c.in-Update.command c.in-Update.batch) c.in_default-rc.is) refl (λ u. refl) refl is up
    (record { new = c.requires.fresh; holds = c.insert.ensures.holds }) (c.verdict-verdict.ensures t c.args.number is) refl refl refl refl

pub returns-in-Some-with_command-clause-table : goal.returns-in-Some-with_command-clause-table
returns-in-Some-with_command-clause-table c = λ t is up.
    complete-of c.args.self.now c.end.new.self t c.args.number c.in-Complete.command c.args.body.now c.in-Complete.fault c.verdict-verdict.result c.in-Some-with_command.entry c.in-Complete.is is up
    (record { new = c.requires.fresh; holds = subst (λ rs. HoldsAlso c.args.self.now.seen.ranges rs c.args.number c.verdict-verdict.result) (ap (λ (r : RangeList). r.ranges) (sym c.end.ensures.seen)) c.insert.ensures.holds }) (c.verdict-verdict.ensures t c.args.number is)
    (sym (c.with_command.ensures ∙ ap (find (λ (o : Open). c.in-Complete.command == o.command)) c.as_slice.ensures.value) ∙ c.in-Some-with_command.is)
    (record { listed = c.end.ensures.listed; ended = c.end.ensures.ended; link = c.end.ensures.link; orders = c.end.ensures.orders })

pub returns-in_default-with_command-clause-table : goal.returns-in_default-with_command-clause-table
returns-in_default-with_command-clause-table c = λ t is up.
    missed-of c.args.self.now _ t c.args.number c.in-Complete.command c.args.body.now c.in-Complete.fault c.verdict-verdict.result c.in-Complete.is
    (sym (c.with_command.ensures ∙ ap (find (λ (o : Open). c.in-Complete.command == o.command)) c.as_slice.ensures.value) ∙ c.in_default-with_command.is) is up
    (record { new = c.requires.fresh; holds = c.insert.ensures.holds }) (c.verdict-verdict.ensures t c.args.number is) refl refl refl refl

pub returns-in_default-clause-table : goal.returns-in_default-clause-table
returns-in_default-clause-table c = λ t is up.
    quiet-of c.args.self.now _ t c.args.number c.args.body.now c.args.body.now c.verdict-verdict.result refl c.requires.asks (λ u. other-ends c.args.body.now c.requires.asks c.in_default.not-Update c.in_default.not-Complete)
    (other-rc c.args.number c.args.body.now c.in_default.not-Update) is up
    (record { new = c.requires.fresh; holds = c.insert.ensures.holds }) (c.verdict-verdict.ensures t c.args.number is) refl refl refl refl

-- Runs of steps: what viewers see of a log never shrinks.
use Rattle.std.proofs.Common.{◌≡◌, refl, sym, ◌∙◌, ap, subst, ℕ, ◌+◌, ◌≤◌, ◌<◌, Bool, true, false, cond, ◌&&◌, List, [], ◌∷◌, ◌++◌, Option, Some, None, arith, append_assoc}
use Rattle.std.specs.Prelude.{◌==◌, nat_lt, nat_le, is_some, unwrap_or, find}
use Rattle.std.specs.Option.{option_or}
use Rattle.std.proofs.lemmas.List.{append-nil, map-append}
use Rattle.std.proofs.lemmas.Bool.Decides.{nat_tests}
use Rattle.bm_lines.specs.Names.{Name}
use Rattle.bm_session.specs.declared.event.Event.{Event}
use Rattle.bm_session.specs.declared.refusal.Refusal.{Refusal}
use mathlib.Core.List.{IsPrefix}
use Rattle.bm_session.specs.Trace.{Trace, Moment, moments, prefixes, productive, visible, log, has_log, item, reply, refusal}
use Rattle.bm_session.proofs.Snoc.{find-push}
use Rattle.bm_session.proofs.Pushed.{next, moments-push}
use Rattle.bm_session.proofs.Staying.{has_log-grows}
use Rattle.bm_session.proofs.Visible.{IsPrefix-refl, productive-grows, visible-first, visible-is-prefix, visible-grows, prefix-log, visible_logs_grow}
use Rattle.bm_world.specs.declared.answer.Answer.TheVariants.{Heard, Busy, Took, Empty}
use Rattle.bm_world.specs.declared.step.Step.{Step}
use Rattle.bm_world.specs.declared.step.Step.TheVariants.{Hear, Drain, Look}
use Rattle.bm_world.specs.World.{World, Stepped, heard, drained, stepped, start, after_steps}
use Rattle.bm_world.specs.Laws.{LooksNeverShrink}

-- the prefix with d items stays the first one

visible-push : (t : Trace) (e : Event) (d : ℕ) → d ≤ productive t → visible (t ++ e ∷ []) d ≡ visible t d
visible-push t e d h =
    let more : prefixes (t ++ e ∷ []) ≡ prefixes t ++ (t ++ e ∷ []) ∷ [] = rw (moments-push t e, map-append (λ (m : Moment). m.past) (moments t) (next t e ∷ [])) in
    let found : find (λ p. productive p == d) (prefixes (t ++ e ∷ [])) ≡ Some (visible t d) =
    ap (find (λ p. productive p == d)) more
    ∙ find-push (λ p. productive p == d) (prefixes t) (t ++ e ∷ [])
    ∙ ap (λ o. option_or o (cond (productive (t ++ e ∷ []) == d) (Some (t ++ e ∷ [])) None)) (visible-first t d h) in
    ap (λ o. unwrap_or o (t ++ e ∷ [])) found

visible-more : (t v : Trace) (d : ℕ) → d ≤ productive t → visible (t ++ v) d ≡ visible t d
visible-more t [] d h = ap (λ u. visible u d) (append-nil t)
visible-more t (e ∷ v) d h =
    let grown : productive t ≤ productive (t ++ e ∷ []) = productive-grows t (e ∷ []) in
    ap (λ u. visible u d) (sym (append_assoc t (e ∷ []) v)) ∙ visible-more (t ++ e ∷ []) v d (omega arith) ∙ visible-push t e d h

-- a lane shows no more items than its trace has, and later lanes continue it

pub record IsOn (v w : World) : Type 0 where
  pub more : v.shown ≤ w.shown
  pub few : w.shown ≤ productive w.trace
  pub longer : IsPrefix v.trace w.trace

prefix-both : {A : Type 0} (xs ys zs : List A) → IsPrefix xs ys → IsPrefix ys zs → IsPrefix xs zs
prefix-both xs ys zs h g = (h.0 ++ g.0, sym (append_assoc xs h.0 g.0) ∙ ap (λ l. l ++ g.0) h.1 ∙ g.1)

on-heard : (w : World) (e : Event) (o : Option Refusal) → w.shown ≤ productive w.trace → IsOn w (heard w e o).1
on-heard w e (Some r) h = record { more = omega arith; few = h; longer = IsPrefix-refl w.trace }
on-heard w e None h = go (is_some (item w.trace e) && nat_le (w.shown + w.capacity) (productive w.trace))
  where
    go : (b : Bool) → IsOn w (cond {A = Stepped} b (Busy, w) (Heard (reply w.trace e), record { capacity = w.capacity; trace = w.trace ++ e ∷ []; shown = w.shown })).1
    go true = record { more = omega arith; few = h; longer = IsPrefix-refl w.trace }
    go false =
        let grown : productive w.trace ≤ productive (w.trace ++ e ∷ []) = productive-grows w.trace (e ∷ []) in
        record { more = omega arith; few = omega arith; longer = (e ∷ [], refl) }

on-drained : (w : World) → w.shown ≤ productive w.trace → IsOn w (drained w).1
on-drained w h = go (nat_lt w.shown (productive w.trace)) refl
  where
    go : (b : Bool) → nat_lt w.shown (productive w.trace) ≡ b → IsOn w (cond {A = Stepped} b (Took, record { capacity = w.capacity; trace = w.trace; shown = w.shown + 1 }) (Empty, w)).1
    go true e = let less : w.shown < productive w.trace = grind (arith, nat_tests) in record { more = omega arith; few = omega arith; longer = IsPrefix-refl w.trace }
    go false e = record { more = omega arith; few = h; longer = IsPrefix-refl w.trace }

on-stepped : (w : World) (s : Step) → w.shown ≤ productive w.trace → IsOn w (stepped w s).1
on-stepped w (Hear e) h = on-heard w e (refusal w.trace e) h
on-stepped w Drain h = on-drained w h
on-stepped w (Look k name off lim) h = record { more = omega arith; few = h; longer = IsPrefix-refl w.trace }

on-steps : (w : World) (ss : List Step) → w.shown ≤ productive w.trace → IsOn w (after_steps w ss)
on-steps w [] h = record { more = omega arith; few = h; longer = IsPrefix-refl w.trace }
on-steps w (s ∷ ss) h =
    let one : IsOn w (stepped w s).1 = on-stepped w s h in
    let rest : IsOn (stepped w s).1 (after_steps (stepped w s).1 ss) = on-steps (stepped w s).1 ss one.few in
    let a : w.shown ≤ (stepped w s).1.shown = one.more in
    let b : (stepped w s).1.shown ≤ (after_steps (stepped w s).1 ss).shown = rest.more in
    record { more = omega arith; few = rest.few; longer = prefix-both w.trace (stepped w s).1.trace (after_steps (stepped w s).1 ss).trace one.longer rest.longer }

seen-later : (k : ℕ) (name : Name) (t t' : Trace) (d d' : ℕ) → d ≤ productive t → d ≤ d' → d' ≤ productive t' → IsPrefix t t' → IsPrefix (log (visible t d) k name) (log (visible t' d') k name)
seen-later k name t t' d d' h m f p =
    let same : visible t' d ≡ visible t d = ap (λ u. visible u d) (sym p.1) ∙ visible-more t p.0 d h in
    subst (λ u. IsPrefix (log u k name) (log (visible t' d') k name)) same (visible_logs_grow t' k name d d' m f)

there-later : (k : ℕ) (name : Name) (t t' : Trace) (d d' : ℕ) → d ≤ productive t → d ≤ d' → d' ≤ productive t' → IsPrefix t t' → has_log (visible t d) k name ≡ true → has_log (visible t' d') k name ≡ true
there-later k name t t' d d' h m f p there =
    let same : visible t' d ≡ visible t d = ap (λ u. visible u d) (sym p.1) ∙ visible-more t p.0 d h in
    let on : IsPrefix (visible t' d) (visible t' d') = visible-grows t' d d' m f in
    ap (λ u. has_log u k name) (sym on.1) ∙ has_log-grows k name (visible t' d) on.0 (ap (λ u. has_log u k name) same ∙ there)

-- the law: whatever steps follow, a viewer sees a log that stays and goes on, and is a prefix of
-- the true one
pub looks_never_shrink : LooksNeverShrink
looks_never_shrink c first more k name =
    let begun : IsOn (start c) (after_steps (start c) first) = on-steps (start c) first (omega arith) in
    let on : IsOn (after_steps (start c) first) (after_steps (after_steps (start c) first) more) = on-steps (after_steps (start c) first) more begun.few in
    record {
      taken = on.longer;
      shown = on.more;
      few = on.few;
      seen = seen-later k name _ _ _ _ begun.few on.more on.few on.longer;
      has_log = there-later k name _ _ _ _ begun.few on.more on.few on.longer;
      true_log = prefix-log k name _ _ (visible-is-prefix (after_steps (after_steps (start c) first) more).trace (after_steps (after_steps (start c) first) more).shown on.few);
    }

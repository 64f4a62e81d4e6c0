use Rattle.std.proofs.Common.{◌≡◌, ◌-◌, ◌<◌, ◌≤◌, List, Bool, true, false, ℕ, IsTrue, None, set, get_or, length, arith, sym, ◌∙◌, ap, subst}
use Rattle.std.specs.Prelude.{remove, insert, IsOk, vec_capacity, vec_len}
use Rattle.std.proofs.lemmas.Grind.{common_steps}
use Rattle.std.proofs.lemmas.List.{get_or_default, set_split}
use Rattle.std.proofs.lemmas.List.Edits.{get_or-remove_below}
use Rattle.bm_session.specs.declared.seen.Seen.{Seen}
use Rattle.bm_session.specs.declared.reply.Verdict.{Verdict}
use Rattle.bm_session.specs.Seen.{IsMerged, verdict_in}
use Rattle.bm_session.specs.Ranges.{RangeList, HoldsAlso, IsPlace, JoinsBefore, JoinsAfter}
use Rattle.bm_session.proofs.Inserted.{inserted-alone, inserted-before, inserted-after, inserted-between, set-remove, set-before}
use Rattle.bm_session.proofs.ranges.Ranges.insert.Goals as goal

abbrev one : ℕ → ℕ → Verdict → Seen
one f l v = record { first = f; last = l; verdict = v }

-- the ranges, the place, and the answers of the two tests
record IsKnown (ranges rs : List Seen) (i n : ℕ) (v : Verdict) (before after : Bool) : Type 0 where
  pub same : rs ≡ ranges
  pub merged : IsMerged rs
  pub place : IsPlace ranges n i
  pub new : verdict_in ranges n ≡ None
  pub before_is : (IsTrue before → JoinsBefore ranges i n v) × (JoinsBefore ranges i n v → IsTrue before)
  pub after_is : (IsTrue after → JoinsAfter ranges i n v) × (JoinsAfter ranges i n v → IsTrue after)

-- a range that the number joins has the verdict already
verdict_before : (ranges : List Seen) (i n : ℕ) (v : Verdict) (x : Seen) → JoinsBefore ranges i n v → x ≡ get_or ranges (i - 1) x → x.verdict ≡ v
verdict_before ranges i n v x before is = ap (λ (r : Seen). r.verdict) is ∙ before.same x

verdict_after : (ranges : List Seen) (i n : ℕ) (v : Verdict) (y : Seen) → JoinsAfter ranges i n v → y ≡ get_or ranges i y → y.verdict ≡ v
verdict_after ranges i n v y after is = ap (λ (r : Seen). r.verdict) is ∙ sym (after.same y)

-- the four ways, at what the code writes
between : (ranges rs rs' : List Seen) (i n : ℕ) (v : Verdict) (b b' : Bool) (x y : Seen) → IsKnown ranges rs i n v b b' → b ≡ true → b' ≡ true
    → x ≡ get_or rs' (i - 1) x → y ≡ get_or rs i y → rs' ≡ remove rs i → HoldsAlso ranges (set rs' (i - 1) (one x.first y.last x.verdict)) n v
between ranges rs rs' i n v b b' x y known e e' is is' removed =
    let before : JoinsBefore ranges i n v = known.before_is.0 e in
    let after : JoinsAfter ranges i n v = known.after_is.0 e' in
    let at : rs ≡ ranges = known.same in
    let bound : i ≤ length ranges = known.place.bound in
    let some : 0 < i = before.some in
    let is'' : x ≡ get_or ranges (i - 1) x =
    subst (λ ys. x ≡ get_or ys (i - 1) x) (removed ∙ ap (λ ys. remove ys i) at) is ∙ get_or-remove_below ranges i x (i - 1) (omega arith) after.some in
    let is''' : y ≡ get_or ranges i y = subst (λ ys. y ≡ get_or ys i y) at is' in
    subst (λ w. HoldsAlso ranges (set rs' (i - 1) (one x.first y.last w)) n v) (sym (verdict_before ranges i n v x before is''))
    (subst (λ ys. HoldsAlso ranges ys n v) (sym (ap (λ ys. set ys (i - 1) (one x.first y.last v)) (removed ∙ ap (λ ys. remove ys i) at) ∙ set-remove ranges i (one x.first y.last v) some after.some))
    (inserted-between ranges i n v (subst IsMerged at known.merged) known.place known.new before after (one x.first y.last v)
    (λ d. ap (λ (r : Seen). one r.first y.last v) (is'' ∙ get_or_default ranges (i - 1) x d (omega arith)) ∙ ap (λ (r : Seen). one (get_or ranges (i - 1) d).first r.last v) (is''' ∙ get_or_default ranges i y d after.some))))

before-only : (ranges rs : List Seen) (i n : ℕ) (v : Verdict) (b b' : Bool) (x : Seen) → IsKnown ranges rs i n v b b' → b ≡ true → b' ≡ false
    → x ≡ get_or rs (i - 1) x → HoldsAlso ranges (set rs (i - 1) (one x.first n x.verdict)) n v
before-only ranges rs i n v b b' x known e e' is =
    let before : JoinsBefore ranges i n v = known.before_is.0 e in
    let at : rs ≡ ranges = known.same in
    let bound : i ≤ length ranges = known.place.bound in
    let some : 0 < i = before.some in
    let is' : x ≡ get_or ranges (i - 1) x = subst (λ ys. x ≡ get_or ys (i - 1) x) at is in
    subst (λ w. HoldsAlso ranges (set rs (i - 1) (one x.first n w)) n v) (sym (verdict_before ranges i n v x before is'))
    (subst (λ ys. HoldsAlso ranges ys n v) (sym (ap (λ ys. set ys (i - 1) (one x.first n v)) at ∙ set-before ranges i (one x.first n v) some bound))
    (inserted-before ranges i n v (subst IsMerged at known.merged) known.place known.new before (λ j. let t : b' ≡ true = known.after_is.1 j in cc) (one x.first n v)
    (λ d. ap (λ (r : Seen). one r.first n v) (is' ∙ get_or_default ranges (i - 1) x d (omega arith)))))

after-only : (ranges rs : List Seen) (i n : ℕ) (v : Verdict) (b b' : Bool) (y : Seen) → IsKnown ranges rs i n v b b' → b ≡ false → b' ≡ true
    → y ≡ get_or rs i y → HoldsAlso ranges (set rs i (one n y.last y.verdict)) n v
after-only ranges rs i n v b b' y known e e' is =
    let after : JoinsAfter ranges i n v = known.after_is.0 e' in
    let at : rs ≡ ranges = known.same in
    let is' : y ≡ get_or ranges i y = subst (λ ys. y ≡ get_or ys i y) at is in
    subst (λ w. HoldsAlso ranges (set rs i (one n y.last w)) n v) (sym (verdict_after ranges i n v y after is'))
    (subst (λ ys. HoldsAlso ranges ys n v) (sym (ap (λ ys. set ys i (one n y.last v)) at ∙ set_split ranges i (one n y.last v) after.some))
    (inserted-after ranges i n v (subst IsMerged at known.merged) known.place known.new (λ j. let t : b ≡ true = known.before_is.1 j in cc) after (one n y.last v)
    (λ d. ap (λ (r : Seen). one n r.last v) (is' ∙ get_or_default ranges i y d after.some))))

alone : (ranges rs rs' : List Seen) (i n : ℕ) (v : Verdict) (b b' : Bool) → IsKnown ranges rs i n v b b' → b ≡ false → b' ≡ false
    → rs' ≡ insert rs i (one n n v) → HoldsAlso ranges rs' n v
alone ranges rs rs' i n v b b' known e e' is =
    let at : rs ≡ ranges = known.same in
    subst (λ ys. HoldsAlso ranges ys n v) (sym (is ∙ ap (λ ys. insert ys i (one n n v)) at))
    (inserted-alone ranges i n v (subst IsMerged at known.merged) known.place known.new (λ j. let t : b ≡ true = known.before_is.1 j in cc) (λ j. let t : b' ≡ true = known.after_is.1 j in cc))

pub returns-then-joins_after-clause-holds : goal.returns-then-joins_after-clause-holds
returns-then-joins_after-clause-holds c =
    between c.args.self.now.ranges c.self.inside.vec.items c.remove-last.new.self.items c.place-place.result c.args.number c.args.verdict c.joins_before.result c.joins_after.result c.index_mut.result.now c.remove-last.result
    (record { same = ap (λ (r : RangeList). r.ranges) c.self.view_is; merged = c.self.invariant; place = c.place-place.ensures; new = c.requires.fresh; before_is = c.joins_before.ensures; after_is = c.joins_after.ensures })
    c.if-joins_before.true c.if-joins_after.true c.index_mut.ensures.value c.remove-last.ensures.value c.remove-last.ensures.items

pub invariant_of-self : goal.invariant_of-self
invariant_of-self c =
    (between c.args.self.now.ranges c.self.inside.vec.items c.remove-last.new.self.items c.place-place.result c.args.number c.args.verdict c.joins_before.result c.joins_after.result c.index_mut.result.now c.remove-last.result
    (record { same = ap (λ (r : RangeList). r.ranges) c.self.view_is; merged = c.self.invariant; place = c.place-place.ensures; new = c.requires.fresh; before_is = c.joins_before.ensures; after_is = c.joins_after.ensures })
    c.if-joins_before.true c.if-joins_after.true c.index_mut.ensures.value c.remove-last.ensures.value c.remove-last.ensures.items).merged

pub returns-else-joins_after-clause-holds : goal.returns-else-joins_after-clause-holds
returns-else-joins_after-clause-holds c =
    before-only c.args.self.now.ranges c.self.inside.vec.items c.place-place.result c.args.number c.args.verdict c.joins_before.result c.joins_after.result c.index_mut-else-joins_after.result.now
    (record { same = ap (λ (r : RangeList). r.ranges) c.self.view_is; merged = c.self.invariant; place = c.place-place.ensures; new = c.requires.fresh; before_is = c.joins_before.ensures; after_is = c.joins_after.ensures })
    c.if-joins_before.true c.if-joins_after.false c.index_mut-else-joins_after.ensures.value

pub invariant_of-self-else-joins_after : goal.invariant_of-self-else-joins_after
invariant_of-self-else-joins_after c =
    (before-only c.args.self.now.ranges c.self.inside.vec.items c.place-place.result c.args.number c.args.verdict c.joins_before.result c.joins_after.result c.index_mut-else-joins_after.result.now
    (record { same = ap (λ (r : RangeList). r.ranges) c.self.view_is; merged = c.self.invariant; place = c.place-place.ensures; new = c.requires.fresh; before_is = c.joins_before.ensures; after_is = c.joins_after.ensures })
    c.if-joins_before.true c.if-joins_after.false c.index_mut-else-joins_after.ensures.value).merged

pub returns-then-joins_after-2-clause-holds : goal.returns-then-joins_after-2-clause-holds
returns-then-joins_after-2-clause-holds c =
    after-only c.args.self.now.ranges c.self.inside.vec.items c.place-place.result c.args.number c.args.verdict c.joins_before.result c.joins_after-else-joins_before.result c.index_mut-then-joins_after-2.result.now
    (record { same = ap (λ (r : RangeList). r.ranges) c.self.view_is; merged = c.self.invariant; place = c.place-place.ensures; new = c.requires.fresh; before_is = c.joins_before.ensures; after_is = c.joins_after-else-joins_before.ensures })
    c.if-joins_before.false c.if-joins_after-2.true c.index_mut-then-joins_after-2.ensures.value

pub invariant_of-self-then-joins_after-2 : goal.invariant_of-self-then-joins_after-2
invariant_of-self-then-joins_after-2 c =
    (after-only c.args.self.now.ranges c.self.inside.vec.items c.place-place.result c.args.number c.args.verdict c.joins_before.result c.joins_after-else-joins_before.result c.index_mut-then-joins_after-2.result.now
    (record { same = ap (λ (r : RangeList). r.ranges) c.self.view_is; merged = c.self.invariant; place = c.place-place.ensures; new = c.requires.fresh; before_is = c.joins_before.ensures; after_is = c.joins_after-else-joins_before.ensures })
    c.if-joins_before.false c.if-joins_after-2.true c.index_mut-then-joins_after-2.ensures.value).merged

pub returns-else-joins_after-2-clause-holds : goal.returns-else-joins_after-2-clause-holds
returns-else-joins_after-2-clause-holds c =
    let room : vec_capacity c.self.inside.vec - vec_len c.self.inside.vec ≡ c.args.self.now.room = ap (λ (r : RangeList). r.room) c.self.view_is in
    let fits : vec_len c.self.inside.vec < vec_capacity c.self.inside.vec = omega (arith, c.requires.room) in
    let put : IsOk c.insert.result = c.insert.ensures.succeeds fits in
    let items : c.insert.new.self.items ≡ insert c.self.inside.vec.items c.place-place.result (one c.args.number c.args.number c.args.verdict) = grind (arith, common_steps) in
    alone c.args.self.now.ranges c.self.inside.vec.items c.insert.new.self.items c.place-place.result c.args.number c.args.verdict c.joins_before.result c.joins_after-else-joins_before.result
    (record { same = ap (λ (r : RangeList). r.ranges) c.self.view_is; merged = c.self.invariant; place = c.place-place.ensures; new = c.requires.fresh; before_is = c.joins_before.ensures; after_is = c.joins_after-else-joins_before.ensures })
    c.if-joins_before.false c.if-joins_after-2.false items

pub invariant_of-self-else-joins_after-2 : goal.invariant_of-self-else-joins_after-2
invariant_of-self-else-joins_after-2 c =
    let room : vec_capacity c.self.inside.vec - vec_len c.self.inside.vec ≡ c.args.self.now.room = ap (λ (r : RangeList). r.room) c.self.view_is in
    let fits : vec_len c.self.inside.vec < vec_capacity c.self.inside.vec = omega (arith, c.requires.room) in
    let put : IsOk c.insert.result = c.insert.ensures.succeeds fits in
    let items : c.insert.new.self.items ≡ insert c.self.inside.vec.items c.place-place.result (one c.args.number c.args.number c.args.verdict) = grind (arith, common_steps) in
    (alone c.args.self.now.ranges c.self.inside.vec.items c.insert.new.self.items c.place-place.result c.args.number c.args.verdict c.joins_before.result c.joins_after-else-joins_before.result
    (record { same = ap (λ (r : RangeList). r.ranges) c.self.view_is; merged = c.self.invariant; place = c.place-place.ensures; new = c.requires.fresh; before_is = c.joins_before.ensures; after_is = c.joins_after-else-joins_before.ensures })
    c.if-joins_before.false c.if-joins_after-2.false items).merged

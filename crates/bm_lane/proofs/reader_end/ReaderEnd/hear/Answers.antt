use Rattle.std.proofs.Common.{◌≡◌, ◌∷◌, ◌++◌, [], List, Some, None, true, false, sym, ap, ◌∙◌}
use Rattle.bm_session.specs.declared.item.Item.{Item}
use Rattle.bm_session.specs.Session.{Planned}
use Rattle.bm_session.specs.Trace.{Trace, reply, refusal, item, items}
use Rattle.bm_lane.specs.declared.relay.Hand.{Hand}
use Rattle.bm_lane.specs.Ends.{Heard}
use Rattle.bm_lane.specs.Relay.{hand, known}
use Rattle.bm_lane.proofs.Hearing.{one_item, no_item}
use Rattle.bm_lane.proofs.reader_end.ReaderEnd.hear.Goals as goal

pub invariant_of-self-in_default : goal.invariant_of-self-in_default
invariant_of-self-in_default g c =
    let t = c.self.inside.session.trace in
    let e = c.args.event in
    let event : c.take_item.new.self.event ≡ e = ap (λ (p : Planned). p.event) c.take_item.ensures.left ∙ c.in-Ok.ensures.event in
    let grown : c.commit.new.session.trace ≡ t ++ e ∷ [] = c.commit.ensures.trace ∙ (λ k. c.ready.ensures.same k ++ event k ∷ []) in
    let gives : item t e ≡ None = sym c.in-Ok.ensures.item ∙ sym c.take_item.ensures.given ∙ c.in_default.is in (
      c.self.invariant.0,
      c.self.invariant.1,
      c.self.invariant.2 ∙ ap (λ (l : List Item). hand true false l []) (sym (no_item t c.commit.new.session.trace e grown gives)),
    )

pub returns-in_default-clause-taken : goal.returns-in_default-clause-taken
returns-in_default-clause-taken g c =
    let t = c.self.inside.session.trace in
    let e = c.args.event in
    let event : c.take_item.new.self.event ≡ e = ap (λ (p : Planned). p.event) c.take_item.ensures.left ∙ c.in-Ok.ensures.event in
    let grown : c.commit.new.session.trace ≡ t ++ e ∷ [] = c.commit.ensures.trace ∙ (λ k. c.ready.ensures.same k ++ event k ∷ []) in
    let gives : item t e ≡ None = sym c.in-Ok.ensures.item ∙ sym c.take_item.ensures.given ∙ c.in_default.is in
    let same : t ≡ c.args.self.now.trace = ap (λ (h : Heard). h.trace) c.self.view_is in
    let after : c.commit.new.session.trace ≡ c.args.self.now.trace ++ e ∷ [] = grown ∙ ap (λ (l : Trace). l ++ e ∷ []) same in
    let puts : (known c.self.inside.pass).put ≡ items (c.args.self.now.trace ++ e ∷ []) = ap (λ (h : Hand). h.put) c.self.invariant.2 ∙ sym (no_item t c.commit.new.session.trace e grown gives) ∙ ap items after in
    let before : c.ready.new.self.trace ≡ c.args.self.now.trace = c.ready.ensures.same ∙ same in (
      (λ k. record { lane = ap (λ (h : Heard). h.lane) c.self.view_is k; capacity = ap (λ (h : Heard). h.capacity) c.self.view_is k; trace = after k; put = puts k }),
      c.commit.ensures.reply ∙ (λ k. reply (before k) (event k)),
      sym (λ k. refusal (before k) (c.in-Ok.ensures.event k)) ∙ c.in-Ok.ensures.planned.accepted,
    )

pub invariant_of-self-then-put : goal.invariant_of-self-then-put
invariant_of-self-then-put g c =
    let t = c.self.inside.session.trace in
    let e = c.args.event in
    let event : c.take_item.new.self.event ≡ e = ap (λ (p : Planned). p.event) c.take_item.ensures.left ∙ c.in-Ok.ensures.event in
    let grown : c.commit-then-put.new.session.trace ≡ t ++ e ∷ [] = c.commit-then-put.ensures.trace ∙ (λ k. c.ready.ensures.same k ++ event k ∷ []) in
    let gives : item t e ≡ Some c.in-Some.item = sym c.in-Ok.ensures.item ∙ sym c.take_item.ensures.given ∙ c.in-Some.is in
    let own = c.put.ensures.own in (
      (own.0 ∙ c.self.invariant.0.0, own.2 ∙ c.self.invariant.0.1),
      own.0 ∙ c.self.invariant.1,
      c.if-put.ensures.put ∙ ap (λ (h : Hand). hand h.puts h.takes (h.put ++ c.in-Some.item ∷ []) h.taken) c.self.invariant.2 ∙ ap (λ (l : List Item). hand true false l []) (sym (one_item t c.commit-then-put.new.session.trace e c.in-Some.item grown gives)),
    )

pub returns-then-put-clause-taken : goal.returns-then-put-clause-taken
returns-then-put-clause-taken g c =
    let t = c.self.inside.session.trace in
    let e = c.args.event in
    let event : c.take_item.new.self.event ≡ e = ap (λ (p : Planned). p.event) c.take_item.ensures.left ∙ c.in-Ok.ensures.event in
    let grown : c.commit-then-put.new.session.trace ≡ t ++ e ∷ [] = c.commit-then-put.ensures.trace ∙ (λ k. c.ready.ensures.same k ++ event k ∷ []) in
    let gives : item t e ≡ Some c.in-Some.item = sym c.in-Ok.ensures.item ∙ sym c.take_item.ensures.given ∙ c.in-Some.is in
    let same : t ≡ c.args.self.now.trace = ap (λ (h : Heard). h.trace) c.self.view_is in
    let after : c.commit-then-put.new.session.trace ≡ c.args.self.now.trace ++ e ∷ [] = grown ∙ ap (λ (l : Trace). l ++ e ∷ []) same in
    let puts : (known c.put.new.pass).put ≡ items (c.args.self.now.trace ++ e ∷ []) =
    ap (λ (h : Hand). h.put) c.if-put.ensures.put ∙ ap (λ (h : Hand). h.put ++ c.in-Some.item ∷ []) c.self.invariant.2 ∙ sym (one_item t c.commit-then-put.new.session.trace e c.in-Some.item grown gives) ∙ ap items after in
    let before : c.ready.new.self.trace ≡ c.args.self.now.trace = c.ready.ensures.same ∙ same in (
      (λ k. record { lane = ap (λ (h : Heard). h.lane) c.self.view_is k; capacity = ap (λ (h : Heard). h.capacity) c.self.view_is k; trace = after k; put = puts k }),
      c.commit-then-put.ensures.reply ∙ (λ k. reply (before k) (event k)),
      sym (λ k. refusal (before k) (c.in-Ok.ensures.event k)) ∙ c.in-Ok.ensures.planned.accepted,
    )

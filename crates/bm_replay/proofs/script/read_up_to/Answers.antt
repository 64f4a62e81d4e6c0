use Rattle.std.proofs.Common.{ap, subst, ◌++◌, take, drop, length, arith, rules, length-append, length-drop}
use Rattle.std.proofs.lemmas.List.{length-take}
use Rattle.std.specs.Io.KnownBytes.{Consumes}
use Rattle.std.proofs.KnownBytes.{Consumes-nil, Consumes-trans}
use Rattle.bm_replay.proofs.Lines.{front-of, reads-none}
use Rattle.bm_replay.proofs.script.read_up_to.Goals as goal

pub reads-init : goal.reads-init
reads-init g c = record {
  read = rw c.new-script.ensures.items (Consumes-nil _);
  few = rw c.new-script.ensures.items (omega arith);
  room = search (rules, arith);
}

pub reads-preserved : goal.reads-preserved
reads-preserved g c = record {
  read = rw c.in_ok-extend_from_slice.ensures.items (Consumes-trans _ _ _ _ _ c.reads.invariant.read (subst (λ ys. Consumes (g.R.Read.remaining c.reads.input) (g.R.Read.remaining c.read.new.self) ys) (front-of _ c.reads.piece.len _ _ _ c.in_ok-count.ensures.bound.0 (omega (arith, c.in_ok-count.ensures.bound.0, c.reads.invariant.room, c.reads.piece.ok.0, c.read.auto.buf)) c.deref.ensures.value) c.in_ok-count.ensures.bytes.0));
  few = omega (arith, ap length c.in_ok-extend_from_slice.ensures.items, length-append c.reads.script.items (take c.in_ok-count.count c.deref.result.now), length-take c.in_ok-count.count c.deref.result.now, c.if-count-most.false, c.len.ensures, c.reads.script.ok.0, c.reads.invariant.few);
  room = omega (arith, c.reads.piece.ok.0, c.reads.invariant.room, length-take c.reads.piece.len (c.read.new.buf ++ drop (length c.read.new.buf) c.reads.piece.items), length-append c.read.new.buf (drop (length c.read.new.buf) c.reads.piece.items), length-drop (length c.read.new.buf) c.reads.piece.items);
}

pub returns-then-count-eq0-clause-read : goal.returns-then-count-eq0-clause-read
returns-then-count-eq0-clause-read g c =
    reads-none _ _ _ _ _ _ c.if-count-eq0.true c.reads.invariant.read c.in_ok-count.ensures.bytes.0

pub returns-then-count-eq0-clause-end : goal.returns-then-count-eq0-clause-end
returns-then-count-eq0-clause-end g c = c.in_ok-count.ensures.bytes.1 c.if-count-eq0.true (search (rules, arith))

pub returns-then-count-eq0-clause-few : goal.returns-then-count-eq0-clause-few
returns-then-count-eq0-clause-few g c = omega (arith, c.reads.script.ok.0, c.reads.invariant.few)

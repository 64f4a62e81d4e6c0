use Rattle.std.proofs.Common.{rules, ◌≡◌, subst, List, ℕ}
use Rattle.bm_link.specs.Greeting.{AreAnswer, AreNoAnswer}
use Rattle.bm_link.specs.SocketReads.{ReadsBinary}
use Rattle.bm_link.proofs.SocketReads.{fails_before, fails_first, gives_first}
use Rattle.bm_link.proofs.greeting.read_answer.Goals as goal

-- a binary message was read
pub returns-in-Ok : goal.returns-in-Ok
returns-in-Ok g c =
    let same : c.in-Ok.bytes ≡ c.as_slice.result.now = search rules in
    let read = subst (λ (bs : List ℕ). ReadsBinary g.S.Read.remaining c.args.socket.now bs c.read_first.new.socket) same c.in-Ok.ensures.bytes in
    record {
      answer =
          gives_first g.S.Read.remaining g.S.Write.contents c.args.socket.now c.read_first.new.socket AreAnswer AreNoAnswer
          c.as_slice.result.now c.answer_of_bytes.result read c.answer_of_bytes.ensures.answer;
      fault =
          fails_first g.S.Read.remaining g.S.Write.contents c.args.socket.now c.read_first.new.socket AreAnswer AreNoAnswer
          c.as_slice.result.now c.answer_of_bytes.result read c.answer_of_bytes.ensures.fault;
    }

-- none was read
pub returns-in-Err-clause-fault : goal.returns-in-Err-clause-fault
returns-in-Err-clause-fault g c =
    fails_before g.S.Read.remaining g.S.Write.contents c.args.socket.now c.read_first.new.socket AreAnswer AreNoAnswer c.in-Err.fault c.in-Err.ensures.fault

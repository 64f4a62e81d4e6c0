use Rattle.std.proofs.Common.{rules, ◌≡◌, refl, subst, inl, List, ℕ, Ok}
use Rattle.bm_link.specs.declared.socket.SocketRead.{SocketRead}
use Rattle.bm_link.specs.SocketReads.{ReadsBinary, ReadsSocket}
use Rattle.bm_link.proofs.Works.{heard_of_bytes}
use Rattle.bm_link.proofs.received.hear_message.Goals as goal

-- a binary message was read
pub returns-in-Ok-Binary : goal.returns-in-Ok-Binary
returns-in-Ok-Binary g c =
    let same : c.in-Ok-Binary.bytes ≡ c.as_slice.result.now = search rules in
    let read = subst (λ (bs : List ℕ). ReadsBinary g.S.Read.remaining c.args.socket.now bs c.read_socket.new.socket) same
    (subst (λ (r : SocketRead). ReadsSocket g.S.Read.remaining g.S.Write.contents c.args.socket.now (Ok r) c.read_socket.new.socket) c.in-Ok-Binary.field-0-is c.in-Ok-Binary.ensures) in
    heard_of_bytes g.S.Read.remaining g.S.Write.contents c.args.socket.now c.read_socket.new.socket c.args.worker.now c.hear_bytes.new.worker
    c.as_slice.result.now c.hear_bytes.result read c.hear_bytes.ensures

-- the socket failed
pub returns-in-Err : goal.returns-in-Err
returns-in-Err g c = (inl (inl c.in-Err.ensures), refl)

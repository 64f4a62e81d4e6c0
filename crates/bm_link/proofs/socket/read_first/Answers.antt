use Rattle.std.proofs.Common.{subst, Ok}
use Rattle.bm_link.specs.declared.socket.SocketRead.{SocketRead}
use Rattle.bm_link.specs.SocketReads.{ReadsSocket}
use Rattle.bm_link.proofs.SocketReads.{end_fails, error_fails, nothing_fails, other_fails}
use Rattle.bm_link.proofs.socket.read_first.Goals as goal

-- a text, a ping or a pong was read
pub returns-in-Ok-Other-clause-fault : goal.returns-in-Ok-Other-clause-fault
returns-in-Ok-Other-clause-fault g c =
    other_fails g.S.Read.remaining g.S.Write.contents c.args.socket.now c.read_socket.new.socket
    (subst (λ (r : SocketRead). ReadsSocket g.S.Read.remaining g.S.Write.contents c.args.socket.now (Ok r) c.read_socket.new.socket) c.in-Ok-Other.field-0-is c.in-Ok-Other.ensures)

-- nothing has come yet
pub returns-in-Ok-Nothing-clause-fault : goal.returns-in-Ok-Nothing-clause-fault
returns-in-Ok-Nothing-clause-fault g c =
    nothing_fails g.S.Read.remaining g.S.Write.contents c.args.socket.now c.read_socket.new.socket
    (subst (λ (r : SocketRead). ReadsSocket g.S.Read.remaining g.S.Write.contents c.args.socket.now (Ok r) c.read_socket.new.socket) c.in-Ok-Nothing.field-0-is c.in-Ok-Nothing.ensures)

-- a close frame was read
pub returns-in-Ok-Closed-clause-fault : goal.returns-in-Ok-Closed-clause-fault
returns-in-Ok-Closed-clause-fault g c =
    end_fails g.S.Read.remaining g.S.Write.contents c.args.socket.now c.read_socket.new.socket
    (subst (λ (r : SocketRead). ReadsSocket g.S.Read.remaining g.S.Write.contents c.args.socket.now (Ok r) c.read_socket.new.socket) c.in-Ok-Closed.field-0-is c.in-Ok-Closed.ensures)

-- the socket failed
pub returns-in-Err-clause-fault : goal.returns-in-Err-clause-fault
returns-in-Err-clause-fault g c =
    error_fails g.S.Read.remaining g.S.Write.contents c.args.socket.now c.read_socket.new.socket c.in-Err.fault c.in-Err.ensures

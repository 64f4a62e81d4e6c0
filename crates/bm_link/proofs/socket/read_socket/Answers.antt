use Rattle.bm_link.proofs.SocketReads.{error_gives, read_gives}
use Rattle.bm_link.proofs.socket.read_socket.Goals as goal

pub returns-in-Ok : goal.returns-in-Ok
returns-in-Ok g c =
    read_gives g.S.Read.remaining g.S.Write.contents c.args.socket.now c.given_by.new.socket c.read.new.self c.in-Ok.message c.given_by.result
    c.in-Ok.ensures c.given_by.ensures

pub returns-in-Err : goal.returns-in-Err
returns-in-Err g c =
    error_gives g.S.Read.remaining g.S.Write.contents c.args.socket.now c.read.new.self c.in-Err.error c.given_by_error.result
    c.in-Err.ensures c.given_by_error.ensures

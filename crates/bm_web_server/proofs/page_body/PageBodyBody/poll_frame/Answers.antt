use Rattle.bm_web_server.proofs.page_body.PageBodyBody.poll_frame.Goals as goal

pub returns-in-Some-Ok-clause-value : goal.returns-in-Some-Ok-clause-value
returns-in-Some-Ok-clause-value g c =
    let told = rw c.in-Some-Ok.field-0-is at c.in-Some-Ok.ensures in
    rw c.in-Long.is (c.in-Some-Ok.bytes, g.S.Handler.text c.next.new.self.rest, c.data-in-Some-Ok.ensures, told.piece, tt)

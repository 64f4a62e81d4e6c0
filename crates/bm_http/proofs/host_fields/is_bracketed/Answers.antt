use Rattle.bm_http.proofs.host_fields.is_bracketed.Goals as goal

pub returns-in-Err : goal.returns-in-Err
returns-in-Err c =
    let none = rw c.from_close-left.ensures.value at c.in-Err.ensures in
    (λ yes. absurd (cc yes), λ b. absurd (none b.address b.spelled))

use Rattle.std.proofs.Common.{sym}
use Rattle.bm_operator.proofs.Placing.{by_texts}
use Rattle.bm_operator.proofs.program_words.placed.Goals as goal

pub returns : goal.returns
returns c =
    rw (c.from_string.ensures, sym c.as_str.ensures) (c.in_ok-text.ensures.ok.0, by_texts _ _ _ _ _ c.in_ok-text.ensures.ok.1)

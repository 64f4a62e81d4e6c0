use Rattle.bm_value.specs.Writing.{unsigned}
use Rattle.callers.proofs.value.positive_is_written_as_unsigned.Goals as goal

pub returns : goal.returns
unfolding unsigned
returns c = rw c.requires at c.encode.ensures.ok

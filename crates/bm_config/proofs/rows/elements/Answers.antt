use Rattle.bm_config.proofs.Lists.{elements_of, elements_none}
use Rattle.bm_config.proofs.rows.elements.Goals as goal

pub returns-in-Some : goal.returns-in-Some
returns-in-Some c =
    elements_of _ c.as_slice.result.now (rw c.as_slice.ensures.value (rw c.in-Some.is at c.as_array.ensures))

pub returns-in-None : goal.returns-in-None
returns-in-None c = elements_none _ (rw c.in-None.is at c.as_array.ensures)

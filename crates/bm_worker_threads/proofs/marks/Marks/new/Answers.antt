use Rattle.std.proofs.Common.{option_map, rules, string_bytes}
use Rattle.bm_worker_threads.specs.Marks.{IsPlace, IsProcess}
use Rattle.bm_worker_threads.proofs.MarkTexts.{if_some-map}
use Rattle.bm_worker_threads.proofs.marks.Marks.new.Goals as goal

-- they have what was found of the process, and the bytes that were drawn
pub returns : goal.returns
returns g c = (
  option_map string_bytes c.process_of-process.result,
  c.in_ok-random.ensures.0,
  if_some-map string_bytes IsPlace c.place_of-place.result c.place_of-place.ensures,
  if_some-map string_bytes IsProcess c.process_of-process.result c.process_of-process.ensures,
  c.in_ok-random.ensures.1,
  search rules,
)

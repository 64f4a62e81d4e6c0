-- Names of nothing.
use Rattle.std.specs.Prelude.{[]}
use Rattle.atomic_table.specs.Seated.{TableId}
use Rattle.bm_lane.specs.Fronts.{HistoryId}

abbrev pub no_queue : TableId
no_queue =
    record {
      words = 0;
      slots = 0;
      views_name = 0;
      atom = 0;
      block = 0;
      offset = 0;
      slot_names = [];
    }

abbrev pub no_copy : HistoryId
no_copy = record { number = 0; log_name = 0; cells_name = 0 }

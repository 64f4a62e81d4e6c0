-- When the web is served, and what ends that.
use Rattle.std.specs.Prelude.{◌≡◌, Bool, true, false, Option, Some, None, Result, Ok, Err, IsSomeAnd}
use Rattle.std.specs.declared.alloc.AllocError.{AllocError}
use Rattle.tokio.specs.Channels.{sender_closed_source, sent_source}
use Rattle.tokio.specs.declared.sync.oneshot.Receiver.{Receiver}
use Rattle.bm_master_threads.specs.declared.web.StopSignal.{StopSignal}

-- Once it was ended nobody serves any more. Before, what is kept is the other end of what whoever
-- serves goes by. Where memory is wanting nothing changes.
abbrev pub WaitsAfter : {A : Type 0} → Bool → Result (Option (Receiver A)) AllocError → StopSignal → StopSignal → Type 0
WaitsAfter true found old new = (found ≡ Ok None) × (new ≡ old)
WaitsAfter false (Ok (Some stopped)) old new =
    (new.is_over ≡ false) × IsSomeAnd new.going_on (λ kept. sender_closed_source kept ≡ sent_source stopped)
WaitsAfter false (Ok None) old new = ⊥
WaitsAfter false (Err e) old new = new ≡ old

abbrev pub Waits : {A : Type 0} → Result (Option (Receiver A)) AllocError → StopSignal → StopSignal → Type 0
Waits found old new = WaitsAfter old.is_over found old new

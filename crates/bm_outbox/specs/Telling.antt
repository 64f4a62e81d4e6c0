-- What waits to be told, in its order.
use Rattle.std.specs.Prelude.{◌≡◌, Bool, true, false, List, [], ◌∷◌, Vec, Result, Ok, Err}
use Rattle.std.specs.declared.alloc.AllocError.{AllocError}
use Rattle.std.specs.declared.alloc.Global.{Global}
use Rattle.bm_work.specs.Core.{Core, new_core, unanswered_requests}
use Rattle.bm_work.specs.declared.sent.Sent.{Sent}
use Rattle.bm_outbox.specs.declared.outbox_entry.OutboxEntry.{OutboxEntry}
use Rattle.bm_outbox.specs.declared.progress.Progress.{Progress}
use Rattle.bm_outbox.specs.declared.progress.Progress.TheVariants as progress
use Rattle.bm_outbox.specs.OutboxEntries.{Tells}

-- after telling the first item: it waits on, where it couldn't be told
abbrev pub waits_on : OutboxEntry → List OutboxEntry → Result Progress AllocError → List OutboxEntry
waits_on first rest (Ok progress.Full) = first ∷ rest
waits_on first rest (Ok _) = rest
waits_on first rest (Err e) = first ∷ rest

-- the item that waits first is told; or nothing waits
abbrev pub TellsNext : List OutboxEntry → Core → Result Progress AllocError → List OutboxEntry → Core → Type 0
TellsNext [] c r waiting c2 = (r ≡ Ok progress.Nothing) × (waiting ≡ []) × (c2 ≡ c)
TellsNext (first ∷ rest) c r waiting c2 = Tells first c r c2 × (waiting ≡ waits_on first rest r)

-- A resumed session sends its requests without an answer again, and all that waits waits on;
-- another one begins anew.
abbrev pub Begins : Bool → Core → List OutboxEntry → Result (Vec Sent Global) AllocError → Core → List OutboxEntry
    → Type 0
Begins true c waiting (Ok v) c2 waiting2 =
    (v.items ≡ unanswered_requests c) × (c2 ≡ c) × (waiting2 ≡ waiting)
Begins false c waiting (Ok v) c2 waiting2 = (v.items ≡ []) × (c2 ≡ new_core) × (waiting2 ≡ [])
Begins resumed c waiting (Err e) c2 waiting2 = (c2 ≡ c) × (waiting2 ≡ waiting)

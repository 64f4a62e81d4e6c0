-- What is told of a worker's commands, as their machine says.
use Rattle.std.specs.Prelude.{◌≡◌, ◌==◌, ℕ, Bool, List, [], ◌∷◌, ◌++◌, position, slice_get, slice_set, Option, Some, None}
use Rattle.std.specs.List.{remove}
use Rattle.std.specs.declared.alloc.Global.{Global}
use Rattle.std.specs.declared.collections.VecDeque.{VecDeque}
use Rattle.bm_outbox.specs.Opening.{waiting_texts}
use Rattle.bm_commands.specs.declared.values.Effect.{Effect}
use Rattle.bm_commands.specs.declared.values.Effect.TheVariants as effect
use Rattle.bm_outbox.specs.Stopping.{Ends}
use Rattle.bm_outbox.specs.declared.outbox_entry.OutboxEntry.{OutboxEntry}
use Rattle.bm_outbox.specs.declared.outbox_entry.OutboxEntry.TheVariants as entry
use Rattle.bm_outbox.specs.declared.said.Said.{Said}
use Rattle.bm_worker_threads.specs.declared.process_parts.ProcessParts.{ProcessParts}

-- what belongs to a process
abbrev pub is_of : ℕ → ProcessParts → Bool
is_of process part = part.process == process

-- the first of the texts that were kept
abbrev pub first_of : List Said → Option Said
first_of [] = None
first_of (said ∷ rest) = Some said

abbrev pub first_at : Option ProcessParts → Option Said
first_at (Some part) = first_of part.texts.items
first_at None = None

abbrev pub first_within : List ProcessParts → Option ℕ → Option Said
first_within parts (Some at) = first_at (slice_get parts at)
first_within parts None = None

-- the first text that was kept of a process
abbrev pub first_text : ℕ → List ProcessParts → Option Said
first_text process parts = first_within parts (position (is_of process) parts)

-- what belongs to a process, and all else
abbrev pub part_within : List ProcessParts → Option ℕ → Option ProcessParts
part_within parts (Some at) = slice_get parts at
part_within parts None = None

abbrev pub part_of : ℕ → List ProcessParts → Option ProcessParts
part_of process parts = part_within parts (position (is_of process) parts)

abbrev pub without_within : List ProcessParts → Option ℕ → List ProcessParts
without_within parts (Some at) = remove parts at
without_within parts None = parts

abbrev pub without : ℕ → List ProcessParts → List ProcessParts
without process parts = without_within parts (position (is_of process) parts)

-- its texts that were kept
abbrev pub texts_of : Option ProcessParts → List Said
texts_of (Some part) = part.texts.items
texts_of None = []

abbrev pub rest_of : List Said → List Said
rest_of [] = []
rest_of (said ∷ rest) = rest

-- the first text of the process at this place is taken, and nothing else has changed
abbrev pub TakesText : Option ℕ → List ProcessParts → List ProcessParts → Type 0
TakesText (Some at) old new =
    (part : ProcessParts) × (kept : VecDeque Said Global) × (slice_get old at ≡ Some part)
    × (kept.items ≡ rest_of part.texts.items) × (new ≡ slice_set old at (record part { texts = kept }))
TakesText None old new = new ≡ old

-- it waits behind all that waits, as one of this command
abbrev pub TellsText : ℕ → Option Said → List OutboxEntry → List OutboxEntry → Type 0
TellsText k (Some said) old new = new ≡ old ++ entry.Text k said ∷ []
TellsText k None old new = new ≡ old

-- What an effect of the machine puts into the outbox. Behind all texts of a command comes its end.
abbrev pub TellsBy : Effect → List ProcessParts → List OutboxEntry → List OutboxEntry → Type 0
TellsBy (effect.TellText process k) parts old new = TellsText k (first_text process parts) old new
TellsBy (effect.TellEnd process k end) parts old new =
    Ends k end (old ++ waiting_texts k (texts_of (part_of process parts))) new
TellsBy e parts old new = new ≡ old

-- what is kept behind that: the other texts of a command, and all of the others
abbrev pub KeepsBy : Effect → List ProcessParts → List ProcessParts → Type 0
KeepsBy (effect.TellText process k) old new = TakesText (position (is_of process) old) old new
KeepsBy (effect.TellEnd process k end) old new = new ≡ without process old
KeepsBy e old new = new ≡ old

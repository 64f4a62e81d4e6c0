-- A lane over interleavings: its trace, and how much of it viewers see. The trace is cut here; the
-- code never cuts it.
use Rattle.std.specs.Prelude.{◌≡◌, ℕ, ◌+◌, ◌<◌, nat_lt, nat_le, fold, Bool, true, ◌&&◌, if◌then◌else◌, List, [], ◌∷◌, ◌++◌, Option, Some, None, is_some}
use Rattle.bm_lines.specs.Names.{Name}
use Rattle.bm_lines.specs.Lines.{Line}
use Rattle.bm_session.specs.Trace.{refusal, reply, item, productive, visible, has_log}
use Rattle.bm_session.specs.declared.event.Event.{Event}
use Rattle.bm_session.specs.declared.refusal.Refusal.{Refusal}
use Rattle.bm_store.specs.Book.{chunk_of}
use Rattle.bm_store.specs.Laws.{look_at}
use Rattle.bm_world.specs.declared.answer.Answer.{Answer}
use Rattle.bm_world.specs.declared.answer.Answer.TheVariants.{Heard, Refused, Busy, Took, Empty, Chunk, NoLog}
use Rattle.bm_world.specs.declared.step.Step.{Step}
use Rattle.bm_world.specs.declared.step.Step.TheVariants.{Hear, Drain, Look}

-- how many items its queue takes, its events, and how many of their items viewers see
pub record World : Type 0 where
  pub capacity : ℕ
  pub trace : List Event
  pub shown : ℕ

-- the answer, and the lane after it
abbrev pub Stepped : Type 0
Stepped = Answer × World

-- the event would give an item, and the queue has no place for it
abbrev pub is_busy : World → Event → Bool
is_busy w e = is_some (item w.trace e) && nat_le (w.shown + w.capacity) (productive w.trace)

-- an event, and why it is not taken, if it is not
abbrev pub heard : World → Event → Option Refusal → Stepped
heard w e (Some r) = (Refused r, w)
heard w e None =
    if is_busy w e
    then (Busy, w)
    else (
      Heard (reply w.trace e),
      record { capacity = w.capacity; trace = w.trace ++ e ∷ []; shown = w.shown },
    )

abbrev pub drained : World → Stepped
drained w =
    if nat_lt w.shown (productive w.trace)
    then (Took, record { capacity = w.capacity; trace = w.trace; shown = w.shown + 1 })
    else (Empty, w)

-- the asked lines of what viewers see
abbrev pub chunk_answer : ℕ → Option (List Line) → Answer
chunk_answer off (Some lines) = Chunk (chunk_of off lines)
chunk_answer off None = NoLog

abbrev pub seen : World → ℕ → Name → ℕ → ℕ → Answer
seen w k name off lim = chunk_answer off (look_at (visible w.trace w.shown) k name off lim)

-- one step
abbrev pub stepped : World → Step → Stepped
stepped w (Hear e) = heard w e (refusal w.trace e)
stepped w Drain = drained w
stepped w (Look k name off lim) = (seen w k name off lim, w)

-- a step may take memory: an event that is accepted, a drain that finds an item, a look at a log
-- that is there
abbrev pub TakesMemory : World → Step → Type 0
TakesMemory w (Hear e) = refusal w.trace e ≡ None
TakesMemory w Drain = w.shown < productive w.trace
TakesMemory w (Look k name off lim) = has_log (visible w.trace w.shown) k name ≡ true

abbrev pub start : ℕ → World
start c = record { capacity = c; trace = []; shown = 0 }

-- the answers to all steps, in order
abbrev pub answers_of : World → List Step → List Answer
answers_of w [] = []
answers_of w (s ∷ ss) = (stepped w s).0 ∷ answers_of (stepped w s).1 ss

-- the lane after them
abbrev pub after_steps : World → List Step → World
after_steps w ss = fold (λ v s. (stepped v s).1) w ss

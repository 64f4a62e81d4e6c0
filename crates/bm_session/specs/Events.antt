-- What one event is: tests on events, and what an event carries.
use Rattle.std.specs.Prelude.{ℕ, ℤ, Bool, true, false, ◌==◌, List, [], Option, Some, None}
use Rattle.bm_session.specs.declared.event.Event.{Event}
use Rattle.bm_session.specs.declared.event.Event.TheVariants.{Up, In, Go, Stop, Cut, Down}
use Rattle.bm_session.specs.declared.event.Body.TheVariants.{Update, Complete, Answered}
use Rattle.bm_lines.specs.declared.line_batch.LogLines.{LogLines}

abbrev pub is_up_event : Event → Bool
is_up_event Up = true
is_up_event _ = false

abbrev pub is_down_event : Event → Bool
is_down_event Down = true
is_down_event _ = false

abbrev pub is_cut_event : Event → Bool
is_cut_event Cut = true
is_cut_event _ = false

-- what ends a connection: a cut or a giving up
abbrev pub is_interruption : Event → Bool
is_interruption Down = true
is_interruption Cut = true
is_interruption _ = false

-- what begins a connection or gives a session up
abbrev pub is_border : Event → Bool
is_border Down = true
is_border Up = true
is_border _ = false

abbrev pub is_go : Event → Bool
is_go Go = true
is_go _ = false

-- an order, which the master numbers: a start or a stop of a command
abbrev pub is_order : Event → Bool
is_order Go = true
is_order (Stop k) = true
is_order _ = false

abbrev pub is_stop_of : ℕ → Event → Bool
is_stop_of k (Stop j) = j == k
is_stop_of k _ = false

-- a request of the worker with the number n; the answer to an order is none
abbrev pub is_request : ℕ → Event → Bool
is_request n (In m (Answered f)) = false
is_request n (In m _) = m == n
is_request n _ = false

-- the number of a request
abbrev pub request_number : Event → Option ℕ
request_number (In m (Answered f)) = None
request_number (In m _) = Some m
request_number _ = None

-- the answer to order n
abbrev pub is_answer_to : ℕ → Event → Bool
is_answer_to n (In m (Answered fault)) = m == n
is_answer_to n _ = false

-- the refusal of order n
abbrev pub is_refused_order : ℕ → Event → Bool
is_refused_order n (In m (Answered true)) = m == n
is_refused_order n _ = false

abbrev pub is_complete_of : ℕ → Event → Bool
is_complete_of k (In m (Complete j f)) = j == k
is_complete_of k _ = false

abbrev pub is_update_of : ℕ → Event → Bool
is_update_of k (In m (Update j batch rc)) = j == k
is_update_of k _ = false

-- a complete with a fault, or the refusal of an order
abbrev pub is_fault : Event → Bool
is_fault (In m (Complete j true)) = true
is_fault (In m (Answered true)) = true
is_fault _ = false

-- the lines that an update carries, by the name of their log
abbrev pub batch_of : Event → List LogLines
batch_of (In m (Update j batch rc)) = batch
batch_of _ = []

-- the exit code that an update carries
abbrev pub rc_of : Event → Option ℤ
rc_of (In m (Update j batch rc)) = rc
rc_of _ = None

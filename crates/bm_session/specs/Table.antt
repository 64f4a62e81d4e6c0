-- What a session keeps of its trace.
use Rattle.std.specs.Prelude.{◌≡◌, ℕ, ◌-◌, ◌<◌, ◌≤◌, min, vec_len, vec_capacity, Bool, true, false, ◌&&◌, ◌||◌, ◌==◌, if◌then◌else◌, length, map, Option, Some, None, option_map, unwrap_or, find, slice_index_or}
use Rattle.std.specs.List.{list_any}
use Rattle.bm_session.specs.declared.event.Body.{Body}
use Rattle.bm_session.specs.declared.event.Body.TheVariants.{Update, Answered}
use Rattle.bm_session.specs.declared.event.Event.{Event}
use Rattle.bm_session.specs.declared.event.Event.TheVariants.{In}
use Rattle.bm_session.specs.declared.results.Results.{Results}
use Rattle.bm_session.specs.declared.results.Results.TheVariants.{Cancelled, Exception, Retry}
use Rattle.bm_session.specs.declared.table.Link.{Link}
use Rattle.bm_session.specs.declared.table.Link.TheVariants.{Up, Cut}
use Rattle.bm_session.specs.declared.open.Open.{Open}
use Rattle.bm_session.specs.declared.table.Table.{Table}
use Rattle.bm_session.specs.Events.{is_stop_of}
use Rattle.bm_session.specs.Session.{SessionState, IsSessionState}
use Rattle.bm_session.specs.Seen.{verdict_in}
use Rattle.bm_session.specs.Trace.{Trace, moments, is_up, is_cut, commands, orders, starts, is_new, is_open, open_commands, last_rc, result_of_rc, outcome, seen}

abbrev pub is_link_up : Link → Bool
is_link_up Up = true
is_link_up _ = false

abbrev pub is_link_cut : Link → Bool
is_link_cut Cut = true
is_link_cut _ = false

-- the number of the order that started command k
abbrev pub start_order : Trace → ℕ → ℕ
start_order t k = unwrap_or (option_map (λ m. orders m.past) (find (starts k) (moments t))) 0

-- the message is a request, and no response
abbrev pub asks : Body → Bool
asks (Answered fault) = false
asks _ = true

-- a fresh update of a command that is open, where it comes next
abbrev pub counts : Trace → Event → Bool
counts t (In n (Update k batch rc)) = is_new t n && is_open t k
counts t e = false

-- what is kept of an open command
abbrev pub open_entry : Trace → ℕ → Open
open_entry t k =
    record {
      command = k;
      order = start_order t k;
      stopped = list_any (is_stop_of k) t;
      told = result_of_rc (last_rc t k);
    }

-- the entry after a stop of command k
abbrev pub with_stop : ℕ → Open → Open
with_stop k o =
    record {
      command = o.command;
      order = o.order;
      stopped = (o.stopped || (k == o.command));
      told = o.told;
    }

-- the entry after an exit code of command k
abbrev pub with_told : ℕ → Results → Open → Open
with_told k r o =
    record {
      command = o.command;
      order = o.order;
      stopped = o.stopped;
      told = (if k == o.command then r else o.told);
    }

-- how the command ends, by a fault or by a complete
abbrev pub ends_as : Open → Bool → Results
ends_as o fault = if o.stopped then Cancelled else if fault then Exception else o.told

-- how a command ended, by its own end where it had one: without one it is open, or its session was
-- given up
abbrev pub outcome_from : Option Results → Bool → Option Results
outcome_from (Some r) is_open = Some r
outcome_from None true = None
outcome_from None false = Some Retry

-- the table is that of the trace
pub record IsTable (tb : Table) (t : Trace) : Type 0 where
  pub up : is_link_up tb.link ≡ is_up t
  pub cut : is_link_cut tb.link ≡ is_cut t
  pub numbered : tb.orders ≡ orders t
  pub listed : tb.opened.items ≡ map (open_entry t) (open_commands t)
  pub counted : length tb.outcomes.items ≡ commands t
  pub ended : (k : ℕ) → k < commands t
      → outcome_from (slice_index_or tb.outcomes.items k None) (is_open t k) ≡ outcome t k
  pub had : (n : ℕ) → verdict_in tb.seen.ranges n ≡ seen t n

-- the table is that of some trace whose lane is up
abbrev pub IsTableUp : Table → Type 0
IsTableUp tb = (t : Trace) × IsTable tb t × (is_up t ≡ true)

-- for how many events more the table has room
abbrev pub table_room : Table → ℕ
table_room tb = min (vec_capacity tb.outcomes - vec_len tb.outcomes) tb.seen.room

-- what a session keeps: its trace and room, and the table of its trace, with places for four open
-- commands
pub record IsSession (s : SessionState) (tb : Table) : Type 0 where
  pub state : IsSessionState s
  pub table : IsTable tb s.trace
  pub places : 4 ≤ vec_capacity tb.opened

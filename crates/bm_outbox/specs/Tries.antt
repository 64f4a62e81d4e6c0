-- How often and for how long a worker connects again.
use Rattle.std.specs.Prelude.{ℕ, ◌+◌, ◌-◌, ◌*◌, min, nat_lt, Bool, true, false, not, ◌&&◌, Option, Some, None, if◌then◌else◌}
use Rattle.bm_outbox.specs.declared.tries.ConnectFault.{ConnectFault}
use Rattle.bm_outbox.specs.declared.tries.ConnectFault.TheVariants as fault

-- the tries in a row, when the last of them began, and the pause before its next connect. Whether a
-- login was answered, and when that of the connection that stands was.
pub record TriesState : Type 0 where
  pub made : ℕ
  pub begun_ms : ℕ
  pub next_pause_ms : ℕ
  pub is_known : Bool
  pub answered_ms : Option ℕ

-- a connection lasted whose login was answered six seconds ago
abbrev pub has_lasted : ℕ → Option ℕ → Bool
has_lasted now None = false
has_lasted now (Some answered) = not (nat_lt (now - answered) 6000)

-- no connection stands; one that lasted ends the tries before it
abbrev pub after_connection : ℕ → TriesState → TriesState
after_connection now t =
    if has_lasted now t.answered_ms
    then record t { made = 0; answered_ms = None }
    else record t { answered_ms = None }

-- a refused login ends its try
abbrev pub may_go_on : ConnectFault → Bool
may_go_on fault.NoAnswer = true
may_go_on fault.Refused = false

-- a try goes on for six seconds, once a login was answered
abbrev pub goes_on : ConnectFault → ℕ → TriesState → Bool
goes_on why now t = t.is_known && may_go_on why && nat_lt 0 t.made && nat_lt (now - t.begun_ms) 6000

-- The pause before a try that begins now. It doubles where a login is refused, once one was
-- answered.
abbrev pub first_pause : ConnectFault → TriesState → ℕ
first_pause why t = if t.is_known && not (may_go_on why) && nat_lt 0 t.made then t.next_pause_ms else 10

-- the pause before the next connect; none where the tenth try has ended
abbrev pub pause_before : ConnectFault → ℕ → TriesState → Option ℕ
pause_before why now t =
    if goes_on why now t then Some t.next_pause_ms else
    if nat_lt t.made 10 then Some (first_pause why t) else
    None

-- the pauses double, up to a second; the next try begins where one has ended
abbrev pub after_fault : ConnectFault → ℕ → TriesState → TriesState
after_fault why now t =
    if goes_on why now t then record t { next_pause_ms = min 1000 (2 * t.next_pause_ms) } else
    if nat_lt t.made 10 then record t { made = t.made + 1; begun_ms = now; next_pause_ms = min 1000 (2 * first_pause why t) } else
    t

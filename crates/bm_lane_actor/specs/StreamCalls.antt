-- What a call of a worker's connection comes to, by what its flags and the system say.
use Rattle.std.specs.Prelude.{◌≡◌, ◌⊎◌, ℕ, Bool, true, false, not, ◌&&◌, ◌||◌, ◌==◌, Option, None, Result, Ok, Err}
use Rattle.std.specs.IoError.{error_kind}
use Rattle.std.specs.declared.io.Error.{Error}
use Rattle.std.specs.declared.io.ErrorKind.{ErrorKind}
use Rattle.std.specs.declared.io.ErrorKind.TheVariants.{ConnectionAborted, Interrupted, TimedOut, WouldBlock}
use Rattle.bm_lane_actor.specs.declared.read_watch.LastRead.{LastRead}
use Rattle.bm_lane_actor.specs.declared.read_watch.LastRead.TheVariants.{Gave, MetNothing, NotMade}
use Rattle.bm_lane_actor.specs.declared.stream_calls.StreamFlags.{StreamFlags}

-- nothing is read any more: the worker is given up, or before its login the master ends or its
-- place is another's
abbrev pub is_ended : StreamFlags → Bool
is_ended f = f.is_given_up || (not f.is_logged_in && (f.is_over || f.is_put_out))

-- no bytes were there, or no room for them
abbrev pub meets_nothing : ErrorKind → Bool
meets_nothing WouldBlock = true
meets_nothing TimedOut = true
meets_nothing kind = false

-- a signal came in between
abbrev pub is_interrupted : ErrorKind → Bool
is_interrupted Interrupted = true
is_interrupted kind = false

-- the call did nothing
abbrev pub is_unmade : ErrorKind → Bool
is_unmade kind = is_interrupted kind || meets_nothing kind

-- one that has logged in isn't waited for
abbrev pub reads_again : Bool → ErrorKind → Bool
reads_again is_logged_in kind = is_interrupted kind || (not is_logged_in && meets_nothing kind)

-- a read that came to this is not made again
abbrev pub is_made : Bool → Result ℕ Error → Bool
is_made is_logged_in (Ok count) = true
is_made is_logged_in (Err e) = not (reads_again is_logged_in (error_kind e))

-- the stream's end, or an error of the connection
abbrev pub ends_peek : Result ℕ Error → Bool
ends_peek (Ok count) = count == 0
ends_peek (Err e) = not (is_unmade (error_kind e))

-- What a read that failed so leaves, by what it came to. One that met nothing isn't a signal's
-- doing, and ends the turn. One that wasn't made says that nobody waits for it; else its time is
-- over, and the turn.
abbrev pub Refuses : LastRead → ErrorKind → Option ℕ → Type 0
Refuses Gave kind turn = ⊥
Refuses MetNothing kind turn = (is_interrupted kind ≡ false) × (turn ≡ None)
Refuses NotMade kind turn = (kind ≡ ConnectionAborted) ⊎ ((kind ≡ TimedOut) × (turn ≡ None))

-- bytes, or the stream's end, were given; or none
abbrev pub ReadsBy : Result ℕ Error → LastRead → Option ℕ → Type 0
ReadsBy (Ok count) last turn = last ≡ Gave
ReadsBy (Err e) last turn = Refuses last (error_kind e) turn

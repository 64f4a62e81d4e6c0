-- How many bytes an update carries.
use Rattle.std.specs.Prelude.{ℕ, Bool, true, false, ◌+◌, ◌-◌, ◌^◌, List, fold, min, length, bytes_eq, if◌then◌else◌}
use Rattle.bm_lines.specs.Lines.{content_of}
use Rattle.bm_lines.specs.Names.{Name, stdio}
use Rattle.bm_lines.specs.declared.line_batch.LogLines.{LogLines}
use Rattle.bm_session.specs.declared.event.Event.{Event}
use Rattle.bm_session.specs.declared.event.Event.TheVariants.{In}
use Rattle.bm_session.specs.declared.event.Body.TheVariants.{Update}

-- a sum of bytes, up to 2^64-1
abbrev pub bytes_sum : ℕ → ℕ → ℕ
bytes_sum n m = min (n + m) (2 ^ 64 - 1)

-- the name of a log counts its text and what such a log takes beside it; that of stdio nothing
abbrev pub name_bytes : Name → ℕ
name_bytes name = if bytes_eq name stdio then 0 else bytes_sum 512 (length name)

-- the bytes of a part's lines, and of its name
abbrev pub bytes_of : LogLines → ℕ
bytes_of part = bytes_sum (length (content_of part.block)) (name_bytes part.name)

-- the bytes of all parts
abbrev pub carried : List LogLines → ℕ
carried parts = fold (λ n part. bytes_sum n (bytes_of part)) 0 parts

-- the worker said lines of a command
abbrev pub is_update : Event → Bool
is_update (In number (Update command batch rc)) = true
is_update _ = false

use Rattle.std.proofs.Common.{◌≡◌, ◌≤◌, ◌+◌, ◌-◌, ◌∷◌, ◌++◌, length, map, take, ℕ}
use Rattle.std.specs.Prelude.{vec_len, vec_capacity}
use Rattle.bm_lines.proofs.content.append_begins.Given as goal

abbrev pub invariant-loop-begin : goal.invariant-loop-begin
invariant-loop-begin l = record {
  written : l.begins.items ≡ l.fn.begins.items ++ l.end ∷ map (λ (n : ℕ). l.end + n) (take l.begin-index l.more);
  room : vec_len l.begins + (length l.more - l.begin-index) ≤ vec_capacity l.begins;
}

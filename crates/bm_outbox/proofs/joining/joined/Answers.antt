use Rattle.std.proofs.Common.{◌≡◌, ◌≤◌, length, string_bytes, List, ℕ, sym, subst, arith}
use Rattle.std.specs.Str.Lossy.{utf8_lossy}
use Rattle.bm_outbox.proofs.Lengths.{lossy_short}
use Rattle.bm_outbox.proofs.joining.joined.Goals as goal

pub new-joiner-requires : goal.new-joiner-requires
new-joiner-requires c =
    let front = c.split_at.result.0.now in
    let is : string_bytes c.in_ok-from_utf8_lossy.field-0 ≡ utf8_lossy front = c.in_ok-from_utf8_lossy.ensures.lossy in
    let few : length front ≤ 16384 = omega (arith, c.split_at.ensures.front_len, c.requires.short) in
    subst (λ (t : List ℕ). length t ≤ 65536) (sym is) (lossy_short front few)

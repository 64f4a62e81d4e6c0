-- A text is cut between characters, of which each has four bytes at most.
use Rattle.std.proofs.Common.{◌≡◌, sym, ap, ℕ, ◌+◌, ◌<◌, ◌≤◌, List, [], ◌∷◌, length, drop, arith, length-drop, ⊎_elim, IsUtf8, IsCharBoundary, encode_utf8_all}
use Rattle.std.proofs.lemmas.Bool.{cases_lt}
use Rattle.std.proofs.lemmas.Str.{IsUtf8-drop, IsCharBoundary-past_char, len_utf8_bounds}

-- Behind the last boundary up to a place in a text there are less than four bytes up to it.
pub near-boundary : (bs : List ℕ) (at kept : ℕ) → IsUtf8 bs → at < length bs → kept ≤ at → IsCharBoundary bs kept → ((i : ℕ) → kept < i → i ≤ at → ¬ (IsCharBoundary bs i)) → at < kept + 4
near-boundary bs at kept text inside le boundary nearest = go rest.0 rest.1.1
  where
    rest : IsUtf8 (drop kept bs)
    rest = IsUtf8-drop bs kept text boundary

    step : (n : ℕ) → 1 ≤ n → n ≤ 4 → IsCharBoundary bs (kept + n) → at < kept + 4
    step n some few next = ⊎_elim (λ l. omega arith) (λ l. absurd (nearest (kept + n) (omega arith) l next)) (cases_lt at (kept + n))

    go : (cs : List ℕ) → encode_utf8_all cs ≡ drop kept bs → at < kept + 4
    go [] e = absurd (omega (arith, length-drop kept bs, ap length e))
    go (c ∷ cs) e = step _ (len_utf8_bounds c).0 (len_utf8_bounds c).1 (IsCharBoundary-past_char bs (encode_utf8_all cs) kept c (omega arith) rest (sym e))

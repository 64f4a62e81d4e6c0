-- What the clauses of the reader say of one value that is spelled.
use Rattle.std.proofs.Common.{◌≡◌, ◌∷◌, [], ℕ, pos, Ok, Err, Result, IfOk, IfErr, sym, ap, refl, lit≤}
use Rattle.bm_value.specs.declared.fault.DecodeError.{DecodeError}
use Rattle.bm_value.specs.declared.fault.DecodeError.TheVariants.{Truncated, Reserved, BadUtf8, TooDeep, Trailing, Mem}
use Rattle.bm_value.specs.declared.row.Plain.TheVariants as plain
use Rattle.bm_value.specs.declared.row.Wide.TheVariants as wide
use Rattle.bm_value.specs.declared.value.Value.{Value}
use Rattle.bm_value.specs.Decoding.{Reads, Decodes}
use Rattle.bm_value.specs.Reading.{Refuses}
use Rattle.bm_value.specs.Row.{row}
use Rattle.bm_value.specs.Tree.{Tree, int}
use Rattle.bm_value.specs.View.{tree}

-- a longer format of a small number
pub long_five : Reads (0xcc ∷ 5 ∷ []) (int (pos 5)) 2
unfolding row
long_five = record {
  within = lit≤ tt;
  spelled = (plain.Unsigned wide.One, refl, (5, record { len = refl; number = refl }, refl));
  nests = lit≤ tt;
}

-- what is read of so many bytes
abbrev answered : Tree → ℕ → Result (Tree × ℕ) DecodeError
answered t n = Ok (t, n)

-- what is read where the tree is spelled
pub read_as : {A : Type 0} (r : Result (Value A × ℕ) DecodeError) (t : Tree) (n : ℕ) → Decodes r (Ok (t, n)) → IfOk r (λ read. tree read.0 ≡ t)
read_as (Ok x) t n h =
    let e : answered t n ≡ answered (tree x.0) x.1 = h in
    let p : (t, n) ≡ (tree x.0, x.1) = cc in
    sym (ap (λ (y : Tree × ℕ). y.0) p)
read_as (Err e) t n h = tt

-- only want of memory refuses what is read
only_mem : (e : DecodeError) (x : Tree × ℕ) → Refuses e (Ok x) → e ≡ Mem
only_mem Truncated x h = cc
only_mem Reserved x h = cc
only_mem BadUtf8 x h = cc
only_mem TooDeep x h = cc
only_mem Trailing x h = cc
only_mem Mem x h = refl

-- so it is where the tree is spelled
pub refused_for_memory : {A : Type 0} (r : Result (Value A × ℕ) DecodeError) (t : Tree) (n : ℕ) → Decodes r (Ok (t, n)) → IfErr r (λ e. e ≡ Mem)
refused_for_memory (Ok x) t n h = tt
refused_for_memory (Err e) t n h = only_mem e (t, n) h

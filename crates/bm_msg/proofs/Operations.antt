-- The names of the operations.
use Rattle.std.proofs.Common.{◌≡◌, refl, ℕ, Bool, true, false, ◌||◌, List, Option, Some}
use Rattle.std.specs.Prelude.{codes, bytes_eq, if◌then◌else◌}
use Rattle.std.proofs.lemmas.Slice.Eq.{bytes_eq-Decides}
use Rattle.bm_value.specs.Tree.{Tree}
use Rattle.bm_msg.specs.Meaning.{Asked, keepalive, get_worker_info, shutdown, unknown}
use Rattle.bm_msg.specs.Messages.{is_op}
use Rattle.bm_msg.specs.Reading.{auth_at, update_at, complete_at, print_at, start_at, interrupt_at, asked_at}

pub same : (a b : List ℕ) → bytes_eq a b ≡ true → a ≡ b
same a b h = (bytes_eq-Decides a b).0 h

pub choice : {K : Type 0} (P : K → Type 0) (b : Bool) (k l : K) → (b ≡ true → P k) → (b ≡ false → P l) → P (if b then k else l)
choice P true k l f g = f refl
choice P false k l f g = g refl

none_of : (a b c d e f g h i j : Bool) → a ≡ false → b ≡ false → c ≡ false → d ≡ false → e ≡ false → f ≡ false → g ≡ false → h ≡ false → i ≡ false → j ≡ false
    → (a || (b || (c || (d || (e || (f || (g || (h || (i || (j || false)))))))))) ≡ false
none_of a b c d e f g h i j p1 p2 p3 p4 p5 p6 p7 p8 p9 p10 = rw (p1, p2, p3, p4, p5, p6, p7, p8, p9, p10) refl

-- an operation with none of the names
pub none_named : (op : List ℕ)
    → bytes_eq op (codes "auth") ≡ false
    → bytes_eq op (codes "update") ≡ false
    → bytes_eq op (codes "complete") ≡ false
    → bytes_eq op (codes "print") ≡ false
    → bytes_eq op (codes "keepalive") ≡ false
    → bytes_eq op (codes "get_worker_info") ≡ false
    → bytes_eq op (codes "shutdown") ≡ false
    → bytes_eq op (codes "start_command") ≡ false
    → bytes_eq op (codes "interrupt_command") ≡ false
    → bytes_eq op (codes "response") ≡ false
    → is_op op ≡ false
none_named op =
    none_of (bytes_eq op (codes "auth")) (bytes_eq op (codes "update")) (bytes_eq op (codes "complete")) (bytes_eq op (codes "print")) (bytes_eq op (codes "keepalive"))
    (bytes_eq op (codes "get_worker_info")) (bytes_eq op (codes "shutdown")) (bytes_eq op (codes "start_command")) (bytes_eq op (codes "interrupt_command")) (bytes_eq op (codes "response"))

or_parts : (a b : Bool) → (a || b) ≡ false → (a ≡ false) × (b ≡ false)
or_parts true b h = absurd cc
or_parts false b h = (refl, h)

-- an operation of no such name asks what the protocol doesn't have
pub unknown_asked : (op : List ℕ) (t : Tree) → is_op op ≡ false → (asked_at op t ≡ Some (unknown op)) × (bytes_eq op (codes "response") ≡ false)
unfolding asked_at
unknown_asked op t h =
    let Q : Option Asked → Type 0 = λ o. o ≡ Some (unknown op) in
    let r1 = or_parts (bytes_eq op (codes "auth")) _ h in
    let r2 = or_parts (bytes_eq op (codes "update")) _ r1.1 in
    let r3 = or_parts (bytes_eq op (codes "complete")) _ r2.1 in
    let r4 = or_parts (bytes_eq op (codes "print")) _ r3.1 in
    let r5 = or_parts (bytes_eq op (codes "keepalive")) _ r4.1 in
    let r6 = or_parts (bytes_eq op (codes "get_worker_info")) _ r5.1 in
    let r7 = or_parts (bytes_eq op (codes "shutdown")) _ r6.1 in
    let r8 = or_parts (bytes_eq op (codes "start_command")) _ r7.1 in
    let r9 = or_parts (bytes_eq op (codes "interrupt_command")) _ r8.1 in
    let r10 = or_parts (bytes_eq op (codes "response")) _ r9.1 in (
      choice Q (bytes_eq op (codes "auth")) (auth_at t) _ (λ e. let no = r1.0 in absurd cc) (λ _.
          choice Q (bytes_eq op (codes "update")) (update_at t) _ (λ e. let no = r2.0 in absurd cc) (λ _.
          choice Q (bytes_eq op (codes "complete")) (complete_at t) _ (λ e. let no = r3.0 in absurd cc) (λ _.
          choice Q (bytes_eq op (codes "print")) (print_at t) _ (λ e. let no = r4.0 in absurd cc) (λ _.
          choice Q (bytes_eq op (codes "keepalive")) (Some keepalive) _ (λ e. let no = r5.0 in absurd cc) (λ _.
          choice Q (bytes_eq op (codes "get_worker_info")) (Some get_worker_info) _ (λ e. let no = r6.0 in absurd cc) (λ _.
          choice Q (bytes_eq op (codes "shutdown")) (Some shutdown) _ (λ e. let no = r7.0 in absurd cc) (λ _.
          choice Q (bytes_eq op (codes "start_command")) (start_at t) _ (λ e. let no = r8.0 in absurd cc) (λ _.
          choice Q (bytes_eq op (codes "interrupt_command")) (interrupt_at t) (Some (unknown op)) (λ e. let no = r9.0 in absurd cc) (λ _. refl))))))))),
      r10.0,
    )

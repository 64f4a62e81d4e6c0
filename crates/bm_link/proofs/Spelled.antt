-- What is said of a tree is said of the bytes that spell it.
use Rattle.std.proofs.Common.{◌≡◌, ◌≤◌, ◌⊎◌, ap, subst, inl, inr, true, false, ℕ, List, Ok, Err, Result}
use Rattle.std.specs.Result.{IfOk, IfErr}
use Rattle.bm_value.specs.Spelling.{Spells}
use Rattle.bm_value.specs.Tree.{Tree, depth}
use Rattle.bm_msg.specs.Meaning.{Meaning, request, auth}
use Rattle.bm_msg.specs.Messages.{IsMessage}
use Rattle.bm_link.specs.declared.credentials.Credentials.{Credentials}
use Rattle.bm_link.specs.declared.fault.LinkFault.{LinkFault}
use Rattle.bm_link.specs.declared.fault.LinkFault.TheVariants.{BadMessage, Mem}
use Rattle.bm_link.specs.declared.attaching.Attached.{Attached}
use Rattle.bm_link.specs.Greeting.{IsAnswerOf, IsRefused, IsNoAnswer, IsAnswerIn, IsNoAnswerIn, AreAnswer, AreNoAnswer}
use Rattle.bm_link.specs.Logins.{IsLoginOf, is_login, GivesNoLogin, AreLogin}

ok-over : {T E : Type 0} (P Q : T → Type 0) → ((x : T) → P x → Q x) → (r : Result T E) → IfOk r P → IfOk r Q
ok-over P Q f (Ok x) h = f x h
ok-over P Q f (Err e) h = tt

err-over : {T E : Type 0} (P Q : E → Type 0) → ((e : E) → P e → Q e) → (r : Result T E) → IfErr r P → IfErr r Q
err-over P Q f (Ok x) h = tt
err-over P Q f (Err e) h = f e h

-- bytes by the tree that they spell, of which this holds
module _ {X : Type 0} (P : Tree → X → Type 0) where
  abbrev pub Told : List ℕ → X → Type 0
  Told bytes x = (t : Tree) × Spells bytes t × (depth t ≤ 32) × P t x

  pub told_of_tree : (bytes : List ℕ) (t : Tree) (r : Result X LinkFault) → Spells bytes t → depth t ≤ 32 → IfOk r (P t) → IfOk r (Told bytes)
  told_of_tree bytes t r s d h = ok-over (P t) (Told bytes) (λ x i. (t, s, d, i)) r h

  -- it holds of nothing for this tree, and so of nothing for the bytes
  pub untold_of_tree : (bytes : List ℕ) (v : Tree) (r : Result X LinkFault) → ((t : Tree) → Spells bytes t → depth t ≤ 32 → t ≡ v)
      → IfErr r (λ f. f ≡ BadMessage → (x : X) → ¬ P v x) → IfErr r (λ f. f ≡ BadMessage → (x : X) → ¬ Told bytes x)
  untold_of_tree bytes v r only h =
      err-over (λ f. f ≡ BadMessage → (x : X) → ¬ P v x) (λ f. f ≡ BadMessage → (x : X) → ¬ Told bytes x)
      (λ f g b x i. g b x (subst (λ (t : Tree). P t x) (only i.0 i.1 i.2) i.3)) r h

-- a message that is no login, and so a tree that is none
pub no_login_of_message : (t : Tree) (m : Meaning) → ((n : Meaning) → IsMessage t n → n ≡ m) → is_login m ≡ false → (l : Credentials) → ¬ IsLoginOf t l
no_login_of_message t m only other l is =
    let yes : true ≡ is_login m = ap is_login (only (request l.named.seq (auth l.username l.password l.named.session)) is.0) in
    cc

-- a tree that is no message is no login
pub no_login_of_tree : (t : Tree) → ((n : Meaning) → ¬ IsMessage t n) → (l : Credentials) → ¬ IsLoginOf t l
no_login_of_tree t none l is = none (request l.named.seq (auth l.username l.password l.named.session)) is.0

pub gives_no_login : (bytes : List ℕ) (r : Result Credentials LinkFault) → IfErr r (λ f. f ≡ BadMessage → (l : Credentials) → ¬ AreLogin bytes l)
    → IfErr r (λ f. (f ≡ BadMessage) ⊎ (f ≡ Mem)) → IfErr r (GivesNoLogin bytes)
gives_no_login bytes (Ok l) bad fault = tt
gives_no_login bytes (Err f) bad fault = elim fault [
  | inl b ↦ inl (b, bad b)
  | inr mem ↦ inr (inl mem)
]

-- a message answers as its tree does
module _ (t : Tree) (m : Meaning) (is : IsMessage t m) (only : (n : Meaning) → IsMessage t n → n ≡ m) where
  pub answer_of_message : (r : Result Attached LinkFault) → IfOk r (IsAnswerOf m) → IfOk r (IsAnswerIn t)
  answer_of_message r h = ok-over (IsAnswerOf m) (IsAnswerIn t) (λ a answers. (m, is, answers)) r h

  no-answer : (f : LinkFault) → IsNoAnswer m f → IsNoAnswerIn t f
  no-answer f (inl (bad, other)) = inr (inl (
    bad,
    (
      (λ a x. other.0 a (subst (λ (n : Meaning). IsAnswerOf n a) (only x.0 x.1) x.2)),
      (λ x. other.1 (subst (λ (n : Meaning). IsRefused n) (only x.0 x.1) x.2)),
    ),
  ))
  no-answer f (inr (bad, refused)) = inr (inr (bad, (m, is, refused)))

  pub no_answer_of_message : (r : Result Attached LinkFault) → IfErr r (IsNoAnswer m) → IfErr r (IsNoAnswerIn t)
  no_answer_of_message r h = err-over (IsNoAnswer m) (IsNoAnswerIn t) no-answer r h

-- a tree that is no message answers nothing
pub no_answer_of_tree : (t : Tree) (f : LinkFault) → (f ≡ BadMessage) ⊎ (f ≡ Mem) → (f ≡ BadMessage → (m : Meaning) → ¬ IsMessage t m) → IsNoAnswerIn t f
no_answer_of_tree t f fault none = elim fault [
  | inl bad ↦ inr (inl (bad, ((λ a x. none bad x.0 x.1), (λ x. none bad x.0 x.1))))
  | inr mem ↦ inl mem
]

-- bytes that spell no tree answer nothing
pub no_answer_of_bytes : (bytes : List ℕ) (f : LinkFault) → (f ≡ BadMessage) ⊎ (f ≡ Mem) → (f ≡ BadMessage → (t : Tree) → Spells bytes t → ¬ (depth t ≤ 32))
    → AreNoAnswer bytes f
no_answer_of_bytes bytes f fault none = elim fault [
  | inl bad ↦ inr (inl (bad, ((λ a x. none bad x.0 x.2 x.3), (λ x. none bad x.0 x.2 x.3))))
  | inr mem ↦ inl mem
]

-- bytes answer as the tree does that they spell
module _ (bytes : List ℕ) (v : Tree) (spells : Spells bytes v) (flat : depth v ≤ 32) (only : (t : Tree) → Spells bytes t → depth t ≤ 32 → t ≡ v) where
  is-message : (t : Tree) (m : Meaning) → Spells bytes t → depth t ≤ 32 → IsMessage t m → IsMessage v m
  is-message t m s d is = subst (λ (x : Tree). IsMessage x m) (only t s d) is

  pub answer_of_spelled : (r : Result Attached LinkFault) → IfOk r (IsAnswerIn v) → IfOk r (AreAnswer bytes)
  answer_of_spelled r h = ok-over (IsAnswerIn v) (AreAnswer bytes) (λ a x. (v, x.0, spells, flat, x.1, x.2)) r h

  no-answer-spelled : (f : LinkFault) → IsNoAnswerIn v f → AreNoAnswer bytes f
  no-answer-spelled f (inl mem) = inl mem
  no-answer-spelled f (inr (inl (bad, other))) = inr (inl (
    bad,
    (
      (λ a x. other.0 a (x.1, is-message x.0 x.1 x.2 x.3 x.4, x.5)),
      (λ x. other.1 (x.1, is-message x.0 x.1 x.2 x.3 x.4, x.5)),
    ),
  ))
  no-answer-spelled f (inr (inr (bad, (m, is, refused)))) = inr (inr (bad, (v, m, spells, flat, is, refused)))

  pub no_answer_of_spelled : (r : Result Attached LinkFault) → IfErr r (IsNoAnswerIn v) → IfErr r (AreNoAnswer bytes)
  no_answer_of_spelled r h = err-over (IsNoAnswerIn v) (AreNoAnswer bytes) no-answer-spelled r h

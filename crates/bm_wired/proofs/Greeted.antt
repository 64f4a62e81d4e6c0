-- A login and its answer are read as they were meant.
use Rattle.std.proofs.Common.{◌≡◌, refl, sym, ◌∙◌, ap, subst, true, false, ℕ, ◌<◌, ◌^◌, List, [], ◌∷◌, length, Some, None, Option, arith, lit<, codes}
use Rattle.std.specs.Str.{IsUtf8}
use Rattle.std.proofs.lemmas.List.Sums.{sum_by-cons}
use Rattle.bm_value.specs.Limits.{IsWellFormed}
use Rattle.bm_value.specs.Spelling.{Spells}
use Rattle.bm_value.specs.Tree.{Tree, str}
use Rattle.bm_value.specs.Writing.{written}
use Rattle.bm_value.proofs.ReadBack.{read_back}
use Rattle.bm_value.proofs.Spelled.{spelled}
use Rattle.bm_msg.specs.Laws.{IsSession}
use Rattle.bm_msg.specs.Limits.{IsShortOption}
use Rattle.bm_msg.specs.Meaning.{Meaning, auth, request, response}
use Rattle.bm_msg.specs.Messages.{IsMessage, next_session_of}
use Rattle.bm_msg.specs.Trees.{tree_of, answer, answer_bytes, login_tree}
use Rattle.bm_msg.proofs.Logins.{AreShortTexts, login_nests, login_short, logins_back}
use Rattle.bm_msg.proofs.Readings.{told_once}
use Rattle.bm_replay.proofs.Bytes.{word}
use Rattle.bm_replay.specs.Wire.{AreRead}
use Rattle.bm_link.specs.Attaching.{attached_tree, login_bytes}
use Rattle.bm_link.specs.Greeting.{auth_bytes, IsAnswerOf, IsRefused, AreAnswer, AreRefusal}
use Rattle.bm_link.specs.declared.attaching.Attached.{Attached}
use Rattle.bm_link.specs.declared.attaching.Attached.TheVariants.{Plain, New, Resumed}
use Rattle.bm_wired.specs.ReadBack.{IsTellable}
use Rattle.bm_wired.specs.ReadLogins.{IsNameable, LoginsAreRead, LoginAnswersAreRead, LoginRefusalsAreRead}
use Rattle.bm_wired.specs.Wired.{AreSendable}
use Rattle.bm_wired.proofs.Downward.{IsSound, read-as, are-read, answer-sound}

-- a login can be written

login-formed : (u p : List ℕ) (s m : Option (List ℕ)) → IsUtf8 u → IsUtf8 p → IsNameable s → IsNameable m → IsWellFormed (login_tree u p s m)
login-formed u p None None a b h i = (word (codes "seq_number") refl, lit< tt, (word (codes "op") refl, word (codes "auth") refl, (word (codes "username") refl, a, (word (codes "password") refl, b, tt))))
login-formed u p None (Some m) a b h i = (word (codes "seq_number") refl, lit< tt, (word (codes "op") refl, word (codes "auth") refl, (word (codes "username") refl, a, (word (codes "password") refl, b, (word (codes "next_session") refl, i.0, tt)))))
login-formed u p (Some s) None a b h i = (word (codes "seq_number") refl, lit< tt, (word (codes "op") refl, word (codes "auth") refl, (word (codes "username") refl, a, (word (codes "password") refl, b, (word (codes "session") refl, h.0, tt)))))
login-formed u p (Some s) (Some m) a b h i = (word (codes "seq_number") refl, lit< tt, (word (codes "op") refl, word (codes "auth") refl, (word (codes "username") refl, a, (word (codes "password") refl, b, (word (codes "session") refl, h.0, (word (codes "next_session") refl, i.0, tt))))))

session-short : (s : Option (List ℕ)) → IsNameable s → IsShortOption s
session-short None h = tt
session-short (Some s) h = omega (arith, h.2)

session-named : (s : Option (List ℕ)) → IsNameable s → IsSession s
session-named None h = tt
session-named (Some s) h = (h.1, h.2)

name-short : (u p : List ℕ) → AreSendable (u ∷ p ∷ []) → (length u < 2 ^ 32) × (length p < 2 ^ 32)
name-short u p h = (omega (arith, h.0.1, sum_by-cons length u (p ∷ []), sum_by-cons length p []), omega (arith, h.0.1, sum_by-cons length u (p ∷ []), sum_by-cons length p []))

-- what a login's bytes are read as

module _ (u p : List ℕ) (s m : Option (List ℕ)) (h : AreSendable (u ∷ p ∷ [])) (i : IsNameable s) (j : IsNameable m) where
  formed : IsWellFormed (login_tree u p s m)
  formed = login-formed u p s m h.1.0 h.1.1.0 i j

  texts : AreShortTexts u p s m
  texts = let both = name-short u p h in (both.0, both.1, session-short s i, session-short m j)

  says : (t : Tree) → Spells (written (login_tree u p s m)) t → IsMessage t (request 0 (auth u p s)) × (next_session_of t ≡ m)
  says t x = logins_back u p s m (session-named s i) (session-named m j) (read_back (login_tree u p s m) formed (login_short u p s m texts) (login_nests u p s m)) t x

  own : Spells (written (login_tree u p s m)) (login_tree u p s m)
  own = spelled (login_tree u p s m) formed (login_short u p s m texts)

  same-parts : (n : ℕ) (a b : List ℕ) (c : Option (List ℕ)) → request n (auth a b c) ≡ request 0 (auth u p s) → (n ≡ 0) × (a ≡ u) × (b ≡ p) × (c ≡ s)
  same-parts n a b c e = (cc, cc, cc, cc)

  alone : (t : Tree) (n : ℕ) (a b : List ℕ) (c : Option (List ℕ)) → Spells (written (login_tree u p s m)) t → IsMessage t (request n (auth a b c)) → (n ≡ 0) × (a ≡ u) × (b ≡ p) × (c ≡ s)
  alone t n a b c x is = same-parts n a b c (told_once t (request n (auth a b c)) (request 0 (auth u p s)) is (says t x).0)

pub logins_are_read : LoginsAreRead
unfolding auth_bytes
logins_are_read u p s m h i j = (
  (
    record { username = u; password = p; named = record { seq = 0; session = s; next = m; in_range = lit< tt } },
    (login_tree u p s m, own u p s m h i j, login_nests u p s m, says u p s m h i j (login_tree u p s m) (own u p s m h i j)),
  ),
  (λ l x.
      let parts = alone u p s m h i j x.0 l.named.seq l.username l.password l.named.session x.1 x.3.0 in
      (parts.0, parts.1, parts.2, parts.3, sym x.3.1 ∙ (says u p s m h i j x.0 x.1).1)),
)

-- the answer to a login

taken-sound : (a : Attached) → IsSound (response 0 (attached_tree a) false)
taken-sound Plain = record {
  formed = (word (codes "seq_number") refl, lit< tt, (word (codes "op") refl, word (codes "response") refl, (word (codes "result") refl, tt, tt)));
  parts = tt;
  plain = (lit< tt, tt);
  flat = omega arith;
}
taken-sound New = record {
  formed = (word (codes "seq_number") refl, lit< tt, (word (codes "op") refl, word (codes "response") refl, (word (codes "result") refl, word (codes "new") refl, tt)));
  parts = lit< tt;
  plain = (lit< tt, tt);
  flat = omega arith;
}
taken-sound Resumed = record {
  formed = (word (codes "seq_number") refl, lit< tt, (word (codes "op") refl, word (codes "response") refl, (word (codes "result") refl, word (codes "resumed") refl, tt)));
  parts = lit< tt;
  plain = (lit< tt, tt);
  flat = omega arith;
}

words-apart : str (codes "new") ≡ str (codes "resumed") → ⊥
words-apart e =
    let same : codes "new" ≡ codes "resumed" = cc in
    let sizes : ◌≡◌ {A = ℕ} 3 7 = ap length same in
    omega arith

-- no value tells two ways
told-apart : (b a : Attached) → attached_tree b ≡ attached_tree a → b ≡ a
told-apart Plain Plain e = refl
told-apart Plain New e = absurd cc
told-apart Plain Resumed e = absurd cc
told-apart New Plain e = absurd cc
told-apart New New e = refl
told-apart New Resumed e = absurd (words-apart e)
told-apart Resumed Plain e = absurd cc
told-apart Resumed New e = absurd (words-apart (sym e))
told-apart Resumed Resumed e = refl

taken-there : (a : Attached) → AreAnswer (login_bytes 0 a) a
unfolding login_bytes
taken-there a =
    let r : AreRead (written (tree_of (response 0 (attached_tree a) false))) (response 0 (attached_tree a) false) = are-read (response 0 (attached_tree a) false) (taken-sound a) in
    (r.tree, response 0 (attached_tree a) false, r.spelled, r.nests, r.told, (attached_tree a, refl, refl))

-- whatever message these bytes are, it is that response
taken-as : (a : Attached) (t : Tree) (m : Meaning) → Spells (login_bytes 0 a) t → IsMessage t m → m ≡ response 0 (attached_tree a) false
unfolding login_bytes
taken-as a t m s is = told_once t m (response 0 (attached_tree a) false) is (read-as (response 0 (attached_tree a) false) t (taken-sound a) s)

answered-so : (a b : Attached) (m : Meaning) → m ≡ response 0 (attached_tree a) false → IsAnswerOf m b → b ≡ a
answered-so a b m e is =
    let same : response 0 is.0 false ≡ response 0 (attached_tree a) false = sym is.1 ∙ e in
    let value : is.0 ≡ attached_tree a = cc in
    told-apart b a (sym is.2 ∙ value)

not-refused : (a : Attached) (m : Meaning) → m ≡ response 0 (attached_tree a) false → IsRefused m → ⊥
not-refused a m e h = let x : IsRefused (response 0 (attached_tree a) false) = subst IsRefused e h in let y : false ≡ true = x.1 in cc

pub login_answers_are_read : LoginAnswersAreRead
login_answers_are_read a = (
  taken-there a,
  (λ b x. answered-so a b x.1 (taken-as a x.0 x.1 x.2 x.4) x.5),
  (λ x. not-refused a x.1 (taken-as a x.0 x.1 x.2 x.4) x.5),
)

-- the refusal of a login

refused-there : (text : List ℕ) → IsTellable (Some text) → AreRefusal (answer_bytes 0 (Some text))
unfolding answer_bytes
refused-there text h =
    let r : AreRead (written (tree_of (answer 0 (Some text)))) (answer 0 (Some text)) = are-read (answer 0 (Some text)) (answer-sound 0 (Some text) (lit< tt) h) in
    (r.tree, answer 0 (Some text), r.spelled, r.nests, r.told, (refl, refl))

refused-as : (text : List ℕ) (t : Tree) (m : Meaning) → IsTellable (Some text) → Spells (answer_bytes 0 (Some text)) t → IsMessage t m → m ≡ response 0 (str text) true
unfolding answer_bytes
refused-as text t m h s is = told_once t m (answer 0 (Some text)) is (read-as (answer 0 (Some text)) t (answer-sound 0 (Some text) (lit< tt) h) s)

not-taken : (text : List ℕ) (a : Attached) (m : Meaning) → m ≡ response 0 (str text) true → IsAnswerOf m a → ⊥
not-taken text a m e is = let same : response 0 is.0 false ≡ response 0 (str text) true = sym is.1 ∙ e in cc

pub login_refusals_are_read : LoginRefusalsAreRead
login_refusals_are_read text h = (refused-there text h, λ a x. not-taken text a x.1 (refused-as text x.0 x.1 h x.2 x.4) x.5)

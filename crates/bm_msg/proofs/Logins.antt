-- A login with a next session can be written where its `auth` can, and is read back as both.
use Rattle.std.proofs.Common.{◌≡◌, refl, sym, ap, subst, take, ℕ, ◌<◌, ◌≤◌, ◌^◌, cond, List, [], ◌++◌, length, Option, Some, None, arith, lit<}
use Rattle.bm_value.specs.Tree.{Tree, depth}
use Rattle.bm_value.specs.Limits.{IsShort}
use Rattle.bm_value.specs.Decoding.{IsReadBack}
use Rattle.bm_value.specs.Spelling.{Spells}
use Rattle.bm_value.specs.Writing.{written}
use Rattle.bm_value.proofs.Unique.{spelled_once}
use Rattle.bm_msg.specs.Laws.{FirstLoginsStay, IsSession, LoginsAreRead}
use Rattle.bm_msg.specs.Limits.{IsShortOption}
use Rattle.bm_msg.specs.Meaning.{auth, request}
use Rattle.bm_msg.specs.Messages.{IsMessage, next_session_of}
use Rattle.bm_msg.specs.Trees.{login_tree}
use Rattle.bm_msg.proofs.ReadsBack.{session_name}
use Rattle.std.proofs.Math.Seq.{take-append_seam}

pub login_nests : (u p : List ℕ) (s m : Option (List ℕ)) → depth (login_tree u p s m) ≤ 32
login_nests u p None None = omega arith
login_nests u p None (Some m) = omega arith
login_nests u p (Some s) None = omega arith
login_nests u p (Some s) (Some m) = omega arith

-- each text is short
abbrev pub AreShortTexts : List ℕ → List ℕ → Option (List ℕ) → Option (List ℕ) → Type 0
AreShortTexts u p s m = (length u < 2 ^ 32) × (length p < 2 ^ 32) × IsShortOption s × IsShortOption m

pub login_short : (u p : List ℕ) (s m : Option (List ℕ)) → AreShortTexts u p s m → IsShort (login_tree u p s m)
login_short u p None None h = (lit< tt, (lit< tt, tt, (lit< tt, lit< tt, (lit< tt, h.0, (lit< tt, h.1, tt)))))
login_short u p None (Some m) h = (lit< tt, (lit< tt, tt, (lit< tt, lit< tt, (lit< tt, h.0, (lit< tt, h.1, (lit< tt, h.3, tt))))))
login_short u p (Some s) None h = (lit< tt, (lit< tt, tt, (lit< tt, lit< tt, (lit< tt, h.0, (lit< tt, h.1, (lit< tt, h.2, tt))))))
login_short u p (Some s) (Some m) h =
    (lit< tt, (lit< tt, tt, (lit< tt, lit< tt, (lit< tt, h.0, (lit< tt, h.1, (lit< tt, h.2, (lit< tt, h.3, tt)))))))

pub short_login : (u p : List ℕ) (s m : Option (List ℕ)) → IsShort (login_tree u p s m) → AreShortTexts u p s m
short_login u p None None h = (h.1.2.2.1, h.1.2.2.2.1, tt, tt)
short_login u p None (Some m) h = (h.1.2.2.1, h.1.2.2.2.1, tt, h.1.2.2.2.2.1)
short_login u p (Some s) None h = (h.1.2.2.1, h.1.2.2.2.1, h.1.2.2.2.2.1, tt)
short_login u p (Some s) (Some m) h = (h.1.2.2.1, h.1.2.2.2.1, h.1.2.2.2.2.1, h.1.2.2.2.2.2.1)

pub first_logins : FirstLoginsStay
first_logins u p None = refl
first_logins u p (Some s) = refl

-- what a login's tree says
abbrev Says : Tree → List ℕ → List ℕ → Option (List ℕ) → Option (List ℕ) → Type 0
Says t u p s m = IsMessage t (request 0 (auth u p s)) × (next_session_of t ≡ m)

login_back : (u p : List ℕ) (s m : Option (List ℕ)) → IsSession s → IsSession m → Says (login_tree u p s m) u p s m
login_back u p None None h i = (((refl, lit< tt), (refl, refl, refl, refl)), refl)
login_back u p None (Some m) h i =
    (((refl, lit< tt), (refl, refl, refl, refl)), ap (λ b. cond b (Some m) None) (session_name m i.0 i.1))
login_back u p (Some s) None h i =
    (((refl, lit< tt), (refl, refl, refl, ap (λ b. cond b (Some s) None) (session_name s h.0 h.1))), refl)
login_back u p (Some s) (Some m) h i = (
  ((refl, lit< tt), (refl, refl, refl, ap (λ b. cond b (Some s) None) (session_name s h.0 h.1))),
  ap (λ b. cond b (Some m) None) (session_name m i.0 i.1),
)

pub logins_back : LoginsAreRead
logins_back u p s m h i back t spelled =
    let w : List ℕ = written (login_tree u p s m) in
    let front : take (length w) (w ++ []) ≡ w = take-append_seam w [] in
    let own : Spells w (login_tree u p s m) = subst (λ bytes. Spells bytes (login_tree u p s m)) front (back []).spelled in
    subst (λ v. Says v u p s m) (spelled_once w (login_tree u p s m) t own spelled) (login_back u p s m h i)

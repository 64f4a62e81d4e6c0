-- What is under way one way: the frames of messages, and a part of one that is never read.
use Rattle.std.proofs.Common.{◌≡◌, refl, sym, ◌∙◌, ap, subst, ℕ, suc, ◌+◌, ◌-◌, ◌≤◌, ◌<◌, Bool, true, false, List, [], ◌∷◌, ◌++◌, length, take, drop, arith, append_assoc, append-nil, length-drop, take-append-drop}
use lib.Seq.{take-append-le, take-append-add}
use Rattle.std.specs.Prelude.{nat_lt}
use Rattle.std.proofs.lemmas.Bool.Decides.{nat_tests}
use Rattle.websocket.specs.declared.protocol.config.Role.{Role}
use Rattle.bm_wired.specs.Bytes.{AreFrames, Writes}
use Rattle.bm_wired.specs.Service.{IsFrameOf}
use Rattle.bm_wired.proofs.Frames.{NoFrame, front, none-in-none, none-before, none-in-part}

pub record Way (role : Role) (whole : Bool) (ms : List (List ℕ)) (bytes : List ℕ) : Type 0 where
  pub frames : List ℕ
  pub tail : List ℕ
  pub are : AreFrames role ms frames
  pub is : bytes ≡ frames ++ tail
  pub all : whole ≡ true → tail ≡ []
  pub unread : NoFrame role tail

pub empty-way : (role : Role) (whole : Bool) → Way role whole [] []
empty-way role whole = record { frames = []; tail = []; are = refl; is = refl; all = λ e. refl; unread = none-in-none role }

-- no more is written
pub way-cut : (role : Role) (whole : Bool) (ms : List (List ℕ)) (bytes : List ℕ) → Way role whole ms bytes → Way role false ms bytes
way-cut role whole ms bytes w = record { frames = w.frames; tail = w.tail; are = w.are; is = w.is; all = λ e. absurd cc; unread = w.unread }

frames-append : (role : Role) (ms ns : List (List ℕ)) (a b : List ℕ) → AreFrames role ms a → AreFrames role ns b → AreFrames role (ms ++ ns) (a ++ b)
frames-append role [] ns a b h g = subst (λ q. AreFrames role ns (q ++ b)) (sym h) g
frames-append role (m ∷ ms) ns a b h g = (h.0, h.1 ++ b, h.2, ap (λ q. q ++ b) h.3 ∙ append_assoc h.0 h.1 b, frames-append role ms ns h.1 b h.4 g)

-- nothing is written
pub writes-none : (role : Role) (ms : List (List ℕ)) (old new : List ℕ) → Writes role ms old new → ms ≡ [] → new ≡ old
writes-none role ms old new h e =
    let none : h.0 ≡ [] = subst (λ q. AreFrames role q h.0) e h.1 in
    h.2 ∙ ap (λ q. old ++ q) none ∙ append-nil old

pub way-writes : (role : Role) (whole : Bool) (us ms : List (List ℕ)) (old new : List ℕ) → Way role whole us old → Writes role ms old new → (whole ≡ false → ms ≡ []) → Way role whole (us ++ ms) new
way-writes role true us ms old new w h none = record {
  frames = w.frames ++ h.0;
  tail = [];
  are = frames-append role us ms w.frames h.0 w.are h.1;
  is = h.2 ∙ ap (λ q. q ++ h.0) (w.is ∙ ap (λ q. w.frames ++ q) (w.all refl) ∙ append-nil w.frames) ∙ sym (append-nil (w.frames ++ h.0));
  all = λ e. refl;
  unread = none-in-none role;
}
way-writes role false us ms old new w h none =
    subst (λ q. Way role false q new) (sym (ap (λ q. us ++ q) (none refl) ∙ append-nil us)) (subst (Way role false us) (sym (writes-none role ms old new h (none refl))) w)

-- the frame at the front is that of the first message
pub record IsNext (role : Role) (whole : Bool) (us : List (List ℕ)) (m rest : List ℕ) : Type 0 where
  pub others : List (List ℕ)
  pub are : us ≡ m ∷ others
  pub behind : Way role whole others rest

pub way-reads : (role : Role) (whole : Bool) (us : List (List ℕ)) (bytes m f rest : List ℕ) → Way role whole us bytes → IsFrameOf role m f → bytes ≡ f ++ rest → IsNext role whole us m rest
way-reads role whole [] bytes m f rest w h e =
    let none : w.frames ≡ [] = w.are in
    absurd (w.unread m f rest h (sym (w.is ∙ ap (λ q. q ++ w.tail) none) ∙ e))
way-reads role whole (u ∷ us) bytes m f rest w h e =
    let r = w.are in
    let same = front role m u f r.0 rest (r.1 ++ w.tail) h r.2 (sym e ∙ w.is ∙ ap (λ q. q ++ w.tail) r.3 ∙ append_assoc r.0 r.1 w.tail) in
    record {
      others = us;
      are = ap (λ q. q ∷ us) (sym same.0);
      behind = record { frames = r.1; tail = w.tail; are = r.4; is = same.1; all = w.all; unread = w.unread };
    }

-- a cut keeps some whole messages, and a part of the next one

abbrev Keeps : Role → List (List ℕ) → List ℕ → ℕ → Type 0
Keeps role us bytes i = (n : ℕ) × Way role false (take n us) (take i bytes)

part-alone : (role : Role) (us : List (List ℕ)) (bytes part : List ℕ) (i : ℕ) → take i bytes ≡ part → NoFrame role part → Keeps role us bytes i
part-alone role us bytes part i e free = (0, record { frames = []; tail = part; are = refl; is = e; all = λ q. absurd cc; unread = free })

keeps-first : (role : Role) (u : List ℕ) (us : List (List ℕ)) (f rest : List ℕ) (j : ℕ) → IsFrameOf role u f → Keeps role us rest j → Keeps role (u ∷ us) (f ++ rest) (length f + j)
keeps-first role u us f rest j h k = let w = k.1 in (
  suc k.0,
  record {
    frames = f ++ w.frames;
    tail = w.tail;
    are = (f, w.frames, h, refl, w.are);
    is = take-append-add f rest j ∙ ap (λ q. f ++ q) w.is ∙ sym (append_assoc f w.frames w.tail);
    all = w.all;
    unread = w.unread;
  },
)

cut-frame : (role : Role) (u : List ℕ) (us : List (List ℕ)) (f rest : List ℕ) (i : ℕ) → IsFrameOf role u f → ((j : ℕ) → Keeps role us rest j) → Keeps role (u ∷ us) (f ++ rest) i
cut-frame role u us f rest i h later = go (nat_lt i (length f)) refl
  where
    go : (b : Bool) → nat_lt i (length f) ≡ b → Keeps role (u ∷ us) (f ++ rest) i
    go true e =
        let less : i < length f = grind (arith, nat_tests) in
        let some : 0 < length (drop i f) = subst (λ n. 0 < n) (sym (length-drop i f)) (omega arith) in
        part-alone role (u ∷ us) (f ++ rest) (take i f) i (take-append-le i f rest (omega arith)) (none-in-part role u f (take i f) (drop i f) h (sym (take-append-drop i f)) some)
    go false e =
        let most : length f ≤ i = grind (arith, nat_tests) in
        let sum : length f + (i - length f) ≡ i = omega arith in
        subst (Keeps role (u ∷ us) (f ++ rest)) sum (keeps-first role u us f rest (i - length f) h (later (i - length f)))

cut-frames : (role : Role) (us : List (List ℕ)) (frames tail : List ℕ) (i : ℕ) → AreFrames role us frames → NoFrame role tail → Keeps role us (frames ++ tail) i
cut-frames role [] frames tail i h free =
    part-alone role [] (frames ++ tail) (take i tail) i (ap (λ q. take i (q ++ tail)) h) (none-before role tail (take i tail) (drop i tail) free (sym (take-append-drop i tail)))
cut-frames role (u ∷ us) frames tail i h free =
    subst (λ q. Keeps role (u ∷ us) q i) (sym (ap (λ q. q ++ tail) h.3 ∙ append_assoc h.0 h.1 tail))
    (cut-frame role u us h.0 (h.1 ++ tail) i h.2 (λ j. cut-frames role us h.1 tail j h.4 free))

pub way-take : (role : Role) (whole : Bool) (us : List (List ℕ)) (bytes : List ℕ) (i : ℕ) → Way role whole us bytes → (n : ℕ) × Way role false (take n us) (take i bytes)
way-take role whole us bytes i w = subst (λ q. Keeps role us q i) (sym w.is) (cut-frames role us w.frames w.tail i w.are w.unread)

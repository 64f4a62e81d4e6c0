-- Frames on a stream: the message in one, what is behind it, and the parts of one.
use Rattle.std.proofs.Common.{◌≡◌, ◌≢◌, refl, sym, ◌∙◌, ap, subst, ℕ, ◌+◌, ◌≤◌, ◌<◌, false, List, [], ◌∷◌, ◌++◌, length, drop, Some, None, Option, Ok, Err, Result, arith, append_assoc, append-nil, length-append}
use lib.Seq.{drop-append_seam}
use Rattle.std.proofs.lemmas.List.Elements.{All-from_recursion}
use Rattle.websocket.specs.Connection.{Connection, Effect, read_step, whole_header}
use Rattle.websocket.specs.Content.{Content, binary}
use Rattle.websocket.specs.Frame.{encode_frame}
use Rattle.websocket.specs.declared.error.Error.{Error}
use Rattle.websocket.specs.declared.protocol.config.Role.{Role}
use Rattle.websocket.specs.declared.protocol.config.Role.TheVariants.{Server, Client}
use Rattle.websocket.specs.declared.protocol.frame.codec.FrameStatus.{FrameStatus}
use Rattle.websocket.specs.declared.protocol.frame.codec.FrameStatus.TheVariants.{Partial, Complete}
use Rattle.websocket.specs.declared.protocol.frame.coding.Data.TheVariants.{Binary}
use Rattle.websocket.specs.declared.protocol.frame.coding.OpCode.TheVariants.{Data}
use Rattle.websocket.specs.declared.protocol.state.WebSocketState.TheVariants.{Active}
use Rattle.websocket.proofs.RoundTripLemmas.{read_step_written}
use Rattle.websocket.proofs.StreamLemmas.{read_step-append, TookFrame_from_read}
use Rattle.bm_wired.specs.Frames.{Awaits, MessagesHaveFrames, FramesAreRead, PartsAreNotRead, FramesAreApart}
use Rattle.bm_wired.specs.Service.{IsFrameOf}

-- ---- a frame is read

pub frames_are_read : FramesAreRead
frames_are_read role m frame rest conn h a =
    subst (λ f. (effect : Effect) × (read_step conn (f ++ rest) ≡ Ok (Complete (length f, effect))) × (effect.message ≡ Some (binary m))) (sym h.1.2)
    (read_step_written conn (binary m) h.1.0 rest a.active a.between (h.1.1.0 ∙ sym a.other) h.1.1.1 tt tt a.fits_message a.fits_frame h.0)

abbrev Outcome : Type 0
Outcome = Result (FrameStatus (ℕ × Effect)) Error

abbrev took : ℕ → Effect → Outcome
took n effect = Ok (Complete (n, effect))

-- a reader without limits

abbrev other_role : Role → Role
other_role Server = Client
other_role Client = Server

abbrev reader : Role → Connection
reader role =
    record { role = other_role role; state = Active; config = record { max_message_size = None; max_frame_size = None; accept_unmasked_frames = false }; fragments = None }

awaits : (role : Role) (m : List ℕ) → Awaits role m (reader role)
awaits Server m = record { active = refl; between = refl; other = refl; fits_message = tt; fits_frame = tt }
awaits Client m = record { active = refl; between = refl; other = refl; fits_message = tt; fits_frame = tt }

-- ---- frames begin no other way

pub front : (role : Role) (m m2 f f2 rest rest2 : List ℕ) → IsFrameOf role m f → IsFrameOf role m2 f2 → f ++ rest ≡ f2 ++ rest2 → (m ≡ m2) × (rest ≡ rest2)
front role m m2 f f2 rest rest2 h g e = (
  content,
  sym (drop-append_seam f rest) ∙ ap (λ n. drop n (f ++ rest)) long ∙ ap (drop (length f2)) e ∙ drop-append_seam f2 rest2,
)
  where
    one : (effect : Effect) × (read_step (reader role) (f ++ rest) ≡ Ok (Complete (length f, effect))) × (effect.message ≡ Some (binary m))
    one = frames_are_read role m f rest (reader role) h (awaits role m)

    two : (effect : Effect) × (read_step (reader role) (f2 ++ rest2) ≡ Ok (Complete (length f2, effect))) × (effect.message ≡ Some (binary m2))
    two = frames_are_read role m2 f2 rest2 (reader role) g (awaits role m2)

    both : took (length f) one.0 ≡ took (length f2) two.0
    both = sym one.1 ∙ ap (read_step (reader role)) e ∙ two.1

    pair : ◌≡◌ {A = ℕ × Effect} (length f, one.0) (length f2, two.0)
    pair = cc both

    long : length f ≡ length f2
    long = ap (λ (q : ℕ × Effect). q.0) pair

    effects : one.0 ≡ two.0
    effects = ap (λ (q : ℕ × Effect). q.1) pair

    contents : ◌≡◌ {A = Option Content} (Some (binary m)) (Some (binary m2))
    contents = sym one.2 ∙ ap (λ (q : Effect). q.message) effects ∙ two.2

    content : m ≡ m2
    content = let inside : binary m ≡ binary m2 = cc contents in cc inside

pub frames_are_apart : FramesAreApart
frames_are_apart role m m2 frame frame2 rest rest2 h g e = front role m m2 frame frame2 rest rest2 h g e

pub not-empty : (role : Role) (m f : List ℕ) → IsFrameOf role m f → 0 < length f
not-empty role m f h = let one = frames_are_read role m f [] (reader role) h (awaits role m) in (TookFrame_from_read (reader role) (f ++ []) (length f, one.0) one.1).not_empty

-- no frame begins these bytes
abbrev pub NoFrame : Role → List ℕ → Type 0
NoFrame role bytes = (m f rest : List ℕ) → IsFrameOf role m f → bytes ≡ f ++ rest → ⊥

pub none-in-none : (role : Role) → NoFrame role []
none-in-none role m f rest h e =
    let some : 0 < length f = not-empty role m f h in
    let none : 0 ≡ length f + length rest = ap length e ∙ length-append f rest in
    absurd (omega arith)

-- nor a beginning of such bytes
pub none-before : (role : Role) (bytes part more : List ℕ) → NoFrame role bytes → bytes ≡ part ++ more → NoFrame role part
none-before role bytes part more free e m f rest h g = free m f (rest ++ more) h (e ∙ ap (λ q. q ++ more) g ∙ append_assoc f rest more)

-- nor a beginning of a frame, less than all of it
pub none-in-part : (role : Role) (m f part more : List ℕ) → IsFrameOf role m f → f ≡ part ++ more → 0 < length more → NoFrame role part
none-in-part role m f part more h e some m2 f2 rest g at =
    let ends : [] ≡ rest ++ more = (front role m m2 f f2 [] (rest ++ more) h g (append-nil f ∙ e ∙ ap (λ q. q ++ more) at ∙ append_assoc f2 rest more)).1 in
    let none : 0 ≡ length rest + length more = ap length ends ∙ length-append rest more in
    absurd (omega arith)

-- ---- a part of a frame isn't read

pub parts_are_not_read : PartsAreNotRead
parts_are_not_read role m part more conn h some a = go (read_step conn part) refl
  where
    all : (effect : Effect) × (read_step conn ((part ++ more) ++ []) ≡ Ok (Complete (length (part ++ more), effect))) × (effect.message ≡ Some (binary m))
    all = frames_are_read role m (part ++ more) [] conn h a

    -- what a part gives, all of it gives
    same : (r : Outcome) → read_step conn part ≡ r → ((n : ℕ) → r ≡ Ok (Partial n) → ⊥) → took (length (part ++ more)) all.0 ≡ r
    same r e done = sym all.1 ∙ ap (read_step conn) (append-nil (part ++ more)) ∙ read_step-append conn part more (λ k. done k.0 (sym e ∙ k.1)) ∙ e

    longer : (ms : List ℕ) → ms ≢ [] → 0 < length ms
    longer [] some_more = absurd (some_more refl)
    longer (b ∷ bs) some_more = omega arith

    go : (r : Outcome) → read_step conn part ≡ r → (n : ℕ) × (read_step conn part ≡ Ok (Partial n))
    go (Ok (Partial n)) e = (n, e)
    go (Err x) e = let z : took (length (part ++ more)) all.0 ≡ Err x = same (Err x) e (λ n q. absurd (cc q)) in absurd (cc z)
    go (Ok (Complete p)) e =
        let z : took (length (part ++ more)) all.0 ≡ Ok (Complete p) = same (Ok (Complete p)) e (λ n q. absurd (cc q)) in
        let pair : p ≡ (length (part ++ more), all.0) = cc z in
        let within : p.0 ≤ length part = (TookFrame_from_read conn part p e).inside in
        let long : p.0 ≡ length (part ++ more) = ap (λ (q : ℕ × Effect). q.0) pair in
        let sum : length (part ++ more) ≡ length part + length more = length-append part more in
        let more_than_none : 0 < length more = longer more some in
        absurd (omega arith)

-- ---- each message has one

zero_is_byte : 0 < 256
zero_is_byte = omega arith

pub messages_have_frames : MessagesHaveFrames
messages_have_frames Server m small = (encode_frame (whole_header (Data Binary) None) m, (small, (None, (refl, tt), refl)))
messages_have_frames Client m small = (
  encode_frame (whole_header (Data Binary) (Some (0 ∷ 0 ∷ 0 ∷ 0 ∷ []))) m,
  (small, (Some (0 ∷ 0 ∷ 0 ∷ 0 ∷ []), (refl, (refl, All-from_recursion (λ b. b < 256) (0 ∷ 0 ∷ 0 ∷ 0 ∷ []) (zero_is_byte, (zero_is_byte, (zero_is_byte, (zero_is_byte, tt)))))), refl)),
)

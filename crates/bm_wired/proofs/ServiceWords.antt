-- What the law from socket to socket and that over bytes say alike.
use Rattle.std.proofs.Common.{◌≡◌, refl, sym, ◌∙◌, ap, subst, ℕ, Bool, true, false, List, [], ◌∷◌, ◌++◌, length, drop, append-nil}
use Rattle.std.specs.Prelude.{if◌then◌else◌, Option, Some, None}
use Rattle.std.specs.Option.{option_to_list}
use mathlib.Core.List.{Forall₂}
use mathlib.Core.List.Forall₂.{nil, cons}
use Rattle.websocket.specs.declared.protocol.config.Role.{Role}
use Rattle.websocket.specs.declared.protocol.config.Role.TheVariants.{Server, Client}
use Rattle.bm_link.specs.Carries.{begun, new_carried}
use Rattle.bm_link.specs.Received.{hearing_of}
use Rattle.bm_msg.specs.Meaning.{Meaning, request, response}
use Rattle.bm_msg.specs.declared.incoming.Incoming.{Incoming}
use Rattle.bm_msg.specs.declared.incoming.Incoming.TheVariants.{Message, BadArgs}
use Rattle.bm_msg.specs.Meaning.{meaning}
use Rattle.bm_outbox.specs.declared.outbox_entry.OutboxEntry.{OutboxEntry}
use Rattle.bm_session.specs.Trace.{joined}
use Rattle.bm_work.specs.Core.{Core, heard, heard_request, heard_bad}
use Rattle.std.specs.FinMap.{get}
use Rattle.bm_work.specs.declared.sent.Sent.{Sent}
use Rattle.bm_work.specs.declared.worker_answer.WorkerAnswer.{WorkerAnswer}
use Rattle.bm_wired.specs.Service.{Service, Link, Apart, Greeted, Stands, opening, Writes, IsFrameOf}
use Rattle.bm_wired.specs.Bytes.{OverBytes, GoesOver, AreFrames, bytes_apart}
use Rattle.bm_wired.specs.Bytes as raw
use Rattle.bm_wired.specs.Cuts.{Joined, passed}
use Rattle.bm_wired.specs.Cuts as cut
use Rattle.bm_wired.specs.Wired.{reply_in}
use Rattle.bm_wired.proofs.Joint.{drop-whole}

-- ---- words

abbrev pub old_link : Link → cut.Link
old_link Apart = cut.Apart
old_link (Greeted resumed) = cut.Greeted resumed
old_link (Stands backlog) = cut.Stands

abbrev pub backlog_of : Link → List Sent
backlog_of Apart = []
backlog_of (Greeted resumed) = []
backlog_of (Stands backlog) = backlog

pub same-reply : (bytes : Option (List ℕ)) → option_to_list bytes ≡ reply_in bytes
same-reply None = refl
same-reply (Some bytes) = refl

pub new-begun : (resumable : Bool) → new_carried resumable ≡ begun (new_carried resumable) None
new-begun true = refl
new-begun false = refl

-- hearing reports nothing
pub hears-only : (c : Core) (a : Incoming) → (hearing_of c a).core.reports ≡ c.reports
hears-only c (Message m) = go (meaning m)
  where
    first : (n : ℕ) (asked : _) (o : Option WorkerAnswer) → (heard_request c n asked o).core.reports ≡ c.reports
    first n asked None = refl
    first n asked (Some a) = refl

    go : (m : Meaning) → (heard c m).core.reports ≡ c.reports
    go (request n asked) = first n asked (get c.answers n)
    go (response n result exception) = refl
hears-only c (BadArgs n) = go (get c.answers n)
  where
    go : (o : Option WorkerAnswer) → (heard_bad c n o).core.reports ≡ c.reports
    go None = refl
    go (Some a) = refl

-- ---- frames

pub are : (role : Role) (ms fs : List (List ℕ)) → Forall₂ (IsFrameOf role) ms fs → AreFrames role ms (joined fs)
are role ms fs nil = refl
are role ms fs (cons {a = m} {b = f} {l₁ = ms2} {l₂ = fs2} h t) = (f, joined fs2, h, refl, are role ms2 fs2 t)

pub frames : (role : Role) (whole : Bool) (ms fs : List (List ℕ)) → Forall₂ (IsFrameOf role) (if whole then ms else []) fs → AreFrames role (passed whole [] ms) (joined fs)
frames role true ms fs h = are role ms fs h
frames role false ms fs h = are role [] fs h

pub nothing : (role : Role) (whole : Bool) (fs : List (List ℕ)) → Forall₂ (IsFrameOf role) (if whole then [] else []) fs → joined fs ≡ []
nothing role true fs h = are role [] fs h
nothing role false fs h = are role [] fs h

pub no-frames : (role : Role) (whole : Bool) → Forall₂ (IsFrameOf role) (if whole then [] else []) []
no-frames role true = nil
no-frames role false = nil

pub idle : (role : Role) (bytes : List ℕ) → raw.Writes role [] bytes bytes
idle role bytes = ([], refl, sym (append-nil bytes))

pub silent : (x y : Service) → y ≡ x → Writes x [] [] y
silent x y e = (
  [],
  [],
  no-frames Client x.whole,
  no-frames Server x.whole,
  e ∙ ap (λ q. record x { up = q }) (sym (append-nil x.up)) ∙ ap (λ q. record x { up = x.up ++ []; down = q }) (sym (append-nil x.down)),
)

-- ---- states

abbrev pub ends : Service → List OutboxEntry → List (List ℕ) → List (List ℕ) → Joined
ends x box us ds =
    record {
      wired = record { lane = x.lane; shown = x.shown; carried = x.carried; core = x.core; outbox = box; up = us; down = ds };
      link = old_link x.link;
      backlog = backlog_of x.link;
      whole = x.whole;
      heard = x.heard;
      told = x.told;
    }

abbrev pub over : Service → List OutboxEntry → List (List ℕ) → List (List ℕ) → OverBytes
over x box us ds = record { ends = ends x box us ds; up = x.up; down = x.down }

pub untold : (x : Service) → x.told ≡ x.told ++ drop (length x.core.reports) x.core.reports
untold x = sym (ap (λ q. x.told ++ q) (drop-whole x.core.reports) ∙ append-nil x.told)

-- ---- runs

pub append : (ss ts : List cut.Step) (x y z : OverBytes) → GoesOver x ss y → GoesOver y ts z → GoesOver x (ss ++ ts) z
append [] ts x y z h g = subst (λ q. GoesOver q ts z) h g
append (s ∷ ss) ts x y z h g = (h.0, h.1, append ss ts h.0 y z h.2 g)

pub same-opening : (id capacity : ℕ) (resumable : Bool) → over (opening id capacity resumable) [] [] [] ≡ bytes_apart id capacity resumable
same-opening id capacity resumable = ap (λ q. over (record (opening id capacity resumable) { carried = q }) [] [] []) (new-begun resumable)

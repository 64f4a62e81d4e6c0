-- A run is a schedule.
use Rattle.std.proofs.Common.{◌≡◌, refl, sym, ◌∙◌, ap, subst, ℕ, ◌+◌, ◌≤◌, ◌<◌, ◌^◌, List, [], ◌∷◌, ◌++◌, length, Option, arith, inl, inr}
use mathlib.Core.List.{IsPrefix}
use Rattle.std.proofs.lemmas.List.{append-nil, length_push}
use Rattle.bm_lines.specs.Names.{stdio}
use Rattle.bm_session.specs.Trace.{log}
use Rattle.bm_session.specs.declared.event.Event.{Event}
use Rattle.bm_session.specs.declared.event.Event.TheVariants.{Up}
use Rattle.bm_work.specs.Stream.{said}
use Rattle.bm_link.specs.Carries.{Carried}
use Rattle.std.specs.Ordering.{nat_cmp}
use Rattle.std.specs.FinMap.{get-empty}
use Rattle.std.specs.Prelude.{Result, Ok, Err}
use Rattle.bm_lane.specs.Ends.{Heard}
use Rattle.bm_lane.specs.Hearing.{Hears}
use Rattle.bm_lane.specs.declared.refusals.HearRefusal.{HearRefusal}
use Rattle.bm_link.specs.Carries.{carried_after}
use Rattle.bm_session.specs.declared.reply.Reply.{Reply}
use Rattle.bm_world.specs.declared.step.Step.TheVariants.{Hear}
use Rattle.bm_world.specs.World.{World}
use Rattle.bm_replay.specs.Schedule.{Make, Scene, opening, after, scene_after, is_schedule_from, reported, new_worker}
use Rattle.bm_replay.proofs.Logged.{said_is_logged}
use Rattle.bm_replay.proofs.Starts.{agree-at-first}
use Rattle.bm_replay.proofs.Acts.{keeps}
use Rattle.bm_replay.proofs.Agreement.{Agree}
use Rattle.bm_wired.specs.Wired.{Wired, Move, Moves, Run, begun_wired, Start, Interrupt, Inquire, Turn, Wait, Tell, Listen, Drain, Look, TurnsBy, Orders, ordered}
use Rattle.bm_wired.specs.Laws.{WiredIsSchedule, WiredIsLogged}
use Rattle.bm_wired.specs.Service.{answers_to_send}
use Rattle.bm_wired.proofs.Sim.{scene_of, Sim, Step, Reached}
use Rattle.bm_wired.proofs.Framework.{takes, sim-after, combine}
use Rattle.bm_wired.proofs.Easy.{step-Look, step-Wait, step-Drain, step-Inquire, step-Start, step-Interrupt}
use Rattle.bm_wired.proofs.Turns.{step-Turn}
use Rattle.bm_wired.proofs.Tells.{step-Tell}
use Rattle.bm_wired.proofs.Listens.{step-Listen}

pub step : (c : ℕ) (m : Move) (w : Wired) (ran : List ℕ) (w2 : Wired) → Sim w ran → Moves w m w2 → length w2.lane.trace ≤ c → Step c w ran w2
step c (Start argv) w ran w2 sim h l = step-Start c w ran argv w2 sim h l
step c (Interrupt k) w ran w2 sim h l = step-Interrupt c w ran k w2 sim h l
step c (Inquire a) w ran w2 sim h l = step-Inquire c w ran a w2 sim h
step c Turn w ran w2 sim h l = step-Turn c w ran w2 sim h l
step c (Wait outbox) w ran w2 sim h l = step-Wait c w ran outbox w2 sim h
step c Tell w ran w2 sim h l = step-Tell c w ran w2 sim h
step c Listen w ran w2 sim h l = step-Listen c w ran w2 sim h
step c Drain w ran w2 sim h l = step-Drain c w ran w2 sim h
step c Look w ran w2 sim h l = step-Look c w ran w2 sim h

-- traces grow
longer : (t : List Event) (e : Event) → length t ≤ length (t ++ e ∷ [])
longer t e = let s : length (t ++ e ∷ []) ≡ length t + 1 = length_push t e in omega arith

by : (w w2 v : Wired) → w2 ≡ v → length w.lane.trace ≤ length v.lane.trace → length w.lane.trace ≤ length w2.lane.trace
by w w2 v e l = subst (λ (x : Wired). length w.lane.trace ≤ length x.lane.trace) (sym e) l

same : (w : Wired) → length w.lane.trace ≤ length w.lane.trace
same w = omega arith

turned : (w w2 : Wired) (e : Event) (rest : List (List ℕ)) (r : Result Reply (Event × HearRefusal)) (lane2 : Heard) → Hears w.lane e r lane2 → TurnsBy w e rest r lane2 w2 → length w.lane.trace ≤ length w2.lane.trace
turned w w2 e rest (Err back) lane2 h t = by w w2 w t.1 (same w)
turned w w2 e rest (Ok r) lane2 h t = by w w2 (record w { lane = lane2; carried = carried_after w.carried e; up = rest; down = w.down ++ answers_to_send r }) t (subst (λ (x : Heard). length w.lane.trace ≤ length x.trace) (sym h.0) (longer w.lane.trace e))

ordered-grows : (w w2 : Wired) (e : Event) (carry : Carried) (bytes : List ℕ) → Orders w e carry bytes w2 → length w.lane.trace ≤ length w2.lane.trace
ordered-grows w w2 e carry bytes (inl x) = by w w2 (ordered w e carry bytes) x.1 (longer w.lane.trace e)
ordered-grows w w2 e carry bytes (inr x) = by w w2 w x.2 (same w)

pub grows : (m : Move) (w w2 : Wired) → Moves w m w2 → length w.lane.trace ≤ length w2.lane.trace
grows (Start argv) w w2 h = ordered-grows w w2 _ _ _ h.1
grows (Interrupt k) w w2 h = ordered-grows w w2 _ _ _ h
grows (Inquire a) w w2 h = by w w2 _ h.2 (same w)
grows Turn w w2 h = turned w w2 h.2 h.1 h.3 h.4 h.7 h.8
grows (Wait outbox) w w2 h = by w w2 _ h.1 (same w)
grows Tell w w2 h = by w w2 _ h.4 (same w)
grows Listen w w2 h = by w w2 _ h.5 (same w)
grows Drain w w2 h = by w w2 _ h.1 (same w)
grows Look w w2 h = by w w2 w h (same w)

grown : (ms : List Move) (w w2 : Wired) → Run w ms w2 → length w.lane.trace ≤ length w2.lane.trace
grown [] w w2 e = subst (λ (v : Wired). length w.lane.trace ≤ length v.lane.trace) (sym e) (omega arith)
grown (m ∷ ms) w w2 h = let a : length w.lane.trace ≤ length h.0.lane.trace = grows m w h.0 h.1 in let b : length h.0.lane.trace ≤ length w2.lane.trace = grown ms h.0 w2 h.2 in omega arith

runs : (c : ℕ) (ms : List Move) (w : Wired) (ran : List ℕ) (w2 : Wired) → Sim w ran → Run w ms w2 → length w2.lane.trace ≤ c → Reached c (scene_of c w ran) w.core.reports w2
runs c [] w ran w2 sim e l = subst (λ v. Reached c (scene_of c w ran) w.core.reports v) (sym e) (record { acts = []; ran = ran; scheduled = refl; same = refl; reports = append-nil w.core.reports })
runs c (m ∷ ms) w ran w2 sim h l =
    let more : length h.0.lane.trace ≤ length w2.lane.trace = grown ms h.0 w2 h.2 in
    let s : Step c w ran h.0 = step c m w ran h.0 sim h.1 (omega arith) in
    combine c w ran h.0 w2 s (runs c ms h.0 s.ran2 w2 (sim-after c w ran h.0 sim s) h.2 l)

sim-first : (id capacity : ℕ) (carry : Carried) (named : Option (List ℕ)) → Sim (begun_wired id capacity carry named) []
sim-first id capacity carry named = record {
  agree = subst (λ (x : Scene). Agree (λ k. []) x.lane.trace x.worker) (first-act 1 (omega arith)) (keeps (λ k. []) (opening 1) (Make (Hear Up)) refl agree-at-first);
  put = refl;
  waits = tt;
  links = record {
    ups = record { ups = []; is = refl; follow = refl; fits = tt };
    downs = record { downs = []; order = 0; ask = 2 ^ 62; is = refl; descend = (refl, refl); fits = tt; asks_from = omega arith; asked_to = omega arith; unheard = λ n h. get-empty nat_cmp n };
    past = record { running = λ k h. cc; ran_by = λ k h. cc; refused_by = λ k h. cc };
    sayable = tt;
  };
}
  where
    first-act : (c : ℕ) → 0 < c → after (opening c) (Make (Hear Up)) ≡ scene_of c (begun_wired id capacity carry named) []
    first-act c l = ap (λ (v : World). record { lane = v; worker = new_worker }) (takes c 0 [] Up refl l)

pub wired_is_schedule : WiredIsSchedule
wired_is_schedule id capacity carry named ms w h = (
  length w.lane.trace,
  Make (Hear Up) ∷ r.acts,
  record {
    scheduled = ap (λ x. is_schedule_from x r.acts) first ∙ r.scheduled;
    trace = ap (λ (x : Scene). x.lane.trace) whole;
    shown = ap (λ (x : Scene). x.lane.shown) whole;
    reports = ap (λ (x : Scene). x.worker.reports) whole;
    reported = r.reports;
  },
)
  where
    r : Reached (length w.lane.trace) (scene_of (length w.lane.trace) (begun_wired id capacity carry named) []) [] w
    r = runs (length w.lane.trace) ms (begun_wired id capacity carry named) [] w (sim-first id capacity carry named) h (omega arith)

    some : 0 < length w.lane.trace
    some = let g : 1 ≤ length w.lane.trace = grown ms (begun_wired id capacity carry named) w h in omega arith

    first : after (opening (length w.lane.trace)) (Make (Hear Up)) ≡ scene_of (length w.lane.trace) (begun_wired id capacity carry named) []
    first = ap (λ (v : World). record { lane = v; worker = new_worker }) (takes (length w.lane.trace) 0 [] Up refl some)

    whole : scene_after (opening (length w.lane.trace)) (Make (Hear Up) ∷ r.acts) ≡ scene_of (length w.lane.trace) w r.ran
    whole = ap (λ x. scene_after x r.acts) first ∙ r.same

pub wired_is_logged : WiredIsLogged
wired_is_logged id capacity carry named ms w k h =
    let r = wired_is_schedule id capacity carry named ms w h in
    subst (λ rs. IsPrefix (log w.lane.trace k stdio) (said rs k)) r.2.reported (subst (λ t. IsPrefix (log t k stdio) (said (reported r.1) k)) r.2.trace (said_is_logged r.0 r.1 k r.2.scheduled))

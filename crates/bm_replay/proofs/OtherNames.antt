-- A worker says nothing under another name than `stdio`.
use Rattle.std.proofs.Common.{◌≡◌, refl, ◌∙◌, ap, ℕ, true, false, cond, List, [], ◌∷◌, ◌++◌, Option, Some, None}
use Rattle.std.specs.Prelude.{slice_get, option_map, bytes_eq}
use Rattle.std.proofs.lemmas.List.{append-nil}
use Rattle.bm_lines.specs.Names.{Name, stdio}
use Rattle.bm_lines.specs.LineBatches.{blocks_under}
use Rattle.bm_session.proofs.Pushed.{next, blocks-push}
use Rattle.bm_session.proofs.Taken.{and-left, and-right}
use Rattle.bm_session.proofs.Visible.{same-arms}
use Rattle.bm_session.specs.declared.event.Event.{Event}
use Rattle.bm_session.specs.declared.event.Event.TheVariants.{Up, In, Go, Stop, Cut, Down}
use Rattle.bm_session.specs.declared.event.Body.TheVariants.{Answered}
use Rattle.bm_session.specs.Events.{batch_of}
use Rattle.bm_session.specs.Trace.{Trace, updates, blocks, joined}
use Rattle.bm_work.specs.Stream.{Report, text, code, over}
use Rattle.bm_world.specs.declared.step.Step.TheVariants.{Hear, Drain, Look}
use Rattle.bm_replay.specs.Schedule.{as_heard, Act, Run, Say, Finish, Deliver, Respond, Make, Scene, opening, is_allowed, after, lane_after, scene_after, is_schedule_from}
use Rattle.bm_replay.specs.Laws.{OtherLogsAreEmpty}
use Rattle.bm_replay.proofs.Acts.{hear-cases, drain-keeps}

-- an event that carries nothing under the name
empty-push : (t : Trace) (e : Event) (k : ℕ) (name : Name) → blocks_under name (batch_of e) ≡ [] → blocks t k name ≡ [] → blocks (t ++ e ∷ []) k name ≡ []
empty-push t e k name none old =
    blocks-push t e k name
    ∙ ap (λ bs. blocks t k name ++ cond (updates k (next t e)) bs []) none
    ∙ ap (λ bs. blocks t k name ++ bs) (same-arms (updates k (next t e)) [])
    ∙ append-nil (blocks t k name) ∙ old

request-empty : (n : ℕ) (r : Report) (name : Name) → bytes_eq stdio name ≡ false → blocks_under name (batch_of (as_heard n r)) ≡ []
request-empty n (text k letter t) name h = rw h refl
request-empty n (code k z) name h = refl
request-empty n (over k fault) name h = refl

hears-empty : (s : Scene) (e : Event) (k : ℕ) (name : Name) → blocks_under name (batch_of e) ≡ [] → blocks s.lane.trace k name ≡ [] → blocks (lane_after s.lane (Some (Hear e))).trace k name ≡ []
hears-empty s e k name none old = hear-cases s.lane e (λ t. blocks t k name ≡ []) old (λ a. empty-push s.lane.trace e k name none old)

delivers-empty : (s : Scene) (n k : ℕ) (name : Name) → bytes_eq stdio name ≡ false → blocks s.lane.trace k name ≡ [] → (o : Option Report)
    → blocks (lane_after s.lane (option_map (λ r. Hear (as_heard n r)) o)).trace k name ≡ []
delivers-empty s n k name h old None = old
delivers-empty s n k name h old (Some r) = hears-empty s (as_heard n r) k name (request-empty n r name h) old

keeps-empty : (s : Scene) (a : Act) (k : ℕ) (name : Name) → bytes_eq stdio name ≡ false → is_allowed s a ≡ true → blocks s.lane.trace k name ≡ [] → blocks (after s a).lane.trace k name ≡ []
keeps-empty s (Deliver n) k name h ok old = delivers-empty s n k name h old (slice_get s.worker.reports n)
keeps-empty s (Respond n fault) k name h ok old = hears-empty s (In n (Answered fault)) k name refl old
keeps-empty s (Make (Hear (In n body))) k name h ok old = cc
keeps-empty s (Make (Hear Up)) k name h ok old = hears-empty s Up k name refl old
keeps-empty s (Make (Hear Go)) k name h ok old = hears-empty s Go k name refl old
keeps-empty s (Make (Hear (Stop j))) k name h ok old = hears-empty s (Stop j) k name refl old
keeps-empty s (Make (Hear Cut)) k name h ok old = hears-empty s Cut k name refl old
keeps-empty s (Make (Hear Down)) k name h ok old = hears-empty s Down k name refl old
keeps-empty s (Make Drain) k name h ok old = drain-keeps s.lane (λ t. blocks t k name ≡ []) old
keeps-empty s (Make (Look j other off lim)) k name h ok old = old
keeps-empty s (Run j) k name h ok old = old
keeps-empty s (Say j letter t) k name h ok old = old
keeps-empty s (Finish j ending) k name h ok old = old

stays-empty : (acts : List Act) (s : Scene) (k : ℕ) (name : Name) → bytes_eq stdio name ≡ false → is_schedule_from s acts ≡ true → blocks s.lane.trace k name ≡ []
    → blocks (scene_after s acts).lane.trace k name ≡ []
stays-empty [] s k name h ok old = old
stays-empty (a ∷ acts) s k name h ok old =
    stays-empty acts (after s a) k name h (and-right (is_allowed s a) (is_schedule_from (after s a) acts) ok)
    (keeps-empty s a k name h (and-left (is_allowed s a) (is_schedule_from (after s a) acts) ok) old)

-- the law
pub other_logs_are_empty : OtherLogsAreEmpty
other_logs_are_empty c acts k name ok h = ap joined (stays-empty acts (opening c) k name h ok refl)

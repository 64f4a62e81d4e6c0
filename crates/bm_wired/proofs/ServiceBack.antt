-- A run over bytes is a run from socket to socket: what is in the queues was written.
use Rattle.std.proofs.Common.{◌≡◌, refl, sym, ◌∙◌, ap, subst, ℕ, ◌+◌, Bool, true, false, List, [], ◌∷◌, ◌++◌, length, take, drop, inl, inr, append-nil}
use Rattle.std.specs.Prelude.{if◌then◌else◌, Option, Result, Ok, Err}
use lib.Seq.{take-nil}
use mathlib.Core.List.{Forall₂}
use mathlib.Core.List.Forall₂.{nil, cons}
use Rattle.std.specs.List.{AllByRecursion}
use Rattle.std.specs.declared.alloc.AllocError.{AllocError}
use Rattle.websocket.specs.declared.protocol.config.Role.{Role}
use Rattle.websocket.specs.declared.protocol.config.Role.TheVariants.{Server, Client}
use Rattle.bm_lane.specs.Ends.{Heard}
use Rattle.bm_lane.specs.Hearing.{with_event, Hears}
use Rattle.bm_lane.specs.declared.refusals.HearRefusal.{HearRefusal}
use Rattle.bm_link.specs.Carries.{carried_after, carried_with, has_asked, with_order}
use Rattle.bm_link.specs.Incoming.{IsEventOf}
use Rattle.bm_link.specs.Asks.{ask_bytes}
use Rattle.bm_link.specs.Attaching.{taken_up}
use Rattle.bm_link.specs.Orders.{start_bytes, interrupt_bytes}
use Rattle.bm_link.specs.Received.{AreSaid, hearing_of}
use Rattle.bm_link.specs.declared.asks.Ask.{Ask}
use Rattle.bm_outbox.specs.Telling.{waits_on, TellsNext}
use Rattle.bm_outbox.specs.declared.outbox_entry.OutboxEntry.{OutboxEntry}
use Rattle.bm_outbox.specs.declared.progress.Progress.{Progress}
use Rattle.bm_outbox.specs.declared.progress.Progress.TheVariants as progress
use Rattle.bm_session.specs.Trace.{commands, joined, orders, reply}
use Rattle.bm_session.specs.declared.event.Event.{Event}
use Rattle.bm_session.specs.declared.event.Event.TheVariants.{Go, Stop}
use Rattle.bm_session.specs.declared.reply.Reply.{Reply}
use Rattle.bm_work.specs.Core.{Core, new_core, unanswered_requests}
use Rattle.bm_work.specs.declared.sent.Sent.{Sent}
use Rattle.bm_worker_session.specs.Sessions.{requests_of}
use Rattle.bm_wired.specs.Service.{Service, Step, Goes, Link, Apart, Greeted, Stands, opening, Writes, IsFrameOf, answers_to_send}
use Rattle.bm_wired.specs.Service as of
use Rattle.bm_wired.specs.ServiceAsBytes.{link_of, as_service, OverBytesIsService}
use Rattle.bm_wired.specs.Bytes.{OverBytes, GoesOver, StepsOver, AreFrames, left, holding, bytes_apart}
use Rattle.bm_wired.specs.Bytes as raw
use Rattle.bm_wired.specs.Cuts.{Joined, Make, passed, begun_by}
use Rattle.bm_wired.specs.Cuts as cut
use Rattle.bm_wired.specs.Wired.{Wired, EntryIsSayable, TurnsBy, bytes_in, reply_in}
use Rattle.bm_wired.specs.Wired as wired
use Rattle.bm_wired.proofs.Joint.{drop-whole, passed-same, passed-rest}
use Rattle.bm_wired.proofs.ServiceWords.{same-reply, hears-only, new-begun}
use Rattle.bm_wired.proofs.Ways.{writes-none}

-- ---- frames

abbrev Framed : Role → List (List ℕ) → List ℕ → Type 0
Framed role ms bytes = (fs : List (List ℕ)) × Forall₂ (IsFrameOf role) ms fs × (bytes ≡ joined fs)

framed : (role : Role) (ms : List (List ℕ)) (bytes : List ℕ) → AreFrames role ms bytes → Framed role ms bytes
framed role [] bytes h = ([], nil, h)
framed role (m ∷ ms) bytes h =
    let r : Framed role ms h.1 = framed role ms h.1 h.4 in
    (h.0 ∷ r.0, cons h.2 r.1, h.3 ∙ ap (λ q. h.0 ++ q) r.2)

framed-by : (role : Role) (whole : Bool) (ms : List (List ℕ)) (bytes : List ℕ) → AreFrames role (passed whole [] ms) bytes → Framed role (if whole then ms else []) bytes
framed-by role true ms bytes h = framed role ms bytes h
framed-by role false ms bytes h = framed role [] bytes h

-- what stands at an end of bytes, beside them
abbrev at : Joined → OverBytes → Service
at ends y = as_service (record y { ends = ends })

-- ---- what a step leads to

untold : (x : Joined) (core : Core) → core.reports ≡ x.wired.core.reports → x.told ++ drop (length x.wired.core.reports) core.reports ≡ x.told
untold x core e = ap (λ q. x.told ++ drop (length x.wired.core.reports) q) e ∙ ap (λ q. x.told ++ q) (drop-whole x.wired.core.reports) ∙ append-nil x.told

-- messages were written behind what was under way in z
wrote : (z y : Service) (ups downs : List (List ℕ)) → raw.Writes Client (passed z.whole [] ups) z.up y.up → raw.Writes Server (passed z.whole [] downs) z.down y.down
    → y ≡ record z { up = y.up; down = y.down } → Writes z ups downs y
wrote z y ups downs a b e =
    let f = framed-by Client z.whole ups a.0 a.1 in
    let g = framed-by Server z.whole downs b.0 b.1 in (
      f.0,
      g.0,
      f.1,
      g.1,
      e ∙ ap (λ q. record z { up = q; down = y.down }) (a.2 ∙ ap (λ q. z.up ++ q) f.2)
          ∙ ap (λ q. record z { up = z.up ++ joined f.0; down = q }) (b.2 ∙ ap (λ q. z.down ++ q) g.2),
    )

-- nothing was written
quiet : (z y : Service) (us ds : List (List ℕ)) → raw.Writes Client us z.up y.up → raw.Writes Server ds z.down y.down → us ≡ [] → ds ≡ []
    → y ≡ record z { up = y.up; down = y.down } → y ≡ z
quiet z y us ds a b none silent e =
    e ∙ ap (λ q. record z { up = q; down = y.down }) (writes-none Client us z.up y.up a none)
    ∙ ap (λ q. record z { down = q }) (writes-none Server ds z.down y.down b silent)

abbrev after_move : Joined → Wired → Joined
after_move x w =
    record x {
      wired = record w { up = passed x.whole x.wired.up w.up; down = passed x.whole x.wired.down w.down };
      told = x.told ++ drop (length x.wired.core.reports) w.core.reports;
    }

-- the step, and what waits can be said
abbrev Came : OverBytes → OverBytes → Type 0
Came x y = Step (as_service x) (as_service y) × AllByRecursion EntryIsSayable y.ends.wired.outbox

abbrev Waits : OverBytes → Type 0
Waits x = AllByRecursion EntryIsSayable x.ends.wired.outbox

waits-on : (y : OverBytes) (ends : Joined) → y.ends ≡ ends → AllByRecursion EntryIsSayable ends.wired.outbox → Waits y
waits-on y ends e h = subst (λ (q : Joined). AllByRecursion EntryIsSayable q.wired.outbox) (sym e) h

-- a move, and the state that it leads to, whatever it reads
moved : (x y : OverBytes) (us ds : List (List ℕ)) (w : Wired) → y.ends ≡ after_move (holding x.ends us ds) w → w.core.reports ≡ x.ends.wired.core.reports
    → as_service y ≡ record (as_service x) { lane = w.lane; shown = w.shown; carried = w.carried; core = w.core; up = y.up; down = y.down }
moved x y us ds w e same =
    ap (λ q. at q y) e
    ∙ ap (λ q. record (as_service x) { lane = w.lane; shown = w.shown; carried = w.carried; core = w.core; told = q; up = y.up; down = y.down }) (untold x.ends w.core same)

-- it reads nothing
wrote-after : (x y : OverBytes) (w : Wired) → y.ends ≡ after_move (holding x.ends [] []) w → w.core.reports ≡ x.ends.wired.core.reports
    → raw.Writes Client y.ends.wired.up x.up y.up → raw.Writes Server y.ends.wired.down x.down y.down
    → Writes (record (as_service x) { lane = w.lane; shown = w.shown; carried = w.carried; core = w.core }) w.up w.down (as_service y)
wrote-after x y w e same a b =
    wrote (record (as_service x) { lane = w.lane; shown = w.shown; carried = w.carried; core = w.core }) (as_service y) w.up w.down
    (subst (λ (q : Joined). raw.Writes Client q.wired.up x.up y.up) e a)
    (subst (λ (q : Joined). raw.Writes Server q.wired.down x.down y.down) e b) (moved x y [] [] w e same)

quiet-after : (x y : OverBytes) (w : Wired) → y.ends ≡ after_move (holding x.ends [] []) w → w.core.reports ≡ x.ends.wired.core.reports → w.up ≡ [] → w.down ≡ []
    → raw.Writes Client y.ends.wired.up x.up y.up → raw.Writes Server y.ends.wired.down x.down y.down
    → as_service y ≡ record (as_service x) { lane = w.lane; shown = w.shown; carried = w.carried; core = w.core }
quiet-after x y w e same none silent a b =
    quiet (record (as_service x) { lane = w.lane; shown = w.shown; carried = w.carried; core = w.core }) (as_service y) y.ends.wired.up y.ends.wired.down a b
    (ap (λ (q : Joined). q.wired.up) e ∙ ap (λ q. passed x.ends.whole [] q) none ∙ passed-same x.ends.whole [])
    (ap (λ (q : Joined). q.wired.down) e ∙ ap (λ q. passed x.ends.whole [] q) silent ∙ passed-same x.ends.whole [])
    (moved x y [] [] w e same)

-- ---- the master's moves

came-order : (x y : OverBytes) (e : Event) (bytes : List ℕ) (w : Wired) → (of.Orders (as_service x) e bytes (as_service y) → Step (as_service x) (as_service y)) → Waits x
    → wired.Orders (holding x.ends [] []).wired e (with_order x.ends.wired.carried (record { seq = orders x.ends.wired.lane.trace; bytes = bytes })) bytes w
    → y.ends ≡ after_move (holding x.ends [] []) w
    → raw.Writes Client y.ends.wired.up x.up y.up → raw.Writes Server y.ends.wired.down x.down y.down → Came x y
came-order x y e bytes w step say (inl h) at a b =
    let carry = with_order x.ends.wired.carried (record { seq = orders x.ends.wired.lane.trace; bytes = bytes }) in
    let z : Wired = wired.ordered (holding x.ends [] []).wired e carry bytes in
    let is = at ∙ ap (after_move (holding x.ends [] [])) h.1 in
    (step (h.0, wrote-after x y z is refl a b), waits-on y (after_move (holding x.ends [] []) z) is say)
came-order x y e bytes w step say (inr h) at a b =
    let z : Wired = (holding x.ends [] []).wired in
    let is = at ∙ ap (after_move (holding x.ends [] [])) h.2 in
    (of.Stay (quiet-after x y z is refl refl refl a b), waits-on y (after_move (holding x.ends [] []) z) is say)

came-Inquire : (x y : OverBytes) (a : Ask) → Waits x → StepsOver x (Make (wired.Inquire a)) y → Came x y
came-Inquire x y a say h =
    let s = h.0 in
    let z : Wired = record (holding x.ends [] []).wired { carried = has_asked x.ends.wired.carried; down = ask_bytes x.ends.wired.carried.next_ask a ∷ [] } in
    let is = s.3 ∙ ap (after_move (holding x.ends [] [])) s.2.2 in
    (of.Inquire a s.2.0.0 s.2.0.1 s.2.1 (wrote-after x y z is refl h.1 h.2), waits-on y (after_move (holding x.ends [] []) z) is say)

-- ---- turns that read

abbrev wrote-none : (bytes new : List ℕ) → new ≡ bytes → raw.Writes Client [] bytes new
wrote-none bytes new e = ([], refl, e ∙ sym (append-nil bytes))

turn-by : (x y : OverBytes) (m f rest : List ℕ) (w : Wired) (others : List (List ℕ)) (e : Event) (r : Result Reply (Event × HearRefusal)) (lane : Heard) → Waits x → IsFrameOf Client m f → x.up ≡ f ++ rest → IsEventOf m e → others ≡ []
    → Hears x.ends.wired.lane e r lane → TurnsBy (holding x.ends (m ∷ []) []).wired e others r lane w → y.ends ≡ after_move (holding x.ends (m ∷ []) []) w
    → y.up ≡ left y.ends.wired.up f rest → raw.Writes Server y.ends.wired.down x.down y.down → Came x y
turn-by x y m f rest w others e (Ok r) lane say frame front event none hears by at-w l b =
    let answer = reply x.ends.wired.lane.trace e in
    let sent = answers_to_send answer in
    let z : Wired = record (holding x.ends [] []).wired { lane = with_event x.ends.wired.lane e; carried = carried_after x.ends.wired.carried e; down = sent } in
    let there : Service = record (as_service x) { lane = with_event x.ends.wired.lane e; carried = carried_after x.ends.wired.carried e; up = rest } in
    let is-z : w ≡ z = by ∙ ap (λ q. record z { lane = lane; up = q; down = answers_to_send r }) none ∙ ap (λ q. record z { lane = q; down = answers_to_send r }) hears.0 ∙ ap (λ q. record z { down = answers_to_send q }) hears.1 in
    let is = at-w ∙ ap (after_move (holding x.ends (m ∷ []) [])) is-z in
    let gone : y.ends.wired.up ≡ [] = ap (λ (q : Joined). q.wired.up) is ∙ passed-rest x.ends.whole m [] in
    let up : y.up ≡ rest = l ∙ ap (λ q. left q f rest) gone in
    let w2 : Writes there [] sent (as_service y) = wrote there (as_service y) [] sent
    (subst (λ q. raw.Writes Client q rest y.up) (sym (passed-same x.ends.whole [])) (wrote-none rest y.up up))
    (subst (λ (q : Joined). raw.Writes Server q.wired.down x.down y.down) is b) (moved x y (m ∷ []) [] z is refl) in (
      of.Turn m f rest e frame front event hears.2 w2,
      waits-on y (after_move (holding x.ends (m ∷ []) []) z) is say,
    )
turn-by x y m f rest w others e (Err back) lane say frame front event none hears by at-w l b =
    let is = at-w ∙ ap (after_move (holding x.ends (m ∷ []) [])) by.1 in
    let kept : y.ends.wired.up ≡ m ∷ [] = ap (λ (q : Joined). q.wired.up) is ∙ passed-same x.ends.whole (m ∷ []) in
    let silent : y.ends.wired.down ≡ [] = ap (λ (q : Joined). q.wired.down) is ∙ passed-same x.ends.whole [] in
    let up : y.up ≡ x.up = l ∙ ap (λ q. left q f rest) kept ∙ sym front in (
      of.Stay (quiet (as_service x) (as_service y) [] y.ends.wired.down (wrote-none x.up y.up up) b refl silent (moved x y (m ∷ []) [] (holding x.ends (m ∷ []) []).wired is refl)),
      waits-on y (after_move (holding x.ends (m ∷ []) []) (holding x.ends (m ∷ []) []).wired) is say,
    )

came-Turn : (x y : OverBytes) → Waits x → StepsOver x (Make wired.Turn) y → Came x y
came-Turn x y say h =
    let s = h.5 in
    let mv = s.2 in
    let one : h.0 ∷ [] ≡ mv.0 ∷ mv.1 = mv.5 in
    let head : mv.0 ≡ h.0 = cc in
    let none : mv.1 ≡ [] = cc in
    turn-by x y h.0 h.1 h.2 s.0 mv.1 mv.2 mv.3 mv.4 say h.3 h.4 (subst (λ q. IsEventOf q mv.2) head mv.6) none mv.7 mv.8 s.3 h.6 h.7

came-Listen : (x y : OverBytes) → Waits x → StepsOver x (Make wired.Listen) y → Came x y
came-Listen x y say h =
    let s = h.5 in
    let mv = s.2 in
    let m = h.0 in
    let one : m ∷ [] ≡ mv.0 ∷ mv.1 = mv.3 in
    let head : mv.0 ≡ m = cc in
    let none : mv.1 ≡ [] = cc in
    let a = mv.2 in
    let core = (hearing_of x.ends.wired.core a).core in
    let answer = (hearing_of x.ends.wired.core a).reply in
    let sent = reply_in answer in
    let z : Wired = record (holding x.ends [] []).wired { core = core; up = sent } in
    let there : Service = record (as_service x) { core = core; down = h.2 } in
    let is = s.3 ∙ ap (after_move (holding x.ends [] (m ∷ []))) (mv.5 ∙ ap (λ q. record z { down = q }) none) in
    let gone : y.ends.wired.down ≡ [] = ap (λ (q : Joined). q.wired.down) is ∙ passed-rest x.ends.whole m [] in
    let down : y.down ≡ h.2 = h.6 ∙ ap (λ q. left q h.1 h.2) gone in
    let w : Writes there sent [] (as_service y) = wrote there (as_service y) sent []
    (subst (λ (q : Joined). raw.Writes Client q.wired.up x.up y.up) is h.7)
    (subst (λ q. raw.Writes Server q h.2 y.down) (sym (passed-same x.ends.whole [])) ([], refl, down ∙ sym (append-nil h.2)))
    (moved x y [] (m ∷ []) z is (hears-only x.ends.wired.core a)) in (
      of.Listen m h.1 h.2 a x.ends.backlog (ap (λ q. link_of q x.ends.backlog) s.1) h.3 h.4 (subst (λ q. AreSaid q a) head mv.4) (subst (λ q. Writes there q [] (as_service y)) (sym (same-reply answer)) w),
      waits-on y (after_move (holding x.ends [] (m ∷ [])) z) is say,
    )

-- ---- what the worker tells

still-waits : (first : OutboxEntry) (rest : List OutboxEntry) (p : Result Progress AllocError) → AllByRecursion EntryIsSayable (first ∷ rest) → AllByRecursion EntryIsSayable (waits_on first rest p)
still-waits first rest (Ok (progress.Text s)) h = h.1
still-waits first rest (Ok (progress.End v)) h = h.1
still-waits first rest (Ok progress.Nothing) h = h.1
still-waits first rest (Ok progress.Full) h = h
still-waits first rest (Ok progress.Passed) h = h.1
still-waits first rest (Err e) h = h

tell-by : (box : List OutboxEntry) (x y : OverBytes) (p : Result Progress AllocError) (box2 : List OutboxEntry) (core : Core) → AllByRecursion EntryIsSayable box → link_of x.ends.link x.ends.backlog ≡ Stands [] → TellsNext box x.ends.wired.core p box2 core
    → y.ends ≡ after_move (holding x.ends [] []) (record (holding x.ends [] []).wired { core = core; outbox = box2; up = bytes_in (requests_of p) })
    → raw.Writes Client y.ends.wired.up x.up y.up → raw.Writes Server y.ends.wired.down x.down y.down → Came x y
tell-by [] x y p box2 core say stands tells at-w a b =
    let z : Wired = record (holding x.ends [] []).wired { outbox = [] } in
    let v : Wired = record (holding x.ends [] []).wired { core = core; outbox = box2 } in
    let is = at-w ∙ ap (after_move (holding x.ends [] [])) (ap (λ q. record v { up = bytes_in (requests_of q) }) tells.0 ∙ ap (λ q. record v { outbox = q }) tells.1 ∙ ap (λ q. record z { core = q }) tells.2) in
    (of.Stay (quiet-after x y z is refl refl refl a b), waits-on y (after_move (holding x.ends [] []) z) is tt)
tell-by (first ∷ rest) x y p box2 core say stands tells at-w a b =
    let v : Wired = record (holding x.ends [] []).wired { core = core; up = bytes_in (requests_of p) } in
    let there : Service = record (as_service x) { core = core; told = x.ends.told ++ drop (length x.ends.wired.core.reports) core.reports } in
    let is = at-w ∙ ap (after_move (holding x.ends [] [])) (ap (λ q. record v { outbox = q }) tells.1) in (
      of.Tell first p core say.0 stands tells.0
          (wrote there (as_service y) (bytes_in (requests_of p)) []
          (subst (λ (q : Joined). raw.Writes Client q.wired.up x.up y.up) is a)
          (subst (λ (q : Joined). raw.Writes Server q.wired.down x.down y.down) is b)
          (ap (λ q. at q y) is)),
      waits-on y (after_move (holding x.ends [] []) (record v { outbox = waits_on first rest p })) is (still-waits first rest p say),
    )

stands-with : (link : cut.Link) (backlog rest : List Sent) → link ≡ cut.Stands → backlog ≡ rest → link_of link backlog ≡ Stands rest
stands-with link backlog rest e g = ap (λ q. link_of q backlog) e ∙ ap (λ q. Stands q) g

came-Tell : (x y : OverBytes) → Waits x → StepsOver x (Make wired.Tell) y → Came x y
came-Tell x y say h =
    let s = h.0 in
    let mv = s.2 in
    tell-by x.ends.wired.outbox x y mv.0 mv.1 mv.2 say (stands-with x.ends.link x.ends.backlog [] s.1.0 s.1.1) mv.3 (s.3 ∙ ap (after_move (holding x.ends [] [])) mv.4) h.1 h.2

came-Resend : (x y : OverBytes) → Waits x → StepsOver x cut.Resend y → Came x y
came-Resend x y say h =
    let s = h.0 in
    let there : Service = record (as_service x) { link = Stands s.1 } in
    let ended : Joined = record (holding x.ends [] []) { wired = record (holding x.ends [] []).wired { up = passed x.ends.whole [] (s.0.bytes ∷ []) }; backlog = s.1 } in (
      of.Resend s.0 s.1 (stands-with x.ends.link x.ends.backlog (s.0 ∷ s.1) s.2 s.3)
          (wrote there (as_service y) (s.0.bytes ∷ []) []
          (subst (λ (q : Joined). raw.Writes Client q.wired.up x.up y.up) s.4 h.1)
          (subst (λ q. raw.Writes Server q x.down y.down) (sym (passed-same x.ends.whole [])) (subst (λ (q : Joined). raw.Writes Server q.wired.down x.down y.down) s.4 h.2))
          (ap (λ q. at q y) s.4 ∙ ap (λ q. record there { link = link_of q s.1; up = y.up; down = y.down }) s.2)),
      waits-on y ended s.4 say,
    )

-- ---- moves that write nothing

came-Wait : (x y : OverBytes) (box : List OutboxEntry) → StepsOver x (Make (wired.Wait box)) y → Came x y
came-Wait x y box h =
    let z : Wired = record (holding x.ends [] []).wired { outbox = box } in
    let is = h.0.3 ∙ ap (after_move (holding x.ends [] [])) h.0.2.1 in
    (of.Stay (quiet-after x y z is refl refl refl h.1 h.2), waits-on y (after_move (holding x.ends [] []) z) is h.0.2.0)

came-Drain : (x y : OverBytes) → Waits x → StepsOver x (Make wired.Drain) y → Came x y
came-Drain x y say h =
    let z : Wired = record (holding x.ends [] []).wired { shown = x.ends.wired.shown + 1 } in
    let is = h.0.3 ∙ ap (after_move (holding x.ends [] [])) h.0.2.1 in
    (of.Drain h.0.2.0 (quiet-after x y z is refl refl refl h.1 h.2), waits-on y (after_move (holding x.ends [] []) z) is say)

came-Look : (x y : OverBytes) → Waits x → StepsOver x (Make wired.Look) y → Came x y
came-Look x y say h =
    let z : Wired = (holding x.ends [] []).wired in
    let is = h.0.3 ∙ ap (after_move (holding x.ends [] [])) h.0.2 in
    (of.Stay (quiet-after x y z is refl refl refl h.1 h.2), waits-on y (after_move (holding x.ends [] []) z) is say)

-- ---- connections end and begin

ended : (x y : OverBytes) (up down : List ℕ) (ends : Joined) (z : Service) → y.ends ≡ ends → raw.Writes Client y.ends.wired.up up y.up → raw.Writes Server y.ends.wired.down down y.down → ends.wired.up ≡ [] → ends.wired.down ≡ []
    → at ends y ≡ record z { up = y.up; down = y.down } → z.up ≡ up → z.down ≡ down → as_service y ≡ z
ended x y up down ends z e a b none silent same at-up at-down =
    quiet z (as_service y) y.ends.wired.up y.ends.wired.down (subst (λ q. raw.Writes Client y.ends.wired.up q y.up) (sym at-up) a) (subst (λ q. raw.Writes Server y.ends.wired.down q y.down) (sym at-down) b)
    (ap (λ (q : Joined). q.wired.up) e ∙ none) (ap (λ (q : Joined). q.wired.down) e ∙ silent) (ap (λ q. at q y) e ∙ same)

came-Break : (x y : OverBytes) (i j : ℕ) → Waits x → StepsOver x (cut.Break i j) y → Came x y
came-Break x y i j say h =
    let ends : Joined = cut.broken (holding x.ends [] []) (record (holding x.ends [] []).wired { up = take i []; down = take j [] }) in
    let z : Service = record (as_service x) { whole = false; up = take i x.up; down = take j x.down } in
    (of.Break i j (ended x y (take i x.up) (take j x.down) ends z h.0 h.1 h.2 (take-nil i) (take-nil j) refl refl refl), waits-on y ends h.0 say)

came-Leave : (x y : OverBytes) → Waits x → StepsOver x cut.Leave y → Came x y
came-Leave x y say h =
    let s = h.0 in
    let before : Joined = cut.broken (holding x.ends [] []) (holding x.ends [] []).wired in
    let ends : Joined = record before { link = cut.Apart; backlog = [] } in
    let z : Service = record (as_service x) { link = Apart; whole = false; down = [] } in
    let is = s.2 ∙ ap (λ (q : Joined). record q { link = cut.Apart; backlog = [] }) s.1 in
    (of.Leave (ended x y x.up [] ends z is h.1 h.2 refl refl refl refl refl), waits-on y ends is say)

came-Lose : (x y : OverBytes) (e : Event) → Waits x → StepsOver x (cut.Lose e) y → Came x y
came-Lose x y e say h =
    let s = h.0 in
    let ends : Joined = cut.broken (holding x.ends [] []) (record (holding x.ends [] []).wired { lane = with_event x.ends.wired.lane e }) in
    let z : Service = record (as_service x) { lane = with_event x.ends.wired.lane e; whole = false; up = [] } in
    let is = s.4 ∙ ap (λ q. cut.broken (holding x.ends [] []) (record (holding x.ends [] []).wired { lane = q })) s.3.0 in
    (of.Lose e s.2 s.3.2 (ended x y [] x.down ends z is h.1 h.2 refl refl refl refl refl), waits-on y ends is say)

came-Meet : (x y : OverBytes) (resumed : Bool) (named : Option (List ℕ)) → Waits x → StepsOver x (cut.Meet resumed named) y → Came x y
came-Meet x y resumed named say h =
    let s = h.0 in
    let carry = carried_with resumed x.ends.wired.carried named in
    let ends : Joined = record (holding x.ends [] []) { wired = record (holding x.ends [] []).wired { lane = taken_up resumed x.ends.wired.lane; carried = carry; down = bytes_in carry.orders }; link = cut.Greeted resumed; whole = true; heard = resumed } in
    let there : Service = record (as_service x) { lane = taken_up resumed x.ends.wired.lane; carried = carry; link = Greeted resumed; whole = true; heard = resumed; up = []; down = [] } in (
      of.Meet resumed named (ap (λ q. link_of q x.ends.backlog) s.0) s.1 s.2
          (wrote there (as_service y) [] (bytes_in carry.orders)
          (subst (λ (q : Joined). raw.Writes Client q.wired.up [] y.up) s.3 h.1)
          (subst (λ (q : Joined). raw.Writes Server q.wired.down [] y.down) s.3 h.2)
          (ap (λ q. at q y) s.3)),
      waits-on y ends s.3 say,
    )

begin-by : (x y : OverBytes) (resumed : Bool) → Waits x → x.ends.link ≡ cut.Greeted resumed → y.ends ≡ begun_by resumed (holding x.ends [] []) → raw.Writes Client y.ends.wired.up x.up y.up → raw.Writes Server y.ends.wired.down x.down y.down → Came x y
begin-by x y true say greeted e a b =
    let z : Service = record (as_service x) { link = Stands (unanswered_requests x.ends.wired.core) } in
    (of.Resume (ap (λ q. link_of q x.ends.backlog) greeted) (ended x y x.up x.down (begun_by true (holding x.ends [] [])) z e a b refl refl refl refl refl), waits-on y (begun_by true (holding x.ends [] [])) e say)
begin-by x y false say greeted e a b =
    let z : Service = record (as_service x) { core = new_core; link = Stands []; heard = true } in
    (of.Begin (ap (λ q. link_of q x.ends.backlog) greeted) (ended x y x.up x.down (begun_by false (holding x.ends [] [])) z e a b refl refl refl refl refl), waits-on y (begun_by false (holding x.ends [] [])) e tt)

-- ---- all steps

came : (s : cut.Step) (x y : OverBytes) → Waits x → StepsOver x s y → Came x y
came (Make (wired.Start argv)) x y say h =
    came-order x y Go (start_bytes (orders x.ends.wired.lane.trace) (commands x.ends.wired.lane.trace) argv) h.0.0 (of.Start argv h.0.2.0.0 h.0.2.0.1) say h.0.2.1 h.0.3 h.1 h.2
came (Make (wired.Interrupt k)) x y say h = came-order x y (Stop k) (interrupt_bytes (orders x.ends.wired.lane.trace) k) h.0.0 (of.Interrupt k) say h.0.2 h.0.3 h.1 h.2
came (Make (wired.Inquire a)) x y say h = came-Inquire x y a say h
came (Make wired.Turn) x y say h = came-Turn x y say h
came (Make (wired.Wait box)) x y say h = came-Wait x y box h
came (Make wired.Tell) x y say h = came-Tell x y say h
came (Make wired.Listen) x y say h = came-Listen x y say h
came (Make wired.Drain) x y say h = came-Drain x y say h
came (Make wired.Look) x y say h = came-Look x y say h
came cut.Resend x y say h = came-Resend x y say h
came (cut.Break i j) x y say h = came-Break x y i j say h
came cut.Leave x y say h = came-Leave x y say h
came (cut.Lose e) x y say h = came-Lose x y e say h
came (cut.Meet resumed named) x y say h = came-Meet x y resumed named say h
came cut.Begin x y say h = begin-by x y h.0.0 say h.0.1 h.0.2 h.1 h.2

pub come : (ss : List cut.Step) (x y : OverBytes) → Waits x → GoesOver x ss y → Goes (as_service x) (as_service y)
come [] x y say h = subst (λ q. Goes (as_service x) (as_service q)) (sym h) of.Ends
come (s ∷ ss) x y say h =
    let c : Came x h.0 = came s x h.0 say h.1 in
    of.Then c.0 (come ss h.0 y c.1 h.2)

pub over_bytes_is_service : OverBytesIsService
over_bytes_is_service id capacity resumable ss z h =
    subst (λ q. Goes (record (opening id capacity resumable) { carried = q }) (as_service z)) (sym (new-begun resumable)) (come ss (bytes_apart id capacity resumable) z tt h)

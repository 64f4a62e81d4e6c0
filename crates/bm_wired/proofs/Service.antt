-- A run from socket to socket is a run over bytes. Its queues hold what each step writes.
use Rattle.std.proofs.Common.{◌≡◌, refl, sym, ◌∙◌, ap, subst, ℕ, ◌+◌, ◌<◌, ◌^◌, Bool, true, false, List, [], ◌∷◌, ◌++◌, length, take, drop, inl, ◌⊎◌, append-nil}
use Rattle.std.specs.Prelude.{Option, None, Result, Ok}
use Rattle.std.specs.Option.{option_to_list}
use lib.Seq.{take-nil}
use Rattle.std.specs.List.{AllByRecursion}
use Rattle.std.specs.declared.alloc.AllocError.{AllocError}
use Rattle.websocket.specs.declared.protocol.config.Role.TheVariants.{Server, Client}
use Rattle.bm_lane.specs.Hearing.{with_event}
use Rattle.bm_link.specs.Asks.{ask_bytes, texts_of}
use Rattle.bm_link.specs.Attaching.{cleared, taken_up}
use Rattle.bm_link.specs.Carries.{carried_after, carried_with, has_asked, with_order}
use Rattle.bm_link.specs.Incoming.{IsEventOf}
use Rattle.bm_link.specs.Orders.{start_bytes, interrupt_bytes}
use Rattle.bm_link.specs.Received.{AreSaid, hearing_of}
use Rattle.bm_link.specs.declared.asks.Ask.{Ask}
use Rattle.bm_msg.specs.declared.incoming.Incoming.{Incoming}
use Rattle.bm_outbox.specs.OutboxEntries.{reports_in, Tells}
use Rattle.bm_outbox.specs.Telling.{waits_on}
use Rattle.bm_outbox.specs.declared.outbox_entry.OutboxEntry.{OutboxEntry}
use Rattle.bm_outbox.specs.declared.progress.Progress.{Progress}
use Rattle.bm_session.specs.Trace.{commands, is_cut, joined, orders, refusal, reply}
use Rattle.bm_session.specs.declared.event.Event.{Event}
use Rattle.bm_session.specs.declared.event.Event.TheVariants.{Up, Go, Stop, Cut, Down}
use Rattle.bm_work.specs.Core.{Core, new_core, unanswered_requests, heard}
use Rattle.bm_work.specs.Stream.{Report}
use Rattle.bm_work.specs.declared.sent.Sent.{Sent}
use Rattle.bm_worker_session.specs.Sessions.{requests_of}
use Rattle.bm_wired.specs.Service.{Service, Step, Goes, Link, Apart, Greeted, Stands, opening, Writes, IsFrameOf, answers_to_send, IsSayable, ServiceIsLogged, AllOfServiceIsSeen}
use Rattle.bm_wired.specs.Service as of
use Rattle.bm_wired.specs.ServiceAsBytes.{link_of, ServiceIsOverBytes}
use Rattle.bm_wired.specs.Bytes.{OverBytes, GoesOver, StepsOver, holding, bytes_apart}
use Rattle.bm_wired.specs.Bytes as raw
use Rattle.bm_wired.specs.Cuts.{Make, Steps, IsFree, passed, broken}
use Rattle.bm_wired.specs.Cuts as cut
use Rattle.bm_wired.specs.Wired.{Wired, Move, Moves, AreSendable, bytes_in, reply_in}
use Rattle.bm_wired.specs.Wired as wired
use Rattle.bm_wired.proofs.Bytes.{bytes_are_logged, all_bytes_are_logged}
use Rattle.bm_wired.proofs.Joint.{passed-rest}
use Rattle.bm_wired.proofs.ServiceWords.{old_link, backlog_of, same-reply, hears-only, are, frames, nothing, silent, idle, ends, over, untold, append, same-opening}

-- it leads there over bytes
pub record Led (x : Service) (box : List OutboxEntry) (us ds : List (List ℕ)) (y : Service) : Type 0 where
  pub steps : List cut.Step
  pub box2 : List OutboxEntry
  pub us2 : List (List ℕ)
  pub ds2 : List (List ℕ)
  pub goes : GoesOver (over x box us ds) steps (over y box2 us2 ds2)

abbrev Made : Move → OverBytes → OverBytes → Type 0
Made m x y =
    Steps (holding x.ends [] []) (Make m) y.ends × raw.Writes Client y.ends.wired.up x.up y.up
    × raw.Writes Server y.ends.wired.down x.down y.down

one : (x : Service) (box : List OutboxEntry) (us ds : List (List ℕ)) → (y : Service) (s : cut.Step) (box2 : List OutboxEntry) (us2 ds2 : List (List ℕ)) → StepsOver (over x box us ds) s (over y box2 us2 ds2) → Led x box us ds y
one x box us ds y s box2 us2 ds2 h = record { steps = s ∷ []; box2 = box2; us2 = us2; ds2 = ds2; goes = (over y box2 us2 ds2, h, refl) }

-- a move that reads nothing
wrote : (x : Service) (box : List OutboxEntry) (us ds : List (List ℕ)) → (m : Move) (z : Wired) (told : List Report) (y : Service) → IsFree (ends x box [] []) m → Moves (ends x box [] []).wired m z
    → told ≡ x.told ++ drop (length x.core.reports) z.core.reports
    → Writes (record x { lane = z.lane; shown = z.shown; carried = z.carried; core = z.core; told = told }) z.up z.down y
    → Made m (over x box us ds) (over y z.outbox (passed x.whole [] z.up) (passed x.whole [] z.down))
wrote x box us ds m z told y free h e w =
    let us2 = passed x.whole [] z.up in
    let ds2 = passed x.whole [] z.down in
    let there : Service = record x { lane = z.lane; shown = z.shown; carried = z.carried; core = z.core; told = told; up = x.up ++ joined w.0; down = x.down ++ joined w.1 } in
    subst (λ q. Made m (over x box us ds) (over q z.outbox us2 ds2)) (sym w.4) (
      (z, free, h, ap (λ q. record (ends there z.outbox us2 ds2) { told = q }) e),
      (joined w.0, frames Client x.whole z.up w.0 w.2, refl),
      (joined w.1, frames Server x.whole z.down w.1 w.3, refl),
    )

-- an order
abbrev ordered : (x : Service) (box : List OutboxEntry) (us ds : List (List ℕ)) → (e : Event) (bytes : List ℕ) → Wired
ordered x box us ds e bytes = wired.ordered (ends x box [] []).wired e (with_order x.carried (record { seq = orders x.lane.trace; bytes = bytes })) bytes

led-Start : (x : Service) (box : List OutboxEntry) (us ds : List (List ℕ)) → (y : Service) → (argv : List (List ℕ)) → AreSendable argv → of.Orders x Go (start_bytes (orders x.lane.trace) (commands x.lane.trace) argv) y → Led x box us ds y
led-Start x box us ds y argv few h =
    let m = wired.Start argv in
    let z = ordered x box us ds Go (start_bytes (orders x.lane.trace) (commands x.lane.trace) argv) in
    one x box us ds y (Make m) box (passed x.whole [] z.up) (passed x.whole [] z.down) (wrote x box us ds m z x.told y tt (few, inl (h.0, refl)) (untold x) h.1)

led-Interrupt : (x : Service) (box : List OutboxEntry) (us ds : List (List ℕ)) → (y : Service) (k : ℕ) → of.Orders x (Stop k) (interrupt_bytes (orders x.lane.trace) k) y → Led x box us ds y
led-Interrupt x box us ds y k h =
    let m = wired.Interrupt k in
    let z = ordered x box us ds (Stop k) (interrupt_bytes (orders x.lane.trace) k) in
    one x box us ds y (Make m) box (passed x.whole [] z.up) (passed x.whole [] z.down) (wrote x box us ds m z x.told y tt (inl (h.0, refl)) (untold x) h.1)

led-Inquire : (x : Service) (box : List OutboxEntry) (us ds : List (List ℕ)) → (y : Service) (a : Ask) → AreSendable (texts_of a) → x.carried.next_ask < 2 ^ 63
    → Writes (record x { carried = has_asked x.carried }) [] (ask_bytes x.carried.next_ask a ∷ []) y → Led x box us ds y
led-Inquire x box us ds y a few room h =
    let m = wired.Inquire a in
    let z : Wired = record (ends x box [] []).wired { carried = has_asked x.carried; down = ask_bytes x.carried.next_ask a ∷ [] } in
    one x box us ds y (Make m) box (passed x.whole [] z.up) (passed x.whole [] z.down) (wrote x box us ds m z x.told y tt (few, room, refl) (untold x) h)

-- a turn of the lane, which takes a frame
led-Turn : (x : Service) (box : List OutboxEntry) (us ds : List (List ℕ)) → (y : Service) (m frame rest : List ℕ) (e : Event) → IsFrameOf Client m frame → x.up ≡ frame ++ rest → IsEventOf m e → refusal x.lane.trace e ≡ None
    → Writes (record x { lane = with_event x.lane e; carried = carried_after x.carried e; up = rest }) [] (answers_to_send (reply x.lane.trace e)) y → Led x box us ds y
led-Turn x box us ds y m frame rest e f at event ok w =
    let sent = answers_to_send (reply x.lane.trace e) in
    let z : Wired = record (ends x box [] []).wired { lane = with_event x.lane e; carried = carried_after x.carried e; down = sent } in
    let there : Service = record x { lane = with_event x.lane e; carried = carried_after x.carried e; up = rest ++ joined w.0; down = x.down ++ joined w.1 } in
    let ds2 = passed x.whole [] sent in
    subst (λ q. Led x box us ds q) (sym w.4) (one x box us ds there (Make wired.Turn) box [] ds2 (
      m,
      frame,
      rest,
      f,
      at,
      (
        z,
        tt,
        (m, [], e, Ok (reply x.lane.trace e), with_event x.lane e, refl, event, (refl, refl, ok), refl),
        ap (λ q. record (ends there box [] ds2) { told = q }) (untold x) ∙ ap (λ q. record (ends there box q ds2) { told = x.told ++ drop (length x.core.reports) x.core.reports }) (sym (passed-rest x.whole m [])),
      ),
      ap (λ q. rest ++ q) (nothing Client x.whole w.0 w.2) ∙ append-nil rest,
      (joined w.1, frames Server x.whole sent w.1 w.3, refl),
    ))

-- the first of what waits is told, once it waits
led-Tell : (x : Service) (box : List OutboxEntry) (us ds : List (List ℕ)) → (y : Service) (entry : OutboxEntry) (p : Result Progress AllocError) (core : Core) → AllByRecursion IsSayable (reports_in entry) → x.link ≡ Stands [] → Tells entry x.core p core
    → Writes (record x { core = core; told = x.told ++ drop (length x.core.reports) core.reports }) (bytes_in (requests_of p)) [] y → Led x box us ds y
led-Tell x box us ds y entry p core say stands tells h =
    let us2 = passed x.whole [] (bytes_in (requests_of p)) in
    let ds2 = passed x.whole [] [] in
    record {
      steps = Make (wired.Wait (entry ∷ [])) ∷ Make wired.Tell ∷ [];
      box2 = waits_on entry [] p;
      us2 = us2;
      ds2 = ds2;
      goes = (
        over x (entry ∷ []) ds2 ds2,
        wrote x box us ds (wired.Wait (entry ∷ [])) (record (ends x box [] []).wired { outbox = entry ∷ [] }) x.told x tt ((say, tt), refl) (untold x) (silent x x refl),
        (
          over y (waits_on entry [] p) us2 ds2,
          wrote x (entry ∷ []) ds2 ds2 wired.Tell (record (ends x box [] []).wired { core = core; outbox = waits_on entry [] p; up = bytes_in (requests_of p) }) (x.told ++ drop (length x.core.reports) core.reports) y
              (ap old_link stands, ap backlog_of stands) (p, waits_on entry [] p, core, (tells, refl), refl) refl h,
          refl,
        ),
      );
    }

led-Resend : (x : Service) (box : List OutboxEntry) (us ds : List (List ℕ)) → (y : Service) (s : Sent) (rest : List Sent) → x.link ≡ Stands (s ∷ rest) → Writes (record x { link = Stands rest }) (s.bytes ∷ []) [] y → Led x box us ds y
led-Resend x box us ds y s rest stands w =
    let us2 = passed x.whole [] (s.bytes ∷ []) in
    let there : Service = record x { link = Stands rest; up = x.up ++ joined w.0; down = x.down ++ joined w.1 } in
    subst (λ q. Led x box us ds q) (sym w.4) (one x box us ds there cut.Resend box us2 [] (
      (s, rest, ap old_link stands, ap backlog_of stands, ap (λ q. record (ends there box us2 []) { link = q }) (sym (ap old_link stands))),
      (joined w.0, frames Client x.whole (s.bytes ∷ []) w.0 w.2, refl),
      (joined w.1, nothing Server x.whole w.1 w.3, refl),
    ))

-- a turn of the worker's link
led-Listen : (x : Service) (box : List OutboxEntry) (us ds : List (List ℕ)) → (y : Service) (m frame rest : List ℕ) (a : Incoming) (backlog : List Sent) → x.link ≡ Stands backlog → IsFrameOf Server m frame → x.down ≡ frame ++ rest → AreSaid m a
    → Writes (record x { core = (hearing_of x.core a).core; down = rest }) (option_to_list (hearing_of x.core a).reply) [] y → Led x box us ds y
led-Listen x box us ds y m frame rest a backlog stands f at said h =
    let core = (hearing_of x.core a).core in
    let sent = reply_in (hearing_of x.core a).reply in
    let w : Writes (record x { core = core; down = rest }) sent [] y = subst (λ q. Writes (record x { core = core; down = rest }) q [] y) (same-reply (hearing_of x.core a).reply) h in
    let z : Wired = record (ends x box [] []).wired { core = core; up = sent } in
    let there : Service = record x { core = core; up = x.up ++ joined w.0; down = rest ++ joined w.1 } in
    let us2 = passed x.whole [] sent in
    subst (λ q. Led x box us ds q) (sym w.4) (one x box us ds there (Make wired.Listen) box us2 [] (
      m,
      frame,
      rest,
      f,
      at,
      (
        z,
        ap old_link stands,
        (m, [], a, refl, said, refl),
        ap (λ q. record (ends there box us2 []) { told = q }) (untold x ∙ ap (λ q. x.told ++ drop (length x.core.reports) q) (sym (hears-only x.core a)))
            ∙ ap (λ q. record (ends there box us2 q) { told = x.told ++ drop (length x.core.reports) core.reports }) (sym (passed-rest x.whole m [])),
      ),
      ap (λ q. rest ++ q) (nothing Server x.whole w.1 w.3) ∙ append-nil rest,
      (joined w.0, frames Client x.whole sent w.0 w.2, refl),
    ))

-- ---- steps that write nothing

led-Drain : (x : Service) (box : List OutboxEntry) (us ds : List (List ℕ)) → (y : Service) → x.shown < length x.lane.put → y ≡ record x { shown = x.shown + 1 } → Led x box us ds y
led-Drain x box us ds y put e =
    let z : Wired = record (ends x box [] []).wired { shown = x.shown + 1 } in
    one x box us ds y (Make wired.Drain) box (passed x.whole [] []) (passed x.whole [] []) (wrote x box us ds wired.Drain z x.told y tt (put, refl) (untold x) (silent (record x { shown = x.shown + 1 }) y e))

led-Stay : (x : Service) (box : List OutboxEntry) (us ds : List (List ℕ)) → (y : Service) → y ≡ x → Led x box us ds y
led-Stay x box us ds y e = record { steps = []; box2 = box; us2 = us; ds2 = ds; goes = ap (λ q. over q box us ds) e }

led-Break : (x : Service) (box : List OutboxEntry) (us ds : List (List ℕ)) → (y : Service) (i j : ℕ) → y ≡ record x { whole = false; up = take i x.up; down = take j x.down } → Led x box us ds y
led-Break x box us ds y i j e =
    let there : Service = record x { whole = false; up = take i x.up; down = take j x.down } in
    subst (λ q. Led x box us ds q) (sym e) (one x box us ds there (cut.Break i j) box [] [] (
      ap (λ q. ends there box q []) (sym (take-nil i)) ∙ ap (λ q. ends there box (take i []) q) (sym (take-nil j)),
      idle Client (take i x.up),
      idle Server (take j x.down),
    ))

led-Leave : (x : Service) (box : List OutboxEntry) (us ds : List (List ℕ)) → (y : Service) → y ≡ record x { link = Apart; whole = false; down = [] } → Led x box us ds y
led-Leave x box us ds y e =
    let there : Service = record x { link = Apart; whole = false; down = [] } in
    subst (λ q. Led x box us ds q) (sym e) (one x box us ds there cut.Leave box [] [] (
      (broken (ends x box [] []) (ends x box [] []).wired, refl, refl),
      idle Client x.up,
      idle Server [],
    ))

led-Lose : (x : Service) (box : List OutboxEntry) (us ds : List (List ℕ)) → (y : Service) (e : Event) → (e ≡ Cut) ⊎ (e ≡ Down) → refusal x.lane.trace e ≡ None → y ≡ record x { lane = with_event x.lane e; whole = false; up = [] } → Led x box us ds y
led-Lose x box us ds y e which ok at =
    let there : Service = record x { lane = with_event x.lane e; whole = false; up = [] } in
    subst (λ q. Led x box us ds q) (sym at) (one x box us ds there (cut.Lose e) box [] [] (
      (reply x.lane.trace e, with_event x.lane e, which, (refl, refl, ok), refl),
      idle Client [],
      idle Server x.down,
    ))

-- ---- a login

led-Meet : (x : Service) (box : List OutboxEntry) (us ds : List (List ℕ)) → (y : Service) (resumed : Bool) (named : Option (List ℕ)) → x.link ≡ Apart → refusal (cleared resumed x.lane).trace Up ≡ None
    → (resumed ≡ true → (is_cut x.lane.trace ≡ true) × ((x.heard ≡ true) ⊎ (x.core ≡ new_core)))
    → Writes (record x { lane = taken_up resumed x.lane; carried = carried_with resumed x.carried named; link = Greeted resumed; whole = true; heard = resumed; up = []; down = [] }) [] (bytes_in (carried_with resumed x.carried named).orders) y
    → Led x box us ds y
led-Meet x box us ds y resumed named apart ok may w =
    let carry = carried_with resumed x.carried named in
    let there : Service = record x { lane = taken_up resumed x.lane; carried = carry; link = Greeted resumed; whole = true; heard = resumed; up = joined w.0; down = joined w.1 } in
    let ds2 = bytes_in carry.orders in
    subst (λ q. Led x box us ds q) (sym w.4) (one x box us ds there (cut.Meet resumed named) box [] ds2 (
      (ap old_link apart, ok, may, ap (λ q. record (ends there box [] ds2) { backlog = q }) (sym (ap backlog_of apart))),
      (joined w.0, are Client [] w.0 w.2, refl),
      (joined w.1, are Server ds2 w.1 w.3, refl),
    ))

led-Resume : (x : Service) (box : List OutboxEntry) (us ds : List (List ℕ)) → (y : Service) → x.link ≡ Greeted true → y ≡ record x { link = Stands (unanswered_requests x.core) } → Led x box us ds y
led-Resume x box us ds y at e = subst (λ q. Led x box us ds q) (sym e) (one x box us ds (record x { link = Stands (unanswered_requests x.core) }) cut.Begin box [] [] (
  (true, ap old_link at, refl),
  idle Client x.up,
  idle Server x.down,
))

led-Begin : (x : Service) (box : List OutboxEntry) (us ds : List (List ℕ)) → (y : Service) → x.link ≡ Greeted false → y ≡ record x { core = new_core; link = Stands []; heard = true } → Led x box us ds y
led-Begin x box us ds y at e = subst (λ q. Led x box us ds q) (sym e) (one x box us ds (record x { core = new_core; link = Stands []; heard = true }) cut.Begin [] [] [] (
  (false, ap old_link at, refl),
  idle Client x.up,
  idle Server x.down,
))

-- ---- all steps

led : (x y : Service) (box : List OutboxEntry) (us ds : List (List ℕ)) → Step x y → Led x box us ds y
led x y box us ds (of.Start argv few utf8 h) = led-Start x box us ds y argv (few, utf8) h
led x y box us ds (of.Interrupt k h) = led-Interrupt x box us ds y k h
led x y box us ds (of.Inquire a few utf8 room h) = led-Inquire x box us ds y a (few, utf8) room h
led x y box us ds (of.Turn m frame rest e f at event ok h) = led-Turn x box us ds y m frame rest e f at event ok h
led x y box us ds (of.Tell entry p core say stands tells h) = led-Tell x box us ds y entry p core say stands tells h
led x y box us ds (of.Resend s rest stands h) = led-Resend x box us ds y s rest stands h
led x y box us ds (of.Listen m frame rest a backlog stands f at said h) = led-Listen x box us ds y m frame rest a backlog stands f at said h
led x y box us ds (of.Drain put e) = led-Drain x box us ds y put e
led x y box us ds (of.Stay e) = led-Stay x box us ds y e
led x y box us ds (of.Break i j e) = led-Break x box us ds y i j e
led x y box us ds (of.Leave e) = led-Leave x box us ds y e
led x y box us ds (of.Lose e which ok at) = led-Lose x box us ds y e which ok at
led x y box us ds (of.Meet resumed named apart ok may h) = led-Meet x box us ds y resumed named apart ok may h
led x y box us ds (of.Resume at e) = led-Resume x box us ds y at e
led x y box us ds (of.Begin at e) = led-Begin x box us ds y at e

-- ---- runs

leads : {x y : Service} → Goes x y → (box : List OutboxEntry) (us ds : List (List ℕ)) → Led x box us ds y
leads {x = x} of.Ends box us ds = record { steps = []; box2 = box; us2 = us; ds2 = ds; goes = refl }
leads (of.Then {x = x} {y = y} {z = z} s g) box us ds =
    let a : Led x box us ds y = led x y box us ds s in
    let b : Led y a.box2 a.us2 a.ds2 z = leads g a.box2 a.us2 a.ds2 in
    record {
      steps = a.steps ++ b.steps;
      box2 = b.box2;
      us2 = b.us2;
      ds2 = b.ds2;
      goes = append a.steps b.steps (over x box us ds) (over y a.box2 a.us2 a.ds2) (over z b.box2 b.us2 b.ds2) a.goes b.goes;
    }

runs-over : (id capacity : ℕ) (resumable : Bool) (y : Service) (a : Led (opening id capacity resumable) [] [] [] y) → GoesOver (bytes_apart id capacity resumable) a.steps (over y a.box2 a.us2 a.ds2)
runs-over id capacity resumable y a = subst (λ q. GoesOver q a.steps (over y a.box2 a.us2 a.ds2)) (same-opening id capacity resumable) a.goes

-- ---- the laws

pub service_is_logged : ServiceIsLogged
service_is_logged id capacity resumable y k g =
    let a : Led (opening id capacity resumable) [] [] [] y = leads g [] [] [] in
    bytes_are_logged id capacity resumable a.steps (over y a.box2 a.us2 a.ds2) k (runs-over id capacity resumable y a)

pub all_of_service_is_seen : AllOfServiceIsSeen
all_of_service_is_seen id capacity resumable y k g heard started none shown =
    let a : Led (opening id capacity resumable) [] [] [] y = leads g [] [] [] in
    all_bytes_are_logged id capacity resumable a.steps (over y a.box2 a.us2 a.ds2) k (runs-over id capacity resumable y a) heard started none shown

same-link : (link : Link) → link_of (old_link link) (backlog_of link) ≡ link
same-link Apart = refl
same-link (Greeted resumed) = refl
same-link (Stands backlog) = refl

pub service_is_over_bytes : ServiceIsOverBytes
service_is_over_bytes id capacity resumable y g =
    let a : Led (opening id capacity resumable) [] [] [] y = leads g [] [] [] in
    (a.steps, over y a.box2 a.us2 a.ds2, runs-over id capacity resumable y a, ap (λ q. record y { link = q }) (same-link y.link))

-- A turn of the worker's link, over connections that are cut.
use Rattle.std.proofs.Common.{◌≡◌, refl, sym, ◌∙◌, ap, subst, ℕ, ◌<◌, ◌^◌, Bool, true, false, cond, not, ◌&&◌, List, [], ◌∷◌, ◌++◌, map, length, Some, None, Option, inl, inr, codes}
use Rattle.std.specs.Prelude.{slice_get, drop}
use Rattle.std.specs.FinMap.{get}
use Rattle.std.specs.List.{AllByRecursion}
use Rattle.std.proofs.lemmas.List.{append-nil}
use Rattle.bm_session.specs.Trace.{Trace, was_order}
use Rattle.bm_session.specs.Texts.{exception_text}
use Rattle.bm_value.specs.Spelling.{Spells}
use Rattle.bm_msg.specs.Incoming.{message, said}
use Rattle.bm_msg.specs.Meaning.{start_command, interrupt_command}
use Rattle.bm_msg.specs.Trees.{answer}
use Rattle.bm_link.specs.Asks.{asks_for}
use Rattle.bm_link.specs.Orders.{args_of}
use Rattle.bm_link.specs.declared.asks.Ask.{Ask}
use Rattle.bm_link.specs.declared.asks.Ask.TheVariants as ask
use Rattle.bm_work.specs.Core.{Core, Hearing, heard, heard_request, first_heard, repeated, freed, awaits, answer_to, act_of, started_by}
use Rattle.bm_work.specs.Replies.{reply}
use Rattle.bm_work.specs.declared.act.WorkAct.TheVariants as acts
use Rattle.bm_work.specs.declared.sent.Sent.{Sent}
use Rattle.bm_work.specs.declared.worker_answer.WorkerAnswer.{WorkerAnswer}
use Rattle.bm_work.specs.declared.worker_answer.WorkerAnswer.TheVariants as work
use Rattle.bm_replay.specs.Schedule.{Worker, Run, with_run, has_run, was_started, was_refused, requests_taken, is_schedule_from, after}
use Rattle.bm_wired.specs.Cuts.{Joined, Link, Stands, passed}
use Rattle.bm_wired.specs.Wired.{Wired, Moves, Listen, reply_in}
use Rattle.bm_wired.proofs.Sim.{Upward, asks_up, answers_up, up_bytes, FitsUp, Downward, starts_down, stops_down, asks_down, answers_down, down_bytes, FitsDown, Past}
use Rattle.bm_wired.proofs.Parts.{all-append, all-map, map-both}
use Rattle.bm_wired.proofs.Downward.{means, said-as, hearing-is, down-read}
use Rattle.bm_wired.proofs.Listens.{get-own, get-stays, heard_core, past-heard, past-run, may-run}
use Rattle.bm_wired.proofs.Joint.{Joint, Stepped, Knowing, AreUp, AreDown, Fits, Flows, scene, take-front, passed-same, passed-rest, flows-append}
use Rattle.bm_wired.proofs.CutLane.{made, told-same}

-- a response is sent

knowing-reply : (t : Trace) (core core2 : Core) (up : List (List ℕ)) (link : Link) (backlog : List Sent) (whole : Bool) (w w2 : Worker) (n : ℕ) (a : WorkerAnswer) → core2.reports ≡ core.reports → core2.answered ≡ core.answered → ((u : Upward) → FitsUp core u → FitsUp core2 u) → get core2.answers n ≡ Some a → n < 2 ^ 63
    → w2.reports ≡ w.reports → Past t core2 w2.ran → Knowing t core up link backlog whole w → Knowing t core2 (passed whole up (up ++ reply n a ∷ [])) link backlog whole w2
knowing-reply t core core2 up link backlog whole w w2 n a e f still got low v past k = record {
  reports = v ∙ k.reports ∙ sym e;
  past = past;
  sayable = subst (AllByRecursion _) (sym e) k.sayable;
  answered = subst (AllByRecursion _) (sym f) k.answered;
  upward = (more whole).0;
  rest = λ b s. let r = k.rest b s in record {
    again = r.again;
    are = r.are;
    fits = all-map (FitsUp core) (FitsUp core2) r.again still r.fits;
    flows = subst (λ i. Flows i r.again (length core2.reports)) (sym (more whole).1) (subst (λ q. Flows k.upward.end r.again (length q)) (sym e) r.flows);
  };
  unlike = k.unlike;
}
  where
    fits : AllByRecursion (FitsUp core2) k.upward.ups
    fits = all-map (FitsUp core) (FitsUp core2) k.upward.ups still k.upward.fits

    more : (b : Bool) → (u : AreUp (requests_taken t) core2 (passed b up (up ++ reply n a ∷ []))) × (u.end ≡ k.upward.end)
    more true = (
      record {
        ups = k.upward.ups ++ answers_up n a ∷ [];
        is = ap (λ q. q ++ reply n a ∷ []) k.upward.is ∙ sym (map-both up_bytes k.upward.ups (answers_up n a ∷ []));
        fits = all-append (FitsUp core2) k.upward.ups (answers_up n a ∷ []) fits ((got, low), tt);
        end = k.upward.end;
        flows = flows-append (requests_taken t) k.upward.ups k.upward.end (answers_up n a ∷ []) k.upward.end k.upward.flows refl;
      },
      refl,
    )
    more false = (
      record {
        ups = k.upward.ups;
        is = take-front up (reply n a ∷ []) ∙ k.upward.is;
        fits = fits;
        end = k.upward.end;
        flows = k.upward.flows;
      },
      refl,
    )

still-heard : (core : Core) (n : ℕ) (a : WorkerAnswer) (started : List ℕ) → get core.answers n ≡ None → (u : Upward) → FitsUp core u → FitsUp (heard_core core n a started) u
still-heard core n a started new (asks_up i r) f = f
still-heard core n a started new (answers_up i b) f = (get-stays core.answers n i a b new f.0, f.1)

still-freed : (core : Core) (n : ℕ) (u : Upward) → FitsUp core u → FitsUp (freed core n) u
still-freed core n (asks_up i r) f = f
still-freed core n (answers_up i b) f = f

fits-down : (t : Trace) (d : Downward) → Fits t d → FitsDown t d
fits-down t (starts_down n k argv) f = f
fits-down t (stops_down n k) f = f
fits-down t (asks_down n q) f = f
fits-down t (answers_down n v) f = f.0

-- what is heard first, of what is under way

module _ (c : ℕ) (x : Joined) (w : Worker) (j : Joint x w) (known : x.heard ≡ true) (k : Knowing x.wired.lane.trace x.wired.core x.wired.up x.link x.backlog x.whole w) (m : List ℕ) (ds : List Downward) (down : x.wired.down ≡ m ∷ map down_bytes ds) (fits : AllByRecursion (Fits x.wired.lane.trace) ds) where
  abbrev After : Hearing → Type 0
  After h = Stepped c x w (made x (record x.wired { core = h.core; up = x.wired.up ++ reply_in h.reply; down = map down_bytes ds }))

  down-left : AreDown x.wired.lane.trace (passed x.whole x.wired.down (map down_bytes ds))
  down-left = record { downs = ds; is = ap (λ q. passed x.whole q (map down_bytes ds)) down ∙ passed-rest x.whole m (map down_bytes ds); fits = fits }

  replied : (core2 : Core) (n : ℕ) (a : WorkerAnswer) → core2.reports ≡ x.wired.core.reports → core2.answered ≡ x.wired.core.answered → ((u : Upward) → FitsUp x.wired.core u → FitsUp core2 u) → get core2.answers n ≡ Some a → n < 2 ^ 63 → Past x.wired.lane.trace core2 w.ran
      → After (record { act = acts.Nothing; reply = Some (reply n a); core = core2 })
  replied core2 n a e f still got low past = record {
    acts = [];
    worker = w;
    scheduled = refl;
    same = refl;
    told = ap (λ q. x.told ++ drop (length x.wired.core.reports) q) e ∙ told-same x;
    parts = record {
      put = j.parts.put;
      waits = j.parts.waits;
      kept = j.parts.kept;
      down = down-left;
      side = inl (known, knowing-reply x.wired.lane.trace x.wired.core core2 x.wired.up x.link x.backlog x.whole w w n a e f still got low refl past k);
    };
  }

  -- a request that comes again
  hears-again : (n : ℕ) (first : WorkerAnswer) → n < 2 ^ 63 → get x.wired.core.answers n ≡ Some first → After (repeated x.wired.core n first)
  hears-again n first low got = replied x.wired.core n first refl refl (λ u f. f) got low k.past

  -- one that starts nothing
  hears-quiet : (n : ℕ) (a : WorkerAnswer) → n < 2 ^ 63 → get x.wired.core.answers n ≡ None → After (first_heard x.wired.core n a acts.Nothing [])
  hears-quiet n a low new = replied (heard_core x.wired.core n a []) n a refl refl (still-heard x.wired.core n a [] new) (get-own x.wired.core.answers n a) low (past-heard x.wired.lane.trace x.wired.core w.ran n a new k.past)

  -- a start that is run
  hears-run : (n i : ℕ) → n < 2 ^ 63 → get x.wired.core.answers n ≡ None → was_order x.wired.lane.trace i n ≡ true → was_started x.wired.lane.trace i ≡ true → After (first_heard x.wired.core n work.Done acts.Nothing (i ∷ []))
  hears-run n i low new order began =
      let may = may-run x.wired.lane.trace x.wired.core w.ran n i k.past (λ q r g. (j.agree.asked q r (ap (λ rs. slice_get rs q) k.reports ∙ g)).0) order began new in
      record {
        acts = Run i ∷ [];
        worker = with_run i w;
        scheduled = ap (λ b. (b && not (was_refused x.wired.lane.trace i) && not (has_run w i)) && is_schedule_from (after (scene c x w) (Run i)) []) began
            ∙ ap (λ b. (not b && not (has_run w i)) && is_schedule_from (after (scene c x w) (Run i)) []) may.0 ∙ ap (λ b. not b && is_schedule_from (after (scene c x w) (Run i)) []) may.1;
        same = refl;
        told = told-same x;
        parts = record {
          put = j.parts.put;
          waits = j.parts.waits;
          kept = j.parts.kept;
          down = down-left;
          side = inl (
            known,
            knowing-reply x.wired.lane.trace x.wired.core (heard_core x.wired.core n work.Done (i ∷ [])) x.wired.up x.link x.backlog x.whole w (with_run i w) n work.Done refl refl (still-heard x.wired.core n work.Done (i ∷ []) new) (get-own x.wired.core.answers n work.Done) low refl
                (past-run x.wired.lane.trace x.wired.core w.ran n i new order may.2 k.past) k,
          );
        };
      }

  -- an answer to its own request
  hears-answer : (n : ℕ) → n < requests_taken x.wired.lane.trace → After (record { act = acts.Nothing; reply = None; core = freed x.wired.core n })
  hears-answer n had = record {
    acts = [];
    worker = w;
    scheduled = refl;
    same = refl;
    told = told-same x;
    parts = record {
      put = j.parts.put;
      waits = j.parts.waits;
      kept = j.parts.kept;
      down = down-left;
      side = inl (known, subst (λ u. Knowing x.wired.lane.trace (freed x.wired.core n) u x.link x.backlog x.whole w) (sym (ap (passed x.whole x.wired.up) (append-nil x.wired.up) ∙ passed-same x.whole x.wired.up)) knows);
    };
  }
    where
      more : (b : Bool) → AllByRecursion (λ q. q < requests_taken x.wired.lane.trace) (cond b (x.wired.core.answered ++ n ∷ []) x.wired.core.answered)
      more true = all-append (λ q. q < requests_taken x.wired.lane.trace) x.wired.core.answered (n ∷ []) k.answered (had, tt)
      more false = k.answered

      knows : Knowing x.wired.lane.trace (freed x.wired.core n) x.wired.up x.link x.backlog x.whole w
      knows = record {
        reports = k.reports;
        past = let p = k.past in record { running = p.running; ran_by = p.ran_by; refused_by = p.refused_by };
        sayable = k.sayable;
        answered = more (awaits x.wired.core n);
        upward = let u = k.upward in record { ups = u.ups; is = u.is; fits = all-map (FitsUp x.wired.core) (FitsUp (freed x.wired.core n)) u.ups (still-freed x.wired.core n) u.fits; end = u.end; flows = u.flows };
        rest = λ b s. let r = k.rest b s in record { again = r.again; are = r.are; fits = all-map (FitsUp x.wired.core) (FitsUp (freed x.wired.core n)) r.again (still-freed x.wired.core n) r.fits; flows = r.flows };
        unlike = k.unlike;
      }

  -- by what it is

  hears-start : (n i : ℕ) (argv : List (List ℕ)) → Fits x.wired.lane.trace (starts_down n i argv) → (o : Option WorkerAnswer) → get x.wired.core.answers n ≡ o → After (heard_request x.wired.core n (start_command i (codes "shell") (args_of argv)) o)
  hears-start n i argv f (Some first) got = hears-again n first f.2 got
  hears-start n i argv f None new = by (answer_to x.wired.core (start_command i (codes "shell") (args_of argv)))
    where
      by : (b : WorkerAnswer) → After (first_heard x.wired.core n b (act_of (start_command i (codes "shell") (args_of argv)) b) (started_by (start_command i (codes "shell") (args_of argv)) b))
      by work.Done = hears-run n i f.2 new f.0 f.1
      by work.Info = hears-quiet n work.Info f.2 new
      by work.BadArguments = hears-quiet n work.BadArguments f.2 new
      by work.NoSuchCommandName = hears-quiet n work.NoSuchCommandName f.2 new
      by work.AlreadyRuns = hears-quiet n work.AlreadyRuns f.2 new
      by work.TooManyCommands = hears-quiet n work.TooManyCommands f.2 new
      by work.NoSuchCommand = hears-quiet n work.NoSuchCommand f.2 new
      by work.NoSuchOperation = hears-quiet n work.NoSuchOperation f.2 new

  hears-stop : (n i : ℕ) → n < 2 ^ 63 → (o : Option WorkerAnswer) → get x.wired.core.answers n ≡ o → After (heard_request x.wired.core n (interrupt_command i (codes "stop")) o)
  hears-stop n i low (Some first) got = hears-again n first low got
  hears-stop n i low None new = hears-quiet n (answer_to x.wired.core (interrupt_command i (codes "stop"))) low new

  hears-ask : (n : ℕ) (q : Ask) → n < 2 ^ 63 → (o : Option WorkerAnswer) → get x.wired.core.answers n ≡ o → After (heard_request x.wired.core n (asks_for q) o)
  hears-ask n q low (Some first) got = hears-again n first low got
  hears-ask n (ask.Print shown) low None new = hears-quiet n work.Done low new
  hears-ask n ask.Keepalive low None new = hears-quiet n work.Done low new
  hears-ask n ask.GetWorkerInfo low None new = hears-quiet n work.Info low new
  hears-ask n ask.Shutdown low None new = hears-quiet n work.Done low new

  hears-told : (n : ℕ) (o : Option (List ℕ)) → n < requests_taken x.wired.lane.trace → After (heard x.wired.core (answer n o))
  hears-told n None had = hears-answer n had
  hears-told n (Some why) had = hears-answer n had

  hears : (d : Downward) → Fits x.wired.lane.trace d → After (heard x.wired.core (means d))
  hears (starts_down n i argv) f = hears-start n i argv f (get x.wired.core.answers n) refl
  hears (stops_down n i) f = hears-stop n i f.0 (get x.wired.core.answers n) refl
  hears (asks_down n q) f = hears-ask n q f.0 (get x.wired.core.answers n) refl
  hears (answers_down n v) f = hears-told n (exception_text v) f.1

pub make-Listen : (c : ℕ) (x : Joined) (w : Worker) (v : Wired) → Joint x w → x.link ≡ Stands → Moves x.wired Listen v → Stepped c x w (made x v)
make-Listen c x w v j stands h = go j.parts.down.downs (sym h.3 ∙ j.parts.down.is) j.parts.down.fits
  where
    known : (x.heard ≡ true) × Knowing x.wired.lane.trace x.wired.core x.wired.up x.link x.backlog x.whole w
    known = elim j.parts.side [
      | inl y ↦ y
      | inr y ↦ absurd (y.1.apart stands)
    ]

    go : (ds : List Downward) → h.0 ∷ h.1 ≡ map down_bytes ds → AllByRecursion (Fits x.wired.lane.trace) ds → Stepped c x w (made x v)
    go [] e f = absurd cc
    go (d ∷ ds) e f =
        let head : h.0 ≡ down_bytes d = cc in
        let tail : h.1 ≡ map down_bytes ds = cc in
        let s : said h.2 ≡ message (means d) = said-as h.0 (means d) h.2 (λ t b. down-read x.wired.lane.trace d t (fits-down x.wired.lane.trace d f.0) (subst (λ bs. Spells bs t) head b)) h.4 in
        let all : v ≡ record x.wired { core = (heard x.wired.core (means d)).core; up = x.wired.up ++ reply_in (heard x.wired.core (means d)).reply; down = map down_bytes ds } =
        h.5 ∙ ap (λ (y : Hearing). record x.wired { core = y.core; up = x.wired.up ++ reply_in y.reply; down = h.1 }) (hearing-is x.wired.core h.2 (means d) s)
        ∙ ap (λ (r : List (List ℕ)). record x.wired { core = (heard x.wired.core (means d)).core; up = x.wired.up ++ reply_in (heard x.wired.core (means d)).reply; down = r }) tail in
        subst (λ q. Stepped c x w (made x q)) (sym all) (hears c x w j known.0 known.1 h.0 ds (h.3 ∙ ap (λ r. h.0 ∷ r) tail) f.1 d f.0)

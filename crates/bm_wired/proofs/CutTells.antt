-- What the worker sends, over connections that are cut.
use Rattle.std.proofs.Common.{◌≡◌, refl, sym, ◌∙◌, ap, subst, ℕ, ◌+◌, Bool, true, false, cond, not, ◌&&◌, List, [], ◌∷◌, ◌++◌, map, length, Some, None, arith, inl, inr, append_assoc}
use Rattle.std.specs.Prelude.{Result, Ok, Err}
use Rattle.std.specs.declared.alloc.AllocError.{AllocError}
use Rattle.std.specs.List.{AllByRecursion}
use Rattle.std.proofs.lemmas.List.{append-nil, length_push, length-append}
use Rattle.bm_outbox.specs.OutboxEntries.{reports_in, command_of, told_core, finish_of}
use Rattle.bm_outbox.specs.Telling.{TellsNext}
use Rattle.bm_outbox.specs.declared.outbox_entry.OutboxEntry.{OutboxEntry}
use Rattle.bm_outbox.specs.declared.outbox_entry.OutboxEntry.TheVariants as entry
use Rattle.bm_outbox.specs.declared.progress.Progress.{Progress}
use Rattle.bm_outbox.specs.declared.progress.Progress.TheVariants as progress
use Rattle.bm_session.specs.Trace.{Trace}
use Rattle.bm_work.specs.Core.{Core, refusal, next_number, with_reports, without_command}
use Rattle.bm_work.specs.Reports.{reports_of}
use Rattle.bm_work.specs.Stream.{Report, text, code, over, sent, stream_from}
use Rattle.bm_work.specs.declared.sent.Finish.{Finish as Ending}
use Rattle.bm_work.specs.declared.sent.Finish.TheVariants.{Rc, Fault}
use Rattle.bm_work.specs.declared.sent.Sent.{Sent}
use Rattle.bm_worker_session.specs.Sessions.{requests_of}
use Rattle.bm_replay.specs.Schedule.{Worker, Say, Finish, is_running, have_ended, requests_taken, is_schedule_from, after}
use Rattle.bm_wired.specs.Cuts.{Joined, Link, Stands, passed}
use Rattle.bm_wired.specs.Wired.{Wired, Moves, Tell, bytes_in, EntryIsSayable}
use Rattle.bm_wired.specs.Service.{IsSayable}
use Rattle.bm_wired.proofs.Sim.{Upward, asks_up, answers_up, up_bytes, FitsUp, Past}
use Rattle.bm_wired.proofs.Parts.{all-append, all-map, map-both}
use Rattle.bm_wired.proofs.Tells.{accepted-runs, get-at, get-after, get-end, fits-more, filled, past-text, past-end}
use Rattle.bm_wired.proofs.Turns.{le-refl}
use Rattle.bm_wired.proofs.Joint.{Joint, Stepped, Knowing, AreAgain, AreDown, Flows, scene, take-front, drop-front, passed-same, flows-append, flows-first}
use Rattle.bm_wired.proofs.CutLane.{made, make-idle}

nothing-again : (us : List Upward) → [] ≡ map up_bytes us → us ≡ []
nothing-again [] e = refl
nothing-again (u ∷ us) e = absurd cc

-- more is reported, where nothing is to be sent again
knowing-more : (t : Trace) (core core2 : Core) (up : List (List ℕ)) (link : Link) (backlog : List Sent) (whole : Bool) (w : Worker) (rs : List Report) (us : List Upward) → link ≡ Stands → backlog ≡ []
    → core2.reports ≡ core.reports ++ rs → core2.answered ≡ core.answered → ((u : Upward) → FitsUp core u → FitsUp core2 u) → AllByRecursion (FitsUp core2) us → Flows (length core.reports) us (length core2.reports) → AllByRecursion IsSayable core2.reports → Past t core2 w.ran
    → Knowing t core up link backlog whole w → Knowing t core2 (passed whole up (up ++ map up_bytes us)) link backlog whole (record { ran = w.ran; reports = w.reports ++ rs })
knowing-more t core core2 up link backlog true w rs us stands none e a still fit flows say past k = record {
  reports = ap (λ q. q ++ rs) k.reports ∙ sym e;
  past = past;
  sayable = say;
  answered = subst (AllByRecursion _) (sym a) k.answered;
  upward = record {
    ups = k.upward.ups ++ us;
    is = ap (λ q. q ++ map up_bytes us) k.upward.is ∙ sym (map-both up_bytes k.upward.ups us);
    fits = all-append (FitsUp core2) k.upward.ups us (all-map (FitsUp core) (FitsUp core2) k.upward.ups still k.upward.fits) fit;
    end = length core2.reports;
    flows = flows-append (requests_taken t) k.upward.ups k.upward.end us (length core2.reports) k.upward.flows (subst (λ i. Flows i us (length core2.reports)) (sym all) flows);
  };
  rest = λ b s. record { again = []; are = ap bytes_in none; fits = tt; flows = refl };
  unlike = k.unlike;
}
  where
    all : k.upward.end ≡ length core.reports
    all = let r : AreAgain k.upward.end core backlog = k.rest refl stands in subst (λ q. Flows k.upward.end q (length core.reports)) (nothing-again r.again (sym (ap bytes_in none) ∙ r.are)) r.flows
knowing-more t core core2 up link backlog false w rs us stands none e a still fit flows say past k = record {
  reports = ap (λ q. q ++ rs) k.reports ∙ sym e;
  past = past;
  sayable = say;
  answered = subst (AllByRecursion _) (sym a) k.answered;
  upward = record {
    ups = k.upward.ups;
    is = take-front up (map up_bytes us) ∙ k.upward.is;
    fits = all-map (FitsUp core) (FitsUp core2) k.upward.ups still k.upward.fits;
    end = k.upward.end;
    flows = k.upward.flows;
  };
  rest = λ b s. absurd cc;
  unlike = k.unlike;
}

flows-one : (n : ℕ) (r : Report) (us : List Upward) (m : ℕ) → Flows (n + 1) us m → Flows n (asks_up n r ∷ us) m
flows-one n r us m h = (omega arith, subst (λ i. Flows i us m) (sym (ap (λ b. n + cond b 1 0) (le-refl n))) h)

running-here : (t : Trace) (core : Core) (w : Worker) (k : ℕ) (places : ℕ) → w.reports ≡ core.reports → Past t core w.ran → refusal core k places ≡ None → is_running w k ≡ true
running-here t core w k places e past ok =
    let y = past.running k (accepted-runs core k places ok) in
    ap (λ b. b && not (have_ended w.reports k)) y.0 ∙ ap (λ rs. not (have_ended rs k)) e ∙ ap not y.1

fits-ended : (core : Core) (i : ℕ) (rs : List Report) (u : Upward) → FitsUp core u → FitsUp (without_command i (with_reports rs core)) u
fits-ended core i rs (asks_up n r) h = fits-more core rs (asks_up n r) h
fits-ended core i rs (answers_up n a) h = h

-- an entry is told

module _ (c : ℕ) (x : Joined) (w : Worker) (j : Joint x w) (heard : x.heard ≡ true) (k : Knowing x.wired.lane.trace x.wired.core x.wired.up x.link x.backlog x.whole w) (stands : x.link ≡ Stands) (none : x.backlog ≡ []) (rest : List OutboxEntry) (waits : AllByRecursion EntryIsSayable rest) where
  told-text : (i : ℕ) (said : _) → refusal x.wired.core i 1 ≡ None → EntryIsSayable (entry.Text i said)
      → Stepped c x w (made x (record x.wired { core = told_core (entry.Text i said) x.wired.core; outbox = rest; up = x.wired.up ++ (sent (next_number x.wired.core) (text i said.letter said.text)).bytes ∷ [] }))
  told-text i said ok sayable = record {
    acts = Say i said.letter said.text ∷ [];
    worker = record { ran = w.ran; reports = w.reports ++ text i said.letter said.text ∷ [] };
    scheduled = ap (λ b. b && is_schedule_from (after (scene c x w) (Say i said.letter said.text)) []) (running-here x.wired.lane.trace x.wired.core w i 1 k.reports k.past ok);
    same = refl;
    told = ap (λ q. x.told ++ q) (drop-front x.wired.core.reports (text i said.letter said.text ∷ []));
    parts = record {
      put = j.parts.put;
      waits = waits;
      kept = j.parts.kept;
      down = subst (AreDown x.wired.lane.trace) (sym (passed-same x.whole x.wired.down)) j.parts.down;
      side = inl (
        heard,
        knowing-more x.wired.lane.trace x.wired.core (told_core (entry.Text i said) x.wired.core) x.wired.up x.link x.backlog x.whole w (text i said.letter said.text ∷ []) (asks_up (length x.wired.core.reports) (text i said.letter said.text) ∷ []) stands none refl refl
            (fits-more x.wired.core (text i said.letter said.text ∷ [])) (get-end x.wired.core.reports (text i said.letter said.text), tt)
            (flows-one (length x.wired.core.reports) (text i said.letter said.text) [] _ (sym (length_push x.wired.core.reports (text i said.letter said.text))))
            (all-append IsSayable x.wired.core.reports (text i said.letter said.text ∷ []) k.sayable sayable) (past-text x.wired.lane.trace x.wired.core w.ran (text i said.letter said.text) (λ q. refl) k.past) k,
      );
    };
  }

  told-end : (i : ℕ) (f : Ending) → AllByRecursion IsSayable (reports_of i f) → refusal x.wired.core i (length (reports_of i f)) ≡ None
      → Stepped c x w (made x (record x.wired { core = without_command i (with_reports (reports_of i f) x.wired.core); outbox = rest; up = x.wired.up ++ bytes_in (stream_from (next_number x.wired.core) (reports_of i f)) }))
  told-end i (Fault fault) sayable ok = record {
    acts = Finish i (Fault fault) ∷ [];
    worker = record { ran = w.ran; reports = w.reports ++ over i (Some fault) ∷ [] };
    scheduled = ap (λ b. b && is_schedule_from (after (scene c x w) (Finish i (Fault fault))) []) (running-here x.wired.lane.trace x.wired.core w i 1 k.reports k.past ok);
    same = refl;
    told = ap (λ q. x.told ++ q) (drop-front x.wired.core.reports (over i (Some fault) ∷ []));
    parts = record {
      put = j.parts.put;
      waits = waits;
      kept = j.parts.kept;
      down = subst (AreDown x.wired.lane.trace) (sym (passed-same x.whole x.wired.down)) j.parts.down;
      side = inl (
        heard,
        knowing-more x.wired.lane.trace x.wired.core (without_command i (with_reports (over i (Some fault) ∷ []) x.wired.core)) x.wired.up x.link x.backlog x.whole w (over i (Some fault) ∷ []) (asks_up (length x.wired.core.reports) (over i (Some fault)) ∷ []) stands none refl refl
            (fits-ended x.wired.core i (over i (Some fault) ∷ [])) (get-end x.wired.core.reports (over i (Some fault)), tt)
            (flows-one (length x.wired.core.reports) (over i (Some fault)) [] _ (sym (length_push x.wired.core.reports (over i (Some fault)))))
            (all-append IsSayable x.wired.core.reports (over i (Some fault) ∷ []) k.sayable sayable) (past-end x.wired.lane.trace x.wired.core w.ran i (Some fault) k.past) k,
      );
    };
  }
  told-end i (Rc z) sayable ok = record {
    acts = Finish i (Rc z) ∷ [];
    worker = record { ran = w.ran; reports = w.reports ++ code i z ∷ over i None ∷ [] };
    scheduled = ap (λ b. b && is_schedule_from (after (scene c x w) (Finish i (Rc z))) []) (running-here x.wired.lane.trace x.wired.core w i 2 k.reports k.past ok);
    same = refl;
    told = ap (λ q. x.told ++ q) (drop-front x.wired.core.reports (code i z ∷ over i None ∷ []));
    parts = record {
      put = j.parts.put;
      waits = waits;
      kept = j.parts.kept;
      down = subst (AreDown x.wired.lane.trace) (sym (passed-same x.whole x.wired.down)) j.parts.down;
      side = inl (
        heard,
        knowing-more x.wired.lane.trace x.wired.core (without_command i (with_reports (code i z ∷ over i None ∷ []) x.wired.core)) x.wired.up x.link x.backlog x.whole w (code i z ∷ over i None ∷ []) (asks_up (length x.wired.core.reports) (code i z) ∷ asks_up (length x.wired.core.reports + 1) (over i None) ∷ []) stands none refl refl
            (fits-ended x.wired.core i (code i z ∷ over i None ∷ [])) (get-at x.wired.core.reports (code i z) (over i None ∷ []), (get-after x.wired.core.reports (code i z) (over i None), tt))
            (flows-one (length x.wired.core.reports) (code i z) (asks_up (length x.wired.core.reports + 1) (over i None) ∷ []) _ (flows-one (length x.wired.core.reports + 1) (over i None) [] _ (sym (length-append x.wired.core.reports (code i z ∷ over i None ∷ []) ∙ omega arith))))
            (all-append IsSayable x.wired.core.reports (code i z ∷ over i None ∷ []) k.sayable sayable)
            (subst (λ rs. Past x.wired.lane.trace (record { running = (without_command i x.wired.core).running; reports = rs; answered = x.wired.core.answered; answers = x.wired.core.answers }) w.ran) (append_assoc x.wired.core.reports (code i z ∷ []) (over i None ∷ []))
            (past-end x.wired.lane.trace (with_reports (code i z ∷ []) x.wired.core) w.ran i None (past-text x.wired.lane.trace x.wired.core w.ran (code i z) (λ q. refl) k.past))) k,
      );
    };
  }

  told-entry : (first : OutboxEntry) → EntryIsSayable first → refusal x.wired.core (command_of first) (length (reports_in first)) ≡ None
      → Stepped c x w (made x (record x.wired { core = told_core first x.wired.core; outbox = rest; up = x.wired.up ++ bytes_in (stream_from (next_number x.wired.core) (reports_in first)) }))
  told-entry (entry.Text i said) sayable ok = told-text i said ok sayable
  told-entry (entry.End i e) sayable ok = told-end i (finish_of e) sayable ok

pub make-Tell : (c : ℕ) (x : Joined) (w : Worker) (v : Wired) → Joint x w → x.link ≡ Stands → x.backlog ≡ [] → Moves x.wired Tell v → Stepped c x w (made x v)
make-Tell c x w v j stands none h = go x.wired.outbox refl h.0 h.3 h.4
  where
    known : (x.heard ≡ true) × Knowing x.wired.lane.trace x.wired.core x.wired.up x.link x.backlog x.whole w
    known = elim j.parts.side [
      | inl y ↦ y
      | inr y ↦ absurd (y.1.apart stands)
    ]

    -- nothing was told
    idle : (o : List OutboxEntry) → AllByRecursion EntryIsSayable o → Stepped c x w (made x (record x.wired { outbox = o; up = x.wired.up ++ [] }))
    idle o waits = subst (λ u. Stepped c x w (made x (record x.wired { outbox = o; up = u }))) (sym (append-nil x.wired.up)) (make-idle c x w o j waits)

    go : (out : List OutboxEntry) → x.wired.outbox ≡ out → (p : Result Progress AllocError) → TellsNext out x.wired.core p h.1 h.2 → v ≡ record x.wired { core = h.2; outbox = h.1; up = x.wired.up ++ bytes_in (requests_of p) } → Stepped c x w (made x v)
    go [] eq p t e = subst (λ q. Stepped c x w (made x q)) (sym (filled x.wired v h.2 x.wired.core h.1 [] (requests_of p) [] e t.2 t.1 (ap requests_of t.0))) (idle [] tt)
    go (first ∷ rest) eq (Ok (progress.Text s)) t e = let ws = subst (AllByRecursion EntryIsSayable) eq j.parts.waits in subst (λ q. Stepped c x w (made x q)) (sym (filled x.wired v h.2 (told_core first x.wired.core) h.1 rest (s ∷ []) (stream_from (next_number x.wired.core) (reports_in first)) e t.0.2 t.1 t.0.1)) (told-entry c x w j known.0 known.1 stands none rest ws.1 first ws.0 t.0.0)
    go (first ∷ rest) eq (Ok (progress.End q)) t e = let ws = subst (AllByRecursion EntryIsSayable) eq j.parts.waits in subst (λ q. Stepped c x w (made x q)) (sym (filled x.wired v h.2 (told_core first x.wired.core) h.1 rest q.items (stream_from (next_number x.wired.core) (reports_in first)) e t.0.2 t.1 t.0.1)) (told-entry c x w j known.0 known.1 stands none rest ws.1 first ws.0 t.0.0)
    go (first ∷ rest) eq (Ok progress.Nothing) t e = absurd t.0
    go (first ∷ rest) eq (Ok progress.Full) t e = subst (λ q. Stepped c x w (made x q)) (sym (filled x.wired v h.2 x.wired.core h.1 (first ∷ rest) [] [] e t.0.1 t.1 refl)) (idle (first ∷ rest) (subst (AllByRecursion EntryIsSayable) eq j.parts.waits))
    go (first ∷ rest) eq (Ok progress.Passed) t e = subst (λ q. Stepped c x w (made x q)) (sym (filled x.wired v h.2 x.wired.core h.1 rest [] [] e t.0.1 t.1 refl)) (idle rest (subst (AllByRecursion EntryIsSayable) eq j.parts.waits).1)
    go (first ∷ rest) eq (Err q) t e = subst (λ q. Stepped c x w (made x q)) (sym (filled x.wired v h.2 x.wired.core h.1 (first ∷ rest) [] [] e t.0 t.1 refl)) (idle (first ∷ rest) (subst (AllByRecursion EntryIsSayable) eq j.parts.waits))

-- the oldest that waits is sent again

again-first : (t : Trace) (core : Core) (up : List (List ℕ)) (link : Link) (s : Sent) (rest : List Sent) (whole : Bool) (w : Worker) → link ≡ Stands → Knowing t core up link (s ∷ rest) whole w → Knowing t core (passed whole up (up ++ s.bytes ∷ [])) link rest whole w
again-first t core up link s rest true w stands k = go (k.rest refl stands).again (k.rest refl stands).are (k.rest refl stands).fits (k.rest refl stands).flows
  where
    go : (us : List Upward) → s.bytes ∷ bytes_in rest ≡ map up_bytes us → AllByRecursion (FitsUp core) us → Flows k.upward.end us (length core.reports) → Knowing t core (up ++ s.bytes ∷ []) link rest true w
    go [] are fits flows = absurd cc
    go (u ∷ us) are fits flows =
        let first = flows-first k.upward.end u us (length core.reports) flows in
        let head : s.bytes ≡ up_bytes u = cc in
        let tail : bytes_in rest ≡ map up_bytes us = cc in
        record {
          reports = k.reports;
          past = k.past;
          sayable = k.sayable;
          answered = k.answered;
          upward = record {
            ups = k.upward.ups ++ u ∷ [];
            is = ap (λ q. up ++ q ∷ []) head ∙ ap (λ q. q ++ up_bytes u ∷ []) k.upward.is ∙ sym (map-both up_bytes k.upward.ups (u ∷ []));
            fits = all-append (FitsUp core) k.upward.ups (u ∷ []) k.upward.fits (fits.0, tt);
            end = first.0;
            flows = flows-append (requests_taken t) k.upward.ups k.upward.end (u ∷ []) first.0 k.upward.flows first.1;
          };
          rest = λ b q. record { again = us; are = tail; fits = fits.1; flows = first.2 };
          unlike = k.unlike;
        }
again-first t core up link s rest false w stands k = record {
  reports = k.reports;
  past = k.past;
  sayable = k.sayable;
  answered = k.answered;
  upward = record { ups = k.upward.ups; is = take-front up (s.bytes ∷ []) ∙ k.upward.is; fits = k.upward.fits; end = k.upward.end; flows = k.upward.flows };
  rest = λ b q. absurd cc;
  unlike = k.unlike;
}

pub step-Resend : (c : ℕ) (x : Joined) (w : Worker) (s : Sent) (rest : List Sent) → Joint x w → x.link ≡ Stands → x.backlog ≡ s ∷ rest → Stepped c x w (record x { wired = record x.wired { up = passed x.whole x.wired.up (x.wired.up ++ s.bytes ∷ []) }; backlog = rest })
step-Resend c x w s rest j stands e = record {
  acts = [];
  worker = w;
  scheduled = refl;
  same = refl;
  told = sym (append-nil x.told);
  parts = record {
    put = j.parts.put;
    waits = j.parts.waits;
    kept = j.parts.kept;
    down = j.parts.down;
    side = elim j.parts.side [
      | inl y ↦ inl (y.0, again-first x.wired.lane.trace x.wired.core x.wired.up x.link s rest x.whole w stands (subst (λ b. Knowing x.wired.lane.trace x.wired.core x.wired.up x.link b x.whole w) e y.1))
      | inr y ↦ absurd (y.1.apart stands)
    ];
  };
}

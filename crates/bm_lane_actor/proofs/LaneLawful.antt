-- The laws of a lane's policy.
use Rattle.std.proofs.Common.{◌≡◌, refl, sym, ap, ◌∙◌, ℕ, ◌+◌, ◌≤◌, ◌<◌, Bool, true, false, cond, List, [], ◌∷◌, count_by, arith}
use Rattle.std.specs.Prelude.{◌-◌, ◌==◌, ◌&&◌, ◌||◌, not, nat_le, nat_lt, Option, Some, None, is_some}
use Rattle.std.specs.Option.{option_map_or}
use Rattle.std.specs.List.{list_any}
use Rattle.std.proofs.lemmas.Bool.{true≢false}
use Rattle.std.proofs.lemmas.Bool.Decides.{nat_tests}
use Rattle.std.proofs.lemmas.List.Sums.{sum_by-cons}
use Rattle.bm_lane_actor.specs.declared.peer_timer.PeerAction.{PeerAction}
use Rattle.bm_lane_actor.specs.declared.peer_timer.PeerAction.TheVariants as action
use Rattle.bm_lane_actor.specs.declared.login_fates.WaitingFate.{WaitingFate}
use Rattle.bm_lane_actor.specs.declared.login_fates.WaitingFate.TheVariants as waiting
use Rattle.bm_lane_actor.specs.declared.lane_policy.LaneInput.{LaneInput}
use Rattle.bm_lane_actor.specs.declared.lane_policy.LaneInput.TheVariants.{Look, Login, Attached, Ended, PutOff}
use Rattle.bm_lane_actor.specs.declared.lane_policy.SecondAct.TheVariants as second
use Rattle.bm_lane_actor.specs.LoginFates.{login_fate, waiting_fate}
use Rattle.bm_lane_actor.specs.PeerTimer.{PeerView, action_at, after_action, has_passed, heard_at, is_unanswered, started, wanted_at}
use Rattle.bm_lane_actor.specs.LanePolicy.{PolicyView, acts_of, fate_acts, fate_after, is_nothing, is_read, is_waiting, link_act, peer_act, peer_after, policy_after, second_of}
use Rattle.bm_lane_actor.specs.LaneLaws.{Arrival, AskedGivenUp, AskedHaveTime, AskedNotSooner, AskedOnce, AskedOnceEach, HeardNotFailed, IsUnasked, Moment, NoneWaits, NotAskedSooner, OnlyReadFail, SilentAsked, UnaskedNotFailed, WaitingAnsweredOnce, WantedGivenUp, WantedNotSooner, after, asks, asks_before, comes_to_wait, fails, is_fail, is_from, is_ping, is_read_out, is_sign, logs_in, may_ask, may_ask_again, moment, moments, quiet_look, shows_life, takes_place, waits_no_more}

-- neither of two tests holds
neither : (a b : Bool) → (a || b) ≡ false → (a ≡ false) × (b ≡ false)
neither true b h = absurd (true≢false h)
neither false b h = (refl, h)

either-none : (a b : Bool) → a ≡ false → b ≡ false → (a || b) ≡ false
either-none a b h g = ap (λ x. x || b) h ∙ g

counted : {A : Type 0} (p : A → Bool) (x : A) (xs : List A) → count_by p (x ∷ xs) ≡ cond (p x) 1 0 + count_by p xs
counted p x xs = sum_by-cons (λ y. cond (p y) 1 0) x xs

none-counted : {A : Type 0} (p : A → Bool) (xs : List A) → list_any p xs ≡ false → count_by p xs ≡ 0
none-counted p [] h = refl
none-counted p (x ∷ xs) h =
    let parts = neither (p x) (list_any p xs) h in
    let one : ◌≡◌ {A = ℕ} (cond (p x) 1 0) 0 = ap (λ b. cond b 1 0) parts.0 in
    omega (arith, counted p x xs, one, none-counted p xs parts.1)

zero-test : (b : Bool) → ◌≡◌ {A = ℕ} (cond b 1 0) 0 → b ≡ false
zero-test true e = absurd (omega (arith, e))
zero-test false e = refl

none-is-counted : {A : Type 0} (p : A → Bool) (xs : List A) → count_by p xs ≡ 0 → list_any p xs ≡ false
none-is-counted p [] h = refl
none-is-counted p (x ∷ xs) h =
    either-none (p x) (list_any p xs) (zero-test (p x) (omega (arith, counted p x xs, h))) (none-is-counted p xs (omega (arith, counted p x xs, h)))

same-count : (b c : Bool) → b ≡ c → ◌≡◌ {A = ℕ} (cond b 1 0) (cond c 1 0)
same-count b c h = ap (λ x. cond x 1 0) h

-- The link that waits.

abbrev at : LaneInput → ℕ → PolicyView → Moment
at i now p = record { before = p; input = i; now = now }

look-pays : (w r : Bool) (f : WaitingFate)
    → cond w 1 0 ≡ cond (not (is_waiting (cond (not w || r) second.Wait (second_of f)))) 1 0 + cond (w && is_waiting (cond (not w || r) second.Wait (second_of f))) 1 0
look-pays false r f = refl
look-pays true true f = refl
look-pays true false waiting.Admit = refl
look-pays true false waiting.Wait = refl
look-pays true false waiting.Drop = refl

abbrev Paid : LaneInput → ℕ → PolicyView → Type 0
Paid i now p =
    cond (comes_to_wait (at i now p)) 1 0 + cond p.waits 1 0 ≡ cond (waits_no_more (at i now p)) 1 0 + cond (policy_after i now p).waits 1 0

login-pays : (up own first : Bool) (now : ℕ) (p : PolicyView) → Paid (Login up own first) now p
login-pays up own first now p = go up p.waits own first refl
  where
    go : (up w own first : Bool) → p.waits ≡ w
        → cond (is_waiting (fate_acts up first (login_fate up w own)).second || takes_place (fate_acts up first (login_fate up w own)).second) 1 0 + cond p.waits 1 0
        ≡ cond (takes_place (fate_acts up first (login_fate up w own)).second) 1 0 + cond (fate_after up now (login_fate up w own) p).waits 1 0
    go false w own first e = refl
    go true false own first e = let same = same-count p.waits false e in omega (arith, same)
    go true true true true e = refl
    go true true true false e = refl
    go true true false first e = refl

put-off-pays : (w : Bool) → cond w 1 0 ≡ cond (not (is_waiting (cond w second.PutOff second.Wait))) 1 0 + 0
put-off-pays true = refl
put-off-pays false = refl

paid-step : (i : LaneInput) (now : ℕ) (p : PolicyView) → Paid i now p
paid-step (Look up came read left) now p =
    let link = peer_act up came read now p in
    let next = peer_after up came now p in
    let pays = look-pays p.waits (is_read link) (waiting_fate (up && (is_nothing link && is_some next.peer.wanted)) left) in
    omega (arith, pays)
paid-step (Login up own first) now p = login-pays up own first now p
paid-step PutOff now p = omega (arith, put-off-pays p.waits)
paid-step i now p = omega arith

pub waiting_answered_once : WaitingAnsweredOnce
waiting_answered_once p [] = omega arith
waiting_answered_once p (i ∷ is) =
    let next = policy_after i.input i.now p in
    omega (arith, paid-step i.input i.now p, waiting_answered_once next is, counted comes_to_wait (moment p i) (moments next is), counted waits_no_more (moment p i) (moments next is))

none-come : (p : PolicyView) (is : List Arrival) → list_any logs_in is ≡ false → list_any comes_to_wait (moments p is) ≡ false
none-come p [] h = refl
none-come p (i ∷ is) h =
    let parts = neither (logs_in i) (list_any logs_in is) h in
    let next = policy_after i.input i.now p in
    either-none (comes_to_wait (moment p i)) (list_any comes_to_wait (moments next is))
    (ap (λ b. b && (is_waiting (acts_of i.input i.now p).second || takes_place (acts_of i.input i.now p).second)) parts.0)
    (none-come next is parts.1)

pub none_waits : NoneWaits
none_waits p now is h =
    let ended = policy_after PutOff now p in
    let paid = waiting_answered_once ended is in
    let come = none-counted comes_to_wait (moments ended is) (none-come ended is h) in
    (zero-test (after ended is).waits (omega (arith, paid, come)), none-is-counted waits_no_more (moments ended is) (omega (arith, paid, come)))

-- Failing. A worker that wasn't asked is in time.

heard-unasked : (b : Bool) (came now : ℕ) (s : PeerView) → IsUnasked s → IsUnasked (cond b s (started came now))
heard-unasked true came now s u = u
heard-unasked false came now s u = (refl, refl)

calm : (now : ℕ) (s : PeerView) (read : Bool) → IsUnasked s → is_ping (link_act (action_at now s) read) ≡ false
    → (is_fail (link_act (action_at now s) read) ≡ false) × IsUnasked (after_action now (action_at now s) s)
calm now s read u h =
    let quiet : is_unanswered now s ≡ false = ap (λ o. has_passed 1500 now o || has_passed 45000 now s.asked) u.1 ∙ ap (λ o. has_passed 45000 now o) u.0 in
    go (is_unanswered now s) (not (is_some s.asked) && nat_le 15000 (now - s.since)) quiet h
  where
    go : (b c : Bool) → b ≡ false → is_ping (link_act (cond b action.GiveUp (cond c action.Ask action.Nothing)) read) ≡ false
        → (is_fail (link_act (cond b action.GiveUp (cond c action.Ask action.Nothing)) read) ≡ false) × IsUnasked (after_action now (cond b action.GiveUp (cond c action.Ask action.Nothing)) s)
    go true c e h = absurd (true≢false e)
    go false true e h = absurd (true≢false h)
    go false false e h = (refl, u)

abbrev Calm : LaneInput → ℕ → PolicyView → Type 0
Calm i now p = (is_fail (acts_of i now p).link ≡ false) × IsUnasked (policy_after i now p).peer

calm-login : (up own first : Bool) (now : ℕ) (p : PolicyView) → IsUnasked p.peer → is_ping (acts_of (Login up own first) now p).link ≡ false → Calm (Login up own first) now p
calm-login up own first now p u h = go up p.waits own h
  where
    go : (up w own : Bool) → is_ping (fate_acts up first (login_fate up w own)).link ≡ false
        → (is_fail (fate_acts up first (login_fate up w own)).link ≡ false) × IsUnasked (fate_after up now (login_fate up w own) p).peer
    go false w own h = (refl, u)
    go true false own h = absurd (true≢false h)
    go true true true h = (refl, u)
    go true true false h = (refl, u)

calm-step : (i : LaneInput) (now : ℕ) (p : PolicyView) → IsUnasked p.peer → is_ping (acts_of i now p).link ≡ false → Calm i now p
calm-step (Look true came read left) now p u h =
    calm now (heard_at came now p.peer) read (heard-unasked (p.peer.count == came) came now p.peer u) h
calm-step (Look false came read left) now p u h = (refl, u)
calm-step (Login up own first) now p u h = calm-login up own first now p u h
calm-step (Attached came) now p u h = (refl, (refl, refl))
calm-step (Ended true came) now p u h = absurd (true≢false h)
calm-step (Ended false came) now p u h = (refl, heard-unasked (p.peer.count == came) came now p.peer u)
calm-step i now p u h = (refl, u)

pub unasked_not_failed : UnaskedNotFailed
unasked_not_failed p [] u h = refl
unasked_not_failed p (i ∷ is) u h =
    let next = policy_after i.input i.now p in
    let parts = neither (asks (moment p i)) (list_any asks (moments next is)) h in
    let one = calm-step i.input i.now p u parts.0 in
    either-none (fails (moment p i)) (list_any fails (moments next is)) one.0 (unasked_not_failed next is one.1 parts.1)

-- a sign of life leaves the worker unasked
heard-look : (b : Bool) (came now : ℕ) (read : Bool) (s : PeerView) → not b ≡ true
    → is_ping (link_act (action_at now (cond b s (started came now))) read) ≡ false
    → (is_fail (link_act (action_at now (cond b s (started came now))) read) ≡ false)
    × IsUnasked (after_action now (action_at now (cond b s (started came now))) (cond b s (started came now)))
heard-look true came now read s e h = absurd (true≢false (sym e))
heard-look false came now read s e h = calm now (started came now) read (refl, refl) h

heard-end : (b : Bool) (came now : ℕ) (s : PeerView) → not b ≡ true → IsUnasked (cond b s (started came now))
heard-end true came now s e = absurd (true≢false (sym e))
heard-end false came now s e = (refl, refl)

heard-step : (i : LaneInput) (now : ℕ) (p : PolicyView) → is_sign i p ≡ true → is_ping (acts_of i now p).link ≡ false → Calm i now p
heard-step (Look true came read left) now p e h = heard-look (p.peer.count == came) came now read p.peer e h
heard-step (Look false came read left) now p e h = absurd (true≢false (sym e))
heard-step (Attached came) now p e h = (refl, (refl, refl))
heard-step (Ended true came) now p e h = absurd (true≢false h)
heard-step (Ended false came) now p e h = (refl, heard-end (p.peer.count == came) came now p.peer e)
heard-step i now p e h = absurd (true≢false (sym e))

pub heard_not_failed : HeardNotFailed
heard_not_failed p i is e h =
    let next = policy_after i.input i.now p in
    let parts = neither (asks (moment p i)) (list_any asks (moments next is)) h in
    let one = heard-step i.input i.now p e parts.0 in
    either-none (fails (moment p i)) (list_any fails (moments next is)) one.0 (unasked_not_failed next is one.1 parts.1)

-- by which inputs a link fails

login-keeps-link : (up own first : Bool) (now : ℕ) (p : PolicyView) → is_fail (acts_of (Login up own first) now p).link ≡ false
login-keeps-link up own first now p = go up p.waits own
  where
    go : (up w own : Bool) → is_fail (fate_acts up first (login_fate up w own)).link ≡ false
    go false w own = refl
    go true false own = refl
    go true true true = refl
    go true true false = refl

read-fails : (a : PeerAction) (read : Bool) → is_fail (link_act a read) ≡ true → read ≡ true
read-fails action.Nothing read e = absurd (true≢false (sym e))
read-fails action.Ask read e = absurd (true≢false (sym e))
read-fails action.GiveUp true e = refl
read-fails action.GiveUp false e = absurd (true≢false (sym e))

only-read : (i : LaneInput) (now : ℕ) (p : PolicyView) → is_fail (acts_of i now p).link ≡ true → is_read_out i ≡ true
only-read (Look true came read left) now p e = read-fails (action_at now (heard_at came now p.peer)) read e
only-read (Look false came read left) now p e = absurd (true≢false (sym e))
only-read (Login up own first) now p e = absurd (true≢false (sym e ∙ login-keeps-link up own first now p))
only-read (Ended true came) now p e = absurd (true≢false (sym e))
only-read (Ended false came) now p e = absurd (true≢false (sym e))
only-read i now p e = absurd (true≢false (sym e))

pub only_read_fail : OnlyReadFail
only_read_fail m e = only-read m.input m.now m.before e

-- a link fails only where its worker didn't answer in time

not-failed : (now : ℕ) (s : PeerView) (read : Bool) → is_unanswered now s ≡ false → is_fail (link_act (action_at now s) read) ≡ false
not-failed now s read e = go (is_unanswered now s) (not (is_some s.asked) && nat_le 15000 (now - s.since)) e
  where
    go : (b c : Bool) → b ≡ false → is_fail (link_act (cond b action.GiveUp (cond c action.Ask action.Nothing)) read) ≡ false
    go true c e = absurd (true≢false e)
    go false true e = refl
    go false false e = refl

heard-in-time : (b : Bool) (came now : ℕ) (s : PeerView) → is_unanswered now s ≡ false → is_unanswered now (cond b s (started came now)) ≡ false
heard-in-time true came now s e = e
heard-in-time false came now s e = refl

in-time : (i : LaneInput) (now : ℕ) (p : PolicyView) → is_unanswered now p.peer ≡ false → is_fail (acts_of i now p).link ≡ false
in-time (Look true came read left) now p e =
    not-failed now (heard_at came now p.peer) read (heard-in-time (p.peer.count == came) came now p.peer e)
in-time (Look false came read left) now p e = refl
in-time (Login up own first) now p e = login-keeps-link up own first now p
in-time (Ended true came) now p e = refl
in-time (Ended false came) now p e = refl
in-time i now p e = refl

-- what was asked was asked from this time on
abbrev late : ℕ → Option ℕ → Bool
late t o = option_map_or (λ at. nat_le t at) o true

abbrev IsLate : ℕ → PeerView → Type 0
IsLate t s = (late t s.asked ≡ true) × (late t s.wanted ≡ true)

not-passed : (most t now : ℕ) (o : Option ℕ) → 1500 ≤ most → late t o ≡ true → nat_le (t + 1500) now ≡ false → has_passed most now o ≡ false
not-passed most t now None m e n = refl
not-passed most t now (Some at) m e n = grind (arith, nat_tests, m, e, n)

late-acts : (a : PeerAction) (t now : ℕ) (read : Bool) (s : PeerView) → (is_ping (link_act a read) && nat_lt now t) ≡ false → IsLate t s → IsLate t (after_action now a s)
late-acts action.Nothing t now read s h l = l
late-acts action.Ask t now read s h l = (grind (arith, nat_tests, h), l.1)
late-acts action.GiveUp t now read s h l = l

late-heard : (b : Bool) (t came now : ℕ) (s : PeerView) → IsLate t s → IsLate t (cond b s (started came now))
late-heard true t came now s l = l
late-heard false t came now s l = (refl, refl)

late-wanted : (t now : ℕ) (s : PeerView) → nat_lt now t ≡ false → IsLate t s → IsLate t (wanted_at now s)
late-wanted t now s h l = (go s.asked l.0, go s.wanted l.1)
  where
    go : (o : Option ℕ) → late t o ≡ true → nat_le t (option_map_or (λ at. at) o now) ≡ true
    go None e = grind (arith, nat_tests, h)
    go (Some at) e = e

abbrev LateStep : LaneInput → ℕ → ℕ → PolicyView → Type 0
LateStep i t now p = IsLate t p.peer → (is_ping (acts_of i now p).link && nat_lt now t) ≡ false → IsLate t (policy_after i now p).peer

late-login : (up own first : Bool) (t now : ℕ) (p : PolicyView) → LateStep (Login up own first) t now p
late-login up own first t now p l h = go up p.waits own h
  where
    go : (up w own : Bool) → (is_ping (fate_acts up first (login_fate up w own)).link && nat_lt now t) ≡ false → IsLate t (fate_after up now (login_fate up w own) p).peer
    go false w own h = l
    go true false own h = late-wanted t now p.peer h l
    go true true true h = l
    go true true false h = l

late-step : (i : LaneInput) (t now : ℕ) (p : PolicyView) → LateStep i t now p
late-step (Look true came read left) t now p l h =
    let s = heard_at came now p.peer in
    late-acts (action_at now s) t now read s h (late-heard (p.peer.count == came) t came now p.peer l)
late-step (Look false came read left) t now p l h = l
late-step (Login up own first) t now p l h = late-login up own first t now p l h
late-step (Attached came) t now p l h = (refl, refl)
late-step (Ended true came) t now p l h = late-wanted t now (heard_at came now p.peer) h (late-heard (p.peer.count == came) t came now p.peer l)
late-step (Ended false came) t now p l h = late-heard (p.peer.count == came) t came now p.peer l
late-step i t now p l h = l

late-in-time : (t now : ℕ) (s : PeerView) → IsLate t s → nat_le (t + 1500) now ≡ false → is_unanswered now s ≡ false
late-in-time t now s l n =
    either-none (has_passed 1500 now s.wanted) (has_passed 45000 now s.asked)
    (not-passed 1500 t now s.wanted (omega arith) l.1 n) (not-passed 45000 t now s.asked (omega arith) l.0 n)

late-not-failed : (p : PolicyView) (t : ℕ) (is : List Arrival) → IsLate t p.peer → list_any (asks_before t) (moments p is) ≡ false
    → list_any (is_from (t + 1500)) (moments p is) ≡ false → list_any fails (moments p is) ≡ false
late-not-failed p t [] l h n = refl
late-not-failed p t (i ∷ is) l h n =
    let next = policy_after i.input i.now p in
    let parts = neither (asks_before t (moment p i)) (list_any (asks_before t) (moments next is)) h in
    let times = neither (is_from (t + 1500) (moment p i)) (list_any (is_from (t + 1500)) (moments next is)) n in
    either-none (fails (moment p i)) (list_any fails (moments next is))
    (in-time i.input i.now p (late-in-time t i.now p.peer l times.0))
    (late-not-failed next t is (late-step i.input t i.now p l parts.0) parts.1 times.1)

pub asked_have_time : AskedHaveTime
asked_have_time p t is u h n =
    late-not-failed p t is (ap (λ o. late t o) u.0, ap (λ o. late t o) u.1) h n

-- Giving up. What was asked stays asked, until a sign of life.

kept-asked : (now t : ℕ) (s : PeerView) → s.asked ≡ Some t → (after_action now (action_at now s) s).asked ≡ Some t
kept-asked now t s e =
    go (is_unanswered now s) (not (is_some s.asked) && nat_le 15000 (now - s.since)) (ap (λ o. not (is_some o) && nat_le 15000 (now - s.since)) e)
  where
    go : (b c : Bool) → c ≡ false → (after_action now (cond b action.GiveUp (cond c action.Ask action.Nothing)) s).asked ≡ Some t
    go true c h = e
    go false true h = absurd (true≢false h)
    go false false h = e

unheard : (b : Bool) → not b ≡ false → b ≡ true
unheard true h = refl
unheard false h = absurd (true≢false h)

silent-heard : (came now : ℕ) (s : PeerView) → not (s.count == came) ≡ false → heard_at came now s ≡ s
silent-heard came now s h = ap (λ b. cond b s (started came now)) (unheard (s.count == came) h)

still-wanted : (now t : ℕ) (s : PeerView) → s.asked ≡ Some t → (wanted_at now s).asked ≡ Some t
still-wanted now t s e = ap (λ o. Some (option_map_or (λ at. at) o now)) e

login-asked : (up own first : Bool) (now t : ℕ) (p : PolicyView) → p.peer.asked ≡ Some t → (policy_after (Login up own first) now p).peer.asked ≡ Some t
login-asked up own first now t p e = go up p.waits own
  where
    go : (up w own : Bool) → (fate_after up now (login_fate up w own) p).peer.asked ≡ Some t
    go false w own = e
    go true false own = still-wanted now t p.peer e
    go true true true = e
    go true true false = e

asked-stays : (i : LaneInput) (now t : ℕ) (p : PolicyView) → p.peer.asked ≡ Some t → is_sign i p ≡ false → (policy_after i now p).peer.asked ≡ Some t
asked-stays (Look true came read left) now t p e h =
    ap (λ (s : PeerView). (after_action now (action_at now s) s).asked) (silent-heard came now p.peer h) ∙ kept-asked now t p.peer e
asked-stays (Look false came read left) now t p e h = e
asked-stays (Login up own first) now t p e h = login-asked up own first now t p e
asked-stays (Attached came) now t p e h = absurd (true≢false h)
asked-stays (Ended true came) now t p e h =
    ap (λ (s : PeerView). (wanted_at now s).asked) (silent-heard came now p.peer h) ∙ still-wanted now t p.peer e
asked-stays (Ended false came) now t p e h =
    ap (λ (s : PeerView). s.asked) (silent-heard came now p.peer h) ∙ e
asked-stays i now t p e h = e

kept-wanted : (now : ℕ) (a : PeerAction) (s : PeerView) → (after_action now a s).wanted ≡ s.wanted
kept-wanted now action.Ask s = refl
kept-wanted now a s = refl

first-wanted : (now t : ℕ) (s : PeerView) → s.wanted ≡ Some t → (wanted_at now s).wanted ≡ Some t
first-wanted now t s e = ap (λ o. Some (option_map_or (λ at. at) o now)) e

login-wanted : (up own first : Bool) (now t : ℕ) (p : PolicyView) → p.peer.wanted ≡ Some t → (policy_after (Login up own first) now p).peer.wanted ≡ Some t
login-wanted up own first now t p e = go up p.waits own
  where
    go : (up w own : Bool) → (fate_after up now (login_fate up w own) p).peer.wanted ≡ Some t
    go false w own = e
    go true false own = first-wanted now t p.peer e
    go true true true = e
    go true true false = e

wanted-stays : (i : LaneInput) (now t : ℕ) (p : PolicyView) → p.peer.wanted ≡ Some t → is_sign i p ≡ false → (policy_after i now p).peer.wanted ≡ Some t
wanted-stays (Look true came read left) now t p e h =
    ap (λ (s : PeerView). (after_action now (action_at now s) s).wanted) (silent-heard came now p.peer h) ∙ kept-wanted now (action_at now p.peer) p.peer ∙ e
wanted-stays (Look false came read left) now t p e h = e
wanted-stays (Login up own first) now t p e h = login-wanted up own first now t p e
wanted-stays (Attached came) now t p e h = absurd (true≢false h)
wanted-stays (Ended true came) now t p e h =
    ap (λ (s : PeerView). (wanted_at now s).wanted) (silent-heard came now p.peer h) ∙ first-wanted now t p.peer e
wanted-stays (Ended false came) now t p e h =
    ap (λ (s : PeerView). s.wanted) (silent-heard came now p.peer h) ∙ e
wanted-stays i now t p e h = e

same-number : (n : ℕ) → (n == n) ≡ true
same-number n = grind (arith, nat_tests)

read-once-more : (now : ℕ) (s : PeerView) → is_unanswered now s ≡ true → is_fail (link_act (action_at now (heard_at s.count now s)) true) ≡ true
read-once-more now s e =
    ap (λ b. is_fail (link_act (action_at now (cond b s (started s.count now))) true)) (same-number s.count)
    ∙ ap (λ b. is_fail (link_act (cond b action.GiveUp (cond (not (is_some s.asked) && nat_le 15000 (now - s.since)) action.Ask action.Nothing)) true)) e

has-passed : (most now t : ℕ) (o : Option ℕ) → o ≡ Some t → t + most ≤ now → has_passed most now o ≡ true
has-passed most now t o e l =
    let late : nat_le most (now - t) ≡ true = grind (arith, nat_tests, l) in
    ap (λ o. has_passed most now o) e ∙ late

either-true : (a b : Bool) → b ≡ true → (a || b) ≡ true
either-true true b h = refl
either-true false b h = h

pub asked_given_up : AskedGivenUp
asked_given_up p [] t now left e h l =
    read-once-more now p.peer (either-true (has_passed 1500 now p.peer.wanted) (has_passed 45000 now p.peer.asked) (has-passed 45000 now t p.peer.asked e l))
asked_given_up p (i ∷ is) t now left e h l =
    let next = policy_after i.input i.now p in
    let parts = neither (shows_life (moment p i)) (list_any shows_life (moments next is)) h in
    asked_given_up next is t now left (asked-stays i.input i.now t p e parts.0) parts.1 l

pub wanted_given_up : WantedGivenUp
wanted_given_up p [] t now left e h l =
    read-once-more now p.peer (ap (λ b. b || has_passed 45000 now p.peer.asked) (has-passed 1500 now t p.peer.wanted e l))
wanted_given_up p (i ∷ is) t now left e h l =
    let next = policy_after i.input i.now p in
    let parts = neither (shows_life (moment p i)) (list_any shows_life (moments next is)) h in
    wanted_given_up next is t now left (wanted-stays i.input i.now t p e parts.0) parts.1 l

not-yet : (most now t : ℕ) (o : Option ℕ) → 1 ≤ most → o ≡ Some t → now < t + most → has_passed most now o ≡ false
not-yet most now t o m e l =
    let early : nat_le most (now - t) ≡ false = grind (arith, nat_tests, m, l) in
    ap (λ o. has_passed most now o) e ∙ early

pub asked_not_sooner : AskedNotSooner
asked_not_sooner m t e w l =
    let s = m.before.peer in
    in-time m.input m.now m.before
    (either-none (has_passed 1500 m.now s.wanted) (has_passed 45000 m.now s.asked)
    (ap (λ o. has_passed 1500 m.now o) w) (not-yet 45000 m.now t s.asked (omega arith) e l))

pub wanted_not_sooner : WantedNotSooner
wanted_not_sooner m t u e w l k =
    let s = m.before.peer in
    in-time m.input m.now m.before
    (either-none (has_passed 1500 m.now s.wanted) (has_passed 45000 m.now s.asked)
    (not-yet 1500 m.now u s.wanted (omega arith) w k) (not-yet 45000 m.now t s.asked (omega arith) e l))

-- Asking. Who was asked isn't asked again.

one-or-none : (b : Bool) → cond b 1 0 ≤ 1
one-or-none true = omega arith
one-or-none false = omega arith

ask-pays : (now : ℕ) (s : PeerView) (read : Bool)
    → cond (is_ping (link_act (action_at now s) read)) 1 0 + cond (is_some s.asked) 1 0 ≤ cond (is_some (after_action now (action_at now s) s).asked) 1 0
ask-pays now s read = go (is_unanswered now s) (is_some s.asked) (nat_le 15000 (now - s.since)) read refl
  where
    go : (u k le read : Bool) → is_some s.asked ≡ k
        → cond (is_ping (link_act (cond u action.GiveUp (cond (not k && le) action.Ask action.Nothing)) read)) 1 0 + cond (is_some s.asked) 1 0
        ≤ cond (is_some (after_action now (cond u action.GiveUp (cond (not k && le) action.Ask action.Nothing)) s).asked) 1 0
    go true k le true e = omega arith
    go true k le false e = omega arith
    go false true le read e = omega arith
    go false false true read e = let none = same-count (is_some s.asked) false e in omega (arith, none)
    go false false false read e = omega arith

heard-asked : (b : Bool) (came now : ℕ) (s : PeerView) → cond (is_some s.asked) 1 0 ≤ cond (not b) 1 0 + cond (is_some (cond b s (started came now)).asked) 1 0
heard-asked true came now s = omega arith
heard-asked false came now s = omega (arith, one-or-none (is_some s.asked))

abbrev AskPaid : LaneInput → ℕ → PolicyView → Type 0
AskPaid i now p =
    cond (is_ping (acts_of i now p).link) 1 0 + cond (is_some p.peer.asked) 1 0 ≤ cond (may_ask i || is_sign i p) 1 0 + cond (is_some (policy_after i now p).peer.asked) 1 0

login-asks : (up own first : Bool) (now : ℕ) (p : PolicyView) → AskPaid (Login up own first) now p
login-asks up own first now p = go up p.waits own
  where
    go : (up w own : Bool)
        → cond (is_ping (fate_acts up first (login_fate up w own)).link) 1 0 + cond (is_some p.peer.asked) 1 0 ≤ 1 + cond (is_some (fate_after up now (login_fate up w own) p).peer.asked) 1 0
    go false w own = omega arith
    go true false own = omega (arith, one-or-none (is_some p.peer.asked))
    go true true true = omega arith
    go true true false = omega arith

ask-paid : (i : LaneInput) (now : ℕ) (p : PolicyView) → AskPaid i now p
ask-paid (Look true came read left) now p =
    omega (arith, ask-pays now (heard_at came now p.peer) read, heard-asked (p.peer.count == came) came now p.peer)
ask-paid (Look false came read left) now p = omega arith
ask-paid (Login up own first) now p = login-asks up own first now p
ask-paid (Ended true came) now p = omega (arith, one-or-none (is_some p.peer.asked))
ask-paid (Ended false came) now p = omega (arith, one-or-none (is_some p.peer.asked))
ask-paid (Attached came) now p = omega (arith, one-or-none (is_some p.peer.asked))
ask-paid i now p = omega arith

pub asked_once_each : AskedOnceEach
asked_once_each p [] = omega arith
asked_once_each p (i ∷ is) =
    let next = policy_after i.input i.now p in
    omega (arith, ask-paid i.input i.now p, asked_once_each next is, counted asks (moment p i) (moments next is), counted may_ask_again (moment p i) (moments next is))

pub asked_once : AskedOnce
asked_once p is h =
    omega (arith, asked_once_each p is, none-counted may_ask_again (moments p is) h, one-or-none (is_some (after p is).peer.asked))

kept-since : (now : ℕ) (a : PeerAction) (s : PeerView) → (after_action now a s).since ≡ s.since
kept-since now action.Ask s = refl
kept-since now a s = refl

login-since : (up own first : Bool) (now : ℕ) (p : PolicyView) → (policy_after (Login up own first) now p).peer.since ≡ p.peer.since
login-since up own first now p = go up p.waits own
  where
    go : (up w own : Bool) → (fate_after up now (login_fate up w own) p).peer.since ≡ p.peer.since
    go false w own = refl
    go true false own = refl
    go true true true = refl
    go true true false = refl

since-stays : (i : LaneInput) (now : ℕ) (p : PolicyView) → is_sign i p ≡ false → (policy_after i now p).peer.since ≡ p.peer.since
since-stays (Look true came read left) now p h =
    ap (λ (s : PeerView). (after_action now (action_at now s) s).since) (silent-heard came now p.peer h) ∙ kept-since now (action_at now p.peer) p.peer
since-stays (Look false came read left) now p h = refl
since-stays (Login up own first) now p h = login-since up own first now p
since-stays (Attached came) now p h = absurd (true≢false h)
since-stays (Ended true came) now p h = ap (λ (s : PeerView). s.since) (silent-heard came now p.peer h)
since-stays (Ended false came) now p h = ap (λ (s : PeerView). s.since) (silent-heard came now p.peer h)
since-stays i now p h = refl

due-asked : (p : PolicyView) (now : ℕ) (read left : Bool) → IsUnasked p.peer → p.peer.since + 15000 ≤ now → asks (quiet_look read left now p) ≡ true
due-asked p now read left u l =
    let s = p.peer in
    let quiet : is_unanswered now s ≡ false = ap (λ o. has_passed 1500 now o || has_passed 45000 now s.asked) u.1 ∙ ap (λ o. has_passed 45000 now o) u.0 in
    let long : nat_le 15000 (now - s.since) ≡ true = grind (arith, nat_tests, l) in
    let due : (not (is_some s.asked) && nat_le 15000 (now - s.since)) ≡ true = ap (λ o. not (is_some o) && nat_le 15000 (now - s.since)) u.0 ∙ long in
    ap (λ b. is_ping (link_act (action_at now (cond b s (started s.count now))) read)) (same-number s.count)
    ∙ go (is_unanswered now s) (not (is_some s.asked) && nat_le 15000 (now - s.since)) quiet due
  where
    go : (b c : Bool) → b ≡ false → c ≡ true → is_ping (link_act (cond b action.GiveUp (cond c action.Ask action.Nothing)) read) ≡ true
    go true c e h = absurd (true≢false e)
    go false true e h = refl
    go false false e h = absurd (true≢false (sym h))

pub silent_asked : SilentAsked
silent_asked p [] now read left u h g l = due-asked p now read left u l
silent_asked p (i ∷ is) now read left u h g l =
    let next = policy_after i.input i.now p in
    let parts = neither (shows_life (moment p i)) (list_any shows_life (moments next is)) h in
    let quiet = neither (asks (moment p i)) (list_any asks (moments next is)) g in
    let calm = calm-step i.input i.now p u quiet.0 in
    silent_asked next is now read left calm.1 parts.1 quiet.1 (omega (arith, since-stays i.input i.now p parts.0, l))

not-due : (now : ℕ) (s : PeerView) (read : Bool) → now < s.since + 15000 → is_ping (link_act (action_at now s) read) ≡ false
not-due now s read l =
    let early : nat_le 15000 (now - s.since) ≡ false = grind (arith, nat_tests, l) in
    go (is_unanswered now s) (not (is_some s.asked)) (nat_le 15000 (now - s.since)) read early
  where
    go : (b k c read : Bool) → c ≡ false → is_ping (link_act (cond b action.GiveUp (cond (k && c) action.Ask action.Nothing)) read) ≡ false
    go true k c true e = refl
    go true k c false e = refl
    go false true true read e = absurd (true≢false e)
    go false true false read e = refl
    go false false c read e = refl

since-heard : (b : Bool) (came now : ℕ) (s : PeerView) → now < s.since + 15000 → now < (cond b s (started came now)).since + 15000
since-heard true came now s l = l
since-heard false came now s l = omega arith

no-ask : (i : LaneInput) (now : ℕ) (p : PolicyView) → may_ask i ≡ false → now < p.peer.since + 15000 → is_ping (acts_of i now p).link ≡ false
no-ask (Look true came read left) now p h l = not-due now (heard_at came now p.peer) read (since-heard (p.peer.count == came) came now p.peer l)
no-ask (Look false came read left) now p h l = refl
no-ask (Login up own first) now p h l = absurd (true≢false h)
no-ask (Ended up came) now p h l = absurd (true≢false h)
no-ask i now p h l = refl

pub not_asked_sooner : NotAskedSooner
not_asked_sooner m h l = no-ask m.input m.now m.before h l

-- What a trace means: the list of a lane's events, in the order in which they were taken.
use Rattle.std.specs.Prelude.{ℕ, zero, suc, ℤ, pos, Bool, true, false, not, ◌&&◌, ◌||◌, ◌==◌, nat_lt, nat_le, if◌then◌else◌, List, [], ◌∷◌, ◌++◌, length, take, drop, map, Option, Some, None, option_map, unwrap_or, is_none, fold, find, bytes_eq, filter, count_by, flat_map, filter_map}
use Rattle.std.specs.List.{list_any, list_all, after_last}
use Rattle.bm_session.specs.Events.{is_up_event, is_down_event, is_cut_event, is_interruption, is_border, is_go, is_order, is_stop_of, is_request, request_number, is_complete_of, is_update_of, is_fault, is_answer_to, batch_of, rc_of}
use Rattle.bm_session.specs.declared.event.Event.{Event}
use Rattle.bm_session.specs.declared.event.Event.TheVariants.{Up, In, Go, Stop, Cut, Down}
use Rattle.bm_session.specs.declared.event.Body.TheVariants.{Auth, Update, Complete, BadArgs, Answered}
use Rattle.bm_session.specs.declared.reply.Verdict.{Verdict}
use Rattle.bm_session.specs.declared.reply.Verdict.TheVariants.{Done, NoCommand, AuthAgain, BadArgs as VerdictBadArgs, NoSuchOp as VerdictNoSuchOp}
use Rattle.bm_session.specs.declared.reply.Reply.{Reply}
use Rattle.bm_session.specs.declared.reply.Reply.TheVariants.{Silent, Answer, Start, Interrupt}
use Rattle.bm_session.specs.declared.item.Item.{Item}
use Rattle.bm_session.specs.declared.item.Item.TheVariants.{Open, Lines, End, Gone}
use Rattle.bm_session.specs.declared.results.Results.{Results}
use Rattle.bm_session.specs.declared.results.Results.TheVariants.{Success, Failure, Exception, Retry, Cancelled}
use Rattle.bm_session.specs.declared.refusal.Refusal.{Refusal}
use Rattle.bm_session.specs.declared.refusal.Refusal.TheVariants.{NotUp, AlreadyUp, TooManyOpen, NoSuchCommand, Full}
use Rattle.bm_lines.specs.Lines.{Line}
use Rattle.bm_lines.specs.LineBatches.{blocks_under}
use Rattle.bm_lines.specs.Names.{Name, stdio}

abbrev pub Trace : Type 0
Trace = List Event

-- Lists

abbrev pub is_empty : {A : Type 0} → List A → Bool
is_empty [] = true
is_empty (x ∷ xs) = false

-- the lists, one after the other
abbrev pub joined : {A : Type 0} → List (List A) → List A
joined xs = flat_map (λ x. x) xs

-- the numbers 0, 1, .. up to, not including, n
abbrev pub below : ℕ → List ℕ
below zero = []
below (suc n) = below n ++ n ∷ []

-- the elements at the places from off up to, not including, off + lim, as far as they go
abbrev pub slice : List Line → ℕ → ℕ → List Line
slice lines off lim = take lim (drop off lines)

-- Places

-- a place of a trace: the event there, and the events before it
pub record Moment : Type 0 where
  pub past : List Event
  pub event : Event

abbrev pub moments_after : Trace → Trace → List Moment
moments_after past [] = []
moments_after past (e ∷ es) = record { past = past; event = e } ∷ moments_after (past ++ e ∷ []) es

-- the places of a trace, in order
abbrev pub moments : Trace → List Moment
moments t = moments_after [] t

-- Connections and sessions

-- the lane is up: the last of its Up, Cut and Down is an Up
abbrev pub is_up : Trace → Bool
is_up t = list_any is_up_event (after_last is_interruption t)

-- the lane is cut: the last of its Up, Cut and Down is a Cut
abbrev pub is_cut : Trace → Bool
is_cut t = list_any is_cut_event (after_last is_border t)

-- a session begins here: by an Up that doesn't resume one
abbrev pub begins_session : Moment → Bool
begins_session m = is_up_event m.event && not (is_cut m.past)

-- the places of the last session: those after the Up that began it
abbrev pub session : Trace → List Moment
session t = after_last begins_session (moments t)

-- Numbers

-- how many commands were started: command k is the k-th, counted from 0
abbrev pub commands : Trace → ℕ
commands t = count_by is_go t

-- how many orders this session had: the next order has this number
abbrev pub orders : Trace → ℕ
orders t = count_by (λ m. is_order m.event) (session t)

-- no request of this session has the number n
abbrev pub is_new : Trace → ℕ → Bool
is_new t n = not (list_any (λ m. is_request n m.event) (session t))

-- there is a number, and it is new
abbrev pub is_new_number : Trace → Option ℕ → Bool
is_new_number t None = false
is_new_number t (Some n) = is_new t n

-- the request here is fresh: no request of its session had its number before
abbrev pub is_fresh : Moment → Bool
is_fresh m = is_new_number m.past (request_number m.event)

-- Open commands

-- command k is started here
abbrev pub starts : ℕ → Moment → Bool
starts k m = is_go m.event && (commands m.past == k)

-- command k was started by the order with the number n
abbrev pub was_order : Trace → ℕ → ℕ → Bool
was_order t k n = list_any (λ m. starts k m && (orders m.past == n)) (moments t)

-- the event refuses the start of command k
abbrev pub refuses : Trace → ℕ → Event → Bool
refuses past k (In n (Answered true)) = was_order past k n
refuses past k _ = false

-- this place ends command k, if it is open: a giving up, a fresh complete of it, or a refusal of
-- its start
abbrev pub ends_at : ℕ → Moment → Bool
ends_at k m =
    nat_lt k (commands m.past)
    && (is_down_event m.event || (is_fresh m && is_complete_of k m.event)
    || refuses m.past k m.event)

-- the end of command k: the first place that ends it
abbrev pub ending : Trace → ℕ → Option Moment
ending t k = find (ends_at k) (moments t)

-- command k is open: it was started, and no place ends it
abbrev pub is_open : Trace → ℕ → Bool
is_open t k = nat_lt k (commands t) && is_none (ending t k)

-- the commands that are open, in order
abbrev pub open_commands : Trace → List ℕ
open_commands t = filter (is_open t) (below (commands t))

-- Logs

-- a fresh update of command k stands here, while the command is open
abbrev pub updates : ℕ → Moment → Bool
updates k m = is_fresh m && is_update_of k m.event && is_open m.past k

-- the blocks that these updates carried under a name, in order
abbrev pub blocks : Trace → ℕ → Name → List (List Line)
blocks t k name =
    flat_map (λ m. blocks_under name (batch_of m.event)) (filter (updates k) (moments t))

-- the log of command k under a name: the lines of these blocks
abbrev pub log : Trace → ℕ → Name → List Line
log t k name = joined (blocks t k name)

-- the log is there: `stdio` once command k is started, another name from its first block on
abbrev pub has_log : Trace → ℕ → Name → Bool
has_log t k name =
    nat_lt k (commands t) && (bytes_eq name stdio || not (is_empty (blocks t k name)))

-- the last exit code that these updates carried, under whatever name
abbrev pub last_rc : Trace → ℕ → Option ℤ
last_rc t k =
    fold (λ _ z. Some z) None (filter_map (λ m. rc_of m.event) (filter (updates k) (moments t)))

-- what the last exit code says: 0 is a success, another a failure, none an exception
abbrev pub result_of_rc : Option ℤ → Results
result_of_rc None = Exception
result_of_rc (Some (pos zero)) = Success
result_of_rc (Some _) = Failure

-- how command k ends here: given up; else a stop was ordered; else a fault; else what its exit code
-- says
abbrev pub result_at : ℕ → Moment → Results
result_at k m =
    if is_down_event m.event then Retry
    else if list_any (is_stop_of k) m.past then Cancelled
    else if is_fault m.event then Exception
    else result_of_rc (last_rc m.past k)

-- how command k ended: none while it is open or isn't there
abbrev pub outcome : Trace → ℕ → Option Results
outcome t k = option_map (result_at k) (ending t k)

-- Replies

-- the verdict on a fresh request where it comes next
abbrev pub verdict : Trace → Event → Verdict
verdict t (In n (Update k batch rc)) = if is_open t k then Done else NoCommand
verdict t (In n (Complete k fault)) = if is_open t k then Done else NoCommand
verdict t (In n Auth) = AuthAgain
verdict t (In n BadArgs) = VerdictBadArgs
verdict t _ = VerdictNoSuchOp

-- the place at which this session first had the request n
abbrev pub first_with : Trace → ℕ → Option Moment
first_with t n = find (λ m. is_request n m.event) (session t)

-- the verdict that a request gets: that on the first request with its number, which may be itself
abbrev pub answer : Trace → ℕ → Event → Verdict
answer t n e = unwrap_or (option_map (λ m. verdict m.past m.event) (first_with t n)) (verdict t e)

-- what the master sends where the event comes next
abbrev pub reply : Trace → Event → Reply
reply t Up = Silent
reply t Down = Silent
reply t Cut = Silent
reply t Go = Start (orders t) (commands t)
reply t (Stop k) = Interrupt (orders t) k
reply t (In n (Answered fault)) = Silent
reply t (In n body) = Answer n (answer t n (In n body))

-- Items

-- the open command that ends where the event comes next
abbrev pub ended_by : Trace → Event → Option ℕ
ended_by t e = find (λ k. ends_at k (record { past = t; event = e })) (open_commands t)

-- the item where it counts
abbrev pub item_if : Bool → Item → Option Item
item_if true i = Some i
item_if false i = None

-- what the event does to the logs where it comes next, if anything
abbrev pub item : Trace → Event → Option Item
item t Up = None
item t Go = Some (Open (commands t))
item t (Stop k) = None
item t Cut = None
item t Down = item_if (not (is_empty (open_commands t))) Gone
item t (In n (Update k batch rc)) =
    item_if (updates k (record { past = t; event = In n (Update k batch rc) })) (Lines k batch)
item t (In n body) =
    option_map (λ k. End k (result_at k (record { past = t; event = In n body })))
    (ended_by t (In n body))

-- what a trace does to the logs, in order
abbrev pub items : Trace → List Item
items t = filter_map (λ m. item m.past m.event) (moments t)

-- how many places of a trace are productive: those that do something to the logs
abbrev pub productive : Trace → ℕ
productive t = length (items t)

-- Refusals

-- the first reason, if there is one, else the later one
abbrev pub first_reason : Option Refusal → Option Refusal → Option Refusal
first_reason None later = later
first_reason (Some r) later = Some r

-- the reason, where it applies
abbrev pub reason_if : Bool → Refusal → Option Refusal
reason_if true r = Some r
reason_if false r = None

-- while the lane is down only an Up is taken, and while it is cut only an Up or a Down
abbrev pub not_up : Trace → Event → Option Refusal
not_up t Up = None
not_up t Down = reason_if (not (is_up t || is_cut t)) NotUp
not_up t e = reason_if (not (is_up t)) NotUp

-- no Up is taken while the lane is up
abbrev pub already_up : Trace → Event → Option Refusal
already_up t Up = reason_if (is_up t) AlreadyUp
already_up t e = None

-- no command is started while four are open
abbrev pub too_many_open : Trace → Event → Option Refusal
too_many_open t Go = reason_if (nat_le 4 (length (open_commands t))) TooManyOpen
too_many_open t e = None

-- only an open command can be stopped
abbrev pub no_such_command : Trace → Event → Option Refusal
no_such_command t (Stop k) = reason_if (not (is_open t k)) NoSuchCommand
no_such_command t e = None

-- the millionth event can only be a Down
abbrev pub full : Trace → Event → Option Refusal
full t Down = None
full t e = reason_if (nat_le 999999 (length t)) Full

-- why the event isn't taken next: the first of these reasons
abbrev pub refusal : Trace → Event → Option Refusal
refusal t e =
    first_reason (not_up t e)
    (first_reason (already_up t e)
    (first_reason (too_many_open t e)
    (first_reason (no_such_command t e) (full t e))))

-- each event was taken where it came: none was refused
abbrev pub was_taken : Trace → Bool
was_taken t = list_all (λ m. is_none (refusal m.past m.event)) (moments t)

-- What viewers see

-- the prefixes of a trace, the shortest first
abbrev pub prefixes : Trace → List Trace
prefixes t = map (λ m. m.past) (moments t) ++ t ∷ []

-- the shortest prefix of a trace with d productive places
abbrev pub visible : Trace → ℕ → Trace
visible t d = unwrap_or (find (λ p. productive p == d) (prefixes t)) t

-- What a resumed session needs

-- the first verdict on the number n in this session, while the lane is up or cut
abbrev pub seen : Trace → ℕ → Option Verdict
seen t n =
    if is_up t || is_cut t then option_map (λ m. verdict m.past m.event) (first_with t n) else None

-- of the orders at these places, those without a later answer
abbrev pub unanswered : List Moment → List Moment
unanswered [] = []
unanswered (m ∷ ms) =
    if is_order m.event && not (list_any (λ l. is_answer_to (orders m.past) l.event) ms)
    then m ∷ unanswered ms else unanswered ms

-- the orders of this session that the worker hasn't answered yet
abbrev pub pending : Trace → List Moment
pending t = unanswered (session t)

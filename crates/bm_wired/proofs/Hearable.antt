-- What a master sends can be heard: values of its parts are made.
use Rattle.std.proofs.Common.{◌≡◌, refl, sym, ◌∙◌, ap, subst, true, false, ℕ, suc, ◌<◌, ◌^◌, List, [], ◌∷◌, length, map, Some, None, Option, Vec, arith, lit<, codes}
use Rattle.std.specs.declared.alloc.Global.{Global}
use Rattle.std.proofs.Math.Nat.{le_refl}
use denote.RawPtr.{null_ptr}
use Rattle.bm_value.specs.declared.value.Value.{Value, Nil, Str, Array, Map}
use Rattle.bm_value.specs.declared.value.Pair.{Pair}
use Rattle.bm_value.specs.declared.value.Value.TheViews.{roll-Items, roll-Pair, roll-Pairs}
use Rattle.bm_value.specs.declared.value.Value.TheFolds.{fold-roll-Pair}
use Rattle.bm_value.specs.Tree.{Tree, str, array, dict, Trees, TreePair, Pairs as TreePairs, pair, no_pairs}
use Rattle.bm_value.specs.View.{value_step, items_step, pair_step, pairs_step, tree, trees_of, pair_tree}
use Rattle.bm_value.proofs.Trees.{nil_of}
use Rattle.bm_msg.specs.Meaning.{Meaning, meaning, request, response, start_command}
use Rattle.bm_msg.specs.Messages.{IsMessage}
use Rattle.bm_msg.specs.Trees.{answer, answer_bytes}
use Rattle.bm_msg.specs.declared.incoming.Incoming.TheVariants as incoming
use Rattle.bm_msg.specs.declared.message.Message.{Message}
use Rattle.bm_msg.specs.declared.message.Message.TheVariants as message
use Rattle.bm_msg.specs.declared.request.Request.TheVariants as asking
use Rattle.bm_msg.proofs.TreeLists.{array_of, map_of, str_of}
use Rattle.bm_link.specs.Asks.{ask_bytes, asks_for}
use Rattle.bm_link.specs.Orders.{args_of, start_bytes}
use Rattle.bm_link.specs.declared.asks.Ask.{Ask}
use Rattle.bm_link.specs.declared.asks.Ask.TheVariants as ask
use Rattle.bm_replay.specs.Wire.{AreRead}
use Rattle.bm_wired.specs.CanBeHeard.{CanBeHeard, OrdersCanBeHeard, AsksCanBeHeard, AnswersCanBeHeard}
use Rattle.bm_wired.specs.Wired.{AreSendable}
use Rattle.bm_wired.proofs.Meant.{start-meant, stop-meant, ask-meant, answer-meant}

heard-by : (bytes : List ℕ) (m : Meaning) (x : Message) → meaning x ≡ m → AreRead bytes m → CanBeHeard bytes
heard-by bytes m x e r = (incoming.Message x, (r.tree, r.spelled, r.nests, subst (λ v. IsMessage r.tree v) (sym e) r.told))

-- the arguments of a start, as a value

abbrev vec-of : {X : Type 0} → Global → (xs : List X) → length xs < 2 ^ 63 → Vec X Global
vec-of heap xs small = record { ptr = null_ptr; len = length xs; cap = length xs; alloc = heap; items = xs; ok = (refl, le_refl (length xs)); small = small }

abbrev word-value : List ℕ → Value Global
word-value w = Str w

values-size : (ws : List (List ℕ)) → length (map word-value ws) ≡ length ws
values-size [] = refl
values-size (w ∷ ws) = ap suc (values-size ws)

values-tree : (ws : List (List ℕ)) → map tree (map word-value ws) ≡ map str ws
values-tree [] = refl
values-tree (w ∷ ws) = ap (λ (t : Tree). t ∷ map tree (map word-value ws)) (str_of w) ∙ ap (λ (ts : List Tree). str w ∷ ts) (values-tree ws)

module _ (heap : Global) (argv : List (List ℕ)) (few : length (map word-value argv) < 2 ^ 63) where
  abbrev words-value : Value Global
  words-value = Array (roll-Items Global record { vec = vec-of heap (map word-value argv) few })

  words-tree : tree words-value ≡ array (trees_of (map str argv))
  words-tree = array_of (vec-of heap (map word-value argv) few) ∙ ap (λ (ts : List Tree). array (trees_of ts)) (values-tree argv)

  abbrev pair-value : Pair Global
  pair-value = roll-Pair Global record { key = word-value (codes "command"); value = words-value }

  abbrev pair-there : Tree → Tree → TreePair
  pair-there k v = record { key = k; value = v }

  pair-made : pair_tree pair-value ≡ pair-there (tree (word-value (codes "command"))) (tree words-value)
  pair-made = fold-roll-Pair Global Tree Trees TreePair TreePairs value_step items_step pair_step pairs_step record { key = word-value (codes "command"); value = words-value }

  abbrev args-value : Value Global
  args-value = Map (roll-Pairs Global record { vec = vec-of heap (pair-value ∷ []) (lit< tt) })

  args-tree : tree args-value ≡ args_of argv
  args-tree =
      map_of (vec-of heap (pair-value ∷ []) (lit< tt))
      ∙ ap (λ (q : TreePair). dict (pair q.key q.value no_pairs)) pair-made
      ∙ ap (λ (t : Tree). dict (pair t (tree words-value) no_pairs)) (str_of (codes "command"))
      ∙ ap (λ (t : Tree). dict (pair (str (codes "command")) t no_pairs)) words-tree

-- orders

start-hearable : (heap : Global) (n k : ℕ) (argv : List (List ℕ)) → n < 2 ^ 63 → k < 2 ^ 63 → AreSendable argv → CanBeHeard (start_bytes n k argv)
start-hearable heap n k argv a b s =
    heard-by (start_bytes n k argv) (request n (start_command k (codes "shell") (args_of argv)))
    (message.Request record { seq = n; request = asking.StartCommand k (codes "shell") (args-value heap argv few); in_range = a })
    (ap (λ (t : Tree). request n (start_command k (codes "shell") t)) (args-tree heap argv few))
    (start-meant n k argv a b s).read
  where
    few : length (map word-value argv) < 2 ^ 63
    few = omega (arith, values-size argv, s.0.0)

pub orders_can_be_heard : OrdersCanBeHeard
orders_can_be_heard = (
  start-hearable,
  (λ n k a b. heard-by _ _ (message.Request record { seq = n; request = asking.InterruptCommand k (codes "stop"); in_range = a }) refl (stop-meant n k a b).read),
)

-- other requests

ask-request : (n : ℕ) (q : Ask) → n < 2 ^ 63 → (x : Message) × (meaning x ≡ request n (asks_for q))
ask-request n (ask.Print shown) a = (message.Request record { seq = n; request = asking.Print shown; in_range = a }, refl)
ask-request n ask.Keepalive a = (message.Request record { seq = n; request = asking.Keepalive; in_range = a }, refl)
ask-request n ask.GetWorkerInfo a = (message.Request record { seq = n; request = asking.GetWorkerInfo; in_range = a }, refl)
ask-request n ask.Shutdown a = (message.Request record { seq = n; request = asking.Shutdown; in_range = a }, refl)

pub asks_can_be_heard : AsksCanBeHeard
asks_can_be_heard n q a s = let x = ask-request n q a in heard-by (ask_bytes n q) (request n (asks_for q)) x.0 x.1 (ask-meant n q a s).read

-- answers

abbrev nil-value : Value Global
nil-value = Nil

answer-response : (n : ℕ) (o : Option (List ℕ)) → n < 2 ^ 63 → (x : Message) × (meaning x ≡ answer n o)
answer-response n None a = (message.Response record { seq = n; result = nil-value; exception = false; in_range = a }, ap (λ (t : Tree). response n t false) (nil_of Global))
answer-response n (Some why) a = (message.Response record { seq = n; result = word-value why; exception = true; in_range = a }, ap (λ (t : Tree). response n t true) (str_of why))

pub answers_can_be_heard : AnswersCanBeHeard
answers_can_be_heard n o a h = let x = answer-response n o a in heard-by (answer_bytes n o) (answer n o) x.0 x.1 (answer-meant n o a h).read

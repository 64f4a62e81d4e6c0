-- Reading key by key finds the message that a tree is, or the first reason why it is none.
use Rattle.std.proofs.Common.{◌≡◌, ◌≢◌, refl, sym, ◌∙◌, ap, subst, ℕ, pos, true, false, cond, List, Option, Some, None, Result, Ok, Err}
use Rattle.std.specs.Prelude.{codes, IfOk, IfErr, IsErrOf, is_ok, bytes_eq}
use Rattle.std.specs.Option.{option_map, option_and_then}
use Rattle.std.proofs.lemmas.Slice.Eq.{bytes_eq-Decides}
use Rattle.bm_value.specs.Tree.{Tree, nil, bool, int, bits32, bits64, str, bin, array, dict, ext}
use Rattle.bm_value.specs.Field.{field}
use Rattle.bm_msg.specs.declared.field.Field.{Field}
use Rattle.bm_msg.specs.declared.fault.MsgError.{MsgError}
use Rattle.bm_msg.specs.declared.fault.MsgError.TheVariants.{NotMap, NoSeq, NoOp, BadArgs, Mem}
use Rattle.bm_msg.specs.declared.message.Message.{Message}
use Rattle.bm_msg.specs.Meaning.{Asked, auth, print, keepalive, get_worker_info, start_command, interrupt_command, shutdown, update, complete, unknown, Meaning, meaning, request, response}
use Rattle.bm_msg.specs.Answers.{Reads}
use Rattle.bm_msg.specs.Messages.{HasNumber, HasOp, IsRequest, IsMessage, IsFaulty, session_of, result_of}
use Rattle.bm_msg.specs.Reading.{text_at, number_at, command_at, items_at, fault_at, auth_at, update_at, complete_at, print_at, start_at, interrupt_at, asked_at, response_at, asked_or, op_read, with_number, reading}
use Rattle.bm_msg.proofs.KeyValues.{IsMap, map_from_field, text_to, text_from, number_to, number_from, command_to, command_from, items_to, items_from, fault_to, fault_from}
use Rattle.bm_msg.proofs.Operations.{same, choice, none_named, unknown_asked}

-- ---- what is read of a request is what the tree asks

bound : {X Y P : Type 0} (f : X → Option Y) (o : Option X) (y : Y) → option_and_then f o ≡ Some y → ((x : X) → o ≡ Some x → f x ≡ Some y → P) → P
bound f None y h g = absurd cc
bound f (Some x) y h g = g x refl h

mapped : {X Y P : Type 0} (f : X → Y) (o : Option X) (y : Y) → option_map f o ≡ Some y → ((x : X) → o ≡ Some x → f x ≡ y → P) → P
mapped f None y h g = absurd cc
mapped f (Some x) y h g = let same : f x ≡ y = cc in g x refl same

asks_along : (t : Tree) (a b : Asked) → a ≡ b → IsRequest t a → IsRequest t b
asks_along t a b e h = subst (λ x. IsRequest t x) e h

op_along : (t : Tree) (op name : List ℕ) → op ≡ name → HasOp t op → HasOp t name
op_along t op name e h = subst (λ x. HasOp t x) e h

auth_is : (t : Tree) (a : Asked) → HasOp t (codes "auth") → auth_at t ≡ Some a → IsRequest t a
auth_is t a op h =
    bound (λ username. option_map (λ password. auth username password (session_of (field t (codes "session")))) (text_at t (codes "password"))) (text_at t (codes "username")) a h (λ username u g.
    mapped (λ password. auth username password (session_of (field t (codes "session")))) (text_at t (codes "password")) a g (λ password p e.
    asks_along t _ a e (op, text_to t (codes "username") username u, text_to t (codes "password") password p, refl)))

update_is : (t : Tree) (a : Asked) → HasOp t (codes "update") → update_at t ≡ Some a → IsRequest t a
update_is t a op h =
    bound (λ command. option_map (update command) (items_at t)) (command_at t) a h (λ command k g.
    mapped (update command) (items_at t) a g (λ fields f e.
    asks_along t _ a e (op, command_to t command k, items_to t fields f)))

complete_is : (t : Tree) (a : Asked) → HasOp t (codes "complete") → complete_at t ≡ Some a → IsRequest t a
complete_is t a op h =
    bound (λ command. option_map (complete command) (fault_at t)) (command_at t) a h (λ command k g.
    mapped (complete command) (fault_at t) a g (λ fault f e.
    asks_along t _ a e (op, command_to t command k, fault_to t fault f)))

print_is : (t : Tree) (a : Asked) → HasOp t (codes "print") → print_at t ≡ Some a → IsRequest t a
print_is t a op h =
    mapped print (text_at t (codes "message")) a h (λ message m e.
    asks_along t _ a e (op, text_to t (codes "message") message m))

start_is : (t : Tree) (a : Asked) → HasOp t (codes "start_command") → start_at t ≡ Some a → IsRequest t a
start_is t a op h =
    bound (λ command. option_and_then (λ name. option_map (start_command command name) (field t (codes "args"))) (text_at t (codes "command_name"))) (command_at t) a h (λ command k g.
    bound (λ name. option_map (start_command command name) (field t (codes "args"))) (text_at t (codes "command_name")) a g (λ name n i.
    mapped (start_command command name) (field t (codes "args")) a i (λ args j e.
    asks_along t _ a e (op, command_to t command k, text_to t (codes "command_name") name n, j))))

interrupt_is : (t : Tree) (a : Asked) → HasOp t (codes "interrupt_command") → interrupt_at t ≡ Some a → IsRequest t a
interrupt_is t a op h =
    bound (λ command. option_map (interrupt_command command) (text_at t (codes "why"))) (command_at t) a h (λ command k g.
    mapped (interrupt_command command) (text_at t (codes "why")) a g (λ why w e.
    asks_along t _ a e (op, command_to t command k, text_to t (codes "why") why w)))

some_is : {X : Type 0} (a b : X) → Some a ≡ Some b → a ≡ b
some_is a b h = cc

asked_is : (t : Tree) (op : List ℕ) (a : Asked) → HasOp t op → bytes_eq op (codes "response") ≡ false → asked_at op t ≡ Some a → IsRequest t a
unfolding asked_at
asked_is t op a has other =
    let P : Option Asked → Type 0 = λ o. o ≡ Some a → IsRequest t a in
    let named : (name : List ℕ) → bytes_eq op name ≡ true → HasOp t name = λ name e. op_along t op name (same op name e) has in
    choice P (bytes_eq op (codes "auth")) (auth_at t) _ (λ e h. auth_is t a (named (codes "auth") e) h) (λ p1.
    choice P (bytes_eq op (codes "update")) (update_at t) _ (λ e h. update_is t a (named (codes "update") e) h) (λ p2.
    choice P (bytes_eq op (codes "complete")) (complete_at t) _ (λ e h. complete_is t a (named (codes "complete") e) h) (λ p3.
    choice P (bytes_eq op (codes "print")) (print_at t) _ (λ e h. print_is t a (named (codes "print") e) h) (λ p4.
    choice P (bytes_eq op (codes "keepalive")) (Some keepalive) _ (λ e h. asks_along t keepalive a (some_is _ _ h) (named (codes "keepalive") e)) (λ p5.
    choice P (bytes_eq op (codes "get_worker_info")) (Some get_worker_info) _ (λ e h. asks_along t get_worker_info a (some_is _ _ h) (named (codes "get_worker_info") e)) (λ p6.
    choice P (bytes_eq op (codes "shutdown")) (Some shutdown) _ (λ e h. asks_along t shutdown a (some_is _ _ h) (named (codes "shutdown") e)) (λ p7.
    choice P (bytes_eq op (codes "start_command")) (start_at t) _ (λ e h. start_is t a (named (codes "start_command") e) h) (λ p8.
    choice P (bytes_eq op (codes "interrupt_command")) (interrupt_at t) (Some (unknown op)) (λ e h. interrupt_is t a (named (codes "interrupt_command") e) h) (λ p9 h.
    asks_along t (unknown op) a (some_is _ _ h) (has, none_named op p1 p2 p3 p4 p5 p6 p7 p8 p9 other))))))))))

-- ---- what a tree asks is read

auth_read : (t : Tree) (u p : List ℕ) (s : Option (List ℕ)) → IsRequest t (auth u p s) → auth_at t ≡ Some (auth u p s)
auth_read t u p s h =
    ap (option_and_then (λ username. option_map (λ password. auth username password (session_of (field t (codes "session")))) (text_at t (codes "password")))) (text_from t (codes "username") u h.1)
    ∙ ap (option_map (λ password. auth u password (session_of (field t (codes "session"))))) (text_from t (codes "password") p h.2)
    ∙ ap (λ s. Some (auth u p s)) h.3

update_read : (t : Tree) (k : ℕ) (fs : List Field) → IsRequest t (update k fs) → update_at t ≡ Some (update k fs)
update_read t k fs h =
    ap (option_and_then (λ command. option_map (update command) (items_at t))) (command_from t k h.1) ∙ ap (option_map (update k)) (items_from t fs h.2)

complete_read : (t : Tree) (k : ℕ) (f : Option (List ℕ)) → IsRequest t (complete k f) → complete_at t ≡ Some (complete k f)
complete_read t k f h =
    ap (option_and_then (λ command. option_map (complete command) (fault_at t))) (command_from t k h.1) ∙ ap (option_map (complete k)) (fault_from t f h.2)

print_read : (t : Tree) (m : List ℕ) → IsRequest t (print m) → print_at t ≡ Some (print m)
print_read t m h = ap (option_map print) (text_from t (codes "message") m h.1)

start_read : (t : Tree) (k : ℕ) (n : List ℕ) (args : Tree) → IsRequest t (start_command k n args) → start_at t ≡ Some (start_command k n args)
start_read t k n args h =
    ap (option_and_then (λ command. option_and_then (λ name. option_map (start_command command name) (field t (codes "args"))) (text_at t (codes "command_name")))) (command_from t k h.1)
    ∙ ap (option_and_then (λ name. option_map (start_command k name) (field t (codes "args")))) (text_from t (codes "command_name") n h.2)
    ∙ ap (option_map (start_command k n)) h.3

interrupt_read : (t : Tree) (k : ℕ) (w : List ℕ) → IsRequest t (interrupt_command k w) → interrupt_at t ≡ Some (interrupt_command k w)
interrupt_read t k w h =
    ap (option_and_then (λ command. option_map (interrupt_command command) (text_at t (codes "why")))) (command_from t k h.1) ∙ ap (option_map (interrupt_command k)) (text_from t (codes "why") w h.2)

-- a number and an operation are read before the rest
begins : (t : Tree) (n : ℕ) (op : List ℕ) → HasNumber t n → HasOp t op → reading t ≡ op_read n op t
begins (dict ps) n op has named = ap (λ o. with_number (dict ps) o (text_at (dict ps) (codes "op"))) (number_from (dict ps) n has) ∙ ap (with_number (dict ps) (Some n)) (text_from (dict ps) (codes "op") op named)
begins t n op has named = absurd (let e = has.0 in cc)

request_read : (t : Tree) (n : ℕ) (a : Asked) → HasNumber t n → IsRequest t a → reading t ≡ Ok (request n a)
unfolding asked_at
request_read t n (auth u p s) has h = begins t n _ has h.0 ∙ ap (asked_or n) (auth_read t u p s h)
request_read t n (update k fs) has h = begins t n _ has h.0 ∙ ap (asked_or n) (update_read t k fs h)
request_read t n (complete k f) has h = begins t n _ has h.0 ∙ ap (asked_or n) (complete_read t k f h)
request_read t n (print m) has h = begins t n _ has h.0 ∙ ap (asked_or n) (print_read t m h)
request_read t n keepalive has h = begins t n _ has h
request_read t n get_worker_info has h = begins t n _ has h
request_read t n shutdown has h = begins t n _ has h
request_read t n (start_command k name args) has h = begins t n _ has h.0 ∙ ap (asked_or n) (start_read t k name args h)
request_read t n (interrupt_command k w) has h = begins t n _ has h.0 ∙ ap (asked_or n) (interrupt_read t k w h)
request_read t n (unknown op) has h =
    let other = unknown_asked op t h.1 in
    begins t n op has h.0 ∙ ap (λ b. cond b (Ok (response_at n t)) (asked_or n (asked_at op t))) other.1 ∙ ap (asked_or n) other.0

pub message_read : (t : Tree) (m : Meaning) → IsMessage t m → reading t ≡ Ok m
message_read t (request n a) h = request_read t n a h.0 h.1
message_read t (response n r x) h =
    begins t n (codes "response") h.0 h.1 ∙ ap (λ y. Ok (response n (result_of y (field t (codes "result"))) y)) h.2 ∙ ap (λ r. Ok (response n r x)) h.3

-- ---- what is read is the message

ok_is : (a b : Meaning) → ◌≡◌ {A = Result Meaning MsgError} (Ok a) (Ok b) → a ≡ b
ok_is a b h = cc

message_along : (t : Tree) (m m' : Meaning) → m ≡ m' → IsMessage t m → IsMessage t m'
message_along t m m' e h = subst (λ x. IsMessage t x) e h

asked_or_is : (t : Tree) (n : ℕ) (op : List ℕ) (o : Option Asked) (m : Meaning) → HasNumber t n → ((a : Asked) → o ≡ Some a → IsRequest t a) → asked_or n o ≡ Ok m → IsMessage t m
asked_or_is t n op (Some a) m has asks h = message_along t (request n a) m (ok_is _ _ h) (has, asks a refl)
asked_or_is t n op None m has asks h = absurd cc

op_is : (t : Tree) (n : ℕ) (op : List ℕ) (m : Meaning) → HasNumber t n → HasOp t op → op_read n op t ≡ Ok m → IsMessage t m
op_is t n op m has named =
    let P : Result Meaning MsgError → Type 0 = λ r. r ≡ Ok m → IsMessage t m in
    choice P (bytes_eq op (codes "response")) (Ok (response_at n t)) (asked_or n (asked_at op t))
    (λ e h. message_along t (response_at n t) m (ok_is _ _ h) (has, op_along t op (codes "response") ((bytes_eq-Decides op (codes "response")).0 e) named, refl, refl))
    (λ e h. asked_or_is t n op (asked_at op t) m has (λ a g. asked_is t op a named e g) h)

with_number_is : (t : Tree) (o : Option ℕ) (p : Option (List ℕ)) (m : Meaning) → ((n : ℕ) → o ≡ Some n → HasNumber t n) → ((op : List ℕ) → p ≡ Some op → HasOp t op) → with_number t o p ≡ Ok m → IsMessage t m
with_number_is t None p m has named h = absurd cc
with_number_is t (Some n) None m has named h = absurd cc
with_number_is t (Some n) (Some op) m has named h = op_is t n op m (has n refl) (named op refl) h

pub read_is : (t : Tree) (m : Meaning) → reading t ≡ Ok m → IsMessage t m
read_is (dict ps) m h = with_number_is (dict ps) (number_at (dict ps)) (text_at (dict ps) (codes "op")) m (number_to (dict ps)) (text_to (dict ps) (codes "op")) h
read_is t m h = absurd cc

-- ---- faults

err_is : (a b : MsgError) → ◌≡◌ {A = Result Meaning MsgError} (Err a) (Err b) → a ≡ b
err_is a b h = cc

faulty_along : (t : Tree) (e f : MsgError) → e ≡ f → IsFaulty t e → IsFaulty t f
faulty_along t e f is h = subst (λ x. IsFaulty t x) is h

no_message : (t : Tree) (e : MsgError) → reading t ≡ Err e → (m : Meaning) → IsMessage t m → ⊥
no_message t e h m is = let good = message_read t m is in absurd cc

asked_or_faulty : (t : Tree) (n : ℕ) (op : List ℕ) (o : Option Asked) (e : MsgError) → HasNumber t n → HasOp t op → ((m : Meaning) → IsMessage t m → ⊥) → asked_or n o ≡ Err e → IsFaulty t e
asked_or_faulty t n op (Some a) e has named never h = absurd cc
asked_or_faulty t n op None e has named never h = faulty_along t (BadArgs n) e (err_is _ _ h) (has, (op, named), never)

op_faulty : (t : Tree) (n : ℕ) (op : List ℕ) (e : MsgError) → HasNumber t n → HasOp t op → ((m : Meaning) → IsMessage t m → ⊥) → op_read n op t ≡ Err e → IsFaulty t e
op_faulty t n op e has named never =
    let P : Result Meaning MsgError → Type 0 = λ r. r ≡ Err e → IsFaulty t e in
    choice P (bytes_eq op (codes "response")) (Ok (response_at n t)) (asked_or n (asked_at op t))
    (λ _ h. absurd cc)
    (λ _ h. asked_or_faulty t n op (asked_at op t) e has named never h)

no_number : (t : Tree) → number_at t ≡ None → (n : ℕ) → HasNumber t n → ⊥
no_number t h n has = let some = number_from t n has in cc

no_op : (t : Tree) → text_at t (codes "op") ≡ None → (op : List ℕ) → HasOp t op → ⊥
no_op t h op has = let some = text_from t (codes "op") op has in cc

with_number_faulty : (t : Tree) (o : Option ℕ) (p : Option (List ℕ)) (e : MsgError) → IsMap t → number_at t ≡ o → text_at t (codes "op") ≡ p → ((m : Meaning) → IsMessage t m → ⊥) → with_number t o p ≡ Err e → IsFaulty t e
with_number_faulty t None p e is_map none q never h = faulty_along t NoSeq e (err_is _ _ h) (is_map, no_number t none)
with_number_faulty t (Some n) None e is_map has none never h = faulty_along t NoOp e (err_is _ _ h) ((n, number_to t n has), no_op t none)
with_number_faulty t (Some n) (Some op) e is_map has named never h = op_faulty t n op e (number_to t n has) (text_to t (codes "op") op named) never h

not_map : (t : Tree) (e : MsgError) → (IsMap t → ⊥) → ◌≡◌ {A = Result Meaning MsgError} (Err NotMap) (Err e) → IsFaulty t e
not_map t e never h = faulty_along t NotMap e (err_is _ _ h) never

pub read_faulty : (t : Tree) (e : MsgError) → reading t ≡ Err e → IsFaulty t e
read_faulty (dict ps) e h = with_number_faulty (dict ps) (number_at (dict ps)) (text_at (dict ps) (codes "op")) e (ps, refl) refl refl (no_message (dict ps) e h) h
read_faulty t e h = not_map t e (λ m. let is = m.1 in absurd cc) h

-- a tree has one fault at most
map_of_number : (t : Tree) (n : ℕ) → HasNumber t n → IsMap t
map_of_number t n h = map_from_field t (codes "seq_number") (int (pos n)) h.0

one_number : (t : Tree) (n k : ℕ) → HasNumber t n → HasNumber t k → n ≡ k
one_number t n k h g = let a = h.0 in let b = g.0 in cc

one_fault : (t : Tree) (e f : MsgError) → IsFaulty t e → IsFaulty t f → e ≡ f
one_fault t NotMap NotMap h g = refl
one_fault t NotMap NoSeq h g = absurd (h g.0)
one_fault t NotMap NoOp h g = absurd (h (map_of_number t g.0.0 g.0.1))
one_fault t NotMap (BadArgs n) h g = absurd (h (map_of_number t n g.0))
one_fault t NoSeq NotMap h g = absurd (g h.0)
one_fault t NoSeq NoSeq h g = refl
one_fault t NoSeq NoOp h g = absurd (h.1 g.0.0 g.0.1)
one_fault t NoSeq (BadArgs n) h g = absurd (h.1 n g.0)
one_fault t NoOp NotMap h g = absurd (g (map_of_number t h.0.0 h.0.1))
one_fault t NoOp NoSeq h g = absurd (g.1 h.0.0 h.0.1)
one_fault t NoOp NoOp h g = refl
one_fault t NoOp (BadArgs n) h g = absurd (h.1 g.1.0 g.1.1)
one_fault t (BadArgs n) NotMap h g = absurd (g (map_of_number t n h.0))
one_fault t (BadArgs n) NoSeq h g = absurd (g.1 n h.0)
one_fault t (BadArgs n) NoOp h g = absurd (g.1 h.1.0 h.1.1)
one_fault t (BadArgs n) (BadArgs k) h g = ap (λ x. BadArgs x) (one_number t n k h.0 g.0)
one_fault t Mem f h g = absurd h
one_fault t e Mem h g = absurd g

number_of : (t : Tree) (m : Meaning) → IsMessage t m → (n : ℕ) × HasNumber t n
number_of t (request n a) is = (n, is.0)
number_of t (response n r x) is = (n, is.0)

op_of_request : (t : Tree) (a : Asked) → IsRequest t a → (op : List ℕ) × HasOp t op
op_of_request t (auth u p s) is = (codes "auth", is.0)
op_of_request t (update k fs) is = (codes "update", is.0)
op_of_request t (complete k f) is = (codes "complete", is.0)
op_of_request t (print m) is = (codes "print", is.0)
op_of_request t keepalive is = (codes "keepalive", is)
op_of_request t get_worker_info is = (codes "get_worker_info", is)
op_of_request t shutdown is = (codes "shutdown", is)
op_of_request t (start_command k name args) is = (codes "start_command", is.0)
op_of_request t (interrupt_command k w) is = (codes "interrupt_command", is.0)
op_of_request t (unknown op) is = (op, is.0)

op_of : (t : Tree) (m : Meaning) → IsMessage t m → (op : List ℕ) × HasOp t op
op_of t (request n a) is = op_of_request t a is.1
op_of t (response n r x) is = (codes "response", is.1)

no_fault : (t : Tree) (m : Meaning) (f : MsgError) → IsMessage t m → IsFaulty t f → ⊥
no_fault t m NotMap is h = let number = number_of t m is in h (map_of_number t number.0 number.1)
no_fault t m NoSeq is h = let number = number_of t m is in h.1 number.0 number.1
no_fault t m NoOp is h = let op = op_of t m is in h.1 op.0 op.1
no_fault t m (BadArgs n) is h = h.2 m is
no_fault t m Mem is h = h

pub fault_read : (t : Tree) (f : MsgError) → IsFaulty t f → reading t ≡ Err f
fault_read t f h = go (reading t) refl
  where
    go : (r : Result Meaning MsgError) → reading t ≡ r → r ≡ Err f
    go (Ok m) e = absurd (no_fault t m f (read_is t m e) h)
    go (Err e) is = ap (λ x. Err x) (one_fault t e f (read_faulty t e is) h)

-- ---- what a call answers that reads key by key

pub found_from : (t : Tree) (r : Result Message MsgError) → Reads r (reading t) → IfOk r (λ m. IsMessage t (meaning m))
found_from t (Ok m) h = read_is t (meaning m) h
found_from t (Err e) h = tt

pub fault_from_reads : (t : Tree) (r : Result Message MsgError) → Reads r (reading t) → IfErr r (λ e. e ≢ Mem → IsFaulty t e)
fault_from_reads t (Ok m) h = tt
fault_from_reads t (Err NotMap) h = λ _. read_faulty t NotMap h
fault_from_reads t (Err NoSeq) h = λ _. read_faulty t NoSeq h
fault_from_reads t (Err NoOp) h = λ _. read_faulty t NoOp h
fault_from_reads t (Err (BadArgs n)) h = λ _. read_faulty t (BadArgs n) h
fault_from_reads t (Err Mem) h = λ never. absurd (never refl)

-- a fault is answered whatever memory there is
pub told_from : (t : Tree) (r : Result Message MsgError) (f : MsgError) → reading t ≡ Err f → Reads r (reading t) → IsErrOf r f
told_from t (Ok m) f is h = absurd cc
told_from t (Err NotMap) f is h = ap (λ e. Err e) (err_is NotMap f (sym h ∙ is))
told_from t (Err NoSeq) f is h = ap (λ e. Err e) (err_is NoSeq f (sym h ∙ is))
told_from t (Err NoOp) f is h = ap (λ e. Err e) (err_is NoOp f (sym h ∙ is))
told_from t (Err (BadArgs n)) f is h = ap (λ e. Err e) (err_is (BadArgs n) f (sym h ∙ is))
told_from t (Err Mem) f is h = absurd (let bad : is_ok (reading t) ≡ false = ap is_ok is in cc)

pub reads_along : (r : Result Message MsgError) (a b : Result Meaning MsgError) → a ≡ b → Reads r a → Reads r b
reads_along r a b e h = subst (λ x. Reads r x) e h

-- no tree is two messages
pub told_once : (t : Tree) (m n : Meaning) → IsMessage t m → IsMessage t n → m ≡ n
told_once t m n p q = ok_is m n (sym (message_read t m p) ∙ message_read t n q)

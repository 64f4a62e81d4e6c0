-- The tree of a message is that message.
use Rattle.std.proofs.Common.{◌≡◌, refl, sym, ◌∙◌, ap, subst, take, ℕ, ◌≤◌, Bool, true, false, cond, ◌&&◌, List, [], ◌∷◌, ◌++◌, map, length, Option, Some, None, arith}
use Rattle.std.specs.Prelude.{nat_le, codes, pos}
use Rattle.std.specs.Option.{option_map, option_and_then}
use Rattle.std.proofs.lemmas.Bool.Decides.{nat_tests}
use Rattle.bm_value.specs.Tree.{int}
use Rattle.bm_value.specs.Field.{field}
use Rattle.bm_value.specs.View.{trees_of}
use Rattle.bm_value.proofs.Unique.{spelled_once}
use Rattle.bm_lines.specs.Names.{IsLogName}
use Rattle.bm_lines.specs.declared.letter.Letter.TheVariants.{O, E, H}
use Rattle.bm_msg.specs.declared.field.Field.{Field}
use Rattle.bm_msg.specs.declared.field.Field.TheVariants.{Text, Named, Rc}
use Rattle.bm_msg.specs.Items.{is_log_name, fields_of}
use Rattle.bm_msg.specs.Meaning.{Asked, auth, print, keepalive, get_worker_info, start_command, interrupt_command, shutdown, update, complete, unknown, request, response}
use Rattle.bm_msg.specs.Messages.{IsMessage, IsRequest, is_session, result_of}
use Rattle.bm_msg.specs.Trees.{item_of, tree_of}
use Rattle.bm_msg.specs.Laws.{AreNamed, IsPlain, WrittenIsMessage, WrittenIsRead}
use Rattle.bm_value.specs.Spelling.{Spells}
use Rattle.bm_value.specs.Writing.{written}
use Rattle.std.proofs.Math.Seq.{take-append_seam}

both : (a b : Bool) → a ≡ true → b ≡ true → (a && b) ≡ true
both true true p q = refl
both true false p q = absurd cc
both false b p q = absurd cc

log_name : (name : List ℕ) → IsLogName name → is_log_name name ≡ true
log_name name h =
    let some : 1 ≤ length name = h.some in
    let short : length name ≤ 255 = h.short in
    both (nat_le 1 (length name)) (nat_le (length name) 255) (grind (arith, nat_tests)) (grind (arith, nat_tests))

pub session_name : (s : List ℕ) → 1 ≤ length s → length s ≤ 64 → is_session s ≡ true
session_name s some short = both (nat_le 1 (length s)) (nat_le (length s) 64) (grind (arith, nat_tests)) (grind (arith, nat_tests))

onto : (f : Field) (fs : List Field) (o : Option (List Field)) → o ≡ Some fs → option_map (λ back. (f ∷ []) ++ back) o ≡ Some (f ∷ fs)
onto f fs o h = ap (option_map (λ back. (f ∷ []) ++ back)) h

pub fields_back : (fs : List Field) → AreNamed fs → fields_of (trees_of (map item_of fs)) ≡ Some fs
fields_back [] h = refl
fields_back (Text O text ∷ fs) h = onto (Text O text) fs _ (fields_back fs h)
fields_back (Text E text ∷ fs) h = onto (Text E text) fs _ (fields_back fs h)
fields_back (Text H text ∷ fs) h = onto (Text H text) fs _ (fields_back fs h)
fields_back (Named name text ∷ fs) h =
    ap (λ b. option_and_then (λ front. option_map (λ back. front ++ back) (fields_of (trees_of (map item_of fs)))) (cond b (Some (Named name text ∷ [])) None)) (log_name name h.0)
    ∙ onto (Named name text) fs _ (fields_back fs h.1)
fields_back (Rc z ∷ fs) h = onto (Rc z) fs _ (fields_back fs h)

request_back : (n : ℕ) (a : Asked) → IsPlain a → IsRequest (tree_of (request n a)) a
request_back n (auth u p None) h = (refl, refl, refl, refl)
request_back n (auth u p (Some s)) h = (refl, refl, refl, ap (λ b. cond b (Some s) None) (session_name s h.0 h.1))
request_back n (update k fs) h = (refl, (refl, h.0), (_, refl, fields_back fs h.1))
request_back n (complete k None) h = (refl, (refl, h), refl)
request_back n (complete k (Some s)) h = (refl, (refl, h), refl)
request_back n (print m) h = (refl, refl)
request_back n keepalive h = refl
request_back n get_worker_info h = refl
request_back n shutdown h = refl
request_back n (start_command k name args) h = (refl, (refl, h), refl, refl)
request_back n (interrupt_command k why) h = (refl, (refl, h), refl)
request_back n (unknown op) h = (refl, h)

number_back : (n : ℕ) (a : Asked) → field (tree_of (request n a)) (codes "seq_number") ≡ Some (int (pos n))
number_back n (auth u p None) = refl
number_back n (auth u p (Some s)) = refl
number_back n (update k fs) = refl
number_back n (complete k f) = refl
number_back n (print m) = refl
number_back n keepalive = refl
number_back n get_worker_info = refl
number_back n shutdown = refl
number_back n (start_command k name args) = refl
number_back n (interrupt_command k why) = refl
number_back n (unknown op) = refl

pub message_back : WrittenIsMessage
message_back (request n a) h = ((number_back n a, h.0), request_back n a h.1)
message_back (response n r true) h = ((refl, h.0), refl, refl, ap (λ t. result_of true (Some t)) h.1.1 ∙ sym h.1.1)
message_back (response n r false) h = ((refl, h.0), refl, refl, refl)

-- what is written is read as one tree
pub bytes_back : WrittenIsRead
bytes_back m plain back t spelled =
    let w : List ℕ = written (tree_of m) in
    let front : take (length w) (w ++ []) ≡ w = take-append_seam w [] in
    let own : Spells w (tree_of m) = subst (λ bytes. Spells bytes (tree_of m)) front (back []).spelled in
    subst (λ u. IsMessage u m) (spelled_once w (tree_of m) t own spelled) (message_back m plain)

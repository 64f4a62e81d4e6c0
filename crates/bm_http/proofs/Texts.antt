-- The texts of the tokens that answers are.
use Rattle.std.proofs.Common.{◌≡◌, ℕ, List, Bool, true, false, refl, codes, append_assoc, append-nil, ◌++◌, ◌∷◌, [], decimal}
use Rattle.json.specs.Print.{print, quoted, token_text}
use Rattle.json.specs.Token.{begin_object, end_object, key, string, boolean}
use Rattle.json.proofs.OnLiterals.{json_on_literals}
use Rattle.bm_http.specs.Bodies.{bool_text, contents_text, error_text, log_text}
use Rattle.bm_http.specs.Tokens.{last_tokens, lines_tokens, state_tokens}

pub print_quoted : (text : List ℕ) → print (string text ∷ []) ≡ quoted text
unfolding json_on_literals
print_quoted text = simp (append_assoc, append-nil)

pub print_error : (text : List ℕ) → print (begin_object ∷ key (codes "error") ∷ string text ∷ end_object ∷ []) ≡ error_text text
unfolding json_on_literals
print_error text = simp (append_assoc, append-nil)

pub print_contents : (id first : ℕ) (content : List ℕ) → print (lines_tokens id first content ++ last_tokens) ≡ contents_text id first content
unfolding json_on_literals
print_contents id first content = simp (append_assoc, append-nil)

bool_text-is : (b : Bool) → token_text (boolean b) ≡ bool_text b
bool_text-is true = refl
bool_text-is false = refl

regroup : (p t q i r n s l e : List ℕ) → p ++ (t ++ (q ++ (i ++ (r ++ (n ++ (s ++ (l ++ e))))))) ≡ p ++ t ++ q ++ i ++ r ++ n ++ s ++ l ++ e
regroup p t q i r n s l e = simp append_assoc

pub print_log : (id : ℕ) (name : List ℕ) (complete : Bool) (lines : ℕ) → print (state_tokens id name complete lines ++ last_tokens) ≡ log_text id name complete lines
unfolding json_on_literals
print_log id name complete lines =
    rw (← bool_text-is complete) (
    regroup (codes "{\"logs\":[{\"complete\":") (token_text (boolean complete)) (codes ",\"logid\":") (decimal id) (codes ",\"name\":") (quoted name) (codes ",\"num_lines\":")
    (decimal lines) (codes ",\"type\":\"s\"}],\"meta\":{}}")
    )

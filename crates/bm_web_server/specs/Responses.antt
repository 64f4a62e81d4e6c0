-- The replies that responses are.
use Rattle.std.specs.Prelude.{◌≡◌, ◌⊎◌, ◌==◌, ℕ, List, [], ◌∷◌, Option, Some, None, MatchOption, codes, ⊤, if◌then◌else◌}
use Rattle.http.specs.declared.response.Response.{Response}
use Rattle.http.specs.Response.{head_of, body_of}
use Rattle.http_uri.specs.declared.uri.Uri.{Uri}
use Rattle.http_uri.specs.Uri.{uri_path_and_query}
use Rattle.http_uri.specs.Grammar.{or_slash}
use Rattle.http_header.specs.FieldValue.{FieldValue, plain_value}
use Rattle.http_header.specs.HeaderMap.{Entries, get}
use Rattle.bm_http.specs.HostFields.{IsHost}
use Rattle.bm_http.specs.Replies.{Reply, bad_request, unavailable}
use Rattle.bm_http.specs.LongAnswers.{held}
use Rattle.bm_web_server.specs.declared.page_body.PageBody.{PageBody}
use Rattle.bm_web_server.specs.declared.page_body.PageBody.TheVariants.{Whole, Long}

module _ {R S T E : Type 0} (text : T → List ℕ) where
  -- the text of a body
  abbrev pub body_text : PageBody R S T E → List ℕ
  body_text (Whole b seen) = held b
  body_text (Long t) = text t.rest

  -- a status and the bytes of a body
  abbrev pub replied : Response (PageBody R S T E) → Reply
  replied response =
      record { status = (head_of response).status; body = body_text (body_of response) }

module _ {R S T E : Type 0} where
  -- what a body was made of
  abbrev pub seen_of : PageBody R S T E → Option E
  seen_of (Whole b seen) = seen
  seen_of (Long t) = t.seen

  abbrev pub seen_in : Response (PageBody R S T E) → Option E
  seen_in response = seen_of (body_of response)

module _ {R S T E : Type 0} (text : T → List ℕ) (gives : Option E → Reply → Type 0) where
  -- the response is a reply that was given, and keeps what that was made of; or it is 503
  abbrev pub Responds : Response (PageBody R S T E) → Type 0
  Responds response =
      (seen : Option E) × (reply : Reply) × gives seen reply
      × (((replied text response ≡ reply) × (seen_in response ≡ seen))
      ⊎ (replied text response ≡ unavailable))

-- the fields of a response with this status: JSON under each but 503, and under 405 the one method
-- that is allowed
abbrev pub fields_of : ℕ → Entries FieldValue
fields_of status =
    if status == 503 then []
    else if status == 405 then (codes "content-type", plain_value (codes "application/json") ∷ [])
    ∷ (codes "allow", plain_value (codes "GET") ∷ []) ∷ []
    else (codes "content-type", plain_value (codes "application/json") ∷ []) ∷ []

module _ {B : Type 0} where
  abbrev pub HasFields : Response B → Type 0
  HasFields response = (head_of response).headers ≡ fields_of (head_of response).status

  abbrev pub HasNoField : Response B → Type 0
  HasNoField response = (head_of response).headers ≡ []

-- the field `Host`, where there is one, is a host and maybe a port
abbrev pub HasHost : Entries FieldValue → Type 0
HasHost headers = MatchOption (get headers (codes "host")) ⊤ (λ host. IsHost host.bytes)

module _ {R S T E : Type 0} (text : T → List ℕ) (gives : Option E → Reply → Type 0) where
  -- what a request with these fields gets
  abbrev pub ChecksHost : Entries FieldValue → Response (PageBody R S T E) → Type 0
  ChecksHost headers response =
      (HasHost headers × Responds text gives response × HasFields response)
      ⊎ (¬ (HasHost headers) × (replied text response ≡ bad_request) × HasNoField response)

-- the path and the query of a URI; nothing where it has none
abbrev pub path_text : Option (List ℕ) → List ℕ
path_text None = []
path_text (Some p) = or_slash p

abbrev pub target_of : Uri → List ℕ
target_of u = path_text (uri_path_and_query u)

-- The refusals of requests.
use Rattle.std.specs.Prelude.{ℕ, List, codes}
use Rattle.bm_http.specs.declared.request_refusal.RequestRefusal.{RequestRefusal}
use Rattle.bm_http.specs.declared.request_refusal.RequestRefusal.TheVariants.{NoSuchPage, MethodNotAllowed, NoSuchLog, BadNumber}

abbrev pub status_of : RequestRefusal → ℕ
status_of NoSuchPage = 404
status_of MethodNotAllowed = 405
status_of NoSuchLog = 404
status_of BadNumber = 400

abbrev pub text_of : RequestRefusal → List ℕ
text_of NoSuchPage = codes "no such page"
text_of MethodNotAllowed = codes "method not allowed"
text_of NoSuchLog = codes "no such log"
text_of BadNumber = codes "bad number"

-- What contracts see of requests, lookups and answers.
use Rattle.std.specs.Cow.{cow_str_bytes}
use Rattle.bm_http.specs.declared.answer.Answer.{Answer}
use Rattle.bm_http.specs.declared.log_request.LogRequest.{LogRequest}
use Rattle.bm_http.specs.declared.log_request.LogRequest.TheVariants.{Refused, State, Lines}
use Rattle.bm_http.specs.declared.lookup.Lookup.{Lookup}
use Rattle.bm_http.specs.declared.lookup.Lookup.TheVariants.{Refused as LookupRefused, State as LookupState, Lines as LookupLines}
use Rattle.bm_http.specs.Requests.{Asked, refused, state, lines}
use Rattle.bm_http.specs.Replies.{Reply, refusal, state_reply, chunk_reply}

-- what a request asks for
abbrev pub asked_by : LogRequest → Asked
asked_by (Refused r) = refused r
asked_by (State id name) = state id (cow_str_bytes name)
asked_by (Lines id name span) = lines id (cow_str_bytes name) span.offset span.limit

-- the reply that a lookup gives
abbrev pub told_by : Lookup → Reply
told_by (LookupRefused r) = refusal r
told_by (LookupState id name seen) = state_reply id (cow_str_bytes name) seen
told_by (LookupLines id seen) = chunk_reply id seen

-- the reply that an answer is
abbrev pub reply_of : Answer → Reply
reply_of a = record { status = a.status; body = a.body.items }

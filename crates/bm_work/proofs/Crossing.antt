-- A worker may go to another thread: its map and its requests may, and its history has no bytes.
use denote.Param.Send.{IsSend, sendable}
use Rattle.std.proofs.Crossing.{crosses}
use Rattle.std.proofs.MapsCrossing as maps
use Rattle.bm_work.specs.contracts.reply_cache.ReplyCache as answers
use Rattle.bm_work.specs.contracts.history.History as history
use Rattle.bm_work.specs.contracts.sent.Sent as sent
use Rattle.bm_work.specs.contracts.worker.Worker as worker

ReplyCache-send : IsSend answers.the_row
ReplyCache-send = search (sendable, crosses, maps.crosses) depth 30

Sent-send : IsSend sent.the_row
Sent-send = search (sendable, crosses) depth 30

History-send : IsSend history.the_row
History-send = search sendable depth 30

pub Worker-send : IsSend worker.the_row
Worker-send = search (sendable, crosses, ReplyCache-send, Sent-send, History-send) depth 30

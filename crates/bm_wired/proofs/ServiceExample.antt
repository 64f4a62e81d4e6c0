-- The run over bytes with a cut inside a frame is one from socket to socket.
use Rattle.std.proofs.Common.{refl, true, []}
use Rattle.bm_wired.specs.Bytes.{bytes_apart}
use Rattle.bm_wired.specs.BytesExample.{up_to_one_byte, up_to_its_end}
use Rattle.bm_wired.specs.ServiceAsBytes.{as_service}
use Rattle.bm_wired.specs.ServiceExample.{ServiceShowsLines}
use Rattle.bm_wired.proofs.BytesExample.{over, one_byte, cutting, going-on, one-byte}
use Rattle.bm_wired.proofs.CutExample.{x9, x18}
use Rattle.bm_wired.proofs.Example.{entry-hello}
use Rattle.bm_wired.proofs.ServiceBack.{come}

pub service_shows_lines : ServiceShowsLines
service_shows_lines id capacity = record {
  cut = as_service (over (x9 id capacity) [] (one_byte id capacity));
  cutting = come (up_to_one_byte entry-hello) (bytes_apart id capacity true) (over (x9 id capacity) [] (one_byte id capacity)) tt (cutting id capacity);
  part = one-byte id capacity;
  logged = refl;
  unanswered = refl;
  end = as_service (over (x18 id capacity) [] []);
  going_on = come up_to_its_end (over (x9 id capacity) [] (one_byte id capacity)) (over (x18 id capacity) [] []) tt (going-on id capacity);
  heard = refl;
  started = refl;
  answered = refl;
  shown = refl;
  once = refl;
  said = refl;
}

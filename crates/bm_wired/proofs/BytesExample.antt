-- A run over bytes with a cut inside a frame, step by step. Its ends are those of the run over
-- messages.
use Rattle.std.proofs.Common.{◌≡◌, refl, sym, true, ℕ, ◌<◌, ◌^◌, List, [], ◌∷◌, length, take, append-nil, length-take-le, lit<, arith}
use Rattle.websocket.specs.declared.protocol.config.Role.{Role}
use Rattle.websocket.specs.declared.protocol.config.Role.TheVariants.{Server, Client}
use Rattle.bm_session.specs.Texts.{exception_text}
use Rattle.bm_session.specs.declared.reply.Verdict.TheVariants.{Done}
use Rattle.bm_link.specs.Orders.{start_bytes}
use Rattle.bm_msg.specs.Trees.{answer_bytes}
use Rattle.std.specs.Fmt.{digits}
use Rattle.bm_value.specs.Writing.{unsigned, str_head, array_head, map_head}
use Rattle.bm_work.specs.Replies.{reply}
use Rattle.bm_work.specs.Stream.{sent, request_bytes}
use Rattle.bm_work.specs.declared.worker_answer.WorkerAnswer.TheVariants as work
use Rattle.bm_wired.specs.Bytes.{Writes, OverBytes, GoesOver, bytes_apart}
use Rattle.bm_wired.specs.BytesExample.{up_to_one_byte, up_to_its_end, ShowsOnceOverBytes, BytesShowLines}
use Rattle.bm_wired.specs.Cuts.{Joined}
use Rattle.bm_wired.specs.Example.{words, report}
use Rattle.bm_wired.specs.Service.{IsFrameOf}
use Rattle.bm_wired.proofs.CutExample.{x1, x2, x3, x4, x5, x6, x7, x8, x9, x10, x11, x12, x13, x14, x15, x16, x17, x18, v3, v4, v5, v6, v7, v8, v15, v16, v17, v18, m3, m4, m5, m6, m7, m8, m15, m16, s1, s2, s10, s11, s12, s13, s14}
use Rattle.bm_wired.proofs.Example.{entry-hello}
use Rattle.bm_wired.proofs.Frames.{not-empty, messages_have_frames}

-- ---- the four messages are short

start-short : length (start_bytes 0 0 words) < 2 ^ 63
unfolding start_bytes digits unsigned str_head array_head map_head
start-short = lit< tt

reply-short : length (reply 0 work.Done) < 2 ^ 63
unfolding reply unsigned str_head map_head
reply-short = lit< tt

report-short : length (sent 0 report).bytes < 2 ^ 63
unfolding request_bytes digits unsigned str_head array_head map_head
report-short = lit< tt

answer-short : length (answer_bytes 0 (exception_text Done)) < 2 ^ 63
unfolding answer_bytes unsigned str_head map_head
answer-short = lit< tt

-- ---- their frames

abbrev pub Framed : Role → List ℕ → Type 0
Framed role m = (frame : List ℕ) × IsFrameOf role m frame

start-frame : Framed Server (start_bytes 0 0 words)
start-frame = messages_have_frames Server (start_bytes 0 0 words) start-short

reply-frame : Framed Client (reply 0 work.Done)
reply-frame = messages_have_frames Client (reply 0 work.Done) reply-short

report-frame : Framed Client (sent 0 report).bytes
report-frame = messages_have_frames Client (sent 0 report).bytes report-short

pub answer-frame : Framed Server (answer_bytes 0 (exception_text Done))
answer-frame = messages_have_frames Server (answer_bytes 0 (exception_text Done)) answer-short

-- ---- what a step writes

idle : (role : Role) (bytes : List ℕ) → Writes role [] bytes bytes
idle role bytes = ([], refl, sym (append-nil bytes))

wrote : (role : Role) (m : List ℕ) (f : Framed role m) → Writes role (m ∷ []) [] f.0
wrote role m f = (f.0, (f.0, [], f.1, sym (append-nil f.0), refl), refl)

abbrev pub over : Joined → List ℕ → List ℕ → OverBytes
over x up down = record { ends = x; up = up; down = down }

-- ---- the run

module _ (id capacity : ℕ) where
  abbrev pub one_byte : List ℕ
  one_byte = take 1 answer-frame.0

  pub cutting : GoesOver (bytes_apart id capacity true) (up_to_one_byte entry-hello) (over (x9 id capacity) [] one_byte)
  cutting = (
    over (x1 id capacity) [] [],
    (s1 id capacity, idle Client [], idle Server []),
    (
      over (x2 id capacity) [] [],
      (s2 id capacity, idle Client [], idle Server []),
      (
        over (x3 id capacity) [] start-frame.0,
        ((v3 id capacity, tt, m3 id capacity, refl), idle Client [], wrote Server (start_bytes 0 0 words) start-frame),
        (
          over (x4 id capacity) reply-frame.0 [],
          (start_bytes 0 0 words, start-frame.0, [], start-frame.1, sym (append-nil start-frame.0), (v4 id capacity, refl, m4 id capacity, refl), refl, wrote Client (reply 0 work.Done) reply-frame),
          (
            over (x5 id capacity) [] [],
            (reply 0 work.Done, reply-frame.0, [], reply-frame.1, sym (append-nil reply-frame.0), (v5 id capacity, tt, m5 id capacity, refl), refl, idle Server []),
            (
              over (x6 id capacity) [] [],
              ((v6 id capacity, tt, m6 id capacity, refl), idle Client [], idle Server []),
              (
                over (x7 id capacity) report-frame.0 [],
                ((v7 id capacity, (refl, refl), m7 id capacity, refl), wrote Client (sent 0 report).bytes report-frame, idle Server []),
                (
                  over (x8 id capacity) [] answer-frame.0,
                  ((sent 0 report).bytes, report-frame.0, [], report-frame.1, sym (append-nil report-frame.0), (v8 id capacity, tt, m8 id capacity, refl), refl, wrote Server (answer_bytes 0 (exception_text Done)) answer-frame),
                  (over (x9 id capacity) [] one_byte, (refl, idle Client [], idle Server one_byte), refl),
                ),
              ),
            ),
          ),
        ),
      ),
    ),
  )

  pub going-on : GoesOver (over (x9 id capacity) [] one_byte) up_to_its_end (over (x18 id capacity) [] [])
  going-on = (
    over (x10 id capacity) [] one_byte,
    (s10 id capacity, idle Client [], idle Server one_byte),
    (
      over (x11 id capacity) [] [],
      (s11 id capacity, idle Client [], idle Server []),
      (
        over (x12 id capacity) [] [],
        (s12 id capacity, idle Client [], idle Server []),
        (
          over (x13 id capacity) [] [],
          (s13 id capacity, idle Client [], idle Server []),
          (
            over (x14 id capacity) report-frame.0 [],
            (s14 id capacity, wrote Client (sent 0 report).bytes report-frame, idle Server []),
            (
              over (x15 id capacity) [] answer-frame.0,
              ((sent 0 report).bytes, report-frame.0, [], report-frame.1, sym (append-nil report-frame.0), (v15 id capacity, tt, m15 id capacity, refl), refl, wrote Server (answer_bytes 0 (exception_text Done)) answer-frame),
              (
                over (x16 id capacity) [] [],
                (answer_bytes 0 (exception_text Done), answer-frame.0, [], answer-frame.1, sym (append-nil answer-frame.0), (v16 id capacity, refl, m16 id capacity, refl), refl, idle Client []),
                (
                  over (x17 id capacity) [] [],
                  ((v17 id capacity, tt, (lit< tt, refl), refl), idle Client [], idle Server []),
                  (over (x18 id capacity) [] [], ((v18 id capacity, tt, (lit< tt, refl), refl), idle Client [], idle Server []), refl),
                ),
              ),
            ),
          ),
        ),
      ),
    ),
  )

  pub one-byte : length one_byte ≡ 1
  one-byte = let some : 0 < length answer-frame.0 = not-empty Server (answer_bytes 0 (exception_text Done)) answer-frame.0 answer-frame.1 in length-take-le 1 answer-frame.0 (omega arith)

  shows : ShowsOnceOverBytes (bytes_apart id capacity true)
  shows = record {
    entry = entry-hello;
    is = refl;
    cut = over (x9 id capacity) [] one_byte;
    cutting = cutting;
    part = one-byte;
    logged = refl;
    unanswered = refl;
    end = over (x18 id capacity) [] [];
    going_on = going-on;
    answered = refl;
    seen = refl;
    once = refl;
    said = refl;
  }

pub bytes_show_lines : BytesShowLines
bytes_show_lines = shows

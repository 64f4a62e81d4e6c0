-- Answers that are whole or still to be told.
use Rattle.std.specs.Prelude.{ℕ, List}
use Rattle.bm_http.specs.declared.whole_or_long.WholeOrLong.{WholeOrLong}
use Rattle.bm_http.specs.declared.whole_or_long.WholeOrLong.TheVariants.{Whole, Long}
use Rattle.bm_http.specs.Replies.{Reply, page}
use Rattle.bm_http.specs.Shown.{reply_of}

-- the reply that an answer is, where text says what is left to tell
abbrev pub reply_told : {T : Type 0} → (T → List ℕ) → WholeOrLong T → Reply
reply_told text (Whole a) = reply_of a
reply_told text (Long rest) = page (text rest)

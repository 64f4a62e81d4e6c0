-- The texts that a worker's logins name.
use Rattle.std.specs.Prelude.{Bool, true, false, ◌&&◌, ℕ, List, Option, Some, None}
use Rattle.std.specs.Option.{is_some}
use Rattle.bm_link.specs.declared.attaching.Attached.{Attached}
use Rattle.bm_link.specs.declared.attaching.Attached.TheVariants as attached

-- the session that is asked for, if any, and whether a login was answered
pub record NamedTexts : Type 0 where
  pub session : Option (List ℕ)
  pub is_answered : Bool

-- a session that begins by the next login has a text of its own once a login was answered
abbrev pub wants_next : NamedTexts → Bool
wants_next t = t.is_answered && is_some t.session

-- a session that began by a login with a text of its own is asked for by that
abbrev pub asked_after : Attached → Option (List ℕ) → Option (List ℕ) → Option (List ℕ)
asked_after attached.New (Some next) session = Some next
asked_after attached.New None session = session
asked_after attached.Plain next session = session
asked_after attached.Resumed next session = session

abbrev pub after_answer : Attached → Option (List ℕ) → NamedTexts → NamedTexts
after_answer a next t = record { session = asked_after a next t.session; is_answered = true }

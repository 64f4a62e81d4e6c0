-- What a reader of messages promises is what a reader of all that is heard promises.
use Rattle.std.proofs.Common.{◌≡◌, ◌≢◌, sym, ◌∙◌, ap, subst, ℕ, Result, Ok, Err}
use Rattle.std.specs.Prelude.{IsErrOf}
use Rattle.bm_value.specs.Tree.{Tree}
use Rattle.bm_msg.specs.declared.fault.MsgError.{MsgError}
use Rattle.bm_msg.specs.declared.fault.MsgError.TheVariants.{NotMap, NoSeq, NoOp, BadArgs, Mem}
use Rattle.bm_msg.specs.declared.message.Message.{Message}
use Rattle.bm_msg.specs.Answers.{Reads}
use Rattle.bm_msg.specs.Incoming.{Said, message, bad_args, Says, SaysNothing, Hears}
use Rattle.bm_msg.specs.Meaning.{Meaning}
use Rattle.bm_msg.specs.Messages.{IsMessage, IsFaulty}

is_fault : (t : Tree) (f : MsgError) → SaysNothing t f → IsFaulty t f
is_fault t NotMap h = h
is_fault t NoSeq h = h
is_fault t NoOp h = h
is_fault t (BadArgs n) h = absurd h
is_fault t Mem h = h

no_bad_args : (t : Tree) (f : MsgError) (n : ℕ) → SaysNothing t f → BadArgs n ≢ f
no_bad_args t (BadArgs k) n h = absurd h
no_bad_args t f n h = λ e. absurd cc

error_is : {T : Type 0} (a b : MsgError) → ◌≡◌ {A = Result T MsgError} (Err a) (Err b) → a ≡ b
error_is a b h = cc

-- this fault of a message, which is not bad arguments, is told of what says nothing
pub refused_along : {T : Type 0} (t : Tree) (told e : MsgError) → told ≡ e → ((f : MsgError) → IsFaulty t f → IsErrOf {T = Message} (Err told) f) → (f : MsgError) → SaysNothing t f → IsErrOf {T = T} (Err e) f
refused_along t told e is refused = λ f h. ap (λ x. Err x) (sym is ∙ error_is told f (refused f (is_fault t f h)))

pub refused_not : {T : Type 0} (t : Tree) (m : Message) (r : Result T MsgError) → ((f : MsgError) → IsFaulty t f → IsErrOf (Ok m) f) → (f : MsgError) → SaysNothing t f → IsErrOf r f
refused_not t m r refused = λ f h. absurd (let never : IsErrOf (Ok m) f = refused f (is_fault t f h) in cc)

pub refused_bad_args : {T : Type 0} (t : Tree) (told : MsgError) (n : ℕ) (r : Result T MsgError) → told ≡ BadArgs n → ((f : MsgError) → IsFaulty t f → IsErrOf {T = Message} (Err told) f) → (f : MsgError) → SaysNothing t f → IsErrOf r f
refused_bad_args t told n r is refused = λ f h. absurd (no_bad_args t f n h (sym is ∙ error_is told f (refused f (is_fault t f h))))

-- no message, and no bad arguments
pub nothing_said : (t : Tree) (told : MsgError) → told ≡ NotMap → ((m : Meaning) → IsMessage t m → Reads (Err told) (Ok m)) → ((f : MsgError) → IsFaulty t f → IsErrOf {T = Message} (Err told) f) → (s : Said) → Says t s → ⊥
nothing_said t told is only refused (message m) h = let never : Reads (Err NotMap) (Ok m) = subst (λ f. Reads (Err f) (Ok m)) is (only m h) in absurd cc
nothing_said t told is only refused (bad_args n) h = let never : NotMap ≡ BadArgs n = sym is ∙ error_is told (BadArgs n) (refused (BadArgs n) h) in absurd cc

-- a message, for which memory ran out
pub message_wanted : (t : Tree) (told : MsgError) → told ≡ Mem → ((f : MsgError) → IsFaulty t f → IsErrOf {T = Message} (Err told) f) → (s : Said) → Says t s → Hears (Err Mem) s
message_wanted t told is refused (message m) h = tt
message_wanted t told is refused (bad_args n) h = let never : Mem ≡ BadArgs n = sym is ∙ error_is told (BadArgs n) (refused (BadArgs n) h) in absurd cc

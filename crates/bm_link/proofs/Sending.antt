-- Orders that are sent one after the other.
use Rattle.std.proofs.Common.{◌≡◌, ◌∙◌, refl, sym, ap, subst, inl, inr, ℕ, ◌+◌, ◌<◌, List, [], ◌∷◌, ◌++◌, length, take, drop, take-append-drop, get_or, Option, Result, Ok, Err, OnOk}
use Rattle.std.specs.Result.{IfErr}
use Rattle.std.proofs.lemmas.List.{take_more}
use Rattle.tungstenite.specs.Socket.{Socket}
use Rattle.bm_work.specs.declared.sent.Sent.{Sent}
use Rattle.bm_link.specs.declared.attaching.Attached.{Attached}
use Rattle.bm_link.specs.declared.fault.LinkFault.{LinkFault}
use Rattle.bm_link.specs.Attaching.{FailsToSendAll, FailsToSendAttached, SendsAll, SendsAttached, login_bytes}
use Rattle.bm_link.specs.Causes.{IsUnsent}
use Rattle.bm_link.specs.Sending.{SendsBytes}

module _ {S : Type 0} (contents : S → Option (List ℕ)) where
  sends-one : (os : List Sent) (o : Sent) (old mid new : Socket S) → SendsAll contents old os mid
      → SendsBytes contents o.bytes mid new → SendsAll contents old (os ++ o ∷ []) new
  sends-one [] o old mid new h w = (new, subst (λ (s : Socket S). SendsBytes contents o.bytes s new) h w, refl)
  sends-one (x ∷ os) o old mid new h w = (h.0, h.1, sends-one os o h.0 mid new h.2 w)

  -- the first orders were sent, and then the next one
  pub sends_more : (os : List Sent) (i : ℕ) (d : Sent) (old mid new : Socket S) → i < length os → SendsAll contents old (take i os) mid
      → SendsBytes contents (get_or os i d).bytes mid new → SendsAll contents old (take (i + 1) os) new
  sends_more os i d old mid new lt h w = rw (take_more os i d lt) (sends-one (take i os) (get_or os i d) old mid new h w)

  unsent-after : (xs : List Sent) (o : Sent) (rest : List Sent) (old mid new : Socket S) (f : LinkFault) → SendsAll contents old xs mid
      → IsUnsent contents o.bytes mid f new → FailsToSendAll contents old ((xs ++ o ∷ []) ++ rest) f new
  unsent-after [] o rest old mid new f h u = inl (subst (λ (s : Socket S). IsUnsent contents o.bytes s f new) h u)
  unsent-after (x ∷ xs) o rest old mid new f h u = inr (h.0, h.1, unsent-after xs o rest h.0 mid new f h.2 u)

  -- the first orders were sent, and the next one was not
  pub fails_at : (os : List Sent) (i : ℕ) (d : Sent) (old mid new : Socket S) (f : LinkFault) → i < length os → SendsAll contents old (take i os) mid
      → IsUnsent contents (get_or os i d).bytes mid f new → FailsToSendAll contents old os f new
  fails_at os i d old mid new f lt h u =
      subst (λ (xs : List Sent). FailsToSendAll contents old xs f new)
      (ap (λ (xs : List Sent). xs ++ drop (i + 1) os) (sym (take_more os i d lt)) ∙ take-append-drop (i + 1) os)
      (unsent-after (take i os) (get_or os i d) (drop (i + 1) os) old mid new f h u)

  -- the answer was not sent, or one of the orders after it
  pub fails_attached : (n : ℕ) (a : Attached) (os : List Sent) (old mid new : Socket S) (bytes : List ℕ) (r : Result (Unit {0}) LinkFault) → bytes ≡ login_bytes n a
      → SendsBytes contents bytes old mid → IfErr r (λ f. FailsToSendAll contents mid os f new) → IfErr r (λ f. FailsToSendAttached contents old n a os f new)
  fails_attached n a os old mid new bytes (Ok _) e w h = tt
  fails_attached n a os old mid new bytes (Err f) e w h = inr (mid, subst (λ (bs : List ℕ). SendsBytes contents bs old mid) e w, h)

  -- the answer was sent, and then the orders, if that went well
  pub sends_attached : (n : ℕ) (a : Attached) (os : List Sent) (old mid new : Socket S) (bytes : List ℕ) (r : Result (Unit {0}) LinkFault) → bytes ≡ login_bytes n a
      → SendsBytes contents bytes old mid → OnOk r (SendsAll contents mid os new) → OnOk r (SendsAttached contents old n a os new)
  sends_attached n a os old mid new bytes (Ok _) e w h = (mid, subst (λ (bs : List ℕ). SendsBytes contents bs old mid) e w, h)
  sends_attached n a os old mid new bytes (Err f) e w h = tt

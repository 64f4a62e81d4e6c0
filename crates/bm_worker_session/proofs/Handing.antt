-- Requests that are handed to a link, one after the other.
use Rattle.std.proofs.Common.{◌≡◌, ◌∙◌, refl, sym, ap, subst, inl, inr, ℕ, ◌+◌, ◌<◌, true, false, true≢false, List, [], ◌∷◌, ◌++◌, length, take, drop, take-append-drop, get_or, Option, Ok, Err}
use Rattle.std.proofs.lemmas.List.{take_more}
use Rattle.bm_work.specs.declared.sent.Sent.{Sent}
use Rattle.bm_link.specs.Working.{SendsAt, WorkState}
use Rattle.bm_link.specs.declared.fault.LinkFault.{LinkFault}
use Rattle.bm_worker_session.specs.Sessions.{HandsOver}

module _ {S : Type 0} (contents : S → Option (List ℕ)) where
  -- one more was sent
  abbrev pub Sends : Sent → WorkState S → WorkState S → Type 0
  Sends s old new = SendsAt contents old.failed s.bytes old (Ok tt) new × (new.named ≡ old.named)

  abbrev pub Loses : Sent → WorkState S → LinkFault → WorkState S → Type 0
  Loses s old f new = SendsAt contents old.failed s.bytes old (Err f) new × (new.named ≡ old.named)

  sent-one : (xs : List Sent) (s : Sent) (old mid new : WorkState S) → HandsOver contents xs old true mid → Sends s mid new → HandsOver contents (xs ++ s ∷ []) old true new
  sent-one [] s old mid new (e, is) w = let w2 : Sends s old new = subst (λ (x : WorkState S). Sends s x new) is w in inl (new, w2.0, w2.1, (refl, refl))
  sent-one (x ∷ xs) s old mid new (inl (m, h, n, more)) w = inl (m, h, n, sent-one xs s m mid new more w)
  sent-one (x ∷ xs) s old mid new (inr (f, u, n, lost)) w = absurd (true≢false lost)

  -- the first requests were sent, and then the next one
  pub sent_more : (xs : List Sent) (i : ℕ) (d : Sent) (old mid new : WorkState S) → i < length xs → HandsOver contents (take i xs) old true mid
      → Sends (get_or xs i d) mid new → HandsOver contents (take (i + 1) xs) old true new
  sent_more xs i d old mid new lt h w = rw (take_more xs i d lt) (sent-one (take i xs) (get_or xs i d) old mid new h w)

  lost-after : (xs : List Sent) (s : Sent) (rest : List Sent) (old mid new : WorkState S) (f : LinkFault) → HandsOver contents xs old true mid → Loses s mid f new
      → HandsOver contents ((xs ++ s ∷ []) ++ rest) old false new
  lost-after [] s rest old mid new f (e, is) u = let u2 : Loses s old f new = subst (λ (x : WorkState S). Loses s x f new) is u in inr (f, u2.0, u2.1, refl)
  lost-after (x ∷ xs) s rest old mid new f (inl (m, h, n, more)) u = inl (m, h, n, lost-after xs s rest m mid new f more u)
  lost-after (x ∷ xs) s rest old mid new f (inr (g, v, n, lost)) u = absurd (true≢false lost)

  -- the first requests were sent, and the next one was not
  pub lost_at : (xs : List Sent) (i : ℕ) (d : Sent) (old mid new : WorkState S) (f : LinkFault) → i < length xs → HandsOver contents (take i xs) old true mid
      → Loses (get_or xs i d) mid f new → HandsOver contents xs old false new
  lost_at xs i d old mid new f lt h u =
      subst (λ (ys : List Sent). HandsOver contents ys old false new)
      (ap (λ (ys : List Sent). ys ++ drop (i + 1) xs) (sym (take_more xs i d lt)) ∙ take-append-drop (i + 1) xs)
      (lost-after (take i xs) (get_or xs i d) (drop (i + 1) xs) old mid new f h u)

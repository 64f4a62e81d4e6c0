-- What is known of a text that may be there.
use Rattle.std.proofs.Common.{Option, Some, None, option_map}
use Rattle.std.specs.Prelude.{IfSome}

pub if_some : {A : Type 0} {P Q : A → Type 0} (r : Option A) → ((x : A) → P x → Q x) → IfSome r P → IfSome r Q
if_some (Some x) h p = h x p
if_some None h p = tt

pub if_some-map : {A B : Type 0} (f : A → B) (P : B → Type 0) (r : Option A) → IfSome r (λ x. P (f x)) → IfSome (option_map f r) P
if_some-map f P (Some x) p = p
if_some-map f P None p = tt

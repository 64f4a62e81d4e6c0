use Rattle.std.proofs.Common.{refl, inl, inr}
use Rattle.bm_link.specs.declared.fault.LinkFault.TheVariants.{Mem}
use Rattle.bm_link.proofs.telling.send_refusal.Goals as goal

-- memory for the bytes is wanting
pub returns-in_default : goal.returns-in_default
returns-in_default g c = inr (Mem, inl (refl, inl refl))

use Rattle.std.proofs.Common.{◌∙◌, sym, ap, subst}
use Rattle.bm_lines.specs.Places.{HasPlaces}
use Rattle.bm_store.specs.Kept.{have_blocks, names_kept}
use Rattle.bm_store.proofs.Shelves.{have-parts}
use Rattle.bm_store.proofs.command_logs.CommandLogs.add_by_table.Goals as goal

pub invariant_of-self-2 : goal.invariant_of-self-2
invariant_of-self-2 c = (
  ap have_blocks c.in_ok-places.ensures.ok ∙ have-parts c.args.parts.now c.self.inside.named.items c.self.invariant.0,
  subst (λ ls. HasPlaces c.in_ok-places.places (names_kept ls)) (sym c.in_ok-places.ensures.ok) c.in_ok-places.ensures.places,
)

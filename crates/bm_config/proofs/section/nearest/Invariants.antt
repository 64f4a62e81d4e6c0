use Rattle.std.proofs.Common.{◌≡◌, drop}
use Rattle.bm_config.specs.Unknown.{nearest, nearest_after}
use Rattle.bm_config.proofs.section.nearest.Given as goal

abbrev pub invariant-loop-key : goal.invariant-loop-key
invariant-loop-key l =
    nearest l.name l.known
    ≡ nearest_after l.name l.bound l.best (drop l.key-index l.known)

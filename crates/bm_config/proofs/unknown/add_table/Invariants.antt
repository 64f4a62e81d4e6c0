use Rattle.std.proofs.Common.{◌≡◌, ◌++◌}
use Rattle.toml.specs.View.{members_view}
use Rattle.bm_config.specs.Unknown.{unknown_in}
use Rattle.bm_config.proofs.unknown.add_table.Given as goal

abbrev pub invariant-loop-name : goal.invariant-loop-name
invariant-loop-name l =
    l.fn.found.items ++ unknown_in l.known l.place (members_view l.table.entries)
    ≡ l.found.items ++ unknown_in l.known l.place (members_view l.name-iterator)

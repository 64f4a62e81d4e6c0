use Rattle.std.proofs.Common.{sym, subst, ◌<◌, ◌≤◌, ◌^◌, length, lit<, ℕ, List}
use Rattle.bm_value.specs.Tree.{Tree, depth}
use Rattle.bm_value.specs.Limits.{IsShort}
use Rattle.bm_link.proofs.Fitting.{args_flat, args_short}
use Rattle.bm_link.proofs.orders.start_bytes.Goals as goal

pub request_bytes-requires-clause-short : goal.request_bytes-requires-clause-short
request_bytes-requires-clause-short c = (
  subst (λ (s : List ℕ). length s < 2 ^ 32) (sym c.in_ok-from_str.ensures) (lit< tt),
  subst (λ (t : Tree). IsShort t) (sym c.in_ok-args.ensures) (args_short c.args.argv.now c.requires.short),
)

pub request_bytes-requires-clause-flat : goal.request_bytes-requires-clause-flat
request_bytes-requires-clause-flat c =
    subst (λ (t : Tree). depth t ≤ 31) (sym c.in_ok-args.ensures) (args_flat c.args.argv.now)

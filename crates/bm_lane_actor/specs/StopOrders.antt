-- The orders to interrupt commands that a lane has yet to take, oldest first.
use Rattle.std.specs.Prelude.{ℕ, List, drop, slice_get, Option, None}
use Rattle.bm_lane_actor.specs.declared.connection_state.ConnectionState.{ConnectionState}
use Rattle.bm_lane_actor.specs.declared.connection_state.ConnectionState.TheVariants.{Cut}
use Rattle.bm_lane_actor.specs.declared.order_outcome.OrderOutcome.{OrderOutcome}
use Rattle.bm_lane_actor.specs.declared.order_outcome.OrderOutcome.TheVariants as outcome

-- the command that is to be interrupted now: none while the lane is cut
abbrev pub due : ConnectionState → List ℕ → Option ℕ
due Cut commands = None
due connection commands = slice_get commands 0

-- what is left once the first was tried: an order that is to come later is kept
abbrev pub after_try : OrderOutcome → List ℕ → List ℕ
after_try outcome.Later commands = commands
after_try came commands = drop 1 commands

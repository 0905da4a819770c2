-- `name_order::rise` meets its contract: each turn is an exchange.
use mathlib.Core.Path.{◌≡◌}
use lib.ListN.{length}
use Prim.Native.Nat.{◌+◌, ◌≤◌}
use Rattle.name_order.specs.Shuffled.{Shuffled}
use Rattle.name_order.proofs.rise.Given as goal

abbrev pub invariant-loop-at : goal.invariant-loop-at
invariant-loop-at l = (l.at ≤ l.leaf) × (length l.names ≡ length l.initial.names) × Shuffled (l.leaf + 1) l.initial.names l.names

abbrev pub decreases-loop-at : goal.decreases-loop-at
decreases-loop-at l = l.at

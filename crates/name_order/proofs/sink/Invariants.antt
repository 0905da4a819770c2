-- `name_order::sink` meets its contract: each turn is an exchange.
use mathlib.Core.Path.{◌≡◌}
use lib.ListN.{length}
use Prim.Native.Nat.{◌-◌, ◌<◌}
use Rattle.name_order.specs.Shuffled.{Shuffled}
use Rattle.name_order.proofs.sink.Given as goal

abbrev pub invariant-loop-at : goal.invariant-loop-at
invariant-loop-at l = (l.at < l.n) × (length l.names ≡ length l.initial.names) × Shuffled l.n l.initial.names l.names

abbrev pub decreases-loop-at : goal.decreases-loop-at
decreases-loop-at l = l.n - l.at

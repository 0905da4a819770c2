-- `name_order::pairs_differ` meets its contract: what is left of the list decides.
use mathlib.Core.Path.{◌≡◌}
use Prim.Native.Nat.{◌-◌, ◌≤◌}
use Rattle.devtree.specs.Names.{distinct}
use Rattle.name_order.specs.Order.{listed}
use Rattle.name_order.proofs.pairs_differ.Given as goal

abbrev pub invariant-loop-i : goal.invariant-loop-i
invariant-loop-i l = (l.base ≤ l.i) × (l.i ≤ l.top) × (distinct (listed l.block l.names l.base (l.top - l.base)) ≡ distinct (listed l.block l.names l.i (l.top - l.i)))

abbrev pub decreases-loop-i : goal.decreases-loop-i
decreases-loop-i l = l.top - l.i

-- `name_order::all_named_lem` meets its contract: what is left of the list decides.
use mathlib.Core.Path.{◌≡◌}
use Prim.Native.Nat.{◌-◌, ◌≤◌}
use Rattle.name_order.specs.Order.{all_named}
use Rattle.name_order.proofs.all_named.Given as goal

abbrev pub invariant-loop-i : goal.invariant-loop-i
invariant-loop-i l = (l.i ≤ l.top) × (all_named l.block l.names l.base (l.top - l.base) ≡ all_named l.block l.names l.i (l.top - l.i))

abbrev pub decreases-loop-i : goal.decreases-loop-i
decreases-loop-i l = l.top - l.i

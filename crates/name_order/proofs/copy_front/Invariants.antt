-- `name_order::copy_front` meets its contract: as many elements are copied as turns are over.
use mathlib.Core.Path.{◌≡◌}
use Prim.Native.Nat.{◌-◌, ◌≤◌}
use lib.ListN.{length}
use Rattle.name_order.specs.Order.{Copied}
use Rattle.name_order.proofs.copy_front.Given as goal

abbrev pub invariant-loop-k : goal.invariant-loop-k
invariant-loop-k l = (l.k ≤ l.n) × (length l.copy ≡ length l.initial.copy) × Copied l.base l.k l.names l.copy

abbrev pub decreases-loop-k : goal.decreases-loop-k
decreases-loop-k l = l.n - l.k

-- `treecompare::same_node` meets its contract: what is in step from the start is in step from here, and a child has one level less.
use mathlib.Core.Path.{◌≡◌}
use Prim.Native.Nat.{◌-◌, ◌≤◌}
use lib.ListN.{length}
use Rattle.treecompare.specs.Lockstep.{in_step_from}
use Rattle.treecompare.proofs.+same_node.Given as goal

-- the levels that may be nested
abbrev pub decreases-same_node : goal.decreases-same_node
decreases-same_node l = l.left

abbrev pub invariant-loop-next : goal.invariant-loop-next
invariant-loop-next l = (l.initial.p.a ≤ l.p.a) × (in_step_from l.a l.astrings l.b l.bstrings l.left l.initial.p ≡ in_step_from l.a l.astrings l.b l.bstrings l.left l.p)

abbrev pub decreases-loop-next : goal.decreases-loop-next
decreases-loop-next l = length l.a - l.p.a

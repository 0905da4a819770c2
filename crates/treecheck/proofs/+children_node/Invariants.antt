-- `treecheck::node` and `treecheck::children` meet their contracts: the scan from here and the names met are those from the start, and what is returned says where the rest goes on.
use Prim.Native.Nat.{◌+◌, ◌-◌, ◌≤◌}
use lib.ListN.{length}
use Rattle.treecheck.proofs.Twins.{Met}
use Rattle.treecheck.proofs.Kids.{Row}
use Rattle.treecheck.proofs.+children_node.Given as goal

abbrev pub decreases-children : goal.decreases-children
decreases-children l = l.left + l.left

abbrev pub decreases-node : goal.decreases-node
decreases-node l = l.left + l.left + 1

abbrev pub invariant-children-loop-names : goal.invariant-children-loop-names
invariant-children-loop-names l = Met l.s l.initial.names l.initial.marks l.names l.marks l.at l.base l.p l.top × Row l.s l.strings l.names l.left l.at l.base l.p l.top × (l.p ≤ length l.s)

abbrev pub decreases-children-loop-names : goal.decreases-children-loop-names
decreases-children-loop-names l = length l.s - l.p

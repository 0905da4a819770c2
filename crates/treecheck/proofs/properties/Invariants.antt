-- `treecheck::properties` meets its contract: the names met are those of the properties passed, and the scan from here is the scan from the start.
use Prim.Native.Nat.{◌-◌, ◌≤◌}
use lib.ListN.{length}
use Rattle.treecheck.proofs.Twins.{Met}
use Rattle.treecheck.proofs.Props.{Going}
use Rattle.treecheck.proofs.properties.Given as goal

abbrev pub invariant-loop-names : goal.invariant-loop-names
invariant-loop-names l = Met l.strings l.initial.names l.initial.marks l.names l.marks l.at l.base l.p l.top × Going l.s l.strings l.names l.at l.base l.p l.top × (l.p ≤ length l.s)

abbrev pub decreases-loop-names : goal.decreases-loop-names
decreases-loop-names l = length l.s - l.p

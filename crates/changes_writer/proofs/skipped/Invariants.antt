-- `changes_writer::skipped` meets its contract: those of the kind that are to come are the last ones.
use Prim.Native.Nat.{◌-◌, ◌≤◌}
use lib.ListN.{length, drop}
use Rattle.node_changes.specs.Changes.{changes_in, of_kind}
use Rattle.changes_writer.proofs.Steps.{Passing}
use Rattle.changes_writer.proofs.skipped.Given as goal

abbrev pub invariant-loop-left : goal.invariant-loop-left
invariant-loop-left l = (l.i ≤ length l.changes) × Passing l.changes l.kind l.i l.left (drop l.skip (of_kind l.kind (changes_in l.changes)))

abbrev pub decreases-loop-left : goal.decreases-loop-left
decreases-loop-left l = length l.changes - l.i

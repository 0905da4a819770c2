-- `changes_writer::put_entries` meets its contract: what is put and the entries to come add up to all of them.
use Prim.Native.Nat.{◌-◌, ◌≤◌}
use lib.ListN.{length, take}
use Rattle.node_changes.specs.Changes.{changes_at, of_kind}
use Rattle.changes_writer.specs.Plan.{entry_bytes}
use Rattle.changes_writer.proofs.Steps.{Putting}
use Rattle.changes_writer.proofs.put_entries.Given as goal

abbrev pub invariant-loop-left : goal.invariant-loop-left
invariant-loop-left l = (l.i ≤ length l.changes) × Putting l.changes l.kind l.i l.left l.work l.to l.initial.work l.at (entry_bytes (take l.count (of_kind l.kind (changes_at l.changes l.from))))

abbrev pub decreases-loop-left : goal.decreases-loop-left
decreases-loop-left l = length l.changes - l.i

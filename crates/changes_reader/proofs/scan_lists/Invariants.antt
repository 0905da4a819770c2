-- `changes_reader::scan_lists` meets its contract: the changes that are counted and those to come add up to all.
use Rattle.std.specs.Prelude.{◌-◌, ◌*◌, ◌≤◌, length}
use Rattle.node_changes.specs.Lists.{area_bytes}
use Rattle.changes_reader.proofs.Reader.{Passing}
use Rattle.changes_reader.proofs.scan_lists.Given as goal

abbrev pub invariant-loop-w : goal.invariant-loop-w
invariant-loop-w l = record { within : l.at ≤ area_bytes; few : 4 * l.changes ≤ l.at; pass : Passing l.area l.at l.changes }

abbrev pub decreases-loop-w : goal.decreases-loop-w
decreases-loop-w l = length l.area - l.at

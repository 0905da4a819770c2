-- `statuses::walk_over` meets its contract: what is written and what is still to come add up to the whole.
use mathlib.Core.Path.{◌≡◌}
use Prim.Native.Nat.{◌+◌, ◌*◌, ◌≤◌}
use lib.ListN.{length}
use Rattle.table.specs.Model.{table_of}
use Rattle.statuses.specs.Statuses.{statuses_from, lines, Same}
use Rattle.statuses.proofs.walk_over.Given as goal

abbrev pub invariant-loop-left : goal.invariant-loop-left
invariant-loop-left l = (length l.area ≡ length l.initial.area) × (l.at + 6 * l.left ≤ l.from + 6 * l.calls) × (length l.text ≡ length l.initial.text) × Same l.text l.at (lines (statuses_from (table_of l.table) l.left l.structure l.strings l.c l.area)) l.initial.text l.from
    (lines (statuses_from (table_of l.table) l.calls l.structure l.strings l.initial.c l.initial.area))

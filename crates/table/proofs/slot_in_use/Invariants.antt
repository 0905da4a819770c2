-- `table::slot_in_use` meets its contract: the search from here on is the whole search.
use Prim.Native.Nat.{◌-◌}
use mathlib.Core.Path.{◌≡◌}
use Rattle.words.specs.Pick.{any}
use Rattle.table.specs.Layout.{connector_at}
use Rattle.table.specs.Model.{rows, table_of, slot_below}
use Rattle.table.proofs.slot_in_use.Given as goal

abbrev pub invariant-loop-i : goal.invariant-loop-i
invariant-loop-i l = any (slot_below l.index.0) (rows (connector_at l.t) l.i (l.i-end - l.i)) ≡ any (slot_below l.index.0) (table_of l.t).connectors

-- `pool::free_lowest` meets its contract: the first from `start` on is the first of all.
use Prim.Native.Nat.{◌+◌, ◌-◌, ◌%◌, ◌≤◌}
use mathlib.Core.Path.{◌≡◌}
use lib.ListN.{drop}
use Rattle.table.specs.Layout.{resource_limit}
use Rattle.table.specs.Model.{table_of}
use Rattle.pool.specs.Pool.{block, is_free, number_from}
use Rattle.pool.proofs.free_lowest.Given as goal

abbrev pub invariant-loop-start : goal.invariant-loop-start
invariant-loop-start l = (l.n ≤ resource_limit) × (l.start % block ≡ 0) × (number_from (is_free l.kind) (l.start + 1) (drop l.start (table_of l.t).ledger) ≡ number_from (is_free l.kind) 1 (table_of l.t).ledger)

abbrev pub decreases-loop-start : goal.decreases-loop-start
decreases-loop-start l = resource_limit - l.start

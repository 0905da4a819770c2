-- `pool::free_count` meets its contract: those counted so far and those from `start` on are all.
use Prim.Native.Nat.{◌+◌, ◌-◌, ◌%◌, ◌≤◌}
use mathlib.Core.Path.{◌≡◌}
use lib.ListN.{drop}
use Rattle.table.specs.Layout.{resource_limit}
use Rattle.table.specs.Model.{table_of}
use Rattle.pool.specs.Pool.{block, is_free, how_many}
use Rattle.pool.proofs.free_count.Given as goal

abbrev pub invariant-loop-start : goal.invariant-loop-start
invariant-loop-start l = (l.lines ≤ resource_limit) × (l.start % block ≡ 0) × (l.n + how_many (is_free l.kind) (drop l.start (table_of l.t).ledger) ≡ how_many (is_free l.kind) (table_of l.t).ledger)

abbrev pub decreases-loop-start : goal.decreases-loop-start
decreases-loop-start l = resource_limit - l.start

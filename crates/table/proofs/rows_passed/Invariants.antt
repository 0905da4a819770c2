-- `table::rows_passed` meets its contract: the search goes on in what is left past the rows that were passed.
use Prim.Native.Nat.{◌+◌}
use mathlib.Core.Path.{◌≡◌}
use lib.Dec.{eqb}
use lib.ListN.{drop, length}
use Rattle.table.specs.Model.{position}
use Rattle.table.proofs.rows_passed.Given as goal

abbrev pub invariant-loop-rows : goal.invariant-loop-rows
invariant-loop-rows l = record {
  sixteen : l.rows-iterator.size ≡ 16;
  left : l.rows-iterator.rest.now ≡ drop l.passed l.column;
  room : l.passed + length l.rows-iterator.rest.now ≡ length l.column;
  first : l.passed + position (λ k. eqb k l.index.0) l.rows-iterator.rest.now ≡ position (λ k. eqb k l.index.0) l.column;
}

-- `table::find` meets its contract: what is left of the column past the rows that were passed is searched, and the column is the rows'.
use Prim.Native.Nat.{ℕ, ◌+◌}
use mathlib.Core.Path.{ap, ◌∙◌}
use native.Mathlib.Omega.{arith}
use lib.Dec.{eqb}
use lib.ListN.{drop, length-drop}
use Rattle.std.proofs.lemmas.List.{take_rest}
use Rattle.table.specs.Layout.{count_of}
use Rattle.table.specs.Model.{table_of, position}
use Rattle.table.proofs.Columns.{position-or, position-column}
use Rattle.table.proofs.find.Goals as goal

pub overflow_add-result : goal.overflow_add-result
overflow_add-result c =
    let o = rw (c.first_row.ensures, take_rest) at c.unwrap_or.ensures in
    let q = position-or (λ k. eqb k c.args.index.0) (drop c.rows_passed-passed.result c.indexes-column.result.now) in
    omega (arith, o, q.0, q.1, length-drop c.rows_passed-passed.result c.indexes-column.result.now, c.indexes-column.type_inv)

pub returns : goal.returns
unfolding table_of
returns c =
    let p = λ (k : ℕ). eqb k c.args.index.0 in
    let n = c.rows_passed-passed.result in
    let o = rw (c.first_row.ensures, take_rest) at c.unwrap_or.ensures in
    ap (λ k. n + k) (o ∙ (position-or p (drop n c.indexes-column.result.now)).0)
    ∙ c.rows_passed-passed.ensures.1
    ∙ ap (position p) c.indexes-column.ensures
    ∙ position-column c.args.t.now c.args.index.0 0 (count_of c.args.t.now) (omega arith)

-- `table::indexes` meets its contract.
use Prim.Native.Nat.{◌+◌, ◌-◌}
use mathlib.Core.Path.{◌≡◌}
use native.Mathlib.Omega.{arith}
use Rattle.words.specs.Bytes.{part}
use Rattle.table.specs.Layout.{count_of, row_cell}
use Rattle.table.proofs.indexes.Goals as goal

pub returns : goal.returns
unfolding part
returns c =
    let e : row_cell 0 c.used_rows.result - row_cell 0 0 ≡ count_of c.args.t.now = omega arith in
    rw e

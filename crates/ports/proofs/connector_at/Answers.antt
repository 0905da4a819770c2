-- `ports::connector_at` meets its contract.
use native.Mathlib.Omega.{arith}
use Rattle.table.specs.Model.{table_of}
use Rattle.std.specs.Prelude.{Err}
use Rattle.call_status.specs.Status.{accepted}
use Rattle.call_status.specs.declared.CallRefusal.TheVariants.{NoConnector}
use Rattle.ports.proofs.Looks.{looked, no_row, row-there}
use Rattle.ports.proofs.connector_at.Goals as goal

pub returns-then-count-i : goal.returns-then-count-i
returns-then-count-i c =
    let a = c.args in
    looked (Err NoConnector) _ _ (no_row (table_of a.t.now) a.row a.out.now (omega (arith, c.count.ensures)))

pub returns : goal.returns
returns c =
    let a = c.args in
    looked accepted _ _ (row-there (table_of a.t.now) a.row a.out.now _ _ (omega arith) c.connector_at-c.ensures c.words_of.ensures)

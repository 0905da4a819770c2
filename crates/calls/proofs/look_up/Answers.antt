-- `calls::look_up` meets its contract.
use mathlib.Core.Path.{sym}
use native.Mathlib.Omega.{arith}
use Rattle.table.specs.Model.{table_of}
use Rattle.std.specs.Prelude.{None}
use Rattle.calls.proofs.Finding.{row}
use Rattle.calls.proofs.Look.{at-found, at_none}
use Rattle.calls.proofs.look_up.Goals as goal

pub returns-then-count-i : goal.returns-then-count-i
returns-then-count-i c =
    let a = c.args in
    sym (at_none (table_of a.t.now) a.k.0 row None c.find-i.result c.find-i.ensures (omega arith))

pub returns : goal.returns
returns c =
    let a = c.args in
    sym (at-found (table_of a.t.now) a.k.0 row None c.find-i.result c.connector_at.result c.find-i.ensures (omega arith) c.connector_at.ensures)

-- `ports::row_of` meets its contract.
use mathlib.Core.Path.{sym, ◌∙◌}
use native.Mathlib.Omega.{arith}
use mir.Facts.{to_z_pos}
use mir.Syntax.{w32}
use Rattle.table.specs.Model.{table_of}
use Rattle.table.proofs.Refine.{length-connectors}
use Rattle.ports.proofs.Looks.{row-found, row-none}
use Rattle.ports.proofs.row_of.Goals as goal

pub returns-then-i-n : goal.returns-then-i-n
returns-then-i-n c =
    let a = c.args in
    let n = length-connectors a.t.now in
    to_z_pos w32 (omega arith) ∙ sym (row-found (table_of a.t.now) a.index _ c.find-i.ensures (omega (arith, n)))

pub returns : goal.returns
returns c =
    let a = c.args in
    let n = length-connectors a.t.now in
    sym (row-none (table_of a.t.now) a.index _ c.find-i.ensures (omega (arith, n)))

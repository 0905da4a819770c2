-- `ledger::line_kind` meets its contract: what stands in the line is read of the model, and past the last line nothing.
use mathlib.Core.Path.{ap, sym}
use native.Mathlib.Omega.{arith}
use Rattle.table.proofs.Refine.{line_read, line-past}
use Rattle.ledger.proofs.line_kind.Goals as goal

pub returns-then-used_lines-j : goal.returns-then-used_lines-j
returns-then-used_lines-j c =
    let a = c.args in
    sym (ap (λ l. l.kind) (line-past a.t.now a.j (omega arith)))

pub returns : goal.returns
returns c =
    let a = c.args in
    sym (ap (λ l. l.kind) (line_read a.t.now a.j (omega arith)))

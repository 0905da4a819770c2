-- `reader::tokens::write_name` meets its contract.
use mathlib.Core.Path.{ap, ◌∙◌}
use native.Mathlib.Omega.{arith}
use lib.ListN.{length}
use Rattle.buffer.proofs.Put.{length_part}
use Rattle.reader.proofs.Written.{name-then, no_name}
use Rattle.reader.proofs.tokens.write_name.Goals as goal

pub put_filled-requires : goal.put_filled-requires
put_filled-requires c =
    let a = c.args in
    let h = c.requires.1 c.if-fresh-gt0.true in
    let l = ap length c.name_of.ensures ∙ length_part a.area.now a.p.name a.p.n (omega arith) in
    (omega arith, omega arith)

pub returns-then-fresh-gt0 : goal.returns-then-fresh-gt0
returns-then-fresh-gt0 c =
    let a = c.args in
    let l = length_part a.area.now a.p.name a.p.n (omega arith) in
    name-then a.strings.now _ a.at a.p.n a.fresh _ l c.if-fresh-gt0.true (rw c.name_of.ensures at c.put_filled.ensures)

pub returns-else-fresh-gt0 : goal.returns-else-fresh-gt0
returns-else-fresh-gt0 c = let a = c.args in no_name a.strings.now a.at a.fresh _ c.if-fresh-gt0.false

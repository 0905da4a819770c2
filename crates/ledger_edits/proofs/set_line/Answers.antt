-- `ledger_edits::set_line` meets its contract: nothing where no such line is there, else the edit.
use native.Mathlib.Omega.{arith}
use borrow.Author.Tests.{lt-ltb, le-ltb}
use Rattle.words.specs.Pick.{pick}
use Rattle.table.specs.Layout.{line_count_of}
use Rattle.table.specs.Model.{write}
use Rattle.ledger_edits.proofs.set_line.Goals as goal

pub returns-then-used_lines-j : goal.returns-then-used_lines-j
unfolding write pick
returns-then-used_lines-j c =
    let a = c.args in
    rw (le-ltb a.j (line_count_of a.t.now) (omega arith))

pub returns : goal.returns
unfolding write pick
returns c =
    let a = c.args in
    rw (lt-ltb a.j (line_count_of a.t.now) (omega arith))

-- `ledger_edits::push_line` meets its contract: nothing where the limit is reached, else the edit.
use native.Mathlib.Omega.{arith}
use borrow.Author.Tests.{lt-ltb, le-ltb}
use Rattle.words.specs.Pick.{pick}
use Rattle.table.specs.Layout.{resource_limit, line_count_of}
use Rattle.table.specs.Model.{write}
use Rattle.ledger_edits.proofs.push_line.Goals as goal

pub returns-then-n-ge-RESOURCES : goal.returns-then-n-ge-RESOURCES
unfolding write pick
returns-then-n-ge-RESOURCES c =
    let a = c.args in
    rw (le-ltb (line_count_of a.t.now) resource_limit (omega arith))

pub returns : goal.returns
unfolding write pick
returns c =
    let a = c.args in
    rw (lt-ltb (line_count_of a.t.now) resource_limit (omega arith), c.put_line.ensures, c.used_lines-n.ensures)

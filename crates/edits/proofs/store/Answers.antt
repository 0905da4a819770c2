-- `edits::store` meets its contract: nothing where no such connector is there, else the edit.
use native.Mathlib.Omega.{arith}
use borrow.Author.Tests.{lt-ltb, le-ltb}
use Rattle.words.specs.Pick.{pick}
use Rattle.table.specs.Layout.{count_of}
use Rattle.table.specs.Model.{write}
use Rattle.edits.proofs.store.Goals as goal

pub returns-then-used_rows-i : goal.returns-then-used_rows-i
unfolding write pick
returns-then-used_rows-i c =
    let a = c.args in
    rw (le-ltb a.i (count_of a.t.now) (omega arith))

pub returns : goal.returns
unfolding write pick
returns c =
    let a = c.args in
    rw (lt-ltb a.i (count_of a.t.now) (omega arith)) c.put.ensures

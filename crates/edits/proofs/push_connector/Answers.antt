-- `edits::push_connector` meets its contract: nothing where the limit is reached, else the edit.
use native.Mathlib.Omega.{arith}
use borrow.Author.Tests.{lt-ltb, le-ltb}
use Rattle.words.specs.Pick.{pick}
use Rattle.table.specs.Layout.{connector_limit, count_of}
use Rattle.table.specs.Model.{write}
use Rattle.edits.proofs.push_connector.Goals as goal

pub returns-then-n-ge-CONNECTORS : goal.returns-then-n-ge-CONNECTORS
unfolding write pick
returns-then-n-ge-CONNECTORS c =
    let a = c.args in
    rw (le-ltb (count_of a.t.now) connector_limit (omega arith))

pub returns : goal.returns
unfolding write pick
returns c =
    let a = c.args in
    rw (lt-ltb (count_of a.t.now) connector_limit (omega arith), c.put.ensures, c.used_rows-n.ensures)

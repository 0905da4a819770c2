-- `edits::put` meets its contract: the row is the connector's words.
use Rattle.table.specs.Layout.{store_row}
use Rattle.edits.proofs.put.Goals as goal

pub returns : goal.returns
unfolding store_row
returns c = rw c.words_of.ensures at c.set_row.ensures

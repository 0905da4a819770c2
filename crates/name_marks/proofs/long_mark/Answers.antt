-- `name_marks::long_mark` meets its contract.
use Rattle.name_marks.specs.Marks.{long_mark}
use Rattle.name_marks.proofs.long_mark.Goals as goal

pub returns : goal.returns
unfolding long_mark
returns c = (rw (c.spread.ensures.0, c.three_eights-t.ensures.0), c.spread.ensures.1)

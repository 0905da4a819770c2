-- `name_marks::short_mark` meets its contract.
use Rattle.std.proofs.Common.{◌-◌, ◌/◌, length, zero-add}
use Rattle.name_marks.specs.Marks.{short_mark}
use Rattle.name_marks.proofs.short_mark.Goals as goal

pub returns : goal.returns
unfolding short_mark
returns c = (rw (c.spread.ensures.0, c.from-3.ensures, c.from-2.ensures, c.from.ensures, zero-add (length c.args.name.now - 1 - 1), zero-add ((length c.args.name.now - 1) / 2)), c.spread.ensures.1)

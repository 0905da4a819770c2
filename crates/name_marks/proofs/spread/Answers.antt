-- `name_marks::spread` meets its contract.
use mathlib.Core.Path.{refl}
use native.Mathlib.Omega.{arith}
use Rattle.name_marks.specs.Marks.{spread_of}
use Rattle.name_marks.proofs.spread.Goals as goal

pub returns : goal.returns
unfolding spread_of
returns c = (refl, omega arith)

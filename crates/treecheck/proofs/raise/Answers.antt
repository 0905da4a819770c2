-- `treecheck::raise` meets its contract.
use mathlib.Core.Path.{ap, refl}
use lib.Dec.{leb}
use Rattle.treecheck.proofs.raise.Goals as goal

pub returns : goal.returns
returns c = (ap (leb c.args.from) c.from-old.ensures, refl)

-- `treecompare::same_roots` meets its contract.
use mathlib.Core.Path.{sym, ◌∙◌}
use Rattle.treecompare.specs.Lockstep.{roots_of, same_roots}
use Rattle.treecompare.proofs.Lockstep.{resume-root, roots-other}
use Rattle.treecompare.proofs.same_roots.Goals as goal

pub returns-in-Open : goal.returns-in-Open
unfolding roots_of same_roots
returns-in-Open c = c.is_some.ensures ∙ sym (rw (← c.pair_at.ensures, c.in-Open.is) (c.same_node.ensures.at_value ∙ resume-root _ _ _ _ c.same_node.result))

pub returns-in_default : goal.returns-in_default
unfolding same_roots
returns-in_default c = rw (← c.pair_at.ensures) (sym (roots-other _ _ _ _ c.pair_at.result c.in_default.not-Open))

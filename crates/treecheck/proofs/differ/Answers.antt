-- `treecheck::differ` meets its contract.
use mathlib.Core.Path.{◌∙◌}
use Rattle.words.specs.Pick.{every}
use Rattle.words.proofs.Pick.{pick_yes, pick_same}
use Rattle.name_order.specs.Order.{distinct_in}
use Rattle.name_order.proofs.Named.{is-list}
use Rattle.treecheck.proofs.differ.Goals as goal

pub returns-else-top-base-le-FEW : goal.returns-else-top-base-le-FEW
unfolding distinct_in every
returns-else-top-base-le-FEW c = c.all_differ.ensures ∙ pick_yes _ _ _ (is-list c.args.block.now c.args.names.now c.args.base c.args.top c.requires.0 c.requires.1 c.requires.2) ∙ pick_same _

-- `treecheck::search_few` meets its contract.
use mathlib.Core.Path.{sym, ◌∙◌}
use borrow.Author.Tests.{le-leb, lt-leb, le-ltb}
use Rattle.words.specs.Pick.{pick}
use Rattle.words.proofs.Pick.{pick_yes}
use Rattle.treecheck.proofs.search_few.Goals as goal

pub returns-then-top-base-lt-FEW : goal.returns-then-top-base-lt-FEW
unfolding pick
returns-then-top-base-lt-FEW c = c.is_among.ensures ∙ simp (lt-leb _ _ c.if-top-base-lt-FEW.true)

pub returns-else-top-base-lt-FEW : goal.returns-else-top-base-lt-FEW
returns-else-top-base-lt-FEW c = le-ltb _ _ c.if-top-base-lt-FEW.false ∙ sym (pick_yes _ _ _ (le-leb _ _ c.if-top-base-lt-FEW.false))

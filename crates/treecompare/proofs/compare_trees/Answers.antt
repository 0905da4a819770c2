-- `treecompare::compare_trees` meets its contract.
use borrow.Author.Rules.{rules}
use mathlib.Core.Path.{◌≡◌, ap, ◌∙◌}
use mir.Syntax.{w32}
use mir.Val.{to_z, of_z}
use Rattle.treecompare.specs.Compare.{number, compared}
use Rattle.treecompare.proofs.compare_trees.Goals as goal

pub returns : goal.returns
unfolding compared
returns c =
    let e : to_z w32 (of_z w32 c.number_of.result) ≡ c.number_of.result = search rules in
    e ∙ c.number_of.ensures ∙ ap number c.compare.ensures

-- `treecheck::root_in` meets its contract.
use mathlib.Core.Path.{sym, ◌∙◌, ap}
use native.Mathlib.Omega.{arith}
use Rattle.treecheck.specs.Lists.{resumed}
use Rattle.treecheck.proofs.Kids.{root-closed}
use Rattle.treecheck.proofs.root_in.Goals as goal

pub node-requires : goal.node-requires
node-requires c =
    let f = c.requires in
    (omega arith, record { structure = f.0; strings = f.1; room = f.3; marked = omega arith; used = omega arith; inside = f.2 })

pub returns-in-Some : goal.returns-in-Some
returns-in-Some c = c.finish.ensures ∙ sym (c.node.ensures.at_value ∙ ap (resumed _ _ 7) c.in-Some.is ∙ root-closed _ _ _)

pub returns-in-None : goal.returns-in-None
unfolding resumed
returns-in-None c = sym (c.node.ensures.at_value ∙ ap (resumed _ _ 7) c.in-None.is)

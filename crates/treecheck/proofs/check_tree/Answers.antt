-- `treecheck::check_tree` meets its contract.
use mathlib.Core.Path.{◌≡◌, refl, sym, ◌∙◌, ap}
use mathlib.Core.Bool.{Bool, true, false}
use mir.Val.{bool_byte}
use borrow.Enum.Refused.{opened}
use Rattle.words.specs.Pick.{pick}
use Rattle.treecheck.specs.Lists.{node_root}
use Rattle.treecheck.proofs.Scan.{lies}
use Rattle.treecheck.proofs.Passes.{unsized, scanned, sizes-are, not_root}
use Rattle.treecheck.proofs.check_tree.Goals as goal

pub returns-then-not-sizes : goal.returns-then-not-sizes
returns-then-not-sizes c = unsized _ _ (sym c.sizes.ensures ∙ c.if-not-sizes.true)

pub root-requires : goal.root-requires
root-requires c =
    let z = sizes-are _ _ (sym c.sizes.ensures ∙ c.if-not-sizes.false) in
    let w = lies _ _ 0 _ (sym c.strict_token.ensures ∙ c.in-Begin.is) in
    (z.0, z.1, w.3)

byte : (b : Bool) → bool_byte b ≡ pick b 1 0
unfolding pick
byte true = refl
byte false = refl

pub returns-in-Begin : goal.returns-in-Begin
unfolding pick node_root
returns-in-Begin c =
    c.from.ensures ∙ byte c.root.result
    ∙ scanned _ _ _ (sym c.sizes.ensures ∙ c.if-not-sizes.false) (ap (node_root _ _) (sym c.strict_token.ensures ∙ c.in-Begin.is) ∙ sym c.root.ensures)

pub returns-in_default : goal.returns-in_default
unfolding pick
returns-in_default c =
    let a = c.args in
    scanned a.structure.now a.strings.now _ (sym c.sizes.ensures ∙ c.if-not-sizes.false)
    (ap (node_root _ _) (sym c.strict_token.ensures) ∙ not_root _ _ c.strict_token.result (opened c.in_default.in_default-own.keys2))

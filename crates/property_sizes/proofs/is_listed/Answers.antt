-- `property_sizes::is_listed` meets its contract: the tests in the order of the definition.
use mathlib.Core.Path.{sym, ◌∙◌}
use mathlib.Core.Bool.{false≢true}
use native.Mathlib.Omega.{arith}
use borrow.Author.Tests.{eqb-true, eqb-false, le-ltb}
use Rattle.table.specs.Layout.{connector_at}
use Rattle.table.proofs.Refine.{connector-read, connector-past}
use Rattle.property_sizes.proofs.Arrays.{listed-other, listed-own, listed-blank}
use Rattle.property_sizes.proofs.is_listed.Goals.{then-i-used_rows, else-i-used_rows}
use Rattle.property_sizes.proofs.is_listed.Goals as goal

pub returns-then-t-i : goal.returns-then-t-i
unfolding connector_at
returns-then-t-i c =
    let a = c.args in
    let h = c.if-t-i.true in
    elim c.if-i-used_rows.branch [
      | then-i-used_rows w ↦
          rw (connector-read a.t.now a.i (omega arith)) (c.known.ensures ∙ listed-own a.partition (connector_at a.t.now a.i) (eqb-true _ _ (sym w.value-is ∙ h)))
      | else-i-used_rows w ↦
          absurd (false≢true (sym (le-ltb _ _ w.if-i-used_rows.false) ∙ sym w.value-is ∙ h))
    ]

pub returns-else-t-i : goal.returns-else-t-i
unfolding connector_at
returns-else-t-i c =
    let a = c.args in
    let h = c.if-t-i.false in
    elim c.if-i-used_rows.branch [
      | then-i-used_rows w ↦
          h ∙ rw (connector-read a.t.now a.i (omega arith)) (listed-other a.partition (connector_at a.t.now a.i) (eqb-false _ _ (sym w.value-is ∙ h)))
      | else-i-used_rows w ↦
          h ∙ rw (connector-past a.t.now a.i (omega arith)) (listed-blank a.partition)
    ]

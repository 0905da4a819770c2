-- `look_ahead::is_index_name` meets its contract.
use borrow.Author.Tests.{eq-eqb, ne_eqb}
use mathlib.Core.Path.{sym, ap, ◌∙◌}
use native.Mathlib.Omega.{arith}
use lib.Dec.{eqb}
use Rattle.words.proofs.Pick.{pick_yes, pick_no}
use Rattle.words.proofs.Bytes.{eight_is}
use Rattle.look_ahead.proofs.Names.{name-test}
use Rattle.look_ahead.proofs.is_index_name.Goals as goal

pub returns-then-eight_at-eq-IBM_MY_D : goal.returns-then-eight_at-eq-IBM_MY_D
returns-then-eight_at-eq-IBM_MY_D c =
    let a = c.args in
    let e = c.eight_at.ensures ∙ eight_is a.strings.now a.name (omega arith) in
    ap (λ x. eqb x 8675450682572890994) (c.eight_at-then-eight_at-eq-IBM_MY_D.ensures ∙ eight_is a.strings.now _ (omega arith))
    ∙ sym
    (name-test a.strings.now (λ i. omega (arith, c.type_inv.strings i)) a.name (omega arith)
    ∙ pick_yes _ _ _ (eq-eqb _ _ (sym e ∙ c.if-eight_at-eq-IBM_MY_D.true)))

pub returns-else-eight_at-eq-IBM_MY_D : goal.returns-else-eight_at-eq-IBM_MY_D
returns-else-eight_at-eq-IBM_MY_D c =
    let a = c.args in
    let e = c.eight_at.ensures ∙ eight_is a.strings.now a.name (omega arith) in
    ne_eqb _ _ c.if-eight_at-eq-IBM_MY_D.false
    ∙ sym
    (name-test a.strings.now (λ i. omega (arith, c.type_inv.strings i)) a.name (omega arith)
    ∙ pick_no _ _ _ (ne_eqb _ _ (λ z. c.if-eight_at-eq-IBM_MY_D.false (e ∙ z))))

-- `memory_grouping::is_next` meets its contract.
use mathlib.Core.Path.{sym, ◌∙◌}
use mathlib.Core.Bool.{true, false, false≢true}
use native.Mathlib.Omega.{arith}
use Rattle.memory_grouping.proofs.Grouping.{sum_is, address-off, index-off, associativity-off, alike}
use Rattle.memory_grouping.proofs.is_next.Goals.{then-eq, else-eq, then-eq-2, else-eq-2}
use Rattle.memory_grouping.proofs.is_next.Goals as goal

pub returns-then-b-a : goal.returns-then-b-a
returns-then-b-a c =
    let a = c.args in
    let address = c.eq.ensures ∙ sum_is _ _ _ c.checked_add.ensures (omega arith) in
    elim c.if-eq-2.branch [
      | then-eq-2 w ↦
          (elim c.if-eq.branch [
            | then-eq v ↦
                alike a.size a.a a.b address (v.eq-then-eq.ensures ∙ sum_is _ _ _ v.checked_add-then-eq.ensures (omega arith)) v.if-eq.true (sym v.value-is ∙ w.if-eq-2.true) (sym w.value-is ∙ c.if-b-a.true)
            | else-eq v ↦ absurd (false≢true (sym v.if-eq.false ∙ sym v.value-is ∙ w.if-eq-2.true))
          ])
      | else-eq-2 w ↦ absurd (false≢true (sym w.if-eq-2.false ∙ sym w.value-is ∙ c.if-b-a.true))
    ]

pub returns-else-b-a : goal.returns-else-b-a
returns-else-b-a c =
    let a = c.args in
    let address = c.eq.ensures ∙ sum_is _ _ _ c.checked_add.ensures (omega arith) in
    c.if-b-a.false ∙
    elim c.if-eq-2.branch [
      | then-eq-2 w ↦
          (elim c.if-eq.branch [
            | then-eq v ↦
                associativity-off a.size a.a a.b address (v.eq-then-eq.ensures ∙ sum_is _ _ _ v.checked_add-then-eq.ensures (omega arith)) v.if-eq.true (sym v.value-is ∙ w.if-eq-2.true) (sym w.value-is ∙ c.if-b-a.false)
            | else-eq v ↦ absurd (false≢true (sym v.if-eq.false ∙ sym v.value-is ∙ w.if-eq-2.true))
          ])
      | else-eq-2 w ↦
          (elim c.if-eq.branch [
            | then-eq v ↦ index-off a.size a.a a.b address (v.eq-then-eq.ensures ∙ sum_is _ _ _ v.checked_add-then-eq.ensures (omega arith)) v.if-eq.true (sym v.value-is ∙ w.if-eq-2.false)
            | else-eq v ↦ address-off a.size a.a a.b address v.if-eq.false
          ])
    ]

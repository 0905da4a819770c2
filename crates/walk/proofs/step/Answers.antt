-- `walk::step` meets its contract.
use borrow.Author.Tests.{leb-true}
use mathlib.Core.Path.{◌≡◌, sym, ap, ◌∙◌}
use Rattle.words.proofs.Pick.{every-each}
use Rattle.guards.specs.Guards.{readable}
use Rattle.walk.specs.Step.{Outcome}
use Rattle.walk.proofs.Tests.{step-area, step-state, step-pages, step-blocks, step-token}
use mathlib.Core.Path.{sym, ◌∙◌}
use Rattle.walk.proofs.step.Goals as goal

-- an answer that is the definition's
answered : {o p : Outcome} → o ≡ p → (p.stepped ≡ o.stepped) × (p.area ≡ o.area)
answered e = (ap (λ (o : Outcome). o.stepped) (sym e), ap (λ (o : Outcome). o.area) (sym e))

pub returns-then-not-is_area : goal.returns-then-not-is_area
returns-then-not-is_area c =
    answered (step-area _ _ _ _ _
    (sym c.is_area.ensures ∙ c.if-not-is_area.true))

pub returns-then-not-is_unisolated : goal.returns-then-not-is_unisolated
returns-then-not-is_unisolated c =
    answered (step-state _ _ _ _ _
    (sym c.is_area.ensures ∙ c.if-not-is_area.false)
    (sym c.is_unisolated.ensures ∙ c.if-not-is_unisolated.true))

pub returns-then-not-pages_meet : goal.returns-then-not-pages_meet
returns-then-not-pages_meet c =
    answered (step-pages _ _ _ _ _
    (sym c.is_area.ensures ∙ c.if-not-is_area.false)
    (sym c.is_unisolated.ensures ∙ c.if-not-is_unisolated.false)
    (sym c.pages_meet.ensures ∙ c.if-not-pages_meet.true))

pub returns-then-not-is_readable : goal.returns-then-not-is_readable
returns-then-not-is_readable c =
    answered (step-blocks _ _ _ _ _
    (sym c.is_area.ensures ∙ c.if-not-is_area.false)
    (sym c.is_unisolated.ensures ∙ c.if-not-is_unisolated.false)
    (sym c.pages_meet.ensures ∙ c.if-not-pages_meet.false)
    (sym c.is_readable.ensures ∙ c.if-not-is_readable.true))

pub advance-requires : goal.advance-requires
unfolding readable
advance-requires c =
    let r = every-each _ (sym c.is_readable.ensures ∙ c.if-not-is_readable.false) in
    (sym c.is_area.ensures ∙ c.if-not-is_area.false, leb-true _ _ r.0)

pub returns : goal.returns
returns c =
    let e = step-token _ _ _ _ _
    (sym c.is_area.ensures ∙ c.if-not-is_area.false)
    (sym c.is_unisolated.ensures ∙ c.if-not-is_unisolated.false)
    (sym c.pages_meet.ensures ∙ c.if-not-pages_meet.false)
    (sym c.is_readable.ensures ∙ c.if-not-is_readable.false) in
    (c.advance.ensures.0 ∙ ap (λ (o : Outcome). o.stepped) (sym e), c.advance.ensures.1 ∙ ap (λ (o : Outcome). o.area) (sym e))

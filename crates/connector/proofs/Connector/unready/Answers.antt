use borrow.Author.Tests.{eq-eqb, ne_eqb}
use mathlib.Core.Logic.{inl, inr}
use Rattle.connector.specs.Orders.{unready}
use Rattle.words.specs.Pick.{pick}
use Rattle.connector.proofs.Connector.unready.Goals as goal

pub returns-then-self : goal.returns-then-self
unfolding unready pick
returns-then-self c = elim c.then-self.either [ inl e ↦ rw e | inr e ↦ rw (e.0, eq-eqb _ _ e.1) ]

pub returns-then-self-ne0 : goal.returns-then-self-ne0
unfolding unready pick
returns-then-self-ne0 c = rw (c.if-self.false, ne_eqb _ _ c.if-self-eq0.false, ne_eqb _ _ c.if-self-ne0.true)

pub returns-else-self-ne0 : goal.returns-else-self-ne0
unfolding unready pick
returns-else-self-ne0 c = rw (c.if-self.false, ne_eqb _ _ c.if-self-eq0.false, eq-eqb _ _ c.if-self-ne0.false)

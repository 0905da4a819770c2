use borrow.Author.Tests.{eq-eqb, ne_eqb}
use Rattle.connector.specs.Orders.{occupied}
use Rattle.words.specs.Pick.{pick}
use Rattle.connector.proofs.Connector.occupied.Goals as goal

pub returns-then-self-eq-PHB : goal.returns-then-self-eq-PHB
unfolding occupied pick
returns-then-self-eq-PHB c = rw (eq-eqb _ _ c.if-self-eq-PHB.true)

pub returns-else-self-eq-PHB : goal.returns-else-self-eq-PHB
unfolding occupied pick
returns-else-self-eq-PHB c = rw (ne_eqb _ _ c.if-self-eq-PHB.false)

use mathlib.Core.Logic.{inl, inr}
use Rattle.words.specs.Pick.{pick}
use Rattle.connector.specs.Orders.{isolate_of, occupied}
use Rattle.connector.proofs.Connector.isolate.Goals as goal

pub returns-in-Unusable : goal.returns-in-Unusable
unfolding isolate_of
returns-in-Unusable c = elim c.in-Unusable.is [ inl e ↦ rw (c.kept.ensures, e) | inr e ↦ rw (c.kept.ensures, e) ]

pub returns-in-Unisolated : goal.returns-in-Unisolated
unfolding isolate_of
returns-in-Unisolated c = rw (c.moved.ensures, c.start_of_walk.ensures, c.in-Unisolated.is)

pub returns-then-occupied : goal.returns-then-occupied
unfolding isolate_of pick occupied
returns-then-occupied c = rw (c.kept-then-occupied.ensures, c.in-Configured.is, ← c.occupied.ensures, c.if-occupied.true)

pub returns-else-occupied : goal.returns-else-occupied
unfolding isolate_of pick occupied
returns-else-occupied c = rw (c.moved-else-occupied.ensures, c.in-Configured.is, ← c.occupied.ensures, c.if-occupied.false)

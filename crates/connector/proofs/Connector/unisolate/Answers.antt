use mathlib.Core.Logic.{inl, inr}
use Rattle.connector.specs.Orders.{unisolate_of}
use Rattle.connector.proofs.Connector.unisolate.Goals as goal

pub returns-in-Unusable : goal.returns-in-Unusable
unfolding unisolate_of
returns-in-Unusable c = rw (c.kept.ensures, c.in-Unusable.is)

pub returns-in-Available : goal.returns-in-Available
unfolding unisolate_of
returns-in-Available c = rw (c.moved.ensures, c.start_of_walk.ensures, c.in-Available.is)

pub returns-in-Unisolated : goal.returns-in-Unisolated
unfolding unisolate_of
returns-in-Unisolated c = elim c.in-Unisolated.is [ inl e ↦ rw (c.kept-in-Unisolated.ensures, e) | inr e ↦ rw (c.kept-in-Unisolated.ensures, e) ]

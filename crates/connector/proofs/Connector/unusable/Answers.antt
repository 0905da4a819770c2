use mathlib.Core.Logic.{inl, inr}
use Rattle.connector.specs.Orders.{unusable_of}
use Rattle.connector.proofs.Connector.unusable.Goals as goal

pub returns-in-Unusable : goal.returns-in-Unusable
unfolding unusable_of
returns-in-Unusable c = rw (c.kept.ensures, c.in-Unusable.is)

pub returns-in-Available : goal.returns-in-Available
unfolding unusable_of
returns-in-Available c = rw (c.released.ensures, c.in-Available.is)

pub returns-in-Unisolated : goal.returns-in-Unisolated
unfolding unusable_of
returns-in-Unisolated c = elim c.in-Unisolated.is [ inl e ↦ rw (c.kept-in-Unisolated.ensures, e) | inr e ↦ rw (c.kept-in-Unisolated.ensures, e) ]

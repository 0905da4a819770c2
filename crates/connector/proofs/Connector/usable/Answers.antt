use mathlib.Core.Logic.{inl, inr}
use Rattle.words.specs.Pick.{pick}
use Rattle.connector.specs.Orders.{usable_of, unready}
use Rattle.connector.proofs.Connector.usable.Goals as goal

pub returns-then-unready : goal.returns-then-unready
unfolding usable_of pick unready
returns-then-unready c = rw (c.kept.ensures, c.in-Unusable.is, ← c.unready.ensures, c.if-unready.true)

pub returns-else-unready : goal.returns-else-unready
unfolding usable_of pick unready
returns-else-unready c = rw (c.moved.ensures, c.in-Unusable.is, ← c.unready.ensures, c.if-unready.false)

pub returns-in-Available : goal.returns-in-Available
unfolding usable_of
returns-in-Available c =
    elim c.in-Available.is [
      | inl e ↦ rw (c.kept-in-Available.ensures, e)
      | inr f ↦ elim f [ inl e ↦ rw (c.kept-in-Available.ensures, e) | inr e ↦ rw (c.kept-in-Available.ensures, e) ]
    ]

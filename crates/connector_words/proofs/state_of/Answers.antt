use borrow.Author.Tests.{ne_eqb}
use Rattle.states.specs.States.{state_of}
use Rattle.words.specs.Pick.{pick}
use Rattle.connector_words.proofs.state_of.Goals as goal

pub returns-in-1 : goal.returns-in-1
unfolding state_of pick
returns-in-1 c = rw c.in-1.is

pub returns-in-2 : goal.returns-in-2
unfolding state_of pick
returns-in-2 c = rw c.in-2.is

pub returns-in-3 : goal.returns-in-3
unfolding state_of pick
returns-in-3 c = rw c.in-3.is

pub returns-in_default : goal.returns-in_default
unfolding state_of pick
returns-in_default c = simp (ne_eqb _ 1 c.in_default.in_default-own.rest.0.0.1, ne_eqb _ 2 c.in_default.in_default-own.rest.0.1, ne_eqb _ 3 c.in_default.in_default-own.rest.1)

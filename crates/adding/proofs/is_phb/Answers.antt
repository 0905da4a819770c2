-- `adding::is_phb` meets its contract.
use borrow.Author.Tests.{eq-eqb, ne_eqb}
use mathlib.Core.Path.{sym, ◌∙◌}
use Rattle.words.specs.Pick.{pick, every}
use Rattle.words.proofs.Pick.{pick_same}
use Rattle.calls.specs.Calls.{phb_of}
use Rattle.calls.proofs.Finding.{looked-up}
use Rattle.adding.proofs.is_phb.Goals as goal

pub returns-in_default : goal.returns-in_default
unfolding phb_of
returns-in_default c = sym (looked-up _ _ _ _ _ c.look_up.ensures c.in_default.is)

pub returns-then-c-eq-PHB : goal.returns-then-c-eq-PHB
unfolding phb_of every pick
returns-then-c-eq-PHB c = sym (looked-up _ _ _ _ _ c.look_up.ensures c.in-Some.is ∙ rw (eq-eqb _ _ c.if-c-eq-PHB.true) (pick_same _))

pub returns-else-c-eq-PHB : goal.returns-else-c-eq-PHB
unfolding phb_of every pick
returns-else-c-eq-PHB c = sym (looked-up _ _ _ _ _ c.look_up.ensures c.in-Some.is ∙ rw (ne_eqb _ _ c.if-c-eq-PHB.false))

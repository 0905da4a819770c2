-- `adding::parent_fits` meets its contract.
use borrow.Author.Tests.{eq-eqb, ne_eqb}
use mathlib.Core.Path.{sym, ◌∙◌}
use Rattle.words.specs.Pick.{pick, every}
use Rattle.words.proofs.Pick.{pick_same}
use Rattle.calls.specs.Calls.{parent_fits}
use Rattle.adding.proofs.parent_fits.Goals as goal

pub returns-then-parent-eq0 : goal.returns-then-parent-eq0
unfolding parent_fits pick
returns-then-parent-eq0 c = simp (eq-eqb _ _ c.if-parent-eq0.true)

pub returns-then-may_have_parent : goal.returns-then-may_have_parent
unfolding parent_fits every pick
returns-then-may_have_parent c = simp (ne_eqb _ _ c.if-parent-eq0.false, sym c.may_have_parent.ensures ∙ c.if-may_have_parent.true, c.is_phb.ensures) (sym (pick_same _))

pub returns-else-may_have_parent : goal.returns-else-may_have_parent
unfolding parent_fits every pick
returns-else-may_have_parent c = simp (ne_eqb _ _ c.if-parent-eq0.false, sym c.may_have_parent.ensures ∙ c.if-may_have_parent.false) c.if-may_have_parent.false

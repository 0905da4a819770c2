-- `partition_walk::configure_connector` meets its contract.
use mathlib.Core.Path.{refl, sym, ◌∙◌}
use Rattle.words.proofs.Pick.{pick_yes}
use Rattle.calls.specs.Calls.{configure}
use Rattle.calls.proofs.Own.{configure-form, answered-by}
use Rattle.calls.proofs.Finding.{looked-up-own}
use Rattle.partition_walk.proofs.configure_connector.Goals as goal

pub returns-then-not-is_form : goal.returns-then-not-is_form
returns-then-not-is_form c = answered-by _ _ _ _ _ (configure-form _ _ _ _ _ (sym c.is_form.ensures ∙ c.if-not-is_form.true)) (refl, refl) refl

pub returns : goal.returns
unfolding configure
returns c =
    let o = c.step-o.ensures in
    answered-by _ _ _ _ _ (pick_yes _ _ _ (sym c.is_form.ensures ∙ c.if-not-is_form.false) ∙ looked-up-own _ _ _ _ _ _ (rw c.word_at.ensures at c.look_up_own.ensures) c.in-Some.is)
    (rw (← o.0) refl, rw (← o.0) c.carry_step.ensures) o.1

pub returns-in_default : goal.returns-in_default
unfolding configure
returns-in_default c = answered-by _ _ _ _ _ (pick_yes _ _ _ (sym c.is_form.ensures ∙ c.if-not-is_form.false) ∙ looked-up-own _ _ _ _ _ _ (rw c.word_at.ensures at c.look_up_own.ensures) c.in_default.is) (refl, refl) refl

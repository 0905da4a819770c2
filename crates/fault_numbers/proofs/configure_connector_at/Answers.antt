-- `fault_numbers::configure_connector_at` meets its contract.
use mathlib.Core.Path.{◌≡◌, ap, ◌∙◌}
use mir.Syntax.{w32}
use mir.Val.{to_z, of_z}
use native.Mathlib.Omega.{arith}
use Rattle.step_status.specs.Status.{step_number}
use Rattle.faults.specs.Status.{status_offset}
use borrow.Author.Rules.{rules}
use Rattle.fault_numbers.proofs.Laws.{configure-fault, configure-short}
use Rattle.fault_numbers.proofs.configure_connector_at.Goals as goal

pub overflow_cast-fault : goal.overflow_cast-fault
overflow_cast-fault c =
    let short = configure-short _ _ _ _ _ _ (c.status_offset.ensures ∙ ap status_offset c.configure_connector-s.ensures.0.0) in
    omega arith

pub returns : goal.returns
returns c =
    let e : to_z w32 (of_z w32 c.status_number.result) ≡ c.status_number.result = search rules in
    let w = c.configure_connector-s.ensures in
    ((e ∙ c.status_number.ensures ∙ ap step_number w.0.0, w.0.1), w.1, c.status_offset.ensures ∙ ap status_offset w.0.0 ∙ configure-fault _ _ _ _ _)

-- `walk_in_place::step_in_place` meets its contract: the step's record and status, and the number and the offset of the status.
use mathlib.Core.Path.{ap, ◌∙◌}
use Rattle.step_status.specs.Status.{step_number}
use Rattle.stepped.specs.declared.Stepped.{Stepped}
use Rattle.faults.specs.Status.{status_offset}
use Rattle.faults.proofs.Laws.{fault-is}
use Rattle.walk_in_place.proofs.step_in_place.Goals as goal

pub returns : goal.returns
returns c =
    let e = c.step-s.ensures.0 in
    let m = c.number_at.ensures in (
      m.0 ∙ ap (λ (z : Stepped). step_number z.status) e,
      m.1 ∙ ap (λ (z : Stepped). status_offset z.status) e ∙ fault-is c.args.c.now _ _ _ _,
      ap (λ (z : Stepped). z.connector) e,
      c.step-s.ensures.1,
    )

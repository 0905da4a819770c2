-- `walk_record::walk_row` meets its contract: what it answers is what `walk::step` answers of the connector that the words mean.
use borrow.Author.Rules.{rules}
use mathlib.Core.Path.{◌≡◌, ap, ◌∙◌}
use mir.Syntax.{w32}
use mir.Val.{to_z, of_z}
use Rattle.stepped.specs.declared.Stepped.{Stepped}
use Rattle.step_status.specs.Status.{step_number}
use Rattle.faults.specs.Status.{status_offset}
use Rattle.faults.proofs.Laws.{fault-is, fault-short}
use Rattle.walk_record.specs.Words.{carried, walk_record}
use Rattle.walk_record.specs.Faults.{record_fault}
use Rattle.walk_record.proofs.walk_row.Goals as goal

pub returns : goal.returns
unfolding walk_record record_fault
returns c =
    let o = rw c.connector_of-c.ensures at c.step-s.ensures in
    let e : to_z w32 (of_z w32 c.status_number.result) ≡ c.status_number.result = search rules in
    let x = c.status_offset.ensures ∙ ap (λ (r : Stepped). status_offset r.status) o.0 in (
      e ∙ c.status_number.ensures ∙ ap (λ (r : Stepped). step_number r.status) o.0,
      c.carry.ensures ∙ ap (carried _) o.0,
      o.1,
      x ∙ fault-is _ _ _ _ _,
      fault-short _ _ _ _ _ _ x,
    )

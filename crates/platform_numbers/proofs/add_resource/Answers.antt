-- `platform_numbers::add_resource` meets its contract.
use mathlib.Core.Path.{◌≡◌, ap, sym, ◌∙◌}
use mir.Syntax.{w32}
use mir.Val.{to_z, of_z}
use Rattle.call_status.specs.Status.{call_number}
use Rattle.calls.specs.Calls.{added_status, number_added}
use borrow.Author.Rules.{rules}
use Rattle.platform_numbers.proofs.add_resource.Goals as goal

pub returns-in-Ok : goal.returns-in-Ok
returns-in-Ok c =
    let a = c.add_resource.ensures in
    let is = sym c.in-Ok.is in
    ((ap call_number (ap added_status is ∙ a.0.0), a.0.1), ap number_added is ∙ a.1)

pub returns-in-Err : goal.returns-in-Err
returns-in-Err c =
    let a = c.add_resource.ensures in
    let is = sym c.in-Err.is in
    let e : to_z w32 (of_z w32 c.from.result) ≡ c.from.result = search rules in
    ((e ∙ c.from.ensures ∙ ap call_number (ap added_status is ∙ a.0.0), a.0.1), ap number_added is ∙ a.1)

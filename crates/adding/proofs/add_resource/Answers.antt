-- `adding::add_resource` meets its contract.
use Rattle.table.specs.Model.{table_of}
use Rattle.std.proofs.lemmas.Result.{err_from_is_err_and}
use Rattle.call_status.specs.Status.{is_accepted}
use Rattle.calls.proofs.Look.{room-left}
use mathlib.Core.Path.{refl, ap, sym, ◌∙◌}
use native.Mathlib.Omega.{arith}
use Rattle.words.specs.Pick.{pick}
use Rattle.calls.specs.Calls.{add_resource, added_number}
use Rattle.calls.proofs.Look.{decided-no, decided-yes}
use Rattle.adding.proofs.add_resource.Goals as goal

pub returns-in_err-add_resource_status : goal.returns-in_err-add_resource_status
unfolding add_resource added_number pick
returns-in_err-add_resource_status c =
    let p = err_from_is_err_and c.from_residual.result c.from_residual.ensures.1 in
    let no = sym c.add_resource_status.ensures ∙ c.in_err-add_resource_status.was in
    rw (p.1, p.2) (decided-no _ _ _ _ no, rw no refl)

pub overflow_add-result : goal.overflow_add-result
overflow_add-result c =
    let a = c.args in
    let h = room-left (table_of a.t.now) a.kind (ap is_accepted (sym c.add_resource_status.ensures ∙ c.in_ok-add_resource_status.was)) in
    omega arith

pub overflow_cast-result : goal.overflow_cast-result
overflow_cast-result c =
    let a = c.args in
    let h = room-left (table_of a.t.now) a.kind (ap is_accepted (sym c.add_resource_status.ensures ∙ c.in_ok-add_resource_status.was)) in
    omega arith

pub returns : goal.returns
unfolding add_resource added_number pick
returns c =
    let yes = sym c.add_resource_status.ensures ∙ c.in_ok-add_resource_status.was in
    (decided-yes _ _ _ _ yes c.push_line.ensures, rw (yes, ← c.line_count-n.ensures) refl)

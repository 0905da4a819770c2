-- `ports::resource_at` meets its contract.
use mathlib.Core.Path.{sym, ◌∙◌}
use native.Mathlib.Omega.{arith}
use Rattle.table.specs.Model.{table_of}
use Rattle.calls.proofs.Look.{one_up}
use Rattle.std.specs.Prelude.{Err}
use Rattle.call_status.specs.Status.{accepted}
use Rattle.call_status.specs.declared.CallRefusal.TheVariants.{NoResource}
use Rattle.ports.proofs.Looks.{looked, no_line, line-there}
use Rattle.ports.proofs.resource_at.Goals as goal

pub returns-then-not-is_resource : goal.returns-then-not-is_resource
returns-then-not-is_resource c =
    let a = c.args in
    looked (Err NoResource) _ _ (no_line (table_of a.t.now) a.number a.out.now (sym c.is_resource.ensures ∙ c.if-not-is_resource.true))

pub overflow_sub-j : goal.overflow_sub-j
overflow_sub-j c =
    let e = one_up _ _ (sym c.is_resource.ensures ∙ c.if-not-is_resource.false) in
    omega (arith, e)

pub returns : goal.returns
returns c =
    let a = c.args in
    looked accepted _ _ (line-there (table_of a.t.now) a.number a.out.now _ _ (sym c.is_resource.ensures ∙ c.if-not-is_resource.false) c.line_kind-kind.ensures c.line_at-at.ensures)

use Prim.Native.Nat.{◌-◌}
use mathlib.Core.Path.{◌≡◌, sym, ◌∙◌}
use native.Mathlib.Omega.{arith}
use Rattle.table.specs.Layout.{connector_at, count_of}
use Rattle.table.specs.Model.{slot_below, table_of}
use Rattle.table.proofs.Rows.{any-end, any_here, any_next}
use Rattle.table.proofs.slot_in_use.Goals as goal

pub loop-i-init : goal.loop-i-init
unfolding table_of
loop-i-init c =
    let e : c.used_rows-i-end.result - 0 ≡ count_of c.args.t.now = omega arith in
    rw e

pub returns-then-is_slot_below : goal.returns-then-is_slot_below
returns-then-is_slot_below c =
    let a = c.args in
    sym (any_here (slot_below a.index.0) (connector_at a.t.now) c.loop-i.i _ c.loop-i-test.true (sym c.is_slot_below.ensures ∙ c.if-is_slot_below.true)) ∙ c.loop-i.invariant

pub loop-i-preserved : goal.loop-i-preserved
loop-i-preserved c =
    let a = c.args in
    sym (any_next (slot_below a.index.0) (connector_at a.t.now) c.loop-i.i _ c.loop-i-test.true (sym c.is_slot_below.ensures ∙ c.if-is_slot_below.false)) ∙ c.loop-i.invariant

pub returns : goal.returns
returns c =
    let a = c.args in
    sym (any-end (slot_below a.index.0) (connector_at a.t.now) c.loop-i.i _ c.loop-i-test.false) ∙ c.loop-i.invariant

-- `changes_writer::update_nodes` meets its contract.
use mathlib.Core.Path.{sym, ◌∙◌}
use native.Mathlib.Omega.{arith}
use Rattle.changes_writer.proofs.Accepts.{refused-unsound, refused-kind, accepted, area-long, sum-few, state-few, sum_fits}
use Rattle.changes_writer.proofs.update_nodes.Goals as goal

pub returns-then-not-is_sound : goal.returns-then-not-is_sound
returns-then-not-is_sound c = let a = c.args in refused-unsound a.scope a.changes.now a.work.now (sym c.is_sound.ensures ∙ c.if-not-is_sound.true)

pub overflow_add-t : goal.overflow_add-t
overflow_add-t c = omega (arith, sum_fits c.args.changes.now _ c.count_kinds-t.ensures)

pub overflow_add-t-2 : goal.overflow_add-t-2
overflow_add-t-2 c = omega (arith, sum_fits c.args.changes.now _ c.count_kinds-t.ensures)

pub returns-then-t-changes : goal.returns-then-t-changes
returns-then-t-changes c =
    let a = c.args in
    let e = sym c.is_sound.ensures ∙ c.if-not-is_sound.false in
    refused-kind a.scope a.changes.now a.work.now _ c.count_kinds-t.ensures e c.if-t-changes.true

pub report_changes-requires : goal.report_changes-requires
report_changes-requires c =
    let a = c.args in
    let e = sym c.is_sound.ensures ∙ c.if-not-is_sound.false in
    let t = c.count_kinds-t.ensures in
    let same = c.if-t-changes.false in
    (t, area-long a.scope a.changes.now a.work.now _ t e same, sum-few a.scope a.changes.now a.work.now _ t e same, state-few a.scope a.changes.now a.work.now _ t e same)

pub returns : goal.returns
returns c =
    let a = c.args in
    let e = sym c.is_sound.ensures ∙ c.if-not-is_sound.false in
    c.report_changes.ensures ∙ accepted a.scope a.changes.now a.work.now _ c.count_kinds-t.ensures e c.if-t-changes.false

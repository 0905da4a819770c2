-- `changes_writer::report_changes` meets its contract: what is planned is what fits.
use native.Mathlib.Omega.{arith}
use Rattle.node_changes.specs.Changes.{changes_in}
use Rattle.changes_writer.proofs.Room.{plan-most}
use Rattle.changes_writer.proofs.Reported.{plan-of-fits, report-is}
use Rattle.changes_writer.proofs.report_changes.Goals as goal

pub overflow_add-end : goal.overflow_add-end
overflow_add-end c = omega (arith, c.requires.2, plan-most c.args.t _ _ c.planned-p.ensures (omega (arith, c.requires.3, c.word_at-before.ensures)))

pub overflow_add-end-2 : goal.overflow_add-end-2
overflow_add-end-2 c = omega (arith, c.requires.2, plan-most c.args.t _ _ c.planned-p.ensures (omega (arith, c.requires.3, c.word_at-before.ensures)))

pub overflow_add-end-3 : goal.overflow_add-end-3
overflow_add-end-3 c = omega (arith, c.requires.2, plan-most c.args.t _ _ c.planned-p.ensures (omega (arith, c.requires.3, c.word_at-before.ensures)))

pub next_state-requires : goal.next_state-requires
next_state-requires c = omega (arith, c.requires.2, plan-most c.args.t _ _ c.planned-p.ensures (omega (arith, c.requires.3, c.word_at-before.ensures)))

pub write_area-requires : goal.write_area-requires
write_area-requires c = (c.requires.1, plan-of-fits (changes_in c.args.changes.now) c.args.t _ _ c.requires.0 c.planned-p.ensures)

pub returns-then-end-n : goal.returns-then-end-n
returns-then-end-n c =
    let a = c.args in
    let w = c.word_at-before.ensures in
    let r = report-is (changes_in a.changes.now) a.t _ _ c.requires.0 c.planned-p.ensures a.work.now _ _ (omega (arith, c.requires.3)) c.next_state.ensures c.write_area.ensures in
    rw (← w) (r.0 c.if-end-n.true)

pub returns-else-end-n : goal.returns-else-end-n
returns-else-end-n c =
    let a = c.args in
    let w = c.word_at-before.ensures in
    let r = report-is (changes_in a.changes.now) a.t _ _ c.requires.0 c.planned-p.ensures a.work.now _ _ (omega (arith, c.requires.3)) c.next_state.ensures c.write_area.ensures in
    rw (← w) (r.1 c.if-end-n.false)

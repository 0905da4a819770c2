-- `changes_reader::scan_lists` meets its contract.
use Rattle.std.proofs.Common.{◌≡◌, ◌+◌, ◌*◌, Ok, sym, ◌∙◌, arith}
use Rattle.std.proofs.lemmas.Grind.{common_steps}
use Rattle.changes_reader.proofs.Reader.{operands-fit, read_none, read-end, read-refused, fault_here, fault-is, pass-ends, pass-refused, pass-more}
use Rattle.changes_reader.proofs.scan_lists.Goals as goal

pub returns-then-w-eq0-clause-count : goal.returns-then-w-eq0-clause-count
returns-then-w-eq0-clause-count c = pass-ends _ _ _ c.loop-w.invariant.pass (read-end _ _ (omega arith) (sym c.word_at-w.ensures ∙ c.if-w-eq0.true))

pub returns-in_err-operator_fault-clause-count : goal.returns-in_err-operator_fault-clause-count
returns-in_err-operator_fault-clause-count c =
    let fault = fault-is c.args.area.now c.loop-w.at c.word_at-w.ensures c.room-in-loop-w.ensures c.operator_fault.ensures ∙ c.in_err-operator_fault.was in
    let r = pass-refused _ _ _ c.loop-w.invariant.pass _ (read-refused _ _ (omega arith) (λ z. c.if-w-eq0.false (c.word_at-w.ensures ∙ z)) _ fault) in
    grind (arith, common_steps)

pub loop-w-preserved : goal.loop-w-preserved
loop-w-preserved c =
    let area = c.args.area.now in
    let i = c.loop-w.invariant in
    let ok : fault_here area c.loop-w.at ≡ Ok tt = fault-is area c.loop-w.at c.word_at-w.ensures c.room-in-loop-w.ensures c.operator_fault.ensures ∙ c.in_ok-operator_fault.was in
    let next : c.loop-w.at + (4 + 4 * c.operands_after.result) ≡ c.loop-w.at + 4 + 4 * c.operands_after.result = omega arith in
    let fits = operands-fit _ _ ok in
    record {
      within = omega arith;
      few = omega arith;
      pass = rw (next, c.operands_after.ensures.0, c.entry_count-changes.ensures.0, c.word_at-w.ensures) (pass-more area c.loop-w.at c.loop-w.changes i.pass (omega arith) (λ z. c.if-w-eq0.false (c.word_at-w.ensures ∙ z)) ok);
    }

pub returns-clause-count : goal.returns-clause-count
returns-clause-count c = pass-refused _ _ _ c.loop-w.invariant.pass _ (read_none _ _ (omega arith))

-- `changes_writer::put_operands` meets its contract.
use Rattle.changes_writer.proofs.Bytes.{put_other, put-add}
use Rattle.changes_writer.proofs.put_operands.Goals as goal

pub returns-then-kind-eq-ADD : goal.returns-then-kind-eq-ADD
returns-then-kind-eq-ADD c = put-add c.args.work.now _ c.args.at c.args.kind _ _ c.put_word.ensures _ c.if-kind-eq-ADD.true c.put_word-then-kind-eq-ADD.ensures c.requires.1

pub returns-else-kind-eq-ADD : goal.returns-else-kind-eq-ADD
returns-else-kind-eq-ADD c = put_other c.args.work.now _ c.args.at c.args.kind _ _ c.put_word.ensures c.if-kind-eq-ADD.false

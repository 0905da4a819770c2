-- `changes_writer::put_head` meets its contract.
use Rattle.changes_writer.proofs.Bytes.{put_four}
use Rattle.changes_writer.proofs.put_head.Goals as goal

pub returns : goal.returns
returns c = put_four c.args.work.now _ _ _ _ c.args.state c.requires c.put_word.ensures c.put_word-2.ensures c.put_word-3.ensures c.put_word-4.ensures

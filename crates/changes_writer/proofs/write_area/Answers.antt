-- `changes_writer::write_area` meets its contract: head, lists and terminator, one after the other.
use native.Mathlib.Omega.{arith}
use Rattle.buffer.proofs.Put.{put-long}
use Rattle.node_changes.specs.Changes.{changes_in}
use Rattle.changes_writer.proofs.Portions.{within, put-area}
use Rattle.changes_writer.proofs.write_area.Goals as goal

pub put_operation-updates-requires : goal.put_operation-updates-requires
put_operation-updates-requires c =
    let w = within c.args.p (changes_in c.args.changes.now) c.requires.1 c.args.work.now c.args.state c.requires.0 in
    (omega arith, c.requires.1.deletes, omega (arith, c.requires.0, put-long _ _ _ _ c.put_head.ensures))

pub put_operation-adds-requires : goal.put_operation-adds-requires
put_operation-adds-requires c =
    let w = within c.args.p (changes_in c.args.changes.now) c.requires.1 c.args.work.now c.args.state c.requires.0 in
    let p = c.put_operation-updates.ensures in
    (omega arith, c.requires.1.updates, omega (arith, c.requires.0, put-long _ _ _ _ c.put_head.ensures, put-long _ _ _ _ p.0, p.1))

pub put_operation-end-requires : goal.put_operation-end-requires
put_operation-end-requires c =
    let w = within c.args.p (changes_in c.args.changes.now) c.requires.1 c.args.work.now c.args.state c.requires.0 in
    let p = c.put_operation-updates.ensures in
    let q = c.put_operation-adds.ensures in
    (omega arith, c.requires.1.adds, omega (arith, c.requires.0, put-long _ _ _ _ c.put_head.ensures, put-long _ _ _ _ p.0, p.1, put-long _ _ _ _ q.0, q.1))

pub returns : goal.returns
returns c = put-area c.args.p (changes_in c.args.changes.now) c.requires.1 c.args.work.now c.args.state c.requires.0 _ _ _ _ _ _ _ _ c.put_head.ensures c.put_operation-updates.ensures.0 c.put_operation-updates.ensures.1 c.put_operation-adds.ensures.0 c.put_operation-adds.ensures.1 c.put_operation-end.ensures.0 c.put_operation-end.ensures.1 c.put_word.ensures

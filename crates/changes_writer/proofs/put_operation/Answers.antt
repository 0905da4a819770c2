-- `changes_writer::put_operation` meets its contract: the operator, then its operands.
use mathlib.Core.Path.{sym}
use mathlib.Core.List.{flat_map}
use native.Mathlib.Omega.{arith}
use Rattle.buffer.proofs.Put.{put-none, put-long}
use Rattle.node_changes.specs.Changes.{changes_in}
use Rattle.node_changes.specs.Lists.{width}
use Rattle.changes_writer.proofs.Room.{size_none, size-some}
use Rattle.changes_writer.proofs.Portions.{portion-none, portion-from, portion-there, portion-room, put-list}
use Rattle.changes_writer.proofs.put_operation.Goals as goal

pub returns-then-p-eq0 : goal.returns-then-p-eq0
unfolding flat_map
returns-then-p-eq0 c =
    let a = c.args in
    (sym (rw (portion-none a.kind a.p (changes_in a.changes.now) c.if-p-eq0.true) (put-none a.work.now a.at)), rw c.if-p-eq0.true (omega (arith, size_none (width a.kind))))

pub put_entries-requires : goal.put_entries-requires
put_entries-requires c =
    let a = c.args in
    let more = c.if-p-eq0.false in
    let s = c.skipped-from.ensures in
    let long = put-long _ _ _ _ c.put_word.ensures in
    let room = portion-room a.kind a.p (changes_in a.changes.now) c.requires.1 _ s.0 a.work.now a.at (omega arith) c.requires.2 in
    (s.1, portion-there a.kind a.p (changes_in a.changes.now) c.requires.1 _ s.0, omega (arith, long))

pub returns : goal.returns
returns c =
    let a = c.args in
    let cs = changes_in a.changes.now in
    let more = c.if-p-eq0.false in
    let w = c.operand_count.ensures.0 in
    let p = rw w at c.put_word.ensures in
    let e = rw (portion-from a.kind a.p cs c.requires.1 _ c.skipped-from.ensures.0) at c.put_entries.ensures in
    (put-list a.kind a.p cs c.requires.1 a.work.now _ _ a.at (omega arith) p e c.requires.2, rw (w, size-some a.p.count (width a.kind) (omega arith)) (omega arith))

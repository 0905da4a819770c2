-- `memory_expanding::to_v1` meets its contract.
use Rattle.std.proofs.Common.{◌≡◌, Err, sym, ◌∙◌, arith, rules}
use Rattle.buffer.proofs.Put.{put-long}
use Rattle.memory_lists.proofs.Converted.{list-begun}
use Rattle.memory_expanding.proofs.Answers.{unread, many_read, empty_read, range_read, room_read, all_read}
use Rattle.memory_expanding.proofs.to_v1.Goals as goal

pub returns-in_err-sets : goal.returns-in_err-sets
returns-in_err-sets c =
    let e : c.from_residual.result ≡ Err c.in_err-sets.field-0.0 = search rules in
    λ written. rw e (unread c.args.size c.args.list.now c.args.out.now written _ c.in_err-sets.ensures.count)

pub returns-then-blocks-gt-MOST_BLOCKS : goal.returns-then-blocks-gt-MOST_BLOCKS
returns-then-blocks-gt-MOST_BLOCKS c =
    let read = c.in_ok-sets.ensures in
    λ written. many_read c.args.size c.args.list.now read.count read.rows c.args.out.now written c.count_blocks-blocks.ensures c.if-blocks-gt-MOST_BLOCKS.true

pub returns-then-any_empty : goal.returns-then-any_empty
returns-then-any_empty c =
    let read = c.in_ok-sets.ensures in
    λ written. empty_read c.args.size c.args.list.now read.count read.rows c.args.out.now written c.count_blocks-blocks.ensures c.if-blocks-gt-MOST_BLOCKS.false (sym c.any_empty.ensures ∙ c.if-any_empty.true)

pub returns-then-any_leaves : goal.returns-then-any_leaves
returns-then-any_leaves c =
    let read = c.in_ok-sets.ensures in
    λ written. range_read c.args.size c.args.list.now read.count read.rows c.args.out.now written c.count_blocks-blocks.ensures c.if-blocks-gt-MOST_BLOCKS.false (sym c.any_empty.ensures ∙ c.if-any_empty.false)
    (sym c.any_leaves.ensures ∙ c.if-any_leaves.true)

pub returns-in_err-bytes : goal.returns-in_err-bytes
returns-in_err-bytes c =
    let read = c.in_ok-sets.ensures in
    let e : c.from_residual-in_err-bytes.result ≡ Err c.in_err-bytes.field-0.0 = search rules in
    λ written. rw e
    (room_read c.args.size c.args.list.now read.count read.rows c.args.out.now written c.count_blocks-blocks.ensures c.if-blocks-gt-MOST_BLOCKS.false (sym c.any_empty.ensures ∙ c.if-any_empty.false)
    (sym c.any_leaves.ensures ∙ c.if-any_leaves.false) c.begin_list.new.out c.begin_list.ensures _ c.in_err-bytes.was)

pub put_blocks-requires-clause-room : goal.put_blocks-requires-clause-room
put_blocks-requires-clause-room c =
    let begun = list-begun c.count_blocks-blocks.result c.args.out.now c.begin_list.new.out c.begin_list.result _ c.begin_list.ensures c.in_ok-bytes.was in
    omega (arith, c.count_blocks-blocks.ensures, begun.room, put-long _ _ _ _ begun.list)

pub returns : goal.returns
returns c =
    let read = c.in_ok-sets.ensures in
    λ written. all_read c.args.size c.args.list.now read.count read.rows c.args.out.now written c.count_blocks-blocks.ensures c.if-blocks-gt-MOST_BLOCKS.false (sym c.any_empty.ensures ∙ c.if-any_empty.false)
    (sym c.any_leaves.ensures ∙ c.if-any_leaves.false) c.begin_list.new.out c.begin_list.ensures _ c.in_ok-bytes.was _ c.put_blocks.ensures

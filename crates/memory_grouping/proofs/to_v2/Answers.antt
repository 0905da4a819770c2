-- `memory_grouping::to_v2` meets its contract.
use Rattle.std.proofs.Common.{◌≡◌, Err, sym, ◌∙◌, arith, rules}
use Rattle.buffer.proofs.Put.{put-long}
use Rattle.memory_lists.proofs.Converted.{list-begun}
use Rattle.memory_grouping.proofs.Grouping.{sets_few}
use Rattle.memory_grouping.proofs.Answers.{unread, many_read, reserved_read, room_read, all_read}
use Rattle.memory_grouping.proofs.to_v2.Goals as goal

pub returns-in_err-blocks : goal.returns-in_err-blocks
returns-in_err-blocks c =
    let e : c.from_residual.result ≡ Err c.in_err-blocks.field-0.0 = search rules in
    λ written. rw e (unread c.args.size c.args.list.now c.args.out.now written _ c.in_err-blocks.ensures.count)

pub returns-then-blocks-gt-MOST_BLOCKS : goal.returns-then-blocks-gt-MOST_BLOCKS
returns-then-blocks-gt-MOST_BLOCKS c =
    let read = c.in_ok-blocks.ensures in
    λ written. many_read c.args.size c.args.list.now read.count read.rows c.args.out.now written c.if-blocks-gt-MOST_BLOCKS.true

pub returns-then-any_reserved : goal.returns-then-any_reserved
returns-then-any_reserved c =
    let read = c.in_ok-blocks.ensures in
    λ written. reserved_read c.args.size c.args.list.now read.count read.rows c.args.out.now written c.if-blocks-gt-MOST_BLOCKS.false (sym c.any_reserved.ensures ∙ c.if-any_reserved.true)

pub overflow_cast-count_sets : goal.overflow_cast-count_sets
overflow_cast-count_sets c = let f = sets_few c.args.size _ c.count_sets.ensures c.if-blocks-gt-MOST_BLOCKS.false in omega arith

pub returns-in_err-bytes : goal.returns-in_err-bytes
returns-in_err-bytes c =
    let read = c.in_ok-blocks.ensures in
    let e : c.from_residual-in_err-bytes.result ≡ Err c.in_err-bytes.field-0.0 = search rules in
    λ written. rw e
    (room_read c.args.size c.args.list.now read.count read.rows c.args.out.now written c.if-blocks-gt-MOST_BLOCKS.false (sym c.any_reserved.ensures ∙ c.if-any_reserved.false)
    c.count_sets.ensures c.begin_list.new.out c.begin_list.ensures _ c.in_err-bytes.was)

pub put_sets-requires-clause-room : goal.put_sets-requires-clause-room
put_sets-requires-clause-room c =
    let begun = list-begun c.count_sets.result c.args.out.now c.begin_list.new.out c.begin_list.result _ c.begin_list.ensures c.in_ok-bytes.was in
    omega (arith, c.count_sets.ensures, begun.room, put-long _ _ _ _ begun.list)

pub returns : goal.returns
returns c =
    let read = c.in_ok-blocks.ensures in
    λ written. all_read c.args.size c.args.list.now read.count read.rows c.args.out.now written c.if-blocks-gt-MOST_BLOCKS.false (sym c.any_reserved.ensures ∙ c.if-any_reserved.false)
    c.count_sets.ensures c.begin_list.new.out c.begin_list.ensures _ c.in_ok-bytes.was _ c.put_sets.ensures

-- `memory_expanding::put_blocks` meets its contract.
use Rattle.std.proofs.Common.{suc, get_or, drop, [], sym, ◌∙◌, arith, add-one, drop-cons}
use mathlib.Core.List.{flat_map}
use Rattle.std.proofs.lemmas.List.{drop_all}
use Rattle.buffer.proofs.Put.{put-none, put-long}
use Rattle.memory_lists.specs.Blocks.{expanded}
use Rattle.memory_lists.specs.Lists.{set_at}
use Rattle.memory_expanding.specs.Expanding.{sets_of, sum_of}
use Rattle.memory_expanding.proofs.Expanding.{put-more, none-leave}
use Rattle.memory_expanding.proofs.put_blocks.Goals as goal

pub put_run-requires-clause-room : goal.put_run-requires-clause-room
unfolding sum_of
put_run-requires-clause-room c =
    let left = drop-cons c.args.entries.now c.loop-entry.entry-index [] c.loop-entry-test.true in
    let i = rw left at c.loop-entry.invariant.room in
    rw c.set_of-set.ensures (omega (arith, i))

pub put_run-requires-clause-stays : goal.put_run-requires-clause-stays
put_run-requires-clause-stays c =
    let left = drop-cons c.args.entries.now c.loop-entry.entry-index [] c.loop-entry-test.true in
    rw c.set_of-set.ensures (none-leave c.args.size _ _ (rw left at c.loop-entry.invariant.stays)).0

pub loop-entry-preserved : goal.loop-entry-preserved
unfolding sum_of
loop-entry-preserved c =
    let es = c.args.entries.now in
    let k = c.loop-entry.entry-index in
    let left = drop-cons es k [] c.loop-entry-test.true in
    let room = rw left at c.loop-entry.invariant.room in
    let stays = rw left at c.loop-entry.invariant.stays in
    let bytes = rw left at c.loop-entry.invariant.bytes in
    rw (add-one, c.set_of-set.ensures)
    record {
      room = omega (arith, room, put-long _ _ _ _ c.put_run.ensures);
      stays = (none-leave c.args.size _ _ stays).1;
      bytes = put-more c.args.size (set_at (get_or es k []) 0) (sets_of (drop (suc k) es)) c.loop-entry.out c.put_run.new.out c.loop-entry.to (rw c.set_of-set.ensures at c.put_run.ensures) room ∙ bytes;
    }

pub returns : goal.returns
unfolding expanded flat_map
returns c =
    let none = drop_all c.loop-entry.entry-index c.args.entries.now c.loop-entry-test.false in
    sym (put-none _ _) ∙ (rw none at c.loop-entry.invariant.bytes)

-- `memory_expanding::put_run` meets its contract.
use Rattle.std.proofs.Common.{◌≡◌, sym, arith, rules}
use mathlib.Core.List.{flat_map}
use Rattle.std.proofs.lemmas.List.{take_all}
use Rattle.buffer.proofs.Put.{put-none}
use Rattle.memory_lists.specs.Blocks.{blocks_from}
use Rattle.memory_lists.specs.Lists.{block_bytes}
use Rattle.memory_lists.proofs.Lists.{block-long, put_more}
use Rattle.memory_expanding.specs.Expanding.{block_after}
use Rattle.memory_expanding.proofs.Expanding.{blocks-long, block-at, each-stays, some_after}
use Rattle.memory_expanding.proofs.put_run.Goals as goal

pub loop-i-init : goal.loop-i-init
unfolding flat_map
loop-i-init c = sym (put-none _ c.args.to)

pub unwrap-block-requires : goal.unwrap-block-requires
unwrap-block-requires c =
    let set = c.args.set in
    let e = some_after c.block_after.result _ c.block_after.ensures (each-stays c.args.size set.count c.loop-i.i set.first (omega arith) c.requires.stays) in
    rw e

pub loop-i-preserved : goal.loop-i-preserved
loop-i-preserved c =
    let set = c.args.set in
    let size = c.args.size in
    let i = c.loop-i.i in
    let e = some_after c.block_after.result _ c.block_after.ensures (each-stays size set.count i set.first (omega arith) c.requires.stays) in
    let b : c.unwrap-block.result ≡ block_after size i set.first = search (rules, e) in
    rw (c.put_block.ensures, c.loop-i.invariant, b)
    (put_more block_bytes block-long c.args.out.now c.args.to (blocks_from size set.count set.first) i (block_after size i set.first) (omega (arith, blocks-long size set.count set.first)) (sym (block-at size set.count i set.first _ (omega arith))) (omega (arith, c.requires.room, blocks-long size set.count set.first)))

pub returns : goal.returns
returns c =
    let set = c.args.set in
    rw (take_all c.loop-i.i (blocks_from c.args.size set.count set.first) (omega (arith, blocks-long c.args.size set.count set.first))) at c.loop-i.invariant

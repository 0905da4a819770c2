-- `memory_lists::put_entry` meets its contract.
use mathlib.Core.Path.{◌≡◌, refl, sym}
use mathlib.Core.List.{flat_map}
use native.Mathlib.Omega.{arith}
use lib.ListN.{take}
use Rattle.std.proofs.lemmas.List.{take_all}
use Rattle.buffer.specs.Put.{bytes32}
use Rattle.buffer.proofs.Put.{put-none, put-out}
use Rattle.memory_lists.proofs.Lists.{words-long, word_more, part-long, entry-put}
use Rattle.memory_lists.proofs.put_entry.Goals as goal

pub loop-i-init : goal.loop-i-init
unfolding flat_map
loop-i-init c = sym (put-none _ 0)

pub loop-i-preserved : goal.loop-i-preserved
loop-i-preserved c = rw (c.put_word.ensures, c.loop-i.invariant) (word_more _ c.args.words c.loop-i.i _ (omega arith) refl (omega (arith, part-long c.args.out.now c.args.at (omega arith))))

pub returns-after-loop-i : goal.returns-after-loop-i
returns-after-loop-i c =
    let e = c.loop-i.invariant in
    let all : take c.loop-i.i c.args.words ≡ c.args.words = take_all c.loop-i.i c.args.words (omega arith) in
    entry-put c.args.out.now c.args.at (omega arith) _ c.args.words (omega arith) (rw all at e)

pub returns-else-room-ge-ENTRY_BYTES : goal.returns-else-room-ge-ENTRY_BYTES
returns-else-room-ge-ENTRY_BYTES c = sym (put-out c.args.out.now c.args.at (flat_map bytes32 c.args.words) (omega (arith, words-long c.args.words)))

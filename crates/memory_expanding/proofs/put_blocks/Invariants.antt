use Rattle.std.proofs.Common.{◌≡◌, ◌+◌, ◌*◌, ◌≤◌, length, drop, false}
use mathlib.Core.List.{flat_map}
use Rattle.words.specs.Pick.{any}
use Rattle.buffer.specs.Put.{put}
use Rattle.memory_lists.specs.Blocks.{expanded}
use Rattle.memory_lists.specs.Lists.{block_bytes}
use Rattle.memory_expanding.specs.Expanding.{sets_of, sum_of, leaves}
use Rattle.memory_expanding.proofs.put_blocks.Given as goal

-- of the sets that are left: there is room for their blocks, none of these leaves, and with them the list is whole
abbrev pub invariant-loop-entry : goal.invariant-loop-entry
invariant-loop-entry l =
    let sets = sets_of (drop l.entry-index l.entries) in
    record {
      room : l.to + 24 * sum_of sets ≤ length l.out;
      stays : any leaves (expanded l.size sets) ≡ false;
      bytes : put l.out l.to (flat_map block_bytes (expanded l.size sets)) ≡ put l.initial.out 4 (flat_map block_bytes (expanded l.size (sets_of l.entries)));
    }

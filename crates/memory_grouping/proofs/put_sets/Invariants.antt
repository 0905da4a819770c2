use Rattle.std.proofs.Common.{◌≡◌, ◌+◌, ◌*◌, length, take}
use mathlib.Core.List.{flat_map}
use Rattle.std.proofs.lemmas.Iterator.{YieldsList}
use Rattle.buffer.specs.Put.{put}
use Rattle.memory_lists.specs.Blocks.{grouped}
use Rattle.memory_lists.specs.Lists.{set_bytes}
use Rattle.memory_grouping.specs.Grouping.{blocks_of}
use Rattle.memory_grouping.proofs.Grouping.{set_from}
use Rattle.memory_grouping.proofs.put_sets.Given as goal

abbrev pub invariant-loop-set : goal.invariant-loop-set
invariant-loop-set l = record {
  can : (goal.iterator-loop-set).can_next l.set-iterator;
  finite : (goal.iterator-loop-set).is_finite l.set-iterator;
  sets : YieldsList (goal.iterator-loop-set).next_gives (set_from l.fn.size) l.initial.set-iterator (grouped l.fn.size (blocks_of l.entries));
  place : l.to ≡ 4 + 24 * length l.yielded;
  bytes : l.out ≡ put l.initial.out 4 (flat_map set_bytes (take (length l.yielded) (grouped l.fn.size (blocks_of l.entries))));
}

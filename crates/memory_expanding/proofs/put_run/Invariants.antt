use Rattle.std.proofs.Common.{◌≡◌, take}
use mathlib.Core.List.{flat_map}
use Rattle.buffer.specs.Put.{put}
use Rattle.memory_lists.specs.Blocks.{blocks_from}
use Rattle.memory_lists.specs.Lists.{block_bytes}
use Rattle.memory_expanding.proofs.put_run.Given as goal

abbrev pub invariant-loop-i : goal.invariant-loop-i
invariant-loop-i l = l.out ≡ put l.initial.out l.to (flat_map block_bytes (take l.i (blocks_from l.size l.set.count l.set.first)))

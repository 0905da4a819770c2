use mathlib.Core.Path.{◌≡◌}
use mathlib.Core.List.{flat_map}
use lib.ListN.{take}
use Rattle.buffer.specs.Put.{bytes32, put}
use Rattle.memory_lists.proofs.put_entry.Given as goal

abbrev pub invariant-loop-i : goal.invariant-loop-i
invariant-loop-i l = l.entry ≡ put l.initial.entry 0 (flat_map bytes32 (take l.i l.word-items))

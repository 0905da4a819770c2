-- `memory_expanding::put_block` meets its contract.
use mathlib.Core.List.{flat_map}
use Rattle.std.proofs.lemmas.Nat.{and_mask}
use Rattle.memory_expanding.proofs.put_block.Goals as goal

pub returns : goal.returns
unfolding flat_map
returns c = rw (and_mask c.args.b.address 32) at c.put_entry.ensures

-- `memory_grouping::put_set` meets its contract.
use mathlib.Core.List.{flat_map}
use Rattle.std.proofs.lemmas.Nat.{and_mask}
use Rattle.memory_grouping.proofs.put_set.Goals as goal

pub returns : goal.returns
unfolding flat_map
returns c = rw (and_mask c.args.set.first.address 32) at c.put_entry.ensures

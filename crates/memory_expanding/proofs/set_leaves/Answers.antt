-- `memory_expanding::set_leaves` meets its contract.
use Rattle.std.proofs.Common.{◌-◌, ◌∙◌, arith}
use Rattle.memory_expanding.specs.Expanding.{block_after}
use Rattle.memory_expanding.proofs.Expanding.{set_leaves, none_after}
use Rattle.memory_expanding.proofs.set_leaves.Goals as goal

pub returns : goal.returns
returns c =
    let set = c.args.set in
    none_after c.block_after.result (block_after c.args.size (set.count - 1) set.first) (rw c.saturating_sub.ensures at c.block_after.ensures) c.is_none.result c.is_none.ensures
    ∙ set_leaves c.args.size set.count set.first (omega arith) (omega arith)

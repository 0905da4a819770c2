-- `past_node::past_node` meets its contract: past the node from here on is past it from the start.
use mathlib.Core.Path.{◌≡◌}
use Prim.Native.Nat.{◌-◌}
use lib.ListN.{length}
use Rattle.devtree.specs.Tokens.{tokens}
use Rattle.past_node.specs.Past.{past_node}
use Rattle.past_node.proofs.past_node.Given as goal

abbrev pub invariant-loop-next : goal.invariant-loop-next
invariant-loop-next l = past_node l.depth 1 (tokens l.s l.strings l.at) ≡ past_node l.depth l.below (tokens l.s l.strings l.p)

abbrev pub decreases-loop-next : goal.decreases-loop-next
decreases-loop-next l = length l.s - l.p

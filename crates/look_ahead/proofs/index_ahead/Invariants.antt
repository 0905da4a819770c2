-- `look_ahead::index_ahead` meets its contract: what stands ahead from here on is what stands ahead from the start.
use mathlib.Core.Path.{◌≡◌}
use Prim.Native.Nat.{◌-◌}
use lib.ListN.{length}
use Rattle.devtree.specs.Tokens.{tokens}
use Rattle.sent.specs.Sent.{ahead}
use Rattle.look_ahead.proofs.index_ahead.Given as goal

abbrev pub invariant-loop-name : goal.invariant-loop-name
invariant-loop-name l = ahead l.s l.strings (tokens l.s l.strings l.at) ≡ ahead l.s l.strings (tokens l.s l.strings l.p)

abbrev pub decreases-loop-name : goal.decreases-loop-name
decreases-loop-name l = length l.s - l.p

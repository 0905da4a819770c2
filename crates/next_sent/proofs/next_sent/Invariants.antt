-- `next_sent::next_sent` meets its contract: the token that is sent from here on is the one that is sent from the start.
use mathlib.Core.Path.{◌≡◌}
use Prim.Native.Nat.{◌-◌}
use lib.ListN.{length}
use Rattle.devtree.specs.Tokens.{tokens}
use Rattle.table.specs.Model.{table_of}
use Rattle.unowned.specs.Unowned.{unowned}
use Rattle.sent.specs.Sent.{sent_of, next_sent}
use Rattle.next_sent.proofs.next_sent.Given as goal

abbrev pub invariant-loop-token : goal.invariant-loop-token
invariant-loop-token l = next_sent (unowned (table_of l.t) l.p) l.s l.strings l.depth l.place ≡ sent_of (unowned (table_of l.t) l.p) l.s l.strings l.depth 0 (tokens l.s l.strings l.at)

abbrev pub decreases-loop-token : goal.decreases-loop-token
decreases-loop-token l = length l.s - l.at

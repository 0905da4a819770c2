-- Where a walk's -1 comes from: document 02, Ticket 11. `s` is the structure block, `st` the strings block, and `unowned` says which indexes are those of unowned connectors.
use Rattle.std.specs.Prelude.{ℕ, List, Bool, length}
use Rattle.words.specs.Pick.{pick}
use Rattle.devtree.specs.declared.Token.{Token}
use Rattle.devtree.specs.declared.Token.TheVariants.{Begin, Property, EndNode, End, Fault}
use Rattle.connector.specs.declared.Connector.{Connector}
use Rattle.sent.specs.Sent.{next_sent}
use Rattle.guards.specs.Guards.{readable}
use Rattle.walk.specs.Step.{step}
use Rattle.faults.specs.Status.{is_bad_tree}

-- the byte offset of a token in the structure block. What is no token, or one that the end cuts short, is a `Fault` at its own offset, or at the block's length where nothing but no-ops is left
abbrev pub offset_of : Token → ℕ
offset_of (Begin at a n next) = at
offset_of (Property at a n v l next) = at
offset_of (EndNode at next) = at
offset_of (End at next) = at
offset_of (Fault at) = at

-- with -1, the offset of the token at fault: the next one that is sent, or the one at which looking ahead or skipping met a fault; 0 where either block is too long, or structure block or place is not a multiple of 4. With any other status, 0
unfoldable pub step_fault : (ℕ → Bool) → Connector → List ℕ → List ℕ → List ℕ → ℕ
step_fault unowned c area s st =
    let place : ℕ = c.walk.place in
    pick (is_bad_tree (step unowned c area s st).stepped.status)
    (pick (readable (length s) (length st) place) (offset_of (next_sent unowned s st c.walk.depth place)) 0)
    0

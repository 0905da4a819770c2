-- What becomes of a token on the way to the next one that is sent. `s` is the structure block, `st` the strings block, and `unowned` says which indexes are those of unowned connectors.
use Rattle.std.specs.Prelude.{ℕ, List, Option, Some, None, Result, Ok, Err, Bool}
use Rattle.words.specs.Pick.{pick}
use Rattle.devtree.specs.Tokens.{tokens}
use Rattle.devtree.specs.declared.Broken.{Broken}
use Rattle.devtree.specs.declared.Token.{Token}
use Rattle.devtree.specs.declared.Token.TheVariants.{Begin, Property, EndNode, End, Fault}
use Rattle.sent.specs.Sent.{Ahead, ahead, is_looked_at}
use Rattle.past_node.specs.Past.{past_node}

-- what becomes of a token: it is sent; or its node is left out, and the next one stands from an offset on; or a fault is sent in its place
abbrev pub Turn : Type 0
Turn = Result (Option ℕ) Broken

-- a node that is left out
unfoldable pub past_turn : Result ℕ Broken → Turn
past_turn (Ok at) = Ok (Some at)
past_turn (Err fault) = Err fault

-- by what stands ahead of a begin-node, from `next` on
unfoldable pub look_turn : (ℕ → Bool) → List ℕ → List ℕ → ℕ → ℕ → Ahead → Turn
look_turn unowned s st depth next (Ok None) = Ok None
look_turn unowned s st depth next (Ok (Some k)) = pick (unowned k.0) (past_turn (past_node depth 1 (tokens s st next))) (Ok None)
look_turn unowned s st depth next (Err fault) = Err fault

unfoldable pub begun : (ℕ → Bool) → List ℕ → List ℕ → ℕ → ℕ → Turn
begun unowned s st depth next = pick (is_looked_at depth) (look_turn unowned s st depth next (ahead s st (tokens s st next))) (Ok None)

unfoldable pub met : (ℕ → Bool) → List ℕ → List ℕ → ℕ → Token → Turn
met unowned s st depth (Begin at a n next) = begun unowned s st depth next
met unowned s st depth (Property at a n v l next) = Ok None
met unowned s st depth (EndNode at next) = Ok None
met unowned s st depth (End at next) = Ok None
met unowned s st depth (Fault at) = Ok None

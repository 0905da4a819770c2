-- Past a node, token by token.
use Rattle.std.specs.Prelude.{ℕ, ◌+◌, ◌-◌, List, [], ◌∷◌, Result, Ok, Err, leb}
use Rattle.words.specs.Pick.{pick}
use Rattle.devtree.specs.Tokens.{broken}
use Rattle.devtree.specs.declared.Broken.{Broken}
use Rattle.devtree.specs.declared.Token.{Token}
use Rattle.devtree.specs.declared.Token.TheVariants.{Begin, Property, EndNode, End, Fault}

-- the offset past a token; a fault at that of the end token or of a fault, where nothing follows
unfoldable pub past_of : Token → Result ℕ Broken
past_of (Begin at a n next) = Ok next
past_of (Property at a n v l next) = Ok next
past_of (EndNode at next) = Ok next
past_of (End at next) = Err (broken at)
past_of (Fault at) = Err (broken at)

-- with `below` nodes open, in `depth` that are open around them: past the end-node that closes the first of them
unfoldable pub past_node : ℕ → ℕ → List Token → Result ℕ Broken
past_node depth below [] = Err (broken 0)
past_node depth below (Begin at a n next ∷ ts) = pick (leb 8 (depth + below)) (Err (broken at)) (past_node depth (below + 1) ts)
past_node depth below (Property at a n v l next ∷ ts) = past_node depth below ts
past_node depth below (EndNode at next ∷ ts) = pick (leb below 1) (Ok next) (past_node depth (below - 1) ts)
past_node depth below (End at next ∷ ts) = Err (broken at)
past_node depth below (Fault at ∷ ts) = Err (broken at)

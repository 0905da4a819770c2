-- Two tokens side by side. `s` and `st` are the first tree's structure and strings block, `s'` and `st'` the second's.
use Rattle.std.specs.Prelude.{ℕ, ◌+◌, ◌≤◌, List, length}
use Rattle.words.specs.Pick.{pick}
use Rattle.words.specs.Bytes.{part}
use Rattle.devtree.specs.Tokens.{token_at}
use Rattle.devtree.specs.declared.Token.{Token}
use Rattle.devtree.specs.declared.Token.TheVariants.{Begin, Property, EndNode, End, Fault}
use Rattle.same_trees.specs.Same.{same_bytes}
use Rattle.token_pairs.specs.declared.Places.{Places}
use Rattle.token_pairs.specs.declared.Pair.{Pair}
use Rattle.token_pairs.specs.declared.Pair.TheVariants.{Open, Equal, Close, Unlike}

abbrev pub places : ℕ → ℕ → Places
places at at' = record { a = at; b = at' }

-- a begin-node token whose name stands at a, beside another token
unfoldable pub open_pair : List ℕ → ℕ → ℕ → ℕ → List ℕ → Token → Pair
open_pair s a n next s' (Begin at' a' n' next') = pick (same_bytes (part s a n) (part s' a' n')) (Open (places next next')) Unlike
open_pair s a n next s' (Property at' a' n' v' l' next') = Unlike
open_pair s a n next s' (EndNode at' next') = Unlike
open_pair s a n next s' (End at' next') = Unlike
open_pair s a n next s' (Fault at') = Unlike

-- a property token whose name stands at a and whose value at v, beside another token
unfoldable pub equal_pair : List ℕ → List ℕ → ℕ → ℕ → ℕ → ℕ → ℕ → List ℕ → List ℕ → Token → Pair
equal_pair s st a n v l next s' st' (Begin at' a' n' next') = Unlike
equal_pair s st a n v l next s' st' (Property at' a' n' v' l' next') =
    pick (same_bytes (part st a n) (part st' a' n'))
    (pick (same_bytes (part s v l) (part s' v' l')) (Equal (places next next')) Unlike)
    Unlike
equal_pair s st a n v l next s' st' (EndNode at' next') = Unlike
equal_pair s st a n v l next s' st' (End at' next') = Unlike
equal_pair s st a n v l next s' st' (Fault at') = Unlike

-- an end-node token beside another token
unfoldable pub close_pair : ℕ → Token → Pair
close_pair next (Begin at' a' n' next') = Unlike
close_pair next (Property at' a' n' v' l' next') = Unlike
close_pair next (EndNode at' next') = Close (places next next')
close_pair next (End at' next') = Unlike
close_pair next (Fault at') = Unlike

-- two tokens that say the same, with the places past them; an end token and a fault say nothing
unfoldable pub pair_of : List ℕ → List ℕ → Token → List ℕ → List ℕ → Token → Pair
pair_of s st (Begin at a n next) s' st' t' = open_pair s a n next s' t'
pair_of s st (Property at a n v l next) s' st' t' = equal_pair s st a n v l next s' st' t'
pair_of s st (EndNode at next) s' st' t' = close_pair next t'
pair_of s st (End at next) s' st' t' = Unlike
pair_of s st (Fault at) s' st' t' = Unlike

unfoldable pub pair_at : List ℕ → List ℕ → List ℕ → List ℕ → Places → Pair
pair_at s st s' st' p = pair_of s st (token_at s st p.a) s' st' (token_at s' st' p.b)

-- where a begin-node token's name lies, and a property token's name and value
abbrev pub NodeIn : List ℕ → Token → Type 0
NodeIn s (Begin at a n next) = a + n ≤ length s
NodeIn s (Property at a n v l next) = Unit
NodeIn s (EndNode at next) = Unit
NodeIn s (End at next) = Unit
NodeIn s (Fault at) = Unit

abbrev pub PropertyIn : List ℕ → List ℕ → Token → Type 0
PropertyIn s st (Begin at a n next) = Unit
PropertyIn s st (Property at a n v l next) = (a + n ≤ length st) × (v + l ≤ length s)
PropertyIn s st (EndNode at next) = Unit
PropertyIn s st (End at next) = Unit
PropertyIn s st (Fault at) = Unit

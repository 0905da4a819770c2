-- When a tree may be lent: document 01, "What a tree may hold". `s` is the structure block, `st` the strings block.
-- That a name has its length and its NUL, and a value its length, is asked where tokens are read: one that has not is a fault, and `one_root` takes no fault.
use Rattle.std.specs.Prelude.{ℕ, ◌+◌, ◌-◌, ◌%◌, List, [], ◌∷◌, Bool, true, false, length, eqb, leb, ltb}
use Rattle.words.specs.Pick.{pick, every}
use Rattle.words.specs.Bytes.{zero_at}
use Rattle.devtree.specs.Tokens.{tokens}
use Rattle.devtree.specs.Tree.{tree}
use Rattle.devtree.specs.Names.{names_differ}
use Rattle.devtree.specs.declared.Token.{Token}
use Rattle.devtree.specs.declared.Token.TheVariants.{Begin, Property, EndNode, End, Fault}

-- token 9 as the last four bytes, and nothing else
unfoldable pub last_token : List ℕ → List Token → Bool
last_token s [] = false
last_token s (Begin at a n next ∷ ts) = false
last_token s (Property at a n v l next ∷ ts) = false
last_token s (EndNode at next ∷ ts) = false
last_token s (End at next ∷ []) = eqb next (length s)
last_token s (End at next ∷ (t ∷ ts)) = false
last_token s (Fault at ∷ ts) = false

-- with `depth` nodes open: each is closed, and after the root only the last token stands
unfoldable pub closes : List ℕ → ℕ → List Token → Bool
closes s depth [] = false
closes s depth (Begin at a n next ∷ ts) = closes s (depth + 1) ts
closes s depth (Property at a n v l next ∷ ts) = closes s depth ts
closes s depth (EndNode at next ∷ ts) = pick (leb depth 1) (last_token s ts) (closes s (depth - 1) ts)
closes s depth (End at next ∷ ts) = false
closes s depth (Fault at ∷ ts) = false

-- one root, then token 9 as the last four bytes
unfoldable pub one_root : List ℕ → List Token → Bool
one_root s [] = false
one_root s (Begin at a n next ∷ ts) = closes s 1 ts
one_root s (Property at a n v l next ∷ ts) = false
one_root s (EndNode at next ∷ ts) = false
one_root s (End at next ∷ ts) = false
one_root s (Fault at ∷ ts) = false

-- with `depth` nodes open: nesting is at most 8
unfoldable pub nested : ℕ → List Token → Bool
nested depth [] = true
nested depth (Begin at a n next ∷ ts) = pick (ltb depth 8) (nested (depth + 1) ts) false
nested depth (Property at a n v l next ∷ ts) = nested depth ts
nested depth (EndNode at next ∷ ts) = nested (depth - 1) ts
nested depth (End at next ∷ ts) = nested depth ts
nested depth (Fault at ∷ ts) = nested depth ts

-- the padding of a token, from past its name and NUL or its value on, is zero
unfoldable pub clean : List ℕ → Token → Bool
clean s (Begin at a n next) = zero_at (next - (a + n)) s (a + n)
clean s (Property at a n v l next) = zero_at (next - (v + l)) s (v + l)
clean s (EndNode at next) = true
clean s (End at next) = true
clean s (Fault at) = true

-- padding to four is zero
unfoldable pub padded : List ℕ → List Token → Bool
padded s [] = true
padded s (t ∷ ts) = pick (clean s t) (padded s ts) false

-- properties stand before child nodes: none follows an end-node. `child` says that an end-node stands just before
unfoldable pub ordered : Bool → List Token → Bool
ordered child [] = true
ordered child (Begin at a n next ∷ ts) = ordered false ts
ordered child (Property at a n v l next ∷ ts) = pick child false (ordered false ts)
ordered child (EndNode at next ∷ ts) = ordered true ts
ordered child (End at next ∷ ts) = ordered false ts
ordered child (Fault at ∷ ts) = ordered false ts

-- the blocks are well formed: all but that names differ
unfoldable pub well_formed : List ℕ → List ℕ → Bool
well_formed s st =
    let ts : List Token = tokens s st 0 in
    every
    (leb (length s) 32768
    ∷ eqb (length s % 4) 0
    ∷ leb (length st) 4096
    ∷ one_root s ts
    ∷ nested 0 ts
    ∷ padded s ts
    ∷ ordered false ts
    ∷ [])

-- the check passes: the blocks are well formed, and the names in the tree that they mean differ
unfoldable pub passes : List ℕ → List ℕ → Bool
passes s st = every (well_formed s st ∷ names_differ (tree s st) ∷ [])

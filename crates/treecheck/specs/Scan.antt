-- What the functions behind the check promise each other: one scan of the tokens in order. What the check means is devtree's `passes`.
use Rattle.std.specs.Prelude.{ℕ, ◌+◌, ◌-◌, ◌<◌, ◌≤◌, ◌%◌, List, [], ◌∷◌, Option, Some, None, Bool, true, false, length, eqb, leb}
use Rattle.words.specs.Pick.{pick, every}
use Rattle.devtree.specs.Tokens.{token_at, tokens}
use Rattle.devtree.specs.Check.{clean, last_token}
use Rattle.devtree.specs.declared.Token.{Token}
use Rattle.devtree.specs.declared.Token.TheVariants.{Begin, Property, EndNode, End, Fault}

-- the lengths of the two blocks
unfoldable pub sized : List ℕ → List ℕ → Bool
sized s st = every (leb (length s) 32768 ∷ eqb (length s % 4) 0 ∷ leb (length st) 4096 ∷ [])

-- the offset of a token, and that past it
abbrev pub place_of : Token → ℕ
place_of (Begin at a n next) = at
place_of (Property at a n v l next) = at
place_of (EndNode at next) = at
place_of (End at next) = at
place_of (Fault at) = at

abbrev pub next_of : Token → ℕ
next_of (Begin at a n next) = next
next_of (Property at a n v l next) = next
next_of (EndNode at next) = next
next_of (End at next) = next
next_of (Fault at) = at

-- a token whose padding is zero, else a fault at its place
unfoldable pub strict : List ℕ → Token → Token
strict s t = pick (clean s t) t (Fault (place_of t))

unfoldable pub strict_at : List ℕ → List ℕ → ℕ → Token
strict_at s st at = strict s (token_at s st at)

-- One token inside a node in which `left` levels may be nested; `child` says that it has a child already. `go` is the scan of what follows, and `last` says whether that is the last token alone.
unfoldable pub scan_token : (ℕ → Bool → Bool) → Bool → ℕ → Bool → Token → Bool
scan_token go last left child (Begin at a n next) = pick (eqb left 0) false (go (left - 1) false)
scan_token go last left child (Property at a n v l next) = pick child false (go left false)
scan_token go last left child (EndNode at next) = pick (eqb left 7) last (go (left + 1) true)
scan_token go last left child (End at next) = false
scan_token go last left child (Fault at) = false

unfoldable pub scan : List ℕ → ℕ → Bool → List Token → Bool
scan s left child [] = false
scan s left child (t ∷ ts) = scan_token (λ l c. scan s l c ts) (last_token s ts) left child (strict s t)

unfoldable pub scan_from : List ℕ → List ℕ → ℕ → Bool → ℕ → Bool
scan_from s st left child at = scan s left child (tokens s st at)

-- what is left to scan once a node in which `left` levels may be nested is closed
unfoldable pub resume : List ℕ → List ℕ → ℕ → Option ℕ → Bool
resume s st left (Some at) = pick (eqb left 7) (last_token s (tokens s st at)) (scan_from s st (left + 1) true at)
resume s st left None = false

pub record Between (s : List ℕ) (at next : ℕ) : Type 0 where
  pub more : at < next
  pub inside : next ≤ length s

abbrev pub Forward : List ℕ → ℕ → Option ℕ → Type 0
Forward s at (Some n) = Between s at n
Forward s at None = Unit

-- the scan from the root's token on
unfoldable pub scan_root : List ℕ → List ℕ → Token → Bool
scan_root s st (Begin at a n next) = scan_from s st 7 false next
scan_root s st (Property at a n v l next) = false
scan_root s st (EndNode at next) = false
scan_root s st (End at next) = false
scan_root s st (Fault at) = false

-- What stands at a place of the structure block. `s` is the structure block, `st` the strings block.
use Rattle.std.specs.Prelude.{ℕ, zero, suc, ◌+◌, ◌-◌, ◌*◌, ◌/◌, min, Option, Some, None, List, [], ◌∷◌, length, eqb, leb, ltb}
use Rattle.words.specs.Pick.{pick, every}
use Rattle.words.specs.Bytes.{word_at, name_length}
use Rattle.words.specs.Run.{run_from}
use Rattle.devtree.specs.declared.Broken.{Broken}
use Rattle.devtree.specs.declared.Token.{Token}
use Rattle.devtree.specs.declared.Token.TheVariants.{Begin, Property, EndNode, End, Fault}

-- n rounded up to a multiple of 4
abbrev pub up4 : ℕ → ℕ
up4 n = (n + 3) / 4 * 4

-- past at most k no-ops from `at` on
unfoldable pub skip_up_to : ℕ → List ℕ → ℕ → ℕ
skip_up_to zero s at = at
skip_up_to (suc k) s at = pick (eqb (word_at s at) 4) (skip_up_to k s (at + 4)) at

-- past all no-ops from `at` on: there are fewer than bytes
unfoldable pub skipped : List ℕ → ℕ → ℕ
skipped s at = skip_up_to (length s) s at

-- a begin-node token: its name has 1 to 47 bytes and a NUL, and lies with its padding in the `left` bytes after the token's word
unfoldable pub begin_named : ℕ → ℕ → ℕ → Token
begin_named at n left =
    pick (every (leb 1 n ∷ leb n 47 ∷ leb (up4 (n + 1)) left ∷ []))
    (Begin at (at + 4) n (at + 4 + up4 (n + 1)))
    (Fault at)

unfoldable pub begin_at : List ℕ → ℕ → Token
begin_at s at = begin_named at (name_length 48 s (at + 4)) (length s - (at + 4))

-- a property token: its name has 1 to 31 bytes and a NUL in the strings block, its value at most 8,192 - 20 - (name length + 1) bytes, and lies with its padding in the `left` bytes after the token's three words
unfoldable pub property_named : ℕ → ℕ → ℕ → ℕ → ℕ → ℕ → Token
property_named at name n tail len left =
    pick (every (leb 1 n ∷ leb n 31 ∷ ltb n tail ∷ leb len (8192 - 20 - (n + 1)) ∷ leb (up4 len) left ∷ []))
    (Property at name n (at + 12) len (at + 12 + up4 len))
    (Fault at)

-- the property token at `at`, its name the n bytes at `name`
unfoldable pub property_of : List ℕ → List ℕ → ℕ → ℕ → ℕ → Token
property_of s st at name n = pick (ltb (length s - at) 12) (Fault at) (property_named at name n (length st - name) (word_at s (at + 4)) (length s - (at + 12)))

unfoldable pub property_at : List ℕ → List ℕ → ℕ → Token
property_at s st at =
    let len : ℕ = word_at s (at + 4) in
    let name : ℕ = word_at s (at + 8) in
    pick (ltb (length s - at) 12) (Fault at)
    (property_named at name (name_length 32 st name) (length st - name) len (length s - (at + 12)))

-- the offset past a token; none past the end token or a fault, which nothing follows
abbrev pub past : Token → Option ℕ
past (Begin at a n next) = Some next
past (Property at a n v l next) = Some next
past (EndNode at next) = Some next
past (End at next) = None
past (Fault at) = None

-- a fault at this offset
abbrev pub broken : ℕ → Broken
broken at = record { at = at }

-- the offset of a fault is at most the block's length
unfoldable pub fault_at : List ℕ → ℕ → Token
fault_at s at = Fault (min at (length s))

-- by the token's number; any other word, and a word cut short, which reads as 0, is a fault
unfoldable pub token_of : List ℕ → List ℕ → ℕ → ℕ → Token
token_of s st at kind =
    pick (eqb kind 1) (begin_at s at)
    (pick (eqb kind 2) (EndNode at (at + 4))
    (pick (eqb kind 3) (property_at s st at)
    (pick (eqb kind 9) (End at (at + 4)) (fault_at s at))))

-- the next token from `at` on, after any no-ops
unfoldable pub token_at : List ℕ → List ℕ → ℕ → Token
token_at s st at = token_of s st (skipped s at) (word_at s (skipped s at))

-- a token, and what `go` gives from past it on; nothing follows the end token or a fault
unfoldable pub and_then : (ℕ → List Token) → Token → List Token
and_then go (Begin at a n next) = Begin at a n next ∷ go next
and_then go (Property at a n v l next) = Property at a n v l next ∷ go next
and_then go (EndNode at next) = EndNode at next ∷ go next
and_then go (End at next) = End at next ∷ []
and_then go (Fault at) = Fault at ∷ []

unfoldable pub tokens_body : List ℕ → List ℕ → (ℕ → List Token) → ℕ → List Token
tokens_body s st go at = and_then go (token_at s st at)

-- the tokens from `at` on, up to the first end token or fault. Each has bytes, so there are at most as many as bytes
unfoldable pub tokens : List ℕ → List ℕ → ℕ → List Token
tokens s st at = run_from [] (λ i. length s - i) (tokens_body s st) at

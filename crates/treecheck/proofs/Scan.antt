-- Laws of the scan: what one token does to it.
use mathlib.Core.Path.{◌≡◌, refl, subst}
use mathlib.Core.List.{List, [], ◌∷◌}
use mathlib.Core.Bool.{Bool, true, false}
use Prim.Native.Nat.{ℕ, ◌+◌, ◌-◌, ◌≤◌}
use native.Mathlib.Omega.{arith}
use lib.ListN.{length}
use lib.Dec.{eqb}
use borrow.Author.Tests.{ne_eqb}
use types.Run.{OneOf, miss}
use Rattle.std.specs.Prelude.{Some}
use denote.Enum.Declared.{tag_of}
use Rattle.words.specs.Pick.{pick}
use Rattle.words.proofs.Pick.{pick-cases}
use Rattle.devtree.specs.contracts.Token.{the_type}
use Rattle.devtree.specs.Tokens.{token_at, tokens, and_then}
use Rattle.devtree.specs.Check.{clean, last_token}
use Rattle.devtree.proofs.Tokens.{Within, token-in, tokens-law, tokens-are}
use Rattle.devtree.specs.declared.Token.{Token}
use Rattle.devtree.specs.declared.Token.TheVariants.{Begin, Property, EndNode, End, Fault}
use Rattle.treecheck.specs.Scan.{place_of, next_of, strict, strict_at, scan_token, scan, scan_from, resume}

strict_in : (s : List ℕ) (at : ℕ) (t : Token) → Within s at t → place_of t ≤ length s → Within s at (strict s t)
unfolding strict
strict_in s at t w h = pick-cases (Within s at) (clean s t) t (Fault (place_of t)) (λ e. w) (λ e. h)

place_in : (s : List ℕ) (at : ℕ) (t : Token) → Within s at t → place_of t ≤ length s
place_in s at (Begin p a n next) w = omega arith
place_in s at (Property p a n v l next) w = omega arith
place_in s at (EndNode p next) w = omega arith
place_in s at (End p next) w = omega arith
place_in s at (Fault p) w = w

pub lies : (s st : List ℕ) (at : ℕ) (t : Token) → strict_at s st at ≡ t → Within s at t
unfolding strict_at
lies s st at t e =
    let w = token-in s st at in
    subst (Within s at) e (strict_in s at (token_at s st at) w (place_in s at (token_at s st at) w))

-- the scan is one token, and the scan from past it
module _ (s st : List ℕ) (left : ℕ) (child : Bool) where
  abbrev pub after : Token → Bool
  after u = scan_token (λ l c. scan_from s st l c (next_of u)) (last_token s (tokens s st (next_of u))) left child u

  -- a token or the fault in its place: what follows the fault does not matter
  either : (t : Token) → scan_token (λ l c. scan_from s st l c (next_of t)) (last_token s (tokens s st (next_of t))) left child (strict s t) ≡ after (strict s t)
  unfolding strict scan_token
  either t = pick-cases (λ u. scan_token (λ l c. scan_from s st l c (next_of t)) (last_token s (tokens s st (next_of t))) left child u ≡ after u) (clean s t) t (Fault (place_of t)) (λ e. refl) (λ e. refl)

  one : (t : Token) → scan s left child (and_then (tokens s st) t) ≡ after (strict s t)
  unfolding scan scan_from scan_token and_then strict pick clean
  one (Begin p a n next) = either (Begin p a n next)
  one (Property p a n v l next) = either (Property p a n v l next)
  one (EndNode p next) = refl
  one (End p next) = refl
  one (Fault p) = refl

  pub scan-token : (at : ℕ) (u : Token) → strict_at s st at ≡ u → scan_from s st left child at ≡ after u
  unfolding scan_from strict_at
  scan-token at u e = subst (λ v. scan s left child (tokens s st at) ≡ after v) e (rw (tokens-law s st at) (one (token_at s st at)))

-- a node that was opened is closed
pub resume-next : (s st : List ℕ) (left at : ℕ) → left ≤ 7 → (left ≡ 0 → ⊥) → resume s st (left - 1) (Some at) ≡ scan_from s st left true at
unfolding resume pick
resume-next s st left at h i =
    let up : left - 1 + 1 ≡ left = omega arith in
    simp (ne_eqb (left - 1) 7 (λ e. omega arith), up)

-- the end token is the last of the list, and no other token is
pub last_end : (s st : List ℕ) (at p next : ℕ) → token_at s st at ≡ End p next → last_token s (tokens s st at) ≡ eqb next (length s)
unfolding last_token and_then
last_end s st at p next e = rw (tokens-are s st at (End p next) e)

any_last : (s st : List ℕ) (t : Token) → OneOf (0 ∷ 1 ∷ 2 ∷ 4 ∷ []) (tag_of the_type t) → last_token s (and_then (tokens s st) t) ≡ false
unfolding last_token and_then
any_last s st (Begin p a n next) k = refl
any_last s st (Property p a n v l next) k = refl
any_last s st (EndNode p next) k = refl
any_last s st (End p next) k = absurd (miss (0 ∷ 1 ∷ 2 ∷ 4 ∷ []) 3 tt k)
any_last s st (Fault p) k = refl

pub not_last : (s st : List ℕ) (at : ℕ) (t : Token) → token_at s st at ≡ t → OneOf (0 ∷ 1 ∷ 2 ∷ 4 ∷ []) (tag_of the_type t) → last_token s (tokens s st at) ≡ false
not_last s st at t e k = rw (tokens-are s st at t e) (any_last s st t k)

-- a token that has no padding
pub strict_other : (s : List ℕ) (t : Token) → OneOf (2 ∷ 3 ∷ 4 ∷ []) (tag_of the_type t) → strict s t ≡ t
unfolding strict clean pick
strict_other s (Begin p a n next) k = absurd (miss (2 ∷ 3 ∷ 4 ∷ []) 0 tt k)
strict_other s (Property p a n v l next) k = absurd (miss (2 ∷ 3 ∷ 4 ∷ []) 1 tt k)
strict_other s (EndNode p next) k = refl
strict_other s (End p next) k = refl
strict_other s (Fault p) k = refl

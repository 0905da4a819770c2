-- What a token that the check takes says: its event, and those from past it on.
use mathlib.Core.Path.{◌≡◌, sym, subst}
use mathlib.Core.List.{List, ◌∷◌}
use Prim.Native.Nat.{ℕ}
use Rattle.words.specs.Bytes.{part}
use Rattle.words.proofs.Pick.{pick-cases}
use Rattle.devtree.specs.Tokens.{token_at, and_then}
use Rattle.devtree.specs.Tree.{begin, prop, end, events_of, events_from}
use Rattle.devtree.specs.Check.{clean}
use Rattle.devtree.proofs.Tokens.{tokens-are}
use Rattle.devtree.specs.declared.Token.{Token}
use Rattle.devtree.specs.declared.Token.TheVariants.{Begin, Property, EndNode, End, Fault}
use Rattle.treecheck.specs.Scan.{place_of, strict, strict_at}

abbrev Sound : Token → Type 0
Sound (Begin p a n next) = Unit
Sound (Property p a n v l next) = Unit
Sound (EndNode p next) = Unit
Sound (End p next) = Unit
Sound (Fault p) = ⊥

-- a token that is no fault is the block's own
pub own-token : (s st : List ℕ) (at : ℕ) (u : Token) → Sound u → strict_at s st at ≡ u → token_at s st at ≡ u
unfolding strict_at strict
own-token s st at u o e =
    let t : Token = token_at s st at in
    pick-cases (λ v. v ≡ u → t ≡ u) (clean s t) t (Fault (place_of t)) (λ c f. f) (λ c f. absurd (subst Sound (sym f) o)) e

module _ (s st : List ℕ) (at p : ℕ) where
  pub begin-events : (a n next : ℕ) → strict_at s st at ≡ Begin p a n next → events_from s st at ≡ begin (part s a n) ∷ events_from s st next
  unfolding events_from events_of and_then
  begin-events a n next e = rw (tokens-are s st at _ (own-token s st at _ tt e))

  pub prop-events : (a n v l next : ℕ) → strict_at s st at ≡ Property p a n v l next → events_from s st at ≡ prop (part st a n) (part s v l) ∷ events_from s st next
  unfolding events_from events_of and_then
  prop-events a n v l next e = rw (tokens-are s st at _ (own-token s st at _ tt e))

  pub end-events : (next : ℕ) → strict_at s st at ≡ EndNode p next → events_from s st at ≡ end ∷ events_from s st next
  unfolding events_from events_of and_then
  end-events next e = rw (tokens-are s st at _ (own-token s st at _ tt e))

-- Where a token's name and value lie, and that a token of another kind is unlike.
use mathlib.Core.Path.{◌≡◌, refl}
use mathlib.Core.List.{List}
use Prim.Native.Nat.{ℕ}
use native.Mathlib.Omega.{arith}
use Rattle.devtree.specs.Tokens.{token_at}
use Rattle.devtree.proofs.Tokens.{Within, Named, lies, named}
use Rattle.devtree.specs.declared.Token.{Token}
use Rattle.devtree.specs.declared.Token.TheVariants.{Begin, Property, EndNode, End, Fault}
use Rattle.token_pairs.specs.Pairs.{open_pair, equal_pair, close_pair, pair_of, pair_at, NodeIn, PropertyIn}
use Rattle.token_pairs.specs.declared.Places.{Places}
use Rattle.token_pairs.specs.declared.Pair.TheVariants.{Unlike}

-- ---- where a token's name and value lie

pub node_in : (s st : List ℕ) (at : ℕ) (t : Token) → token_at s st at ≡ t → NodeIn s t
node_in s st at t e = any t (lies s st at t e)
  where
    any : (t : Token) → Within s at t → NodeIn s t
    any (Begin p a n next) w = omega arith
    any (Property p a n v l next) w = tt
    any (EndNode p next) w = tt
    any (End p next) w = tt
    any (Fault p) w = tt

pub property-in : (s st : List ℕ) (at : ℕ) (t : Token) → token_at s st at ≡ t → PropertyIn s st t
property-in s st at t e = any t (lies s st at t e) (named s st at t e)
  where
    any : (t : Token) → Within s at t → Named s st t → PropertyIn s st t
    any (Begin p a n next) w m = tt
    any (Property p a n v l next) w m = (omega arith, omega arith)
    any (EndNode p next) w m = tt
    any (End p next) w m = tt
    any (Fault p) w m = tt

-- ---- one pair of tokens

-- a token of another kind is unlike
pub open-other : (s : List ℕ) (a n next : ℕ) (s' : List ℕ) (t : Token) → ((p a' n' next' : ℕ) → t ≡ Begin p a' n' next' → ⊥) → Unlike ≡ open_pair s a n next s' t
unfolding open_pair
open-other s a n next s' (Begin p a' n' next') k = absurd (k p a' n' next' refl)
open-other s a n next s' (Property p a' n' v l next') k = refl
open-other s a n next s' (EndNode p next') k = refl
open-other s a n next s' (End p next') k = refl
open-other s a n next s' (Fault p) k = refl

pub equal-other : (s st : List ℕ) (a n v l next : ℕ) (s' st' : List ℕ) (t : Token) → ((p a' n' v' l' next' : ℕ) → t ≡ Property p a' n' v' l' next' → ⊥) → Unlike ≡ equal_pair s st a n v l next s' st' t
unfolding equal_pair
equal-other s st a n v l next s' st' (Begin p a' n' next') k = refl
equal-other s st a n v l next s' st' (Property p a' n' v' l' next') k = absurd (k p a' n' v' l' next' refl)
equal-other s st a n v l next s' st' (EndNode p next') k = refl
equal-other s st a n v l next s' st' (End p next') k = refl
equal-other s st a n v l next s' st' (Fault p) k = refl

pub close_other : (next : ℕ) (t : Token) → ((p next' : ℕ) → t ≡ EndNode p next' → ⊥) → Unlike ≡ close_pair next t
unfolding close_pair
close_other next (Begin p a' n' next') k = refl
close_other next (Property p a' n' v l next') k = refl
close_other next (EndNode p next') k = absurd (k p next' refl)
close_other next (End p next') k = refl
close_other next (Fault p) k = refl

-- and so is any token beside an end token or a fault
pub other-pair : (s st s' st' : List ℕ) (p : Places) (t : Token) → t ≡ token_at s st p.a → ((q a n next : ℕ) → t ≡ Begin q a n next → ⊥) → ((q a n v l next : ℕ) → t ≡ Property q a n v l next → ⊥)
    → ((q next : ℕ) → t ≡ EndNode q next → ⊥) → Unlike ≡ pair_at s st s' st' p
unfolding pair_at pair_of
other-pair s st s' st' p (Begin q a n next) e f g h = absurd (f q a n next refl)
other-pair s st s' st' p (Property q a n v l next) e f g h = absurd (g q a n v l next refl)
other-pair s st s' st' p (EndNode q next) e f g h = absurd (h q next refl)
other-pair s st s' st' p (End q next) e f g h = rw (← e)
other-pair s st s' st' p (Fault q) e f g h = rw (← e)

-- The events of a tree that passes the check: properties before child nodes.
use mathlib.Core.Path.{◌≡◌}
use mathlib.Core.List.{List, [], ◌∷◌}
use mathlib.Core.Bool.{Bool, true, false, false≢true}
use mathlib.Core.Logic.{⊎_elim}
use Prim.Native.Nat.{ℕ, ◌+◌, ◌-◌}
use lib.Dec.{leb}
use Rattle.words.proofs.Pick.{pick-either, pick-unless, every-each}
use Rattle.devtree.specs.Tokens.{tokens}
use Rattle.devtree.specs.Tree.{events_of, events_from}
use Rattle.devtree.specs.Check.{closes, one_root, ordered, well_formed, passes}
use Rattle.devtree.specs.declared.Token.{Token}
use Rattle.devtree.specs.declared.Token.TheVariants.{Begin, Property, EndNode, End, Fault}
use Rattle.devtree.proofs.Tree.{ended, passes-formed}
use Rattle.emits.specs.Good.{PropsFirst}

pub root-closes : (s : List ℕ) (ts : List Token) → one_root s ts ≡ true → closes s 0 ts ≡ true
unfolding one_root closes
root-closes s [] e = absurd (false≢true e)
root-closes s (Begin p a n next ∷ ts) e = e
root-closes s (Property p a n v l next ∷ ts) e = absurd (false≢true e)
root-closes s (EndNode p next ∷ ts) e = absurd (false≢true e)
root-closes s (End p next ∷ ts) e = absurd (false≢true e)
root-closes s (Fault p ∷ ts) e = absurd (false≢true e)

props-first : (s st : List ℕ) (depth : ℕ) (child : Bool) (ts : List Token) → closes s depth ts ≡ true → ordered child ts ≡ true → PropsFirst child (events_of s st ts)
unfolding closes ordered events_of
props-first s st depth child [] c o = tt
props-first s st depth child (Begin p a n next ∷ ts) c o = props-first s st (depth + 1) false ts c o
props-first s st depth child (Property p a n v l next ∷ ts) c o =
    let u = pick-unless child _ o in
    (u.0, props-first s st depth false ts c u.1)
props-first s st depth child (EndNode p next ∷ ts) c o =
    let rest = props-first s st (depth - 1) true ts in
    ⊎_elim (λ w. rw (ended s st ts w.1) tt) (λ w. rest w.1 o) (pick-either (leb depth 1) _ _ c)
props-first s st depth child (End p next ∷ ts) c o = absurd (false≢true c)
props-first s st depth child (Fault p ∷ ts) c o = absurd (false≢true c)

pub ordered-events : (s st : List ℕ) → passes s st ≡ true → PropsFirst false (events_from s st 0)
unfolding well_formed events_from
ordered-events s st e =
    let f = every-each _ (passes-formed s st e) in
    props-first s st 0 false (tokens s st 0) (root-closes s (tokens s st 0) f.1.1.1.0) f.1.1.1.1.1.1.0

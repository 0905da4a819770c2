-- Two trees are the same exactly where they are equal.
use mathlib.Core.Path.{◌≡◌, refl, ap₂, subst}
use mathlib.Core.List.{List, [], ◌∷◌}
use mathlib.Core.Bool.{Bool, true, false≢true}
use Prim.Native.Nat.{ℕ}
use lib.Dec.{eqb}
use borrow.Author.Tests.{eqb-true, eq-eqb}
use Rattle.words.specs.Pick.{pick}
use Rattle.words.proofs.Pick.{pick-and, every-each, each-every}
use Rattle.devtree.specs.Tree.{Prop, Nodes, nil, node}
use Rattle.same_trees.specs.Same.{alike, same_bytes, same_prop, same_props, same}

-- ---- two lists, by a test that holds just of equal elements

alike-equal : {A : Type 0} (test : A → A → Bool) → ((x y : A) → test x y ≡ true → x ≡ y) → (xs ys : List A) → alike test xs ys ≡ true → xs ≡ ys
unfolding alike
alike-equal test h [] [] e = refl
alike-equal test h [] (y ∷ ys) e = absurd (false≢true e)
alike-equal test h (x ∷ xs) [] e = absurd (false≢true e)
alike-equal test h (x ∷ xs) (y ∷ ys) e = let w = pick-and (test x y) _ e in ap₂ ◌∷◌ (h x y w.0) (alike-equal test h xs ys w.1)

alike_self : {A : Type 0} (test : A → A → Bool) → ((x : A) → test x x ≡ true) → (xs : List A) → alike test xs xs ≡ true
unfolding alike pick
alike_self test h [] = refl
alike_self test h (x ∷ xs) = rw (h x) (alike_self test h xs)

pub bytes-equal : (xs ys : List ℕ) → same_bytes xs ys ≡ true → xs ≡ ys
unfolding same_bytes
bytes-equal xs ys e = alike-equal eqb eqb-true xs ys e

pub bytes-self : (xs : List ℕ) → same_bytes xs xs ≡ true
unfolding same_bytes
bytes-self xs = alike_self eqb (λ x. eq-eqb x x refl) xs

prop-equal : (p q : Prop) → same_prop p q ≡ true → p ≡ q
unfolding same_prop
prop-equal p q e =
    let w = pick-and (same_bytes p.name q.name) _ e in
    ap₂ (λ n v. record { name = n; value = v }) (bytes-equal _ _ w.0) (bytes-equal _ _ w.1)

prop-self : (p : Prop) → same_prop p p ≡ true
unfolding same_prop pick
prop-self p = rw (bytes-self p.name) (bytes-self p.value)

props-equal : (ps qs : List Prop) → same_props ps qs ≡ true → ps ≡ qs
unfolding same_props
props-equal ps qs e = alike-equal same_prop prop-equal ps qs e

props-self : (ps : List Prop) → same_props ps ps ≡ true
unfolding same_props
props-self ps = alike_self same_prop prop-self ps

-- ---- two trees

pub same-equal : (x y : Nodes) → same x y ≡ true → x ≡ y
unfolding same
same-equal nil nil e = refl
same-equal nil (node n' ps' kids' rest') e = absurd (false≢true e)
same-equal (node n ps kids rest) nil e = absurd (false≢true e)
same-equal (node n ps kids rest) (node n' ps' kids' rest') e =
    let f = every-each _ e in
    let names = bytes-equal _ _ f.0 in
    let props = props-equal _ _ f.1.0 in
    let below = same-equal kids kids' f.1.1.0 in
    let after = same-equal rest rest' f.1.1.1.0 in
    cc

same_self : (x : Nodes) → same x x ≡ true
unfolding same
same_self nil = refl
same_self (node n ps kids rest) = each-every _ (bytes-self n, (props-self ps, (same_self kids, (same_self rest, tt))))

pub equal-same : (x y : Nodes) → x ≡ y → same x y ≡ true
equal-same x y e = subst (λ z. same x z ≡ true) e (same_self x)

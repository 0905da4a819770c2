-- Some changes out of the order of their report, and which of them are of a kind.
use mathlib.Core.Path.{◌≡◌, refl, ap, sym, ◌∙◌}
use mathlib.Core.Bool.{Bool, true, false}
use mathlib.Core.List.{List, [], ◌∷◌, ◌++◌, append-nil}
use Prim.Native.Nat.{ℕ, zero, suc, ◌-◌, min}
use native.Mathlib.Omega.{arith}
use lib.Dec.{eqb}
use lib.ListN.{length, take, drop, length-drop}
use lib.Seq.{take-nil, drop-nil}
use borrow.Author.Tests.{eq-eqb, ne_eqb, eqb-true}
use Rattle.words.specs.Pick.{pick}
use Rattle.node_changes.specs.Changes.{Change, delete, update, add, of_kind, in_order}
use Rattle.node_changes.specs.Lists.{operation, operations}

module _ {A : Type 0} where
  pub take-both : (n : ℕ) (xs ys : List A) → take n (xs ++ ys) ≡ take n xs ++ take (n - length xs) ys
  take-both n [] ys = let e : n - 0 ≡ n = omega arith in rw (e, take-nil {A = A} n)
  take-both zero (x ∷ xs) ys = let e : zero - suc (length xs) ≡ 0 = omega arith in rw e
  take-both (suc n) (x ∷ xs) ys =
      let e : suc n - suc (length xs) ≡ n - length xs = omega arith in
      rw e (ap (λ (r : List A). x ∷ r) (take-both n xs ys))

  pub drop-both : (n : ℕ) (xs ys : List A) → drop n (xs ++ ys) ≡ drop n xs ++ drop (n - length xs) ys
  drop-both n [] ys = let e : n - 0 ≡ n = omega arith in rw (e, drop-nil {A = A} n)
  drop-both zero (x ∷ xs) ys = let e : zero - suc (length xs) ≡ 0 = omega arith in rw e
  drop-both (suc n) (x ∷ xs) ys = let e : suc n - suc (length xs) ≡ n - length xs = omega arith in rw e (drop-both n xs ys)

  -- as many are taken, or all
  pub take_same : (m n : ℕ) (xs : List A) → min m (length xs) ≡ min n (length xs) → take m xs ≡ take n xs
  take_same m n [] h = take-nil m ∙ sym (take-nil n)
  take_same zero zero (x ∷ xs) h = refl
  take_same zero (suc n) (x ∷ xs) h = absurd (omega arith)
  take_same (suc m) zero (x ∷ xs) h = absurd (omega arith)
  take_same (suc m) (suc n) (x ∷ xs) h = ap (λ (r : List A). x ∷ r) (take_same m n xs (omega arith))

  pub drop-least : (n : ℕ) (xs : List A) → drop (min n (length xs)) xs ≡ drop n xs
  drop-least n [] = drop-nil (min n 0) ∙ sym (drop-nil n)
  drop-least zero (x ∷ xs) = let e : min zero (suc (length xs)) ≡ 0 = omega arith in rw e
  drop-least (suc n) (x ∷ xs) = let e : min (suc n) (suc (length xs)) ≡ suc (min n (length xs)) = omega arith in rw e (drop-least n xs)

-- ---- all of one kind

module _ (kind : ℕ) where
  abbrev pub AllKind : List Change → Type 0
  AllKind [] = Unit
  AllKind (c ∷ cs) = (c.kind ≡ kind) × AllKind cs

  pub of-kind : (cs : List Change) → AllKind (of_kind kind cs)
  unfolding of_kind pick
  of-kind [] = tt
  of-kind (c ∷ cs) = test (eqb c.kind kind) refl (of-kind cs)
    where
      test : (b : Bool) → eqb c.kind kind ≡ b → AllKind (of_kind kind cs) → AllKind (pick b (c ∷ of_kind kind cs) (of_kind kind cs))
      test true e h = (eqb-true c.kind kind e, h)
      test false e h = h

  pub kind-take : (n : ℕ) (cs : List Change) → AllKind cs → AllKind (take n cs)
  kind-take n [] h = rw (take-nil {A = Change} n) tt
  kind-take zero (c ∷ cs) h = tt
  kind-take (suc n) (c ∷ cs) h = (h.0, kind-take n cs h.1)

  pub kind-drop : (n : ℕ) (cs : List Change) → AllKind cs → AllKind (drop n cs)
  kind-drop n [] h = rw (drop-nil {A = Change} n) tt
  kind-drop zero (c ∷ cs) h = h
  kind-drop (suc n) (c ∷ cs) h = kind-drop n cs h.1

  -- all of them are of that kind, and none of another
  pub kind-same : (cs : List Change) → AllKind cs → of_kind kind cs ≡ cs
  unfolding of_kind pick
  kind-same [] h = refl
  kind-same (c ∷ cs) h = rw (eq-eqb c.kind kind h.0) (ap (λ (r : List Change). c ∷ r) (kind-same cs h.1))

  pub kind-other : (other : ℕ) (cs : List Change) → (kind ≡ other → ⊥) → AllKind cs → of_kind other cs ≡ []
  unfolding of_kind pick
  kind-other other [] differs h = refl
  kind-other other (c ∷ cs) differs h = rw (ne_eqb c.kind other (λ e. differs (sym h.0 ∙ e))) (kind-other other cs differs h.1)

  pub kind-both : (xs ys : List Change) → of_kind kind (xs ++ ys) ≡ of_kind kind xs ++ of_kind kind ys
  unfolding of_kind pick
  kind-both [] ys = refl
  kind-both (c ∷ xs) ys = test (eqb c.kind kind) (kind-both xs ys)
    where
      test : (b : Bool) → of_kind kind (xs ++ ys) ≡ of_kind kind xs ++ of_kind kind ys → pick b (c ∷ of_kind kind (xs ++ ys)) (of_kind kind (xs ++ ys)) ≡ pick b (c ∷ of_kind kind xs) (of_kind kind xs) ++ of_kind kind ys
      test true h = ap (λ (r : List Change). c ∷ r) h
      test false h = h

-- ---- three kinds, one after the other

module _ (d u a : List Change) (hd : AllKind delete d) (hu : AllKind update u) (ha : AllKind add a) where
  pub three-deletes : of_kind delete (d ++ (u ++ a)) ≡ d
  three-deletes =
      kind-both delete d (u ++ a)
      ∙ rw (kind-same delete d hd, kind-both delete u a, kind-other update delete u (λ e. omega arith) hu, kind-other add delete a (λ e. omega arith) ha) (append-nil d)

  pub three-updates : of_kind update (d ++ (u ++ a)) ≡ u
  three-updates =
      kind-both update d (u ++ a)
      ∙ rw (kind-other delete update d (λ e. omega arith) hd, kind-both update u a, kind-same update u hu, kind-other add update a (λ e. omega arith) ha) (append-nil u)

  pub three-adds : of_kind add (d ++ (u ++ a)) ≡ a
  three-adds =
      kind-both add d (u ++ a)
      ∙ rw (kind-other delete add d (λ e. omega arith) hd, kind-both add u a, kind-other update add u (λ e. omega arith) hu) (kind-same add a ha)

  -- they are in order, and each has its list
  pub three-ordered : in_order (d ++ (u ++ a)) ≡ d ++ (u ++ a)
  unfolding in_order
  three-ordered = rw (three-deletes, three-updates, three-adds)

  pub three-lists : operations (d ++ (u ++ a)) ≡ operation delete d ++ (operation update u ++ operation add a)
  unfolding operations
  three-lists = rw (three-deletes, three-updates, three-adds)

-- ---- n of them, from one on

module _ (from n : ℕ) (cs : List Change) where
  abbrev ds : List Change
  ds = of_kind delete cs

  abbrev us : List Change
  us = of_kind update cs

  abbrev as' : List Change
  as' = of_kind add cs

  -- how many stand before those of the next kind, and how many of these are wanted
  abbrev pub from₁ : ℕ
  from₁ = from - length ds

  abbrev pub n₁ : ℕ
  n₁ = n - (length ds - from)

  abbrev pub from₂ : ℕ
  from₂ = from₁ - length us

  abbrev pub n₂ : ℕ
  n₂ = n₁ - (length us - from₁)

  abbrev pub window_d : List Change
  window_d = take n (drop from ds)

  abbrev pub window_u : List Change
  window_u = take n₁ (drop from₁ us)

  abbrev pub window_a : List Change
  window_a = take n₂ (drop from₂ as')

  pub windowed : take n (drop from (in_order cs)) ≡ window_d ++ (window_u ++ window_a)
  unfolding in_order
  windowed =
      let e : length (drop from ds) ≡ length ds - from = length-drop from ds in
      let f : length (drop from₁ us) ≡ length us - from₁ = length-drop from₁ us in
      ap (take n) (drop-both from ds (us ++ as') ∙ ap (λ (r : List Change). drop from ds ++ r) (drop-both from₁ us as'))
      ∙ take-both n (drop from ds) (drop from₁ us ++ drop from₂ as')
      ∙ rw e (ap (λ (r : List Change). window_d ++ r) (take-both n₁ (drop from₁ us) (drop from₂ as') ∙ rw f))

  pub kinds-d : AllKind delete window_d
  kinds-d = kind-take delete n (drop from ds) (kind-drop delete from ds (of-kind delete cs))

  pub kinds-u : AllKind update window_u
  kinds-u = kind-take update n₁ (drop from₁ us) (kind-drop update from₁ us (of-kind update cs))

  pub kinds-a : AllKind add window_a
  kinds-a = kind-take add n₂ (drop from₂ as') (kind-drop add from₂ as' (of-kind add cs))

  pub window-ordered : in_order (take n (drop from (in_order cs))) ≡ take n (drop from (in_order cs))
  window-ordered = rw windowed (three-ordered window_d window_u window_a kinds-d kinds-u kinds-a)

  pub window-lists : operations (take n (drop from (in_order cs))) ≡ operation delete window_d ++ (operation update window_u ++ operation add window_a)
  window-lists = rw windowed (three-lists window_d window_u window_a kinds-d kinds-u kinds-a)

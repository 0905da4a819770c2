-- What exchanges of elements keep: that each has a name, and whether the names differ.
use mathlib.Core.Path.{◌≡◌, refl, ap, sym, ◌∙◌}
use mathlib.Core.Bool.{Bool, true, false}
use mathlib.Core.List.{List}
use mathlib.Core.Logic.{◌⊎◌, inl, inr}
use Prim.Native.Nat.{ℕ, ◌<◌, ◌≤◌}
use native.Mathlib.Nat.{zero-add}
use native.Mathlib.Omega.{arith}
use lib.ListN.{length, get_or, set, length-set}
use lib.Seq.{get_or-set_same, get_or-set_other}
use lib.Dec.{eqb, ltb}
use borrow.Author.Tests.{eq-eqb, ne_eqb, eqb-true, eqb-false, ltb-true, ltb-false}
use Rattle.words.specs.Pick.{pick}
use Rattle.devtree.specs.Names.{distinct}
use Rattle.name_order.specs.Order.{name_at, listed, AllNamed}
use Rattle.name_order.specs.Shuffled.{exchanged, Inside, Shuffled, none, more}
use Rattle.name_order.proofs.Names.{same_truth}
use Rattle.name_order.proofs.Differ.{name, Differ, differ-distinct, distinct-differ}

-- where an element stood before elements i and j were exchanged
swap : ℕ → ℕ → ℕ → ℕ
swap i j p = pick (eqb p j) i (pick (eqb p i) j p)

swap-second : (i j : ℕ) → swap i j j ≡ i
unfolding swap pick
swap-second i j = simp (eq-eqb j j refl)

swap-first : (i j : ℕ) → swap i j i ≡ j
unfolding swap pick
swap-first i j = go (eqb i j) refl
  where
    go : (t : Bool) → eqb i j ≡ t → pick t i (pick (eqb i i) j i) ≡ j
    go true e = eqb-true i j e
    go false e = simp (eq-eqb i i refl)

swap-other : (i j p : ℕ) → (p ≡ i → ⊥) → (p ≡ j → ⊥) → swap i j p ≡ p
unfolding swap pick
swap-other i j p e f = simp (ne_eqb p i e, ne_eqb p j f)

Cases : ℕ → ℕ → ℕ → Type 0
Cases i j p = (p ≡ j) ⊎ ((p ≡ i) × (p ≡ j → ⊥)) ⊎ ((p ≡ i → ⊥) × (p ≡ j → ⊥))

swap-cases : (i j p : ℕ) → Cases i j p
unfolding Cases
swap-cases i j p = go (eqb p j) (eqb p i) refl refl
  where
    go : (t u : Bool) → eqb p j ≡ t → eqb p i ≡ u → Cases i j p
    go true u e f = inl (eqb-true p j e)
    go false true e f = inr (inl (eqb-true p i f, eqb-false p j e))
    go false false e f = inr (inr (eqb-false p i f, eqb-false p j e))

swap-twice : (i j p : ℕ) → swap i j (swap i j p) ≡ p
unfolding Cases
swap-twice i j p = go (swap-cases i j p)
  where
    go : Cases i j p → swap i j (swap i j p) ≡ p
    go (inl e) = rw (e, swap-second i j, swap-first i j)
    go (inr (inl e)) = rw (e.0, swap-first i j, swap-second i j)
    go (inr (inr e)) = rw (swap-other i j p e.0 e.1, swap-other i j p e.0 e.1)

swap-inside : (top i j p : ℕ) → i < top → j < top → p < top → swap i j p < top
unfolding Cases
swap-inside top i j p hi hj h = go (swap-cases i j p)
  where
    go : Cases i j p → swap i j p < top
    go (inl e) = rw (e, swap-second i j) hi
    go (inr (inl e)) = rw (e.0, swap-first i j) hj
    go (inr (inr e)) = rw (swap-other i j p e.0 e.1) h

exchanged-at : (xs : List ℕ) (i j p : ℕ) → i < length xs → j < length xs → get_or (exchanged xs i j) p 0 ≡ get_or xs (swap i j p) 0
unfolding Cases
exchanged-at xs i j p hi hj = go (swap-cases i j p)
  where
    hj' : j < length (set xs i (get_or xs j 0))
    hj' = simp length-set hj

    go : Cases i j p → get_or (exchanged xs i j) p 0 ≡ get_or xs (swap i j p) 0
    go (inl e) = rw (e, swap-second i j) (get_or-set_same (set xs i (get_or xs j 0)) j (get_or xs i 0) 0 hj')
    go (inr (inl e)) = rw (get_or-set_other (set xs i (get_or xs j 0)) j p (get_or xs i 0) 0 e.1, e.0, swap-first i j) (get_or-set_same xs i (get_or xs j 0) 0 hi)
    go (inr (inr e)) = rw (get_or-set_other (set xs i (get_or xs j 0)) j p (get_or xs i 0) 0 e.1, get_or-set_other xs i p (get_or xs j 0) 0 e.0, swap-other i j p e.0 e.1)

-- two elements that differ, in either order
either : (b xs : List ℕ) (top p q : ℕ) → Differ b xs 0 top → p < top → q < top → (p ≡ q → ⊥) → name b xs p ≡ name b xs q → ⊥
either b xs top p q d hp hq e s = go (ltb p q) refl
  where
    go : (t : Bool) → ltb p q ≡ t → ⊥
    go true f = d p q (omega arith) (ltb-true p q f) hq s
    go false f = d q p (omega arith) (omega (arith, ltb-false p q f)) hp (sym s)

-- names that differ still do after an exchange
differ-swap : (b xs ys : List ℕ) (top i j : ℕ) → i < top → j < top → ((p : ℕ) → get_or ys p 0 ≡ get_or xs (swap i j p) 0) → Differ b xs 0 top → Differ b ys 0 top
differ-swap b xs ys top i j hi hj at d p q l m h s =
    either b xs top (swap i j p) (swap i j q) d
    (swap-inside top i j p hi hj (omega arith))
    (swap-inside top i j q hi hj h)
    (λ e. omega (arith, sym (swap-twice i j p) ∙ ap (swap i j) e ∙ swap-twice i j q))
    (ap (name_at b) (sym (at p)) ∙ s ∙ ap (name_at b) (at q))

module _ (top : ℕ) where
  pub shuffled-distinct : (b : List ℕ) {xs ys : List ℕ} → Shuffled top xs ys → {t : Bool} → t ≡ distinct (listed b ys 0 top) → t ≡ distinct (listed b xs 0 top)
  shuffled-distinct b none e = e
  shuffled-distinct b (more {ys} {i} {j} s u v) e = shuffled-distinct b s (e ∙ same_truth _ _ (keeps (exchanged ys i j) ys back) (keeps ys (exchanged ys i j) there))
    where
      there : (p : ℕ) → get_or (exchanged ys i j) p 0 ≡ get_or ys (swap i j p) 0
      there p = exchanged-at ys i j p u.inside v.inside

      back : (p : ℕ) → get_or ys p 0 ≡ get_or (exchanged ys i j) (swap i j p) 0
      back p = sym (there (swap i j p) ∙ ap (λ (k : ℕ). get_or ys k 0) (swap-twice i j p))

      keeps : (zs ws : List ℕ) → ((p : ℕ) → get_or ws p 0 ≡ get_or zs (swap i j p) 0) → distinct (listed b zs 0 top) ≡ true → distinct (listed b ws 0 top) ≡ true
      keeps zs ws at e =
          differ-distinct b ws 0 top (rw zero-add (differ-swap b zs ws top i j u.before v.before at (rw zero-add at (distinct-differ b zs 0 top e))))

  pub shuffled-named : (b : List ℕ) {xs ys : List ℕ} → Shuffled top xs ys → AllNamed b xs 0 top → AllNamed b ys 0 top
  shuffled-named b none a p l h = a p l h
  shuffled-named b (more {ys} {i} {j} s u v) a p l h =
      rw (exchanged-at ys i j p u.inside v.inside) (shuffled-named b s a (swap i j p) (omega arith) (swap-inside top i j p u.before v.before h))

  pub shuffled-length : {xs ys : List ℕ} → Shuffled top xs ys → length ys ≡ length xs
  shuffled-length none = refl
  shuffled-length (more s u v) = simp length-set (shuffled-length s)

  -- one exchange more
  pub shuffled-more : (i j : ℕ) {xs ys zs : List ℕ} → Shuffled top xs ys → (top ≤ length xs) × (i < top) × (j < top) → zs ≡ exchanged ys i j → Shuffled top xs zs
  shuffled-more i j s h e =
      let long = shuffled-length s in
      rw e (more {i = i} {j = j} s (omega arith) (omega arith))

  pub shuffled-wide : (end : ℕ) {xs ys : List ℕ} → end ≤ top → Shuffled end xs ys → Shuffled top xs ys
  shuffled-wide end h none = none
  shuffled-wide end h (more s u v) = more (shuffled-wide end h s) (wide u) (wide v)
    where
      wide : {zs : List ℕ} {k : ℕ} → Inside end zs k → Inside top zs k
      wide w = record { before = omega (arith, w.before); inside = w.inside }

  pub shuffled-then : {xs ys zs : List ℕ} → Shuffled top xs ys → Shuffled top ys zs → Shuffled top xs zs
  shuffled-then s none = s
  shuffled-then s (more t u v) = more (shuffled-then s t) u v

-- A property's name stands at its place in the strings block once its reply is taken, stays there, and reads back.
use mathlib.Core.Path.{◌≡◌, refl, ap, sym, ◌∙◌}
use mathlib.Core.Bool.{Bool, true, false, false≢true}
use mathlib.Core.List.{List, [], ◌∷◌, ◌++◌}
use Prim.Native.Nat.{ℕ, zero, suc, ◌+◌, ◌<◌, ◌≤◌}
use native.Mathlib.Omega.{arith}
use native.Mathlib.Numerals.{sub-one}
use native.Mathlib.Nat.{add-zero}
use lib.ListN.{length, get_or, length-append, get_or-append, get_or-eq_default}
use lib.Seq.{get_or-append-add}
use lib.Dec.{eqb, ltb}
use borrow.Author.Tests.{eqb-true, eqb-false, eq-eqb, ltb-true, ltb-false, lt-ltb}
use Rattle.words.specs.Pick.{pick}
use Rattle.words.specs.Bytes.{part, name_length}
use Rattle.words.proofs.Pick.{pick-cases, pick-and, pick_yes}
use Rattle.words.proofs.Bytes.{name-stop, name-more}
use Rattle.buffer.proofs.Put.{part-cons, part_none}
use Rattle.name_places.specs.Names.{stands_at, name_here, first_of, place_of, new_name}

-- ---- the first place

first-le : (test : ℕ → Bool) (k p : ℕ) → first_of test k p ≤ p + k
unfolding first_of
first-le test zero p = omega arith
first-le test (suc k) p =
    let m : first_of test k (p + 1) ≤ p + 1 + k = first-le test k (p + 1) in
    pick-cases (λ x. x ≤ p + suc k) (test p) p (first_of test k (p + 1)) (λ e. omega arith) (λ e. omega arith)

first_holds : (test : ℕ → Bool) (k p : ℕ) → first_of test k p < p + k → test (first_of test k p) ≡ true
unfolding first_of
first_holds test zero p h = absurd (omega arith)
first_holds test (suc k) p h =
    pick-cases (λ x. x < p + suc k → test x ≡ true) (test p) p (first_of test k (p + 1)) (λ e l. e) (λ e l. first_holds test k (p + 1) (omega arith)) h

first-least : (test : ℕ → Bool) (k p q : ℕ) → p ≤ q → test q ≡ true → first_of test k p ≤ q
unfolding first_of
first-least test zero p q h e = h
first-least test (suc k) p q h e =
    pick-cases (λ x. x ≤ q) (test p) p (first_of test k (p + 1)) (λ f. h)
    (λ f. first-least test k (p + 1) q (later f (eqb p q) refl) e)
  where
    later : test p ≡ false → (b : Bool) → eqb p q ≡ b → p + 1 ≤ q
    later f true t = absurd (false≢true (sym f ∙ rw (eqb-true p q t) e))
    later f false t = omega (arith, eqb-false p q t)

-- a place below the end is the name's, and no place of the name is before it
module _ (name used : List ℕ) where
  pub place-holds : place_of name used < length used → name_here name used (place_of name used) ≡ true
  unfolding place_of
  place-holds h = first_holds (name_here name used) (length used) 0 (omega arith)

  pub place-least : (q : ℕ) → name_here name used q ≡ true → place_of name used ≤ q
  unfolding place_of
  place-least q e = first-least (name_here name used) (length used) 0 q (omega arith) e

-- ---- a name that stands at a place

pub stands-within : (name used : List ℕ) (p : ℕ) → stands_at name used p ≡ true → p + length name < length used
unfolding stands_at
stands-within [] used p e = let l = ltb-true p (length used) (pick-and _ _ e).0 in omega arith
stands-within (b ∷ bs) used p e =
    let l : p + 1 + length bs < length used = stands-within bs used (p + 1) (pick-and _ _ e).1 in
    omega arith

pub stands-append : (name used more : List ℕ) (p : ℕ) → stands_at name used p ≡ true → stands_at name (used ++ more) p ≡ true
unfolding stands_at
stands-append [] used more p e =
    let a = pick-and (ltb p (length used)) (eqb (get_or used p 0) 0) e in
    let l = ltb-true p (length used) a.0 in
    let m : p < length (used ++ more) = rw (length-append used more) (omega arith) in
    pick_yes _ _ _ (lt-ltb p (length (used ++ more)) m) ∙ rw (get_or-append used more 0 p l) a.1
stands-append (b ∷ bs) used more p e =
    let a = pick-and (eqb (get_or used p 0) b) (stands_at bs used (p + 1)) e in
    let l : p + length {A = ℕ} (b ∷ bs) < length used = stands-within (b ∷ bs) used p e in
    let m : p < length used = omega arith in
    pick_yes _ _ _ (rw (get_or-append used more 0 p m) a.0) ∙ stands-append bs used more (p + 1) a.1

-- a name stands where its bytes do, with a NUL after them
pub stands-there : (name used : List ℕ) (p : ℕ) → p + length name < length used → ((j : ℕ) → j ≤ length name → get_or used (p + j) 0 ≡ get_or (name ++ (0 ∷ [])) j 0) → stands_at name used p ≡ true
unfolding stands_at pick
stands-there [] used p h e =
    let last : get_or used p 0 ≡ 0 = rw add-zero at (e 0 (omega arith)) in
    rw (lt-ltb p (length used) (omega arith), eq-eqb _ _ last)
stands-there (b ∷ bs) used p h e =
    let first : get_or used p 0 ≡ b = rw add-zero at (e 0 (omega arith)) in
    let up : (j : ℕ) → p + 1 + j ≡ p + suc j = λ j. omega arith in
    rw (eq-eqb _ _ first) (stands-there bs used (p + 1) (omega arith) (λ j l. rw (up j) (e (suc j) (omega arith))))

-- the name stands at its place, with what was added for it
pub name-stands : (name used : List ℕ) → stands_at name (used ++ new_name name used) (place_of name used) ≡ true
unfolding new_name place_of name_here
name-stands name used =
    pick-cases (λ more. stands_at name (used ++ more) (place_of name used) ≡ true) (ltb (place_of name used) (length used)) [] (name ++ (0 ∷ []))
    (λ e. stands-append name used [] (place_of name used) (pick-and _ _ (place-holds name used (ltb-true _ _ e))).1)
    (λ e. rw (at-end (ltb-false _ _ e)) new)
  where
    at-end : length used ≤ place_of name used → place_of name used ≡ length used
    at-end h = omega (arith, first-le (name_here name used) (length used) 0)

    new : stands_at name (used ++ (name ++ (0 ∷ []))) (length used) ≡ true
    new =
        stands-there name (used ++ (name ++ (0 ∷ []))) (length used) (omega (arith, length-append used (name ++ (0 ∷ [])), length-append name (0 ∷ [])))
        (λ j l. get_or-append-add used (name ++ (0 ∷ [])) j 0)

pub stands-part : (name used : List ℕ) (p : ℕ) → stands_at name used p ≡ true → part used p (length name) ≡ name
unfolding stands_at
stands-part [] used p e = part_none used p 0 (omega arith)
stands-part (b ∷ bs) used p e =
    let a = pick-and (eqb (get_or used p 0) b) (stands_at bs used (p + 1)) e in
    let l : p + length {A = ℕ} (b ∷ bs) < length used = stands-within (b ∷ bs) used p e in
    rw (part-cons used p (suc (length bs)) (omega arith) (omega arith), sub-one, eqb-true (get_or used p 0) b a.0, stands-part bs used (p + 1) a.1)

-- ---- names have no NUL, so that they end where they did

abbrev pub Clean : List ℕ → Type 0
Clean [] = Unit
Clean (b ∷ bs) = (b ≡ 0 → ⊥) × Clean bs

inside : (area : List ℕ) (at : ℕ) → (get_or area at 0 ≡ 0 → ⊥) → at < length area
inside area at e = by-test (ltb at (length area)) refl
  where
    by-test : (b : Bool) → ltb at (length area) ≡ b → at < length area
    by-test true t = ltb-true at (length area) t
    by-test false t = absurd (e (get_or-eq_default area 0 (ltb-false at (length area) t)))

pub name-clean : (k : ℕ) (area : List ℕ) (at : ℕ) → Clean (part area at (name_length k area at))
unfolding name_length
name-clean zero area at = rw (part_none area at 0 (omega arith)) tt
name-clean (suc k) area at =
    pick-cases (λ n. Clean (part area at n)) (eqb (get_or area at 0) 0) 0 (suc (name_length k area (at + 1)))
    (λ e. rw (part_none area at 0 (omega arith)) tt)
    (λ e. rw (part-cons area at (suc (name_length k area (at + 1))) (omega arith) (inside area at (eqb-false _ _ e)), sub-one) (eqb-false _ _ e, name-clean k area (at + 1)))

pub name-reads : (k : ℕ) (name used : List ℕ) (p : ℕ) → Clean name → length name ≤ k → stands_at name used p ≡ true → name_length k used p ≡ length name
unfolding stands_at
name-reads k [] used p n h e = name-stop k used p (eqb-true _ _ (pick-and (ltb p (length used)) (eqb (get_or used p 0) 0) e).1)
name-reads zero (b ∷ bs) used p n h e = absurd (omega arith)
name-reads (suc k) (b ∷ bs) used p n h e =
    let a = pick-and (eqb (get_or used p 0) b) (stands_at bs used (p + 1)) e in
    name-more (suc k) used p (omega arith) (λ z. n.0 (sym (eqb-true _ _ a.0) ∙ z))
    ∙ rw sub-one (ap suc (name-reads k bs used (p + 1) n.1 (omega arith) a.1))

-- Laws of borrowed changes: from one place to the next, and how many there are of each kind.
use mathlib.Core.Path.{◌≡◌, refl, ap, sym, ◌∙◌}
use mathlib.Core.Bool.{Bool, true, false}
use mathlib.Core.List.{List, [], ◌∷◌}
use Prim.Native.Nat.{ℕ, zero, suc, ◌+◌, ◌-◌, ◌*◌, ◌/◌, ◌<◌, ◌≤◌}
use native.Mathlib.Omega.{arith}
use lib.Dec.{eqb, ltb}
use lib.ListN.{length, get_or, drop}
use borrow.Author.Tests.{eq-eqb, ne_eqb, eqb-true, eqb-false, ltb-true, ltb-false}
use Rattle.std.specs.Simd.{first_chunks}
use Rattle.std.proofs.lemmas.List.{get_or-take, get_or-drop}
use Rattle.words.specs.Pick.{pick, any}
use Rattle.words.proofs.Pick.{pick_yes, pick_no}
use Rattle.node_changes.specs.Changes.{Change, change, delete, update, add, is_kind, all_kinds, changes_from, changes_at, changes_in, of_kind}

pub length_from : (n : ℕ) (ws : List ℕ) (at : ℕ) → length (changes_from n ws at) ≡ n
unfolding changes_from
length_from zero ws at = refl
length_from (suc n) ws at = ap suc (length_from n ws (at + 3))

module _ (ws : List ℕ) (at : ℕ) where
  -- the change at a place
  abbrev pub change_at : Change
  change_at = change (get_or ws at 0) (get_or ws (at + 1) 0) (get_or ws (at + 2) 0)

  module _ (h : 3 ≤ length ws - at) where
    pub changes-more : changes_at ws at ≡ change_at ∷ changes_at ws (at + 3)
    unfolding changes_from
    changes-more =
        let e : (length ws - at) / 3 ≡ suc ((length ws - (at + 3)) / 3) = omega arith in
        ap (λ (n : ℕ). changes_from n ws at) e

    pub kind-more : (kind : ℕ) → of_kind kind (changes_at ws at) ≡ pick (eqb (get_or ws at 0) kind) (change_at ∷ of_kind kind (changes_at ws (at + 3))) (of_kind kind (changes_at ws (at + 3)))
    unfolding of_kind
    kind-more kind = ap (of_kind kind) changes-more

    -- it is of that kind, or not
    pub kind-yes : (kind : ℕ) → get_or ws at 0 ≡ kind → of_kind kind (changes_at ws at) ≡ change_at ∷ of_kind kind (changes_at ws (at + 3))
    kind-yes kind e = kind-more kind ∙ pick_yes _ _ _ (eq-eqb (get_or ws at 0) kind e)

    pub kind-no : (kind : ℕ) → (get_or ws at 0 ≡ kind → ⊥) → of_kind kind (changes_at ws at) ≡ of_kind kind (changes_at ws (at + 3))
    kind-no kind e = kind-more kind ∙ pick_no _ _ _ (ne_eqb (get_or ws at 0) kind e)

  pub changes-none : length ws - at < 3 → changes_at ws at ≡ []
  unfolding changes_from
  changes-none h = let e : (length ws - at) / 3 ≡ 0 = omega arith in ap (λ (n : ℕ). changes_from n ws at) e

-- where some of a kind are to come, a change is there
pub kind-there : (ws : List ℕ) (at kind n : ℕ) → 0 < n → n ≤ length (of_kind kind (changes_at ws at)) → 3 ≤ length ws - at
unfolding of_kind
kind-there ws at kind n some h = test (ltb (length ws - at) 3) refl
  where
    test : (b : Bool) → ltb (length ws - at) 3 ≡ b → 3 ≤ length ws - at
    test true e = let l : n ≤ 0 = rw (changes-none ws at (ltb-true (length ws - at) 3 e)) at h in absurd (omega arith)
    test false e = ltb-false (length ws - at) 3 e

-- one more is counted
pub count-more : (ws : List ℕ) (at kind n : ℕ) → 3 ≤ length ws - at → n + length (of_kind kind (changes_at ws at)) ≡ n + pick (eqb (get_or ws at 0) kind) 1 0 + length (of_kind kind (changes_at ws (at + 3)))
unfolding pick
count-more ws at kind n h = rw (kind-more ws at h kind) (test (eqb (get_or ws at 0) kind))
  where
    test : (b : Bool) → n + length (pick b (change_at ws at ∷ of_kind kind (changes_at ws (at + 3))) (of_kind kind (changes_at ws (at + 3)))) ≡ n + pick b 1 0 + length (of_kind kind (changes_at ws (at + 3)))
    test true = omega arith
    test false = omega arith

-- so many of a kind stand before the i-th change
abbrev pub Counted : List ℕ → ℕ → ℕ → ℕ → Type 0
Counted ws i n kind = n + length (of_kind kind (changes_at ws (3 * i))) ≡ length (of_kind kind (changes_in ws))

-- the kind of the i-th three words
kind_at : (k i : ℕ) (ws d : List ℕ) → i < k → get_or (get_or (first_chunks 3 k ws) i d) 0 0 ≡ get_or ws (3 * i) 0
kind_at zero i ws d h = absurd (omega arith)
kind_at (suc k) zero ws d h = get_or-take 3 ws 0 0 (omega arith)
kind_at (suc k) (suc i) ws d h =
    let on : 3 + 3 * i ≡ 3 * suc i = omega arith in
    kind_at k i (drop 3 ws) d (omega arith) ∙ get_or-drop 3 ws (3 * i) 0 ∙ rw on

pub counted-more : (ws d : List ℕ) (es : List (List ℕ)) (i n kind r : ℕ) → es ≡ first_chunks 3 (length ws / 3) ws → length es ≡ length ws / 3 → i < length es → r ≡ pick (eqb (get_or (get_or es i d) 0 0) kind) 1 0 → Counted ws i n kind → Counted ws (i + 1) (n + r) kind
counted-more ws d es i n kind r e l h f c =
    let here : get_or (get_or es i d) 0 0 ≡ get_or ws (3 * i) 0 = rw e (kind_at (length ws / 3) i ws d (omega arith)) in
    let on : 3 * (i + 1) ≡ 3 * i + 3 = omega arith in
    rw (f, here, on) (sym (count-more ws (3 * i) kind n (omega arith)) ∙ c)

pub counted-all : (ws : List ℕ) (i n kind : ℕ) → i ≡ length ws / 3 → Counted ws i n kind → n ≡ length (of_kind kind (changes_in ws))
unfolding of_kind
counted-all ws i n kind h c = let e : n + 0 ≡ length (of_kind kind (changes_in ws)) = rw (changes-none ws (3 * i) (omega arith)) at c in omega arith

-- a change is of one kind at most
module _ (x n : ℕ) where
  abbrev pub as_of : ℕ → ℕ
  as_of kind = pick (eqb x kind) n 0

  pub kinds-one : as_of delete + as_of update + as_of add ≡ pick (is_kind x) n 0
  unfolding is_kind any pick
  kinds-one = test (eqb x delete) refl (eqb x update) refl (eqb x add) refl
    where
      test : (a : Bool) → eqb x delete ≡ a → (b : Bool) → eqb x update ≡ b → (c : Bool) → eqb x add ≡ c → pick a n 0 + pick b n 0 + pick c n 0 ≡ pick (pick a true (pick b true (pick c true false))) n 0
      test true e true f c g = absurd (omega (arith, eqb-true x delete e, eqb-true x update f))
      test true e false f true g = absurd (omega (arith, eqb-true x delete e, eqb-true x add g))
      test true e false f false g = omega arith
      test false e true f true g = absurd (omega (arith, eqb-true x update f, eqb-true x add g))
      test false e true f false g = omega arith
      test false e false f true g = omega arith
      test false e false f false g = omega arith

kind-cons : (c : Change) (cs : List Change) (kind : ℕ) → length (of_kind kind (c ∷ cs)) ≡ as_of c.kind 1 kind + length (of_kind kind cs)
unfolding of_kind pick
kind-cons c cs kind = test (eqb c.kind kind)
  where
    test : (b : Bool) → length (pick b (c ∷ of_kind kind cs) (of_kind kind cs)) ≡ pick b 1 0 + length (of_kind kind cs)
    test true = omega arith
    test false = omega arith

-- how many have a kind
abbrev pub kind_count : List Change → ℕ
kind_count cs = length (of_kind delete cs) + length (of_kind update cs) + length (of_kind add cs)

kinds-cons : (c : Change) (cs : List Change) → kind_count (c ∷ cs) ≡ pick (is_kind c.kind) 1 0 + kind_count cs
kinds-cons c cs = omega (arith, kind-cons c cs delete, kind-cons c cs update, kind-cons c cs add, kinds-one c.kind 1)

pub kinds-most : (cs : List Change) → kind_count cs ≤ length cs
unfolding of_kind pick
kinds-most [] = omega arith
kinds-most (c ∷ cs) = rw (kinds-cons c cs) (test (is_kind c.kind) (kinds-most cs))
  where
    test : (b : Bool) → kind_count cs ≤ length cs → pick b 1 0 + kind_count cs ≤ suc (length cs)
    test true h = omega arith
    test false h = omega arith

eqb-suc : (a b : ℕ) → eqb a b ≡ eqb (1 + a) (suc b)
eqb-suc a b = test (eqb a b) refl
  where
    test : (t : Bool) → eqb a b ≡ t → t ≡ eqb (1 + a) (suc b)
    test true e = sym (eq-eqb (1 + a) (suc b) (omega (arith, eqb-true a b e)))
    test false e = sym (ne_eqb (1 + a) (suc b) (λ f. eqb-false a b e (omega arith)))

-- all have a kind if as many have one as there are
pub all_kinds_lem : (cs : List Change) → all_kinds cs ≡ eqb (kind_count cs) (length cs)
unfolding all_kinds of_kind pick
all_kinds_lem [] = refl
all_kinds_lem (c ∷ cs) = rw (kinds-cons c cs) (test (is_kind c.kind) (all_kinds_lem cs))
  where
    test : (b : Bool) → all_kinds cs ≡ eqb (kind_count cs) (length cs) → pick b (all_kinds cs) false ≡ eqb (pick b 1 0 + kind_count cs) (suc (length cs))
    test true h = h ∙ eqb-suc (kind_count cs) (length cs)
    test false h = sym (ne_eqb (0 + kind_count cs) (suc (length cs)) (λ e. omega (arith, kinds-most cs)))

pub length-changes : (ws : List ℕ) → length (changes_in ws) ≡ length ws / 3
length-changes ws = length_from ((length ws - 0) / 3) ws 0 ∙ omega arith

-- The strings block that a reader writes holds each different property name once, in order of first use.
use mathlib.Core.Path.{◌≡◌, refl, ap, sym, ◌∙◌}
use mathlib.Core.List.{List, [], ◌∷◌, ◌++◌, append_assoc, append-nil}
use mathlib.Core.Bool.{Bool, true, false, false≢true}
use mathlib.Core.Logic.{⊎_elim}
use Prim.Native.Nat.{ℕ, zero, suc, ◌+◌, ◌-◌, ◌<◌, ◌≤◌}
use native.Mathlib.Omega.{arith}
use lib.ListN.{length, get_or, length-append, get_or-append}
use lib.Seq.{get_or-append-add, get_or-append_seam}
use lib.Dec.{leb, ltb}
use borrow.Author.Tests.{eqb-true, leb-true, leb-false, ltb-true, ltb-false, lt-ltb, le-ltb, ne_eqb}
use Rattle.words.specs.Pick.{pick}
use Rattle.words.proofs.Pick.{pick-cases, pick_yes, pick-and, pick-either}
use Rattle.devtree.specs.Tree.{Event, begin, prop, end, flatten, tree}
use Rattle.devtree.specs.Check.{passes}
use Rattle.same_trees.specs.Same.{same_bytes}
use Rattle.same_trees.proofs.Same.{bytes-equal, bytes-self}
use Rattle.emits.specs.Good.{AllGood}
use Rattle.name_places.specs.Names.{starts, stands_at, name_here, place_of, new_name}
use Rattle.name_places.proofs.Stored.{place-holds, place-least, stands-within, stands-part, name-reads}
use Rattle.rebuild.specs.Rebuild.{strings_of, strings_for}
use Rattle.rebuild.specs.Names.{prop_names, one_of, firsts_after, firsts, with_nul, joined}
use Rattle.rebuild.proofs.Blocks.{holds-between, name-held, NoNul, clean, tree-good}

-- ---- names without a NUL

abbrev AllNoNul : List (List ℕ) → Type 0
AllNoNul [] = Unit
AllNoNul (name ∷ names) = NoNul name × AllNoNul names

all_snoc : (names : List (List ℕ)) (name : List ℕ) → AllNoNul names → NoNul name → AllNoNul (names ++ (name ∷ []))
all_snoc [] name a n = (n, tt)
all_snoc (other ∷ names) name a n = (a.0, all_snoc names name a.1 n)

-- ---- the place of a name

-- past the bytes `pre`
stands-past : (name pre used : List ℕ) (q : ℕ) → stands_at name (pre ++ used) (length pre + q) ≡ stands_at name used q
unfolding stands_at
stands-past [] pre used q = rw (get_or-append-add pre used q 0, length-append pre used, below (ltb q (length used)) refl)
  where
    below : (b : Bool) → ltb q (length used) ≡ b → ltb (length pre + q) (length pre + length used) ≡ b
    below true e = lt-ltb (length pre + q) (length pre + length used) (omega (arith, ltb-true q (length used) e))
    below false e = le-ltb (length pre + q) (length pre + length used) (omega (arith, ltb-false q (length used) e))
stands-past (b ∷ bs) pre used q =
    let up : length pre + q + 1 ≡ length pre + (q + 1) = omega arith in
    rw (get_or-append-add pre used q 0, up, stands-past bs pre used (q + 1))

-- past a name and its NUL
starts-past : (n used : List ℕ) (q : ℕ) → starts (with_nul n ++ used) (length (with_nul n) + q) ≡ starts used q
unfolding starts pick
starts-past n used zero =
    let long = length-append n (0 ∷ []) in
    let back : length (with_nul n) + 0 - 1 ≡ length n = omega arith in
    rw (ne_eqb (length (with_nul n) + 0) 0 (omega arith), back, append_assoc n (0 ∷ []) used, get_or-append_seam n 0 used 0)
starts-past n used (suc q) =
    let long = length-append n (0 ∷ []) in
    let back : length (with_nul n) + suc q - 1 ≡ length (with_nul n) + q = omega arith in
    let less : suc q - 1 ≡ q = omega arith in
    rw (ne_eqb (length (with_nul n) + suc q) 0 (omega arith), back, get_or-append-add (with_nul n) used q 0, ne_eqb (suc q) 0 (omega arith), less)

here-past : (name n used : List ℕ) (q : ℕ) → name_here name (with_nul n ++ used) (length (with_nul n) + q) ≡ name_here name used q
unfolding name_here
here-past name n used q = rw (starts-past n used q, stands-past name (with_nul n) used q)

-- names that stand at one place are the same
stands_same : (name n used : List ℕ) (p : ℕ) → NoNul name → NoNul n → stands_at name used p ≡ true → stands_at n used p ≡ true → name ≡ n
stands_same name n used p f g a b =
    let k : ℕ = length name + length n in
    let same : length name ≡ length n = sym (name-reads k name used p (clean name f) (omega arith) a) ∙ name-reads k n used p (clean n g) (omega arith) b in
    sym (stands-part name used p a) ∙ rw same (stands-part n used p b)

stands-first : (name rest : List ℕ) → stands_at name (with_nul name ++ rest) 0 ≡ true
stands-first name rest = name-held (with_nul name ++ rest) 0 name (holds-between [] (with_nul name) rest)

-- ---- the names that are known stand in the block, and no others

here-first : (name rest : List ℕ) → name_here name (with_nul name ++ rest) 0 ≡ true
unfolding name_here starts pick
here-first name rest = stands-first name rest

known-here : (name : List ℕ) (known : List (List ℕ)) → one_of name known ≡ true → (p : ℕ) × (name_here name (joined known) p ≡ true)
unfolding one_of joined
known-here name [] e = absurd (false≢true e)
known-here name (n ∷ ns) e =
    let more = known-here name ns in
    ⊎_elim (λ w. (0, rw (← bytes-equal name n w.0) (here-first name (joined ns))))
    (λ w. let r = more w.1 in (length (with_nul n) + r.0, here-past name n (joined ns) r.0 ∙ r.1))
    (pick-either (same_bytes name n) true (one_of name ns) e)

-- no name starts within another
inside-none : (n rest : List ℕ) (p : ℕ) → NoNul n → suc p ≤ length n → starts (with_nul n ++ rest) (suc p) ≡ true → ⊥
unfolding starts pick
inside-none n rest p f h e =
    let less : suc p - 1 ≡ p = omega arith in
    let byte : get_or (with_nul n ++ rest) p 0 ≡ get_or n p 0 = rw (append_assoc n (0 ∷ []) rest) (get_or-append n (0 ∷ rest) 0 p h) in
    f p h (eqb-true _ _ (rw (ne_eqb (suc p) 0 (omega arith), less, byte) at e))

here-known : (name : List ℕ) (known : List (List ℕ)) (p : ℕ) → NoNul name → AllNoNul known → name_here name (joined known) p ≡ true → one_of name known ≡ true
unfolding one_of joined name_here
here-known name [] p f a e = let l = stands-within name [] p (pick-and _ _ e).1 in absurd (omega arith)
here-known name (n ∷ ns) zero f a e =
    let same : name ≡ n = stands_same name n (with_nul n ++ joined ns) 0 f a.0 (pick-and _ _ e).1 (stands-first n (joined ns)) in
    pick_yes _ _ _ (rw (← same) (bytes-self name))
here-known name (n ∷ ns) (suc p) f a e =
    by-test (leb (suc p) (length n)) refl (here-known name ns (suc p - length (with_nul n)) f a.1)
  where
    by-test : (b : Bool) → leb (suc p) (length n) ≡ b → (name_here name (joined ns) (suc p - length (with_nul n)) ≡ true → one_of name ns ≡ true) → pick (same_bytes name n) true (one_of name ns) ≡ true
    by-test true t more = absurd (inside-none n (joined ns) p a.0 (leb-true _ _ t) (pick-and _ _ e).0)
    by-test false t more =
        let q : ℕ = suc p - length (with_nul n) in
        let past = leb-false (suc p) (length n) t in
        let there : length (with_nul n) + q ≡ suc p = omega (arith, length-append n (0 ∷ [])) in
        pick-cases (λ x. x ≡ true) (same_bytes name n) _ _ (λ s. refl)
        (λ s. more (sym (here-past name n (joined ns) q) ∙ (rw there e)))

-- the place of a name is below the end of the block just where the name is known
place-known : (name : List ℕ) (known : List (List ℕ)) → NoNul name → AllNoNul known → ltb (place_of name (joined known)) (length (joined known)) ≡ one_of name known
unfolding name_here
place-known name known f a = by-test (one_of name known) refl
  where
    by-test : (b : Bool) → one_of name known ≡ b → ltb (place_of name (joined known)) (length (joined known)) ≡ b
    by-test true e =
        let r = known-here name known e in
        let l = stands-within name (joined known) r.0 (pick-and _ _ r.1).1 in
        let below : place_of name (joined known) < length (joined known) = omega (arith, place-least name (joined known) r.0 r.1) in
        lt-ltb _ _ below
    by-test false e =
        let never : place_of name (joined known) < length (joined known) → ⊥ = λ l. false≢true (sym e ∙ here-known name known _ f a (place-holds name (joined known) l)) in
        let past : length (joined known) ≤ place_of name (joined known) = omega arith in
        le-ltb _ _ past

-- ---- the block

joined_snoc : (names : List (List ℕ)) (name : List ℕ) → joined (names ++ (name ∷ [])) ≡ joined names ++ with_nul name
unfolding joined
joined_snoc [] name = append-nil (with_nul name)
joined_snoc (n ∷ ns) name = rw (joined_snoc ns name) (sym (append_assoc (with_nul n) (joined ns) (with_nul name)))

-- a property whose name is known, or not
once-prop : (b : Bool) (known : List (List ℕ)) (name : List ℕ) (es : List Event)
    → strings_of (joined known) es ≡ joined (firsts_after known (prop_names es))
    → strings_of (joined (known ++ (name ∷ []))) es ≡ joined (firsts_after (known ++ (name ∷ [])) (prop_names es))
    → pick b [] (with_nul name) ++ strings_of (joined known ++ pick b [] (with_nul name)) es
    ≡ joined (pick b (firsts_after known (prop_names es)) (name ∷ firsts_after (known ++ (name ∷ [])) (prop_names es)))
unfolding pick joined
once-prop true known name es old new = rw (append-nil (joined known)) old
once-prop false known name es old new = rw (← joined_snoc known name) (ap (◌++◌ (with_nul name)) new)

once_after : (known : List (List ℕ)) (es : List Event) → AllNoNul known → AllGood es → strings_of (joined known) es ≡ joined (firsts_after known (prop_names es))
unfolding strings_of new_name prop_names firsts_after joined
once_after known [] a g = refl
once_after known (begin name ∷ es) a g = once_after known es a g.1
once_after known (prop name value ∷ es) a g =
    rw (place-known name known g.0.0.bytes a)
    (once-prop (one_of name known) known name es (once_after known es a g.1)
    (once_after (known ++ (name ∷ [])) es (all_snoc known name a g.0.0.bytes) g.1))
once_after known (end ∷ es) a g = once_after known es a g.1

-- the strings block of events with good names is their different property names in order of first use, each with a NUL
pub names-once : (es : List Event) → AllGood es → strings_of [] es ≡ joined (firsts (prop_names es))
unfolding joined
names-once es g = once_after [] es tt g

-- and so is the strings block that a reader writes for a tree that passes the check
pub tree-names-once : (s st : List ℕ) → passes s st ≡ true → strings_for (tree s st) ≡ joined (firsts (prop_names (flatten (tree s st))))
tree-names-once s st e = names-once (flatten (tree s st)) (tree-good s st e)

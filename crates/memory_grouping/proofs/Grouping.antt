-- Laws of old lists: neighbours, the first set of blocks, and the sets one after the other.
use mathlib.Core.Path.{◌≡◌, refl, ap, sym, ◌∙◌}
use mathlib.Core.Bool.{Bool, true, false}
use mathlib.Core.List.{List, [], ◌∷◌, ◌++◌}
use Prim.Native.Nat.{ℕ, zero, suc, ◌+◌, ◌-◌, ◌<◌, ◌≤◌}
use native.Mathlib.Omega.{arith}
use lib.Dec.{eqb}
use lib.ListN.{length, get_or, drop, length-append, get_or-append}
use lib.Seq.{drop-append_seam}
use denote.Param.Members.{Mut}
use denote.Ref.{Bor}
use borrow.Author.Tests.{eq-eqb, ne_eqb, eqb-true, eqb-false}
use Rattle.std.specs.Prelude.{Option, Some, None}
use Rattle.std.specs.Option.{SomeIff, option_eq}
use Rattle.std.specs.List.{IsChunkByPrefix}
use Rattle.std.specs.Fn.{ComputesOnPairs}
use Rattle.std.specs.declared.slice.ChunkBy.{ChunkBy}
use Rattle.std.specs.Slice.Iter.{chunk_by_rest, chunk_by_callee, chunk_by_steps}
use Rattle.std.proofs.lemmas.Iterator.{YieldsList}
use Rattle.std.proofs.lemmas.Iterator.Splits.{YieldsList-from_shown_while}
use Rattle.std.proofs.lemmas.List.{nil_from_length, length-map}
use Rattle.words.specs.Pick.{every}
use Rattle.words.proofs.Pick.{pick_yes, pick_no, pick_same}
use Rattle.memory_lists.specs.declared.Block.{Block}
use Rattle.memory_lists.specs.declared.BlockSet.{BlockSet}
use Rattle.memory_lists.specs.Blocks.{block_set, neighbours, grouped}
use Rattle.memory_lists.specs.Lists.{block_at}
use Rattle.memory_lists.proofs.Blocks.{group-one, group-on, group-off, grouped-few}
use Rattle.memory_grouping.specs.Grouping.{blocks_of}

-- ---- neighbours

-- a sum that leaves its width is no number
pub sum_is : (r : Option ℕ) (n y : ℕ) {top : ℕ} → SomeIff r (n < top) n → y < top → option_eq eqb r (Some y) ≡ eqb y n
sum_is None n y h l = sym (ne_eqb y n (λ e. h (omega (arith, e))))
sum_is (Some x) n y h l = test (eqb x y) refl
  where
    test : (t : Bool) → eqb x y ≡ t → t ≡ eqb y n
    test true e = sym (eq-eqb y n (omega (arith, eqb-true x y e, h.1)))
    test false e = sym (ne_eqb y n (λ f. eqb-false x y e (omega (arith, f, h.1))))

module _ (size : ℕ) (a b : Block) where
  module _ {r : Bool} (address : r ≡ eqb b.address (a.address + size)) where
    pub address-off : r ≡ false → false ≡ neighbours size a b
    unfolding neighbours every
    address-off e = sym (pick_no _ _ _ (sym address ∙ e))

    module _ {s : Bool} (index : s ≡ eqb b.index (a.index + 1)) (e : r ≡ true) where
      pub index-off : s ≡ false → false ≡ neighbours size a b
      unfolding neighbours every
      index-off f = sym (pick_yes _ _ _ (sym address ∙ e) ∙ pick_no _ _ _ (sym index ∙ f))

      module _ (f : s ≡ true) where
        pub associativity-off : eqb b.associativity a.associativity ≡ false → false ≡ neighbours size a b
        unfolding neighbours every
        associativity-off g = sym (pick_yes _ _ _ (sym address ∙ e) ∙ pick_yes _ _ _ (sym index ∙ f) ∙ pick_no _ _ _ g)

        pub alike : eqb b.associativity a.associativity ≡ true → eqb b.flags a.flags ≡ neighbours size a b
        unfolding neighbours every
        alike g = sym (pick_yes _ _ _ (sym address ∙ e) ∙ pick_yes _ _ _ (sym index ∙ f) ∙ pick_yes _ _ _ g ∙ pick_same _)

-- ---- the sets of entries

module _ (size : ℕ) where
  abbrev pub goes_on : List ℕ → List ℕ → Bool
  goes_on x y = neighbours size (block_at x 0) (block_at y 0)

  abbrev pub first_block : List (List ℕ) → Block
  first_block es = block_at (get_or es 0 []) 0

  -- there are no more than blocks
  pub sets_few : (es : List (List ℕ)) {n : ℕ} → n ≡ length (grouped size (blocks_of es)) → length es ≤ 1024 → n ≤ 1024
  sets_few es e m = omega (arith, grouped-few size (blocks_of es), length-map es (λ (x : List ℕ). block_at x 0))

  -- the longest front in which each block goes with the next one is the first set
  pub first_set : (n : ℕ) (es : List (List ℕ)) → 0 < n → n ≤ length es → IsChunkByPrefix goes_on es n
      → grouped size (blocks_of es) ≡ block_set n (first_block es) ∷ grouped size (blocks_of (drop n es))
  unfolding grouped
  first_set zero es h l p = absurd (omega arith)
  first_set (suc n) [] h l p = absurd (omega arith)
  first_set (suc zero) (e ∷ []) h l p = group-one size (block_at e 0)
  first_set (suc zero) (e ∷ f ∷ es) h l p = group-off size (block_at e 0) (block_at f 0) (blocks_of es) (p.1 (omega arith) [])
  first_set (suc (suc n)) (e ∷ []) h l p = absurd (omega arith)
  first_set (suc (suc n)) (e ∷ f ∷ es) h l p =
      let last : suc (suc n) - 1 ≡ suc (suc n - 1) = omega arith in
      let others = first_set (suc n) (f ∷ es) (omega arith) (omega arith) (λ k d m. let next : suc k + 1 ≡ suc (k + 1) = omega arith in rw next at (p.0 (suc k) d (omega arith)), λ m d. rw last at (p.1 (omega arith) d)) in
      group-on size (block_at e 0) (block_at f 0) (blocks_of es) (p.0 0 [] (omega arith)) (record { count = n; others = grouped size (blocks_of (drop (suc n) (f ∷ es))); first = others })

  abbrev pub set_from : Bor (List (List ℕ)) → BlockSet
  set_from run = block_set (length run.now) (first_block run.now)

  -- before what is behind it
  front : (run es : List (List ℕ)) → 0 < length run → IsChunkByPrefix goes_on (run ++ es) (length run)
      → grouped size (blocks_of (run ++ es)) ≡ block_set (length run) (first_block run) ∷ grouped size (blocks_of es)
  front run es h p =
      let first : get_or (run ++ es) 0 [] ≡ get_or run 0 [] = get_or-append run es [] 0 h in
      first_set (length run) (run ++ es) h (omega (arith, length-append run es)) p ∙ rw (first, drop-append_seam run es)

  -- so `chunk_by` gives the sets
  module _ {F : Type 0} (g : Mut F (Bor (List ℕ) × (Bor (List ℕ) × Unit {0})) Bool) where
    pub sets_yielded : {s : ChunkBy (List ℕ) F} (es : List (List ℕ)) → chunk_by_rest s ≡ es → ComputesOnPairs g goes_on (chunk_by_callee s) → YieldsList (chunk_by_steps g) set_from s (grouped size (blocks_of es))
    unfolding grouped
    sets_yielded {s} es e h =
        rw (← e) (YieldsList-from_shown_while (chunk_by_steps g) set_from left (λ t. ComputesOnPairs g goes_on (chunk_by_callee t)) none some s h)
      where
        left : ChunkBy (List ℕ) F → List BlockSet
        left t = grouped size (blocks_of (chunk_by_rest t))

        none : (t u : ChunkBy (List ℕ) F) → ComputesOnPairs g goes_on (chunk_by_callee t) → chunk_by_steps g t None u → length (left t) ≡ 0
        none t u k n = ap (λ bs. length (grouped size (blocks_of bs))) (nil_from_length _ n.0)

        some : (t : ChunkBy (List ℕ) F) (run : Bor (List (List ℕ))) (u : ChunkBy (List ℕ) F) → ComputesOnPairs g goes_on (chunk_by_callee t) → chunk_by_steps g t (Some run) u
            → ComputesOnPairs g goes_on (chunk_by_callee u) × (left t ≡ set_from run ∷ left u)
        some t run u k n =
            let next = n.2 goes_on k in
            (next.0, ap (λ bs. grouped size (blocks_of bs)) n.0 ∙ front run.now (chunk_by_rest u) n.1 (rw n.0 at next.1))

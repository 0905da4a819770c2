-- Laws of new lists: the blocks of a set, which of them leave their width, how many there are, and those of one set after the other.
use mathlib.Core.Path.{◌≡◌, refl, ap, sym, ◌∙◌}
use mathlib.Core.Bool.{Bool, true, false, false≢true}
use mathlib.Core.List.{List, [], ◌∷◌, ◌++◌, flat_map}
use Prim.Native.Nat.{ℕ, zero, suc, ◌+◌, ◌-◌, ◌*◌, ◌/◌, ◌<◌, ◌≤◌}
use native.Mathlib.Omega.{arith}
use native.Mathlib.Nat.{suc-mul, div-lt_iff_lt-mul}
use lib.Dec.{leb, ltb}
use mathlib.Core.Logic.{inl, inr}
use Rattle.std.specs.Prelude.{Option, Some, None, MatchOption, is_some, not, ◌||◌}
use Rattle.std.specs.List.{list_any, sum_by}
use Rattle.std.proofs.lemmas.List.Sums.{sum_by-cons}
use lib.ListN.{length, get_or, length-append}
use borrow.Author.Tests.{le-leb, lt-leb, leb-true, leb-false, ltb-true, ltb-false}
use Rattle.words.specs.Pick.{pick, any}
use Rattle.words.proofs.Pick.{pick-cases, pick-either, pick_yes, pick_no, pick-neither}
use Rattle.words.specs.Bytes.{word_at}
use Rattle.buffer.specs.Put.{put}
use Rattle.memory_lists.specs.declared.Block.{Block}
use Rattle.memory_lists.specs.declared.BlockSet.{BlockSet}
use Rattle.memory_lists.specs.Blocks.{next_block, blocks_from, expanded}
use Rattle.memory_lists.specs.Lists.{block_bytes, set_at}
use Rattle.memory_lists.proofs.Blocks.{same_block}
use Rattle.memory_lists.proofs.Lists.{block-long, put_rest}
use Rattle.memory_expanding.specs.Expanding.{sets_of, sum_of, leaves, block_after}

-- ---- the blocks of a set

module _ (size : ℕ) where
  pub blocks-long : (n : ℕ) (b : Block) → length (blocks_from size n b) ≡ n
  unfolding blocks_from
  blocks-long zero b = refl
  blocks-long (suc n) b = ap suc (blocks-long n (next_block size b))

-- ---- which blocks leave their width

pub stays : (b : Block) → b.address < 18446744073709551616 → b.index < 4294967296 → leaves b ≡ false
stays b h l = pick_no _ _ _ (lt-leb _ _ h) ∙ lt-leb _ _ l

pub within : (b : Block) → leaves b ≡ false → (b.address < 18446744073709551616) × (b.index < 4294967296)
within b e =
    let p = pick-neither (leb 18446744073709551616 b.address) (leb 4294967296 b.index) e in
    (leb-false 18446744073709551616 b.address p.0, leb-false 4294967296 b.index p.1)

pub far : (b : Block) → 18446744073709551616 ≤ b.address → leaves b ≡ true
far b h = pick_yes _ _ _ (le-leb _ _ h)

pub high : (b : Block) → 4294967296 ≤ b.index → leaves b ≡ true
high b h = pick-cases (λ (t : Bool). t ≡ true) (leb 18446744073709551616 b.address) true (leb 4294967296 b.index) (λ e. refl) (λ e. le-leb _ _ h)

-- one test of a list holds where it holds of a later one
later : {A : Type 0} (p : A → Bool) (x : A) (xs : List A) → any p xs ≡ true → any p (x ∷ xs) ≡ true
unfolding any
later p x xs e = pick-cases (λ (t : Bool). t ≡ true) (p x) true (any p xs) (λ f. refl) (λ f. e)

here : {A : Type 0} (p : A → Bool) (x : A) (xs : List A) → p x ≡ true → any p (x ∷ xs) ≡ true
unfolding any
here p x xs e = pick_yes _ _ _ e

neither : {A : Type 0} (p : A → Bool) (x : A) (xs : List A) → p x ≡ false → any p xs ≡ false → any p (x ∷ xs) ≡ false
unfolding any
neither p x xs e f = pick_no _ _ _ e ∙ f

-- of n blocks more after one, the last goes farthest
module _ (size : ℕ) where
  last-far : (n : ℕ) (b : Block) → 18446744073709551616 ≤ b.address + n * size → any leaves (blocks_from size (suc n) b) ≡ true
  unfolding blocks_from
  last-far zero b h = here leaves b [] (far b (omega arith))
  last-far (suc n) b h = later leaves b _ (last-far n (next_block size b) (omega (arith, suc-mul n size)))

  last-high : (n : ℕ) (b : Block) → 4294967296 ≤ b.index + n → any leaves (blocks_from size (suc n) b) ≡ true
  unfolding blocks_from
  last-high zero b h = here leaves b [] (high b (omega arith))
  last-high (suc n) b h = later leaves b _ (last-high n (next_block size b) (omega arith))

  all_stay : (n : ℕ) (b : Block) → b.address + n * size < 18446744073709551616 → b.index + n < 4294967296 → any leaves (blocks_from size (suc n) b) ≡ false
  unfolding blocks_from any
  all_stay zero b h l = neither leaves b [] (stays b (omega arith) (omega arith)) refl
  all_stay (suc n) b h l = neither leaves b (blocks_from size (suc n) (next_block size b)) (stays b (omega (arith, suc-mul n size)) (omega arith)) (all_stay n (next_block size b) (omega (arith, suc-mul n size)) (omega arith))

  leaving : (n : ℕ) (b : Block) → leaves (block_after size n b) ≡ true → any leaves (blocks_from size (suc n) b) ≡ true
  leaving n b e =
      elim (pick-either (leb 18446744073709551616 (b.address + n * size)) true (leb 4294967296 (b.index + n)) e) [
        | inl p ↦ last-far n b (leb-true 18446744073709551616 (b.address + n * size) p.0)
        | inr p ↦ last-high n b (leb-true 4294967296 (b.index + n) p.1)
      ]

  -- so one of them leaves where the last one does
  last_leaves : (n : ℕ) (b : Block) → any leaves (blocks_from size (suc n) b) ≡ leaves (block_after size n b)
  last_leaves n b = test (leaves (block_after size n b)) refl
    where
      test : (t : Bool) → leaves (block_after size n b) ≡ t → any leaves (blocks_from size (suc n) b) ≡ t
      test true e = leaving n b e
      test false e = let w = within (block_after size n b) e in all_stay n b w.0 w.1

  -- the last of as many blocks as a set has; of none the first one, which stays
  pub set_leaves : (n : ℕ) (b : Block) → b.address < 18446744073709551616 → b.index < 4294967296 → leaves (block_after size (n - 1) b) ≡ any leaves (blocks_from size n b)
  unfolding blocks_from any
  set_leaves zero b h l = stays (block_after size 0 b) (omega arith) (omega arith)
  set_leaves (suc n) b h l = let one : suc n - 1 ≡ n = omega arith in rw one (sym (last_leaves n b))

  -- each of n blocks
  pub block-at : (n i : ℕ) (b d : Block) → i < n → get_or (blocks_from size n b) i d ≡ block_after size i b
  unfolding blocks_from
  block-at zero i b d h = absurd (omega arith)
  block-at (suc n) zero b d h = same_block (omega arith) (omega arith) refl refl
  block-at (suc n) (suc i) b d h = block-at n i (next_block size b) d (omega arith) ∙ same_block (omega (arith, suc-mul i size)) (omega arith) refl refl

  pub each-stays : (n i : ℕ) (b : Block) → i < n → any leaves (blocks_from size n b) ≡ false → leaves (block_after size i b) ≡ false
  unfolding blocks_from any
  each-stays zero i b h e = absurd (omega arith)
  each-stays (suc n) zero b h e =
      let same : block_after size 0 b ≡ b = same_block (omega arith) (omega arith) refl refl in
      ap leaves same ∙ (pick-neither (leaves b) _ e).0
  each-stays (suc n) (suc i) b h e =
      let next = next_block size b in
      let same : block_after size (suc i) b ≡ block_after size i next = same_block (omega (arith, suc-mul i size)) (omega arith) refl refl in
      ap leaves same ∙ each-stays n i next (omega arith) (pick-neither (leaves b) _ e).1

-- of as many blocks as a set has: what tests of the numbers that are left say of them
module _ (size : ℕ) where
  module _ (count : ℕ) (some : 0 < count) (b : Block) where
    counted : suc (count - 1) ≡ count
    counted = omega arith

    address-leaves : 18446744073709551616 ≤ b.address + (count - 1) * size → true ≡ any leaves (blocks_from size count b)
    address-leaves h = sym (rw counted at (last-far size (count - 1) b h))

    module _ (sized : 0 < size) where
      pub size-leaves : 18446744073709551615 / size < count - 1 → true ≡ any leaves (blocks_from size count b)
      size-leaves h = let l = (div-lt_iff_lt-mul {k = size} {x = 18446744073709551615} {y = count - 1} sized).0 h in address-leaves (omega (arith, l))

    pub sum-leaves : b.address < 18446744073709551616 → count - 1 ≤ 4294967295 - b.index → b.index < 4294967296 → ltb (18446744073709551615 - b.address) ((count - 1) * size) ≡ any leaves (blocks_from size count b)
    sum-leaves a i j = test (ltb (18446744073709551615 - b.address) ((count - 1) * size)) refl
      where
        test : (t : Bool) → ltb (18446744073709551615 - b.address) ((count - 1) * size) ≡ t → t ≡ any leaves (blocks_from size count b)
        test true e = address-leaves (omega (arith, ltb-true (18446744073709551615 - b.address) ((count - 1) * size) e))
        test false e =
            sym (rw counted at (all_stay size (count - 1) b (omega (arith, ltb-false (18446744073709551615 - b.address) ((count - 1) * size) e)) (omega arith)))

-- what a block that is there, or is not, says
module _ (r : Option Block) (b : Block) (h : MatchOption r (leaves b ≡ true) (λ x. (x ≡ b) × (leaves x ≡ false))) where
  pub some_after : leaves b ≡ false → r ≡ Some b
  some_after = of r h
    where
      of : (o : Option Block) → MatchOption o (leaves b ≡ true) (λ x. (x ≡ b) × (leaves x ≡ false)) → leaves b ≡ false → o ≡ Some b
      of None k e = absurd (false≢true (sym e ∙ k))
      of (Some x) k e = ap Some k.0

  pub none_after : (t : Bool) → is_some r ≡ not t → t ≡ leaves b
  none_after = of r h
    where
      of : (o : Option Block) → MatchOption o (leaves b ≡ true) (λ x. (x ≡ b) × (leaves x ≡ false)) → (t : Bool) → is_some o ≡ not t → t ≡ leaves b
      of None k true e = sym k
      of None k false e = absurd (false≢true e)
      of (Some x) k true e = absurd (false≢true (sym e))
      of (Some x) k false e = sym (ap leaves (sym k.0) ∙ k.1)

-- ---- one set after the other

any_append : {A : Type 0} (p : A → Bool) (xs ys : List A) → any p (xs ++ ys) ≡ pick (any p xs) true (any p ys)
unfolding any
any_append p [] ys = sym (pick_no _ _ _ refl)
any_append p (x ∷ xs) ys =
    pick-cases (λ (t : Bool). t ≡ pick (pick (p x) true (any p xs)) true (any p ys)) (p x) true (any p (xs ++ ys))
    (λ e. sym (pick_yes _ _ _ (pick_yes _ _ _ e)))
    (λ e. any_append p xs ys ∙ sym (ap (λ (t : Bool). pick t true (any p ys)) (pick_no _ _ _ e)))

pub expanded-long : (size : ℕ) (ss : List BlockSet) → length (expanded size ss) ≡ sum_of ss
unfolding expanded flat_map sum_of
expanded-long size [] = refl
expanded-long size (s ∷ ss) = omega (arith, length-append (blocks_from size s.count s.first) (expanded size ss), blocks-long size s.count s.first, expanded-long size ss)

-- how many blocks the sets have, as a sum of what is read
pub sum-counts : (es : List (List ℕ)) → sum_by (λ e. word_at e 0) es ≡ sum_of (sets_of es)
unfolding sum_of
sum-counts [] = refl
sum-counts (e ∷ es) = sum_by-cons (λ x. word_at x 0) e es ∙ ap (λ n. word_at e 0 + n) (sum-counts es)

-- a set's blocks, and those of the sets behind it
module _ (size : ℕ) (set : BlockSet) (sets : List BlockSet) where
  abbrev run : List Block
  run = blocks_from size set.count set.first

  pub expanded-one : expanded size (set ∷ sets) ≡ run ++ expanded size sets
  unfolding expanded flat_map
  expanded-one = refl

  pub leaves-one : any leaves (expanded size (set ∷ sets)) ≡ pick (any leaves run) true (any leaves (expanded size sets))
  leaves-one = ap (any leaves) expanded-one ∙ any_append leaves run (expanded size sets)

  pub none-leave : any leaves (expanded size (set ∷ sets)) ≡ false → (any leaves run ≡ false) × (any leaves (expanded size sets) ≡ false)
  none-leave e = pick-neither (any leaves run) (any leaves (expanded size sets)) (sym leaves-one ∙ e)

  -- its blocks are put, and then those of the others
  pub put-more : (out out' : List ℕ) (to : ℕ) → out' ≡ put out to (flat_map block_bytes run) → to + 24 * (set.count + sum_of sets) ≤ length out
      → put out' (to + 24 * set.count) (flat_map block_bytes (expanded size sets)) ≡ put out to (flat_map block_bytes (expanded size (set ∷ sets)))
  put-more out out' to e room =
      rw expanded-one
      (put_rest block_bytes block-long out out' to set.count run (expanded size sets) (sym (blocks-long size set.count set.first)) e
      (omega (arith, room, length-append run (expanded size sets), blocks-long size set.count set.first, expanded-long size sets)))

-- a set leaves where one of its blocks does
pub any_expanded : (size : ℕ) (es : List (List ℕ)) → list_any (λ e. any leaves (blocks_from size (set_at e 0).count (set_at e 0).first)) es ≡ any leaves (expanded size (sets_of es))
unfolding expanded any flat_map pick
any_expanded size [] = refl
any_expanded size (e ∷ es) =
    let set = set_at e 0 in
    ap (λ t. any leaves (blocks_from size set.count set.first) || t) (any_expanded size es) ∙ test (any leaves (blocks_from size set.count set.first)) (any leaves (expanded size (sets_of es))) ∙ sym (leaves-one size set (sets_of es))
  where
    test : (t u : Bool) → (t || u) ≡ pick t true u
    test true u = refl
    test false u = refl

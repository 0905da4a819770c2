-- Blocks grouped and expanded again, and sets expanded and grouped again.
use mathlib.Core.Path.{◌≡◌, refl, ap, sym, ◌∙◌}
use mathlib.Core.Bool.{false}
use mathlib.Core.List.{List, [], ◌∷◌, ◌++◌, flat_map}
use Prim.Native.Nat.{ℕ, zero, suc, ◌+◌, ◌≤◌}
use native.Mathlib.Omega.{arith}
use lib.ListN.{length}
use borrow.Author.Tests.{ne_eqb}
use Rattle.words.specs.Pick.{any}
use Rattle.words.proofs.Pick.{pick-cases, pick_yes, pick_no, pick-neither}
use Rattle.memory_lists.specs.declared.Block.{Block}
use Rattle.memory_lists.specs.declared.BlockSet.{BlockSet}
use Rattle.memory_lists.specs.Blocks.{next_block, neighbours, with_block, grouped, blocks_from, expanded}
use Rattle.memory_lists.proofs.Blocks.{neighbour-next, next-neighbour, group-count, joined-few}
use Rattle.memory_expanding.specs.Expanding.{is_empty}
use Rattle.memory_trip.specs.Trip.{NoShorter}

module _ (size : ℕ) where
  -- ---- grouped blocks expand to what they were

  joined-expands : (b : Block) (ss : List BlockSet) → expanded size (with_block size b ss) ≡ b ∷ expanded size ss
  unfolding with_block expanded flat_map blocks_from
  joined-expands b [] = refl
  joined-expands b (s ∷ ss) =
      pick-cases (λ (ts : List BlockSet). expanded size ts ≡ b ∷ (blocks_from size s.count s.first ++ expanded size ss)) (neighbours size b s.first) _ _
      (λ e. ap (λ (f : Block). b ∷ (blocks_from size s.count f ++ expanded size ss)) (sym (neighbour-next size b s.first e)))
      (λ e. refl)

  pub grouped-expands : (bs : List Block) → expanded size (grouped size bs) ≡ bs
  unfolding grouped expanded flat_map
  grouped-expands [] = refl
  grouped-expands (b ∷ bs) = joined-expands b (grouped size bs) ∙ ap (λ (cs : List Block). b ∷ cs) (grouped-expands bs)

  -- ---- no set is empty

  joined-full : (b : Block) (ss : List BlockSet) → any is_empty ss ≡ false → any is_empty (with_block size b ss) ≡ false
  unfolding with_block any
  joined-full b [] h = pick_no _ _ _ (ne_eqb 1 0 (λ e. omega arith))
  joined-full b (s ∷ ss) h =
      pick-cases (λ (ts : List BlockSet). any is_empty ts ≡ false) (neighbours size b s.first) _ _
      (λ e. pick_no _ _ _ (ne_eqb (suc s.count) 0 (λ z. omega arith)) ∙ (pick-neither (is_empty s) (any is_empty ss) h).1)
      (λ e. pick_no _ _ _ (ne_eqb 1 0 (λ z. omega arith)) ∙ h)

  pub grouped-full : (bs : List Block) → any is_empty (grouped size bs) ≡ false
  unfolding grouped any
  grouped-full [] = refl
  grouped-full (b ∷ bs) = joined-full b (grouped size bs) (grouped-full bs)

  -- ---- the blocks of a set are grouped into one set, or join another one

  run-few : (n : ℕ) (b : Block) (bs : List Block) → length (grouped size (blocks_from size n b ++ bs)) ≤ suc (length (grouped size bs))
  unfolding blocks_from grouped
  run-few zero b bs = omega arith
  run-few (suc zero) b bs = joined-few size b (grouped size bs)
  run-few (suc (suc n)) b bs =
      let next = next_block size b in
      let same = group-count size b next (blocks_from size n (next_block size next) ++ bs) in
      omega (arith, same ∙ ap (λ (k : ℕ). k + length (grouped size (blocks_from size (suc n) next ++ bs))) (pick_yes _ 0 1 (next-neighbour size b)), run-few (suc n) next bs)

  pub expanded-few : (ss : List BlockSet) → length (grouped size (expanded size ss)) ≤ length ss
  unfolding expanded flat_map grouped
  expanded-few [] = omega arith
  expanded-few (s ∷ ss) = omega (arith, run-few s.count s.first (expanded size ss), expanded-few ss)

pub no-shorter : NoShorter
no-shorter size bs = record { expands = grouped-expands size bs; least = λ ss e. rw (← e) (expanded-few size ss) }

-- Laws of neighbours, grouped and expanded blocks.
use mathlib.Core.Path.{◌≡◌, refl, ap, sym, ◌∙◌}
use mathlib.Core.Bool.{true, false}
use mathlib.Core.List.{List, [], ◌∷◌}
use Prim.Native.Nat.{ℕ, suc, ◌+◌, ◌≤◌}
use native.Mathlib.Omega.{arith}
use lib.ListN.{length}
use borrow.Author.Tests.{eqb-true, eq-eqb}
use Rattle.words.specs.Pick.{pick}
use Rattle.words.proofs.Pick.{pick-cases, pick_yes, pick_no, every-each, each-every}
use Rattle.memory_lists.specs.declared.Block.{Block}
use Rattle.memory_lists.specs.declared.BlockSet.{BlockSet}
use Rattle.memory_lists.specs.Blocks.{block_of, block_set, next_block, neighbours, with_block, grouped}

pub same_block : {u u' v v' w w' x x' : ℕ} → u ≡ u' → v ≡ v' → w ≡ w' → x ≡ x' → block_of u v w x ≡ block_of u' v' w' x'
same_block e f g h = rw (e, f, g, h)

module _ (size : ℕ) where
  -- a neighbour is the next block, and the next block a neighbour
  pub neighbour-next : (a b : Block) → neighbours size a b ≡ true → b ≡ next_block size a
  unfolding neighbours
  neighbour-next a b e =
      let t = every-each _ e in
      same_block (eqb-true _ _ t.0) (eqb-true _ _ t.1.0) (eqb-true _ _ t.1.1.0) (eqb-true _ _ t.1.1.1.0)

  pub next-neighbour : (a : Block) → neighbours size a (next_block size a) ≡ true
  unfolding neighbours
  next-neighbour a = each-every _ (eq-eqb (a.address + size) _ refl, (eq-eqb (a.index + 1) _ refl, (eq-eqb a.associativity _ refl, (eq-eqb a.flags _ refl, tt))))

  -- ---- the first set begins with the first block

  pub record Starts (b : Block) (ss : List BlockSet) : Type 0 where
    pub count : ℕ
    pub others : List BlockSet
    pub first : ss ≡ block_set (suc count) b ∷ others

  joined-starts : (b : Block) (ss : List BlockSet) → Starts b (with_block size b ss)
  unfolding with_block
  joined-starts b [] = record { count = 0; others = []; first = refl }
  joined-starts b (s ∷ ss) =
      pick-cases (Starts b) (neighbours size b s.first) (block_set (suc s.count) b ∷ ss) (block_set 1 b ∷ s ∷ ss)
      (λ e. record { count = s.count; others = ss; first = refl })
      (λ e. record { count = 0; others = s ∷ ss; first = refl })

  pub grouped-starts : (b : Block) (bs : List Block) → Starts b (grouped size (b ∷ bs))
  unfolding grouped
  grouped-starts b bs = joined-starts b (grouped size bs)

  -- ---- a block before others

  pub group-one : (b : Block) → grouped size (b ∷ []) ≡ block_set 1 b ∷ []
  unfolding grouped with_block
  group-one b = refl

  module _ (a b : Block) (bs : List Block) where
    -- it joins the first set
    pub group-on : neighbours size a b ≡ true → (s : Starts b (grouped size (b ∷ bs))) → grouped size (a ∷ b ∷ bs) ≡ block_set (suc (suc s.count)) a ∷ s.others
    unfolding grouped with_block
    group-on e s = ap (with_block size a) s.first ∙ pick_yes _ _ _ e

    -- or is a set of its own
    pub group-off : neighbours size a b ≡ false → grouped size (a ∷ b ∷ bs) ≡ block_set 1 a ∷ grouped size (b ∷ bs)
    unfolding grouped with_block
    group-off e = let s = grouped-starts b bs in ap (with_block size a) s.first ∙ pick_no _ _ _ e ∙ ap (λ (ss : List BlockSet). block_set 1 a ∷ ss) (sym s.first)

    pub group-count : length (grouped size (a ∷ b ∷ bs)) ≡ pick (neighbours size a b) 0 1 + length (grouped size (b ∷ bs))
    group-count =
        pick-cases (λ (n : ℕ). length (grouped size (a ∷ b ∷ bs)) ≡ n + length (grouped size (b ∷ bs))) (neighbours size a b) 0 1
        (λ e. let s = grouped-starts b bs in omega (arith, ap length (group-on e s), ap length s.first))
        (λ e. omega (arith, ap length (group-off e)))

  -- there are no more sets than blocks
  pub joined-few : (b : Block) (ss : List BlockSet) → length (with_block size b ss) ≤ suc (length ss)
  unfolding with_block
  joined-few b [] = omega arith
  joined-few b (s ∷ ss) = pick-cases (λ (ts : List BlockSet). length ts ≤ suc (suc (length ss))) (neighbours size b s.first) _ _ (λ e. omega arith) (λ e. omega arith)

  pub grouped-few : (bs : List Block) → length (grouped size bs) ≤ length bs
  unfolding grouped
  grouped-few [] = omega arith
  grouped-few (b ∷ bs) = omega (arith, joined-few b (grouped size bs), grouped-few bs)

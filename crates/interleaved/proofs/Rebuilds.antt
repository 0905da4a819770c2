-- Demand 2 at the table: with any other calls between, a new reader rebuilds the tree, without the nodes that were left out.
use mathlib.Core.Path.{◌≡◌, refl, subst, sym}
use mathlib.Core.Bool.{Bool, true, false}
use native.Mathlib.Omega.{arith}
use mathlib.Core.List.{List, [], append-nil}
use Prim.Native.Nat.{ℕ, ◌+◌, ◌*◌, ◌≤◌}
use lib.ListN.{length}
use Rattle.devtree.specs.Tree.{tree}
use Rattle.connector.specs.declared.Connector.{Connector}
use Rattle.sent_trees.specs.Trees.{AllAre, sent_tree, owned_tree}
use Rattle.table.specs.Model.{table_of}
use Rattle.history.specs.Calls.{Call}
use Rattle.emits.specs.Run.{Reply, Lent, areas_of, unowned_of, when_taken, replies, asks, count, until_zero}
use Rattle.emits.specs.Emits.{nodes, properties, WalkLength}
use Rattle.emits.proofs.Emits.{walk-length, zero-reached}
use Rattle.emits.proofs.Owned.{owned-length}
use Rattle.replies.specs.Replies.{new_reader}
use Rattle.rebuild.specs.Rebuild.{WholeWalk, read_all, Room, Rebuilt}
use Rattle.rebuild.proofs.Rebuilds.{rebuilds, rebuilds-owned}
use Rattle.interleaved.specs.Between.{at_k, replies_at, lent_at, sent_at, WalkBetween, formed_calls}
use Rattle.interleaved.proofs.Between.{Walks, walk-between}

module _ (t : List ℕ) (p k : ℕ) (s st : List ℕ) (cs : List Call) (b : WalkBetween t p k s st cs) where
  abbrev c : Connector
  c = at_k k (table_of t)

  abbrev ls : List Lent
  ls = lent_at p k t cs

  between : Walks p k s st c t cs
  between = walk-between t b.words p k b.starting s st b.checked cs b.walking

  -- what holds of the replies of the record's walk alone holds of those at the table
  at_table : (P : List Reply → Type 0) → P (replies s st c ls) → P (replies_at p k t cs)
  at_table P = subst P (sym between.same)

  -- the length of the walk
  pub length-between : WalkLength (sent_at p k s st t cs) (areas_of ls) (replies_at p k t cs)
  length-between =
      at_table (λ ys. WalkLength (sent_tree (when_taken ls ys) (tree s st)) (areas_of ls) ys)
      (subst (λ us. WalkLength (sent_tree us (tree s st)) (areas_of ls) (replies s st c ls)) (append-nil (when_taken ls (replies s st c ls)))
      (walk-length s st b.checked c b.starting.state b.starting.walk ls between.right []))

  -- the 0 comes, where so many calls of the right form are enough
  comes : (n : ℕ) → (n + count asks (replies_at p k t cs) ≤ length (areas_of ls) → until_zero (replies_at p k t cs) ≡ true) → n + count asks (replies_at p k t cs) ≤ formed_calls p k s st t cs → until_zero (replies_at p k t cs) ≡ true
  comes n reached l = go (until_zero (replies_at p k t cs)) refl (λ z. reached (omega (arith, between.calls z)))
    where
      go : (b : Bool) → until_zero (replies_at p k t cs) ≡ b → (until_zero (replies_at p k t cs) ≡ false → until_zero (replies_at p k t cs) ≡ true) → until_zero (replies_at p k t cs) ≡ true
      go true e f = e
      go false e f = f e

  -- with as many well-formed calls as the tree has tokens, and one more for each 5
  pub zero-comes : 2 * nodes (tree s st) + properties (tree s st) + count asks (replies_at p k t cs) ≤ formed_calls p k s st t cs → until_zero (replies_at p k t cs) ≡ true
  zero-comes =
      comes (2 * nodes (tree s st) + properties (tree s st))
      (at_table (λ ys. 2 * nodes (tree s st) + properties (tree s st) + count asks ys ≤ length (areas_of ls) → until_zero ys ≡ true)
      (zero-reached s st b.checked c b.starting.state b.starting.walk ls between.right))

  -- and with as many as what is sent has
  pub sent-zero-comes : let x = sent_at p k s st t cs in 2 * nodes x + properties x + count asks (replies_at p k t cs) ≤ formed_calls p k s st t cs → until_zero (replies_at p k t cs) ≡ true
  sent-zero-comes = let x = sent_at p k s st t cs in comes (2 * nodes x + properties x) length-between.reached

  -- the walk to the 0 is a whole walk of the record
  whole : until_zero (replies_at p k t cs) ≡ true → WholeWalk s st c ls
  whole zero = record { checked = b.checked; unisolated = b.starting.state; starts = b.starting.walk; form = between.right; zero = subst (λ ys. until_zero ys ≡ true) between.same zero }

  -- and then the tree is rebuilt
  pub rebuilds-between : until_zero (replies_at p k t cs) ≡ true → (s0 st0 : List ℕ) → Room (sent_at p k s st t cs) (length s0) (length st0) → Rebuilt (sent_at p k s st t cs) s0 st0 (read_all new_reader (replies_at p k t cs) s0 st0)
  rebuilds-between zero s0 st0 =
      at_table (λ ys. let x = sent_tree (when_taken ls ys) (tree s st) in Room x (length s0) (length st0) → Rebuilt x s0 st0 (read_all new_reader ys s0 st0))
      (rebuilds s st c ls (whole zero) s0 st0)

  -- ---- where the same indexes were unowned at every call of the walk, those that u says
  module _ (u : ℕ → Bool) (same : AllAre u (unowned_of ls)) where
    pub owned-length-between : WalkLength (owned_tree u (tree s st)) (areas_of ls) (replies_at p k t cs)
    owned-length-between =
        at_table (WalkLength (owned_tree u (tree s st)) (areas_of ls)) (owned-length u s st b.checked c b.starting.state b.starting.walk ls between.right same)

    pub owned-zero-comes : let x = owned_tree u (tree s st) in 2 * nodes x + properties x + count asks (replies_at p k t cs) ≤ formed_calls p k s st t cs → until_zero (replies_at p k t cs) ≡ true
    owned-zero-comes = let x = owned_tree u (tree s st) in comes (2 * nodes x + properties x) owned-length-between.reached

    pub owned-between : until_zero (replies_at p k t cs) ≡ true → (s0 st0 : List ℕ) → let x = owned_tree u (tree s st) in Room x (length s0) (length st0) → Rebuilt x s0 st0 (read_all new_reader (replies_at p k t cs) s0 st0)
    owned-between zero s0 st0 =
        at_table (λ ys. let x = owned_tree u (tree s st) in Room x (length s0) (length st0) → Rebuilt x s0 st0 (read_all new_reader ys s0 st0))
        (rebuilds-owned s st c ls (whole zero) u same s0 st0)

-- Demand 2: a tree that passes the check, walked from the start to 0, is rebuilt by a new reader, without the nodes that were left out.
use mathlib.Core.Path.{◌≡◌, subst}
use mathlib.Core.List.{List, [], ◌++◌, append-nil}
use mathlib.Core.Bool.{Bool, true}
use Prim.Native.Nat.{ℕ, ◌≤◌}
use native.Mathlib.Omega.{arith}
use lib.ListN.{length, replicate}
use Rattle.devtree.specs.Tree.{Nodes, tree, flatten}
use Rattle.devtree.specs.Check.{passes}
use Rattle.devtree.proofs.Tree.{tree-flat}
use Rattle.connector.specs.declared.Connector.{Connector}
use Rattle.states.specs.declared.Page.TheVariants.{None}
use Rattle.sent_trees.specs.Trees.{AllAre, sent_tree, owned_tree}
use Rattle.sent_trees.specs.Cut.{cut}
use Rattle.sent_trees.proofs.Events.{sent-always}
use Rattle.sent_trees.proofs.Cut.{cut-passes, cut_small, cut-tree}
use Rattle.emits.specs.Run.{Reply, Lent, areas_of, unowned_of, when_taken, replies}
use Rattle.emits.specs.Emits.{Emits}
use Rattle.emits.proofs.Emits.{emits}
use Rattle.emits.proofs.Owned.{sent-same}
use Rattle.replies.specs.Replies.{new_reader}
use Rattle.rebuild.specs.Names.{prop_names, firsts, joined}
use Rattle.rebuild.specs.Rebuild.{WholeWalk, sent_by, read_all, structure_for, strings_for, Room, Rebuilt}
use Rattle.rebuild.proofs.Accepts.{rebuilt}
use Rattle.rebuild.proofs.Once.{tree-names-once}
use Rattle.rebuild.proofs.Room.{structure-size, room-enough}

-- ---- what is sent of a tree that passes the check is the tree of a block that passes it
module _ (s st : List ℕ) (ok : passes s st ≡ true) (us : List (ℕ → Bool)) where
  -- what holds of the tree of every such block holds of what is sent
  by-cut : (P : Nodes → Type 0) → ((s' : List ℕ) → passes s' st ≡ true → P (tree s' st)) → P (sent_tree us (tree s st))
  by-cut P f = subst P (cut-tree us s st ok) (f (cut us s st) (cut-passes us s st ok))

  -- buffers of 131,072 bytes have room for it
  pub room-sent : (n m : ℕ) → 131072 ≤ n → 131072 ≤ m → Room (sent_tree us (tree s st)) n m
  room-sent n m h k = by-cut (λ t. Room t n m) (λ s' ok'. room-enough s' st ok' n m h k)

  -- and a reader's structure block of it is no longer than the tree's
  pub structure-sent : length (structure_for (sent_tree us (tree s st))) ≤ length s
  structure-sent =
      let small = subst (λ t. length (structure_for t) ≤ length (cut us s st)) (cut-tree us s st ok) (structure-size (cut us s st) st (cut-passes us s st ok)) in
      omega (arith, cut_small us s st ok)

  -- the strings block that a reader writes for it has each different name once
  pub sent-names-once : strings_for (sent_tree us (tree s st)) ≡ joined (firsts (prop_names (flatten (sent_tree us (tree s st)))))
  sent-names-once = by-cut (λ t. strings_for t ≡ joined (firsts (prop_names (flatten t)))) (λ s' ok'. tree-names-once s' st ok')

-- the same where the same indexes are unowned throughout, those that u says
module _ (s st : List ℕ) (ok : passes s st ≡ true) (u : ℕ → Bool) where
  abbrev always : List (ℕ → Bool)
  always = replicate (length (flatten (tree s st))) u

  pub room-owned : (n m : ℕ) → 131072 ≤ n → 131072 ≤ m → Room (owned_tree u (tree s st)) n m
  room-owned n m h k = subst (λ t. Room t n m) (sent-always u (tree s st)) (room-sent s st ok always n m h k)

  pub structure-owned : length (structure_for (owned_tree u (tree s st))) ≤ length s
  structure-owned = subst (λ t. length (structure_for t) ≤ length s) (sent-always u (tree s st)) (structure-sent s st ok always)

module _ (s st : List ℕ) (c : Connector) (ls : List Lent) (w : WholeWalk s st c ls) where
  abbrev rs : List Reply
  rs = replies s st c ls

  -- whatever is unowned at calls that follow the walk
  rebuilds-with : (more : List (ℕ → Bool)) (s0 st0 : List ℕ) → let t = sent_tree (when_taken ls rs ++ more) (tree s st) in Room t (length s0) (length st0) → Rebuilt t s0 st0 (read_all new_reader rs s0 st0)
  rebuilds-with more s0 st0 =
      by-cut s st w.checked (when_taken ls rs ++ more)
      (λ t. Emits 0 None (flatten t) (areas_of ls) rs → Room t (length s0) (length st0) → Rebuilt t s0 st0 (read_all new_reader rs s0 st0))
      (λ s' ok e room. rebuilt s' st ok (areas_of ls) rs (rw (tree-flat s' st ok) at e) w.zero s0 st0 room)
      (emits s st w.checked c w.unisolated w.starts ls w.form more)

  -- what is rebuilt is the tree without the nodes that were unowned at the call that took the token after them
  pub rebuilds : (s0 st0 : List ℕ) → Room (sent_by s st c ls) (length s0) (length st0) → Rebuilt (sent_by s st c ls) s0 st0 (read_all new_reader rs s0 st0)
  rebuilds s0 st0 =
      subst (λ us. Room (sent_tree us (tree s st)) (length s0) (length st0) → Rebuilt (sent_tree us (tree s st)) s0 st0 (read_all new_reader rs s0 st0)) (append-nil (when_taken ls rs))
      (rebuilds-with [] s0 st0)

  -- where the same indexes were unowned at every call, those that u says: without the nodes that belong to such a connector
  pub rebuilds-owned : (u : ℕ → Bool) → AllAre u (unowned_of ls) → (s0 st0 : List ℕ) → Room (owned_tree u (tree s st)) (length s0) (length st0) → Rebuilt (owned_tree u (tree s st)) s0 st0 (read_all new_reader rs s0 st0)
  rebuilds-owned u a s0 st0 =
      subst (λ t. Room t (length s0) (length st0) → Rebuilt t s0 st0 (read_all new_reader rs s0 st0)) (sent-same u (tree s st) ls rs a)
      (rebuilds-with (replicate (length (flatten (tree s st))) u) s0 st0)

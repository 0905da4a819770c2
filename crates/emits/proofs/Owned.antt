-- Where what is unowned stays the same throughout, what is sent is a definition on the tree alone.
use mathlib.Core.Path.{◌≡◌, refl, subst}
use mathlib.Core.List.{List, [], ◌∷◌, ◌++◌}
use mathlib.Core.Bool.{Bool, true, false}
use Prim.Native.Nat.{ℕ, zero, suc, ◌+◌}
use native.Mathlib.Omega.{arith}
use lib.ListN.{length, length-append, replicate, length-replicate}
use Rattle.words.specs.Pick.{pick}
use Rattle.devtree.specs.Tree.{Nodes, tree, flatten}
use Rattle.devtree.specs.Check.{passes}
use Rattle.states.specs.declared.State.TheVariants.{Unisolated}
use Rattle.connector.specs.declared.Connector.{Connector}
use Rattle.states.specs.States.{start}
use Rattle.sent_trees.specs.Trees.{AllAre, sent_tree, owned_tree}
use Rattle.sent_trees.proofs.Events.{again-are, sent-owned}
use Rattle.emits.specs.Run.{Reply, Lent, areas_of, unowned_of, when_taken, consumes, RightForm, replies}
use Rattle.emits.specs.Emits.{WalkLength}
use Rattle.emits.proofs.Emits.{walk-length}

module _ (u : ℕ → Bool) where
  taken-are : (ls : List Lent) (ys : List Reply) → AllAre u (unowned_of ls) → AllAre u (when_taken ls ys)
  unfolding when_taken pick
  taken-are [] ys a = tt
  taken-are (l ∷ ls) [] a = tt
  taken-are (l ∷ ls) (y ∷ ys) a = go (consumes y.status) (taken-are ls ys a.1)
    where
      go : (b : Bool) → AllAre u (when_taken ls ys) → AllAre u (pick b (l.unowned ∷ when_taken ls ys) (when_taken ls ys))
      go true r = (a.0, r)
      go false r = r

  append-are : (us vs : List (ℕ → Bool)) → AllAre u us → AllAre u vs → AllAre u (us ++ vs)
  append-are [] vs a b = b
  append-are (v ∷ us) vs a b = (a.0, append-are us vs a.1 b)

  -- as many calls more as the tree has events are enough
  pub sent-same : (t : Nodes) (ls : List Lent) (ys : List Reply) → AllAre u (unowned_of ls) → sent_tree (when_taken ls ys ++ replicate (length (flatten t)) u) t ≡ owned_tree u t
  sent-same t ls ys a =
      let more : List (ℕ → Bool) = replicate (length (flatten t)) u in
      sent-owned u (when_taken ls ys ++ more) t (append-are (when_taken ls ys) more (taken-are ls ys a) (again-are u (length (flatten t))))
      (omega (arith, length-append (when_taken ls ys) more, length-replicate (length (flatten t)) u))

  -- the walk's length
  pub owned-length : (s st : List ℕ) → passes s st ≡ true → (c : Connector) → c.state ≡ Unisolated → c.walk ≡ start → (ls : List Lent) → RightForm s st c ls → AllAre u (unowned_of ls) → WalkLength (owned_tree u (tree s st)) (areas_of ls) (replies s st c ls)
  owned-length s st ok c unisolated starts ls right a =
      subst (λ t. WalkLength t (areas_of ls) (replies s st c ls)) (sent-same (tree s st) ls (replies s st c ls) a)
      (walk-length s st ok c unisolated starts ls right (replicate (length (flatten (tree s st))) u))

-- A walk of a tree that passes the check replies with the tree's events, one by one, to its end.
use mathlib.Core.Path.{◌≡◌, refl, subst, ◌∙◌}
use mathlib.Core.List.{List, [], ◌∷◌, ◌++◌}
use mathlib.Core.Bool.{Bool, true, false}
use Prim.Native.Nat.{ℕ, ◌+◌, ◌*◌, ◌≤◌}
use native.Mathlib.Omega.{arith}
use lib.ListN.{length}
use Rattle.words.specs.Pick.{pick}
use Rattle.devtree.specs.Tokens.{tokens}
use Rattle.devtree.specs.Tree.{Nodes, events_from, tree, flatten}
use Rattle.devtree.specs.Check.{passes}
use Rattle.devtree.proofs.Tree.{tree-flat}
use Rattle.states.specs.declared.State.TheVariants.{Unisolated}
use Rattle.states.specs.declared.Page.TheVariants.{None, Asked}
use Rattle.connector.specs.declared.Connector.{Connector}
use Rattle.states.specs.States.{start}
use Rattle.walk.specs.Step.{Outcome, step}
use Rattle.sent_trees.specs.Trees.{sent_tree}
use Rattle.sent_trees.proofs.Events.{sent_events, sent-flat, sent-small}
use Rattle.emits.specs.Run.{Reply, reply_of, Lent, areas_of, when_taken, RightForm, until_zero, ends, asks, count, replies}
use Rattle.emits.specs.Emits as events
use Rattle.emits.specs.Emits.{Emits, stopped, child, property, parent, last, nodes, properties, WalkLength}
use Rattle.emits.proofs.Counts.{flat-length, no-others, whole, unfinished, asked}
use Rattle.emits.proofs.Steps as steps
use Rattle.emits.proofs.Steps.{Sized, Ready, Left, standing, Telling, began, valued, closed, completed, sizes, ready, event-left, told}

module _ (s st : List ℕ) (sized : Sized s st) (more : List (ℕ → Bool)) where
  -- the replies tell the events that are left to send; after these calls more follow, at which `more` is unowned
  abbrev Tells : List Lent → Connector → Type 0
  Tells ls c = Emits c.walk.depth c.walk.page (Left s st (when_taken ls (replies s st c ls) ++ more) c) (areas_of ls) (replies s st c ls)

  module _ (l : Lent) (ls : List Lent) (c : Connector) (right : RightForm s st c (l ∷ ls)) (later : (c : Connector) → Ready s st c → RightForm s st c ls → Tells ls c) where
    -- the first reply, and those to the calls after it, which lend work areas of the right form
    abbrev all_replies : Outcome → List Reply
    all_replies o = reply_of o ∷ pick (ends o.stepped.status) [] (replies s st o.stepped.connector ls)

    abbrev Replies : Outcome → Type 0
    Replies o = (ends o.stepped.status ≡ false → RightForm s st o.stepped.connector ls) → Emits c.walk.depth c.walk.page (Left s st (when_taken (l ∷ ls) (all_replies o) ++ more) c) (areas_of (l ∷ ls)) (all_replies o)

    tells_first : (o : Outcome) → Telling s st l.unowned c l.area o → Replies o
    unfolding pick when_taken
    tells_first o (began next name d e r) g = rw e (child right.0 d (later _ r (g refl)))
    tells_first o (valued next name value d n e r) g = rw e (property right.0 d n (later _ r (g refl)))
    tells_first o (steps.asked name value es d n w e r) g =
        let us : List (ℕ → Bool) = when_taken ls (replies s st (standing c.walk.place c.walk.depth Asked c) ls) ++ more in
        rw (e us) (events.more right.0 d n w (rw (e us) at (later _ r (g refl))))
    tells_first o (closed next d e r) g = rw e (parent right.0 d (later _ r (g refl)))
    tells_first o (completed d e) g = rw (e, d) (last right.0)

  tells : (ls : List Lent) (c : Connector) → Ready s st c → RightForm s st c ls → Tells ls c
  unfolding replies
  tells [] c r f = stopped (event-left s st _ c r)
  tells (l ∷ ls) c r f = tells_first l ls c f (tells ls) (step l.unowned c l.area s st) (told s st sized l.unowned l.area c r f.0) f.1

module _ (s st : List ℕ) (ok : passes s st ≡ true) (c : Connector) (unisolated : c.state ≡ Unisolated) (starts : c.walk ≡ start) (ls : List Lent) (right : RightForm s st c ls) where
  abbrev rs : List Reply
  rs = replies s st c ls

  module _ (more : List (ℕ → Bool)) where
    -- what is sent, whatever is unowned at the calls that are still to come
    abbrev sent : Nodes
    sent = sent_tree (when_taken ls rs ++ more) (tree s st)

    -- the walk from its start
    pub emits : Emits 0 None (flatten sent) (areas_of ls) rs
    emits =
        let us : List (ℕ → Bool) = when_taken ls rs ++ more in
        rw (← sent-flat us (tree s st), tree-flat s st ok)
        (subst (λ w. Emits w.depth w.page (sent_events us w.depth 0 (events_from s st w.place)) (areas_of ls) rs) starts
        (tells s st (sizes s st ok) more ls c (ready s st ok c unisolated starts) right))

    -- its length
    pub walk-length : WalkLength sent (areas_of ls) rs
    walk-length =
        let size : length (flatten sent) ≡ 2 * nodes sent + properties sent = flat-length sent in
        record {
          tokens = λ z. whole emits z ∙ size;
          most = by_zero (until_zero rs) refl (λ z. omega (arith, whole emits z)) (λ z. omega (arith, (unfinished emits z).0));
          others = no-others emits;
          asked = λ z. asked emits z tt;
          reached = λ l. by_zero (until_zero rs) refl (λ z. z) (λ z. absurd (omega (arith, (unfinished emits z).0, (unfinished emits z).1, no-others emits)));
        }
      where
        by_zero : {P : Type 0} (b : Bool) → until_zero rs ≡ b → (until_zero rs ≡ true → P) → (until_zero rs ≡ false → P) → P
        by_zero true e f g = f e
        by_zero false e f g = g e

  -- the 0 comes with as many calls, each of the right form, as the whole tree has tokens, and one more for each 5: no more is sent
  pub zero-reached : 2 * nodes (tree s st) + properties (tree s st) + count asks rs ≤ length (areas_of ls) → until_zero rs ≡ true
  zero-reached l = (walk-length []).reached (omega (arith, sent-small (when_taken ls rs ++ []) (tree s st), flat-length (sent []), flat-length (tree s st)))

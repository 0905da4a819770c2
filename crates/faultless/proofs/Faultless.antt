-- Where the check passes, no walk from its start with the same tree ever answers -1, whatever work areas and tables its calls lend. Assumes nothing.
use mathlib.Core.Path.{◌≡◌, refl, ap, ◌∙◌}
use mathlib.Core.List.{List, [], ◌∷◌}
use mathlib.Core.Bool.{Bool, true, false, not}
use Prim.Native.Nat.{ℕ}
use lib.ListN.{length}
use Rattle.words.proofs.Pick.{each-every}
use Rattle.devtree.specs.Check.{passes}
use Rattle.states.specs.declared.State.{State}
use Rattle.states.specs.declared.State.TheVariants.{Unusable, Available, Unisolated, Configured}
use Rattle.states.specs.States.{start}
use Rattle.connector.specs.declared.Connector.{Connector}
use Rattle.connector.specs.Fields.{with_step}
use Rattle.guards.specs.Guards.{is_area, is_unisolated, pages_meet}
use Rattle.walk.specs.Step.{Outcome, step}
use Rattle.walk.proofs.Tests.{step-area, step-state, step-pages}
use Rattle.emits.specs.Run.{Lent}
use Rattle.emits.proofs.Steps.{Ready, Telling, began, valued, asked, closed, completed, meets-form, sizes, ready, told}
use Rattle.faults.specs.Status.{is_bad_tree}
use Rattle.faultless.specs.Faultless.{statuses_of, none_bad, NeverBad}

module _ (s st : List ℕ) (ok : passes s st ≡ true) where
  -- in whatever state the record is, its walk could go on to the end of the tree
  abbrev pub OnTree : Connector → Type 0
  OnTree c = Ready s st (with_step Unisolated c.walk c)

  pub at-start : (c : Connector) → c.walk ≡ start → OnTree c
  at-start c e = ready s st ok (with_step Unisolated c.walk c) refl e

  from-ready : {c : Connector} → Ready s st c → OnTree c
  from-ready r = record { state = refl; four = r.four; rest = r.rest; order = r.order }

  -- what a call answers and leaves
  abbrev Fine : Outcome → Type 0
  Fine o = (is_bad_tree o.stepped.status ≡ false) × OnTree o.stepped.connector

  module _ (u : ℕ → Bool) (c : Connector) (a : List ℕ) where
    by-telling : {o : Outcome} → Telling s st u c a o → Fine o
    by-telling (began next name d e r) = (refl, from-ready r)
    by-telling (valued next name value d l e r) = (refl, from-ready r)
    by-telling (asked name value es d n w e r) = (refl, from-ready r)
    by-telling (closed next d e r) = (refl, from-ready r)
    by-telling (completed d e) = (refl, at-start (with_step Configured start c) refl)

    pub stays : OnTree c → Fine (step u c a s st)
    stays r = go (is_area (length a)) refl c.state refl (pages_meet c.walk.page (length a)) refl
      where
        not-unisolated : (q : State) → c.state ≡ q → is_unisolated q ≡ false → is_area (length a) ≡ true → Fine (step u c a s st)
        not-unisolated q e f g = rw (step-state u c a s st g (ap is_unisolated e ∙ f)) (refl, r)

        go : (x : Bool) → is_area (length a) ≡ x → (q : State) → c.state ≡ q → (z : Bool) → pages_meet c.walk.page (length a) ≡ z → Fine (step u c a s st)
        go false f q e z h = rw (step-area u c a s st f) (refl, r)
        go true f Unusable e z h = not-unisolated Unusable e refl f
        go true f Available e z h = not-unisolated Available e refl f
        go true f Configured e z h = not-unisolated Configured e refl f
        go true f Unisolated e false h = rw (step-pages u c a s st f (ap is_unisolated e) h) (refl, r)
        go true f Unisolated e true h =
            by-telling (told s st (sizes s st ok) u a c (record { state = e; four = r.four; rest = r.rest; order = r.order }) (meets-form c.walk.page (length a) f h))

  from-tree : (c : Connector) → OnTree c → (ls : List Lent) → none_bad (statuses_of s st c ls) ≡ true
  unfolding statuses_of none_bad
  from-tree c r [] = refl
  from-tree c r (l ∷ ls) =
      let z = stays l.unowned c l.area r in
      let o = step l.unowned c l.area s st in
      each-every (not (is_bad_tree o.stepped.status) ∷ none_bad (statuses_of s st o.stepped.connector ls) ∷ []) (ap not z.0, (from-tree o.stepped.connector z.1 ls, tt))

pub never-bad : NeverBad
never-bad s st ok c e ls = from-tree s st ok c (at-start s st ok c e) ls

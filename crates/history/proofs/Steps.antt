-- Configure-connector keeps the invariant: a step of the walk goes from Unisolated, and stays there or goes to Configured.
use Prim.Native.Nat.{ℕ}
use mathlib.Core.Path.{◌≡◌, refl, ◌∙◌}
use mathlib.Core.List.{List, [], ◌∷◌}
use mathlib.Core.Bool.{Bool, false, false≢true}
use lib.Seq.{map-set_same}
use Rattle.words.specs.Bytes.{word_at}
use Rattle.words.specs.Pick.{pick}
use Rattle.words.proofs.Pick.{pick-cases}
use Rattle.states.specs.declared.State.{State}
use Rattle.states.specs.declared.State.TheVariants.{Unisolated, Configured}
use Rattle.states.specs.declared.Walk.{Walk}
use Rattle.connector.specs.declared.Connector.{Connector}
use Rattle.connector.specs.Fields.{with_step}
use Rattle.table.specs.Model.{Model, blank_connector, edits, row, step_row}
use Rattle.step_status.specs.declared.StepStatus.{StepStatus}
use Rattle.step_status.specs.declared.StepStatus.TheVariants.{Complete, NextChild, NextProperty, PreviousParent, MoreMemory, Parameter, NotUnisolated, BadTree}
use Rattle.stepped.specs.declared.Stepped.{Stepped}
use Rattle.step_status.specs.Status.{step_number, is_refusal}
use Rattle.walk.specs.Step.{Outcome, step}
use Rattle.walk.specs.Laws.{state_after_step}
use Rattle.walk.proofs.Laws.{step-law}
use Rattle.calls.specs.Calls as calls
use Rattle.calls.specs.Calls.{Configuring, own_at, step_edits}
use Rattle.history.specs.Calls.{partition, configure}
use Rattle.history.specs.Book.{Book, move_state, to_configured, entered}
use Rattle.history.specs.Holds.{connector, entry_of}
use Rattle.history.proofs.Fair.{May}
use Rattle.history.proofs.Kept as kept
use Rattle.history.proofs.Kept.{Sound, steady}
use Rattle.history.proofs.Lookups.{Found, at-index, fed-on, Keeps, Leaves}
use Rattle.history.proofs.Rows.{move}

module _ (m : Model) (b : Book) (ok : Sound m b) (k i : ℕ) (f : Found m k i) where
  abbrev c : Connector
  c = connector m i

  After : Stepped → Type 0
  After s = Leaves m b (step_number s.status) (step_edits i s.status s.connector) (move_state k to_configured b)

  abbrev AfterStep : Outcome → Type 0
  AfterStep o = After o.stepped

  module _ (q : c.state ≡ Unisolated) where
    may : (s : State) → May (connector m) i s
    may s = steady m b ok i s (λ _. rw q) (λ z. absurd (false≢true (rw q at z)))

    goes_on : (w : Walk) → Sound (edits m (row i (with_step Unisolated w c) ∷ [])) b
    goes_on w =
        kept.moved m b ok i f.there Unisolated c.resource w c.wanted (may Unisolated) b.entries
        (map-set_same entry_of m.connectors i (with_step Unisolated w c) blank_connector (rw q) ∙ ok.states) (ok.unwanted i) refl

  by-status : (n : StepStatus) (s : State) (w : Walk) → (is_refusal n ≡ false → c.state ≡ Unisolated) → s ≡ state_after_step n c.state → Leaves m b (step_number n) (pick (is_refusal n) [] (step_row i s w ∷ [])) (move_state k to_configured b)
  unfolding pick
  by-status Complete s w u e = rw e (move m b ok k i f Configured w to_configured refl (may (u refl) Configured))
  by-status NextChild s w u e = rw e (goes_on (u refl) w)
  by-status NextProperty s w u e = rw e (goes_on (u refl) w)
  by-status PreviousParent s w u e = rw e (goes_on (u refl) w)
  by-status MoreMemory s w u e = rw e (goes_on (u refl) w)
  by-status Parameter s w u e = ok
  by-status NotUnisolated s w u e = ok
  by-status (BadTree at) s w u e = ok

  step_kept : (unowned : ℕ → Bool) (area s st : List ℕ) → AfterStep (step unowned c area s st)
  unfolding After step_edits
  step_kept unowned area s st =
      let law = step-law unowned c area s st in
      let o = (step unowned c area s st).stepped in
      by-status o.status o.connector.state o.connector.walk law.unisolated law.state

pub configure-kept : (m : Model) (b : Book) → Sound m b → (p : ℕ) (area s st : List ℕ) → Keeps m b (partition p (configure area s st))
unfolding calls.configure own_at entered After step_edits
configure-kept m b ok p area s st =
    rw fed-on
    (pick-cases Done _ _ _
    (λ _.
    at-index m Done (word_at area 0) _ _
    (λ i f. pick-cases Done _ _ _ (λ _. step_kept m b ok (word_at area 0) i f _ area s st) (λ _. ok))
    (λ _. ok))
    (λ _. ok))
  where
    Done : Configuring → Type 0
    Done a = Leaves m b (step_number a.answer.status) a.answer.edits (move_state (word_at area 0) to_configured b)

-- The offset that configure-connector's status carries is the definition's, and it is at most the block's length. Assumes nothing.
use mathlib.Core.Path.{◌≡◌, refl}
use mathlib.Core.List.{List}
use Prim.Native.Nat.{ℕ, ◌≤◌}
use Rattle.words.proofs.Pick.{pick-cases, both-cases}
use Rattle.table.specs.Model.{Model}
use Rattle.unowned.specs.Unowned.{unowned}
use Rattle.calls.specs.Calls.{Configuring, at_index, own_at, configure}
use Rattle.faults.specs.Status.{status_offset}
use Rattle.faults.proofs.Laws.{Inside, zero-inside, fault-is, fault-inside}
use Rattle.fault_numbers.specs.Faults.{configure_fault}

module _ (m : Model) (p : ℕ) (area s st : List ℕ) where
  abbrev Same : Configuring → ℕ → Type 0
  Same a x = status_offset a.answer.status ≡ x

  pub configure-fault : status_offset (configure m p area s st).answer.status ≡ configure_fault m p area s st
  unfolding configure configure_fault own_at at_index
  configure-fault =
      both-cases Same _
      (λ _. both-cases Same _ (λ _. both-cases Same _ (λ _. fault-is _ area s st (unowned m _)) (λ _. refl)) (λ _. refl))
      (λ _. refl)

  pub configure-inside : Inside s (configure_fault m p area s st)
  unfolding configure_fault own_at at_index
  configure-inside =
      pick-cases (Inside s) _ _ _
      (λ _. pick-cases (Inside s) _ _ _ (λ _. pick-cases (Inside s) _ _ _ (λ _. fault-inside _ area s st (unowned m _)) (λ _. zero-inside s)) (λ _. zero-inside s))
      (λ _. zero-inside s)

  -- so it fits a word
  pub configure-short : (n : ℕ) → n ≡ status_offset (configure m p area s st).answer.status → n ≤ 32768
  configure-short n e = rw (e, configure-fault) configure-inside.1

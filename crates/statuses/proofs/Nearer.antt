-- A walk that goes on comes nearer to the end of the block, or asks for the second page.
use Prim.Native.Nat.{ℕ, ◌+◌, ◌-◌, ◌<◌}
use mathlib.Core.Path.{◌≡◌, refl, ap, sym, ◌∙◌}
use mathlib.Core.Logic.{◌≢◌}
use mathlib.Core.Bool.{Bool, true, false, false≢true}
use mathlib.Core.List.{List}
use native.Mathlib.Omega.{arith}
use lib.ListN.{length}
use Rattle.words.specs.Pick.{pick}
use Rattle.words.proofs.Pick.{pick_no}
use Rattle.connector.specs.declared.Connector.{Connector}
use Rattle.step_status.specs.declared.StepStatus.{StepStatus}
use Rattle.step_status.specs.declared.StepStatus.TheVariants.{Complete, NextChild, NextProperty, PreviousParent, MoreMemory, Parameter, NotUnisolated, BadTree}
use Rattle.walk.specs.Step.{step}
use Rattle.step_status.specs.Status.{is_refusal}
use Rattle.walk.proofs.Laws.{step-law}
use Rattle.emits.specs.Run.{asks, ends}

-- the length of the work area: one page, and two once the second was asked for
abbrev pub lent : Bool → ℕ
lent false = 4096
lent true = 8192

-- the most times that the second page is still asked for
abbrev pub asks_left : Bool → ℕ
asks_left false = 1
asks_left true = 0

asked-once : (two : Bool) → lent two ≡ 4096 → asks_left true < asks_left two
asked-once false e = omega arith
asked-once true e = absurd (omega arith)

module _ (u : ℕ → Bool) (c : Connector) (area s st : List ℕ) (two : Bool) (l : length area ≡ lent two) where
  abbrev Nearer : StepStatus → Type 0
  Nearer n = length s - (step u c area s st).stepped.connector.walk.place + asks_left (pick (asks n) true two) < length s - c.walk.place + asks_left two

  forward : (n : StepStatus) → (step u c area s st).stepped.status ≡ n → is_refusal n ≡ false → ends n ≡ false → asks n ≡ false → Nearer n
  forward n e f x v =
      let not-zero : (step u c area s st).stepped.status ≢ Complete = λ y. false≢true (sym x ∙ ap ends (sym e ∙ y)) in
      let not_five : (step u c area s st).stepped.status ≢ MoreMemory = λ y. false≢true (sym v ∙ ap asks (sym e ∙ y)) in
      let z = (step-law u c area s st).forward (rw e f) not-zero not_five in
      rw (pick_no (asks n) true two v) (omega arith)

  pub nearer : (n : StepStatus) → (step u c area s st).stepped.status ≡ n → ends n ≡ false → Nearer n
  unfolding pick
  nearer Complete e f = absurd (false≢true (sym f))
  nearer NextChild e f = forward NextChild e refl refl refl
  nearer NextProperty e f = forward NextProperty e refl refl refl
  nearer PreviousParent e f = forward PreviousParent e refl refl refl
  nearer MoreMemory e f =
      let law = step-law u c area s st in
      let place = ap (λ v. v.walk.place) (law.asks e).0 in
      let once = asked-once two (sym l ∙ law.paged e) in
      omega arith
  nearer Parameter e f = absurd (false≢true (sym f))
  nearer NotUnisolated e f = absurd (false≢true (sym f))
  nearer (BadTree at) e f = absurd (false≢true (sym f))

-- The step, test by test.
use mathlib.Core.Path.{◌≡◌}
use mathlib.Core.List.{List}
use mathlib.Core.Bool.{Bool, true, false}
use Prim.Native.Nat.{ℕ}
use lib.ListN.{length}
use Rattle.words.specs.Pick.{pick}
use Rattle.sent.specs.Sent.{next_sent}
use Rattle.connector.specs.declared.Connector.{Connector}
use Rattle.step_status.specs.declared.StepStatus.TheVariants.{Parameter, NotUnisolated, BadTree}
use Rattle.guards.specs.Guards.{is_area, is_unisolated, pages_meet, readable}
use Rattle.walk.specs.Step.{refused, consume, step}

module _ (unowned : ℕ → Bool) (c : Connector) (area s st : List ℕ) where
  pub step-area : is_area (length area) ≡ false → step unowned c area s st ≡ refused Parameter c area
  unfolding step pick
  step-area a = simp a

  pub step-state : is_area (length area) ≡ true → is_unisolated c.state ≡ false → step unowned c area s st ≡ refused NotUnisolated c area
  unfolding step pick
  step-state a b = simp (a, b)

  pub step-pages : is_area (length area) ≡ true → is_unisolated c.state ≡ true → pages_meet c.walk.page (length area) ≡ false → step unowned c area s st ≡ refused Parameter c area
  unfolding step pick
  step-pages a b d = simp (a, b, d)

  pub step-blocks : is_area (length area) ≡ true → is_unisolated c.state ≡ true → pages_meet c.walk.page (length area) ≡ true → readable (length s) (length st) c.walk.place ≡ false → step unowned c area s st ≡ refused (BadTree 0) c area
  unfolding step pick
  step-blocks a b d e = simp (a, b, d, e)

  pub step-token : is_area (length area) ≡ true → is_unisolated c.state ≡ true → pages_meet c.walk.page (length area) ≡ true
      → readable (length s) (length st) c.walk.place ≡ true → step unowned c area s st ≡ consume c area s st (next_sent unowned s st c.walk.depth c.walk.place)
  unfolding step pick
  step-token a b d e = simp (a, b, d, e)

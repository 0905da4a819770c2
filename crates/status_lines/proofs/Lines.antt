-- A counted line is the line of its status.
use mathlib.Core.Path.{◌≡◌, refl}
use mathlib.Core.List.{List}
use Prim.Native.Nat.{ℕ, ◌≤◌}
use native.Mathlib.Omega.{arith}
use lib.ListN.{length, get_or}
use Rattle.words.specs.Pick.{pick}
use Rattle.words.specs.Run.{run, run_from}
use Rattle.words.specs.Bytes.{part}
use Rattle.step_status.specs.declared.StepStatus.{StepStatus}
use Rattle.step_status.specs.declared.StepStatus.TheVariants.{Complete, NextChild, NextProperty, PreviousParent, MoreMemory, Parameter, NotUnisolated, BadTree}
use Rattle.decimal.specs.Decimal.{digits_body, digits, decimal}
use Rattle.status_lines.specs.Lines.{line_of, counted_line}

-- a counted line is the line after its length
counted : (n : StepStatus) → (part (counted_line n) 1 (get_or (counted_line n) 0 0) ≡ line_of n) × (get_or (counted_line n) 0 0 ≡ length (line_of n)) × (length (line_of n) ≤ 6)
unfolding part line_of decimal digits digits_body run_from run pick
counted Complete = (refl, refl, omega arith)
counted NextChild = (refl, refl, omega arith)
counted NextProperty = (refl, refl, omega arith)
counted PreviousParent = (refl, refl, omega arith)
counted MoreMemory = (refl, refl, omega arith)
counted Parameter = (refl, refl, omega arith)
counted NotUnisolated = (refl, refl, omega arith)
counted (BadTree at) = (refl, refl, omega arith)

pub counted-line : (n : StepStatus) (line : List ℕ) → line ≡ counted_line n → (part line 1 (get_or line 0 0) ≡ line_of n) × (get_or line 0 0 ≡ length (line_of n)) × (length (line_of n) ≤ 6)
counted-line n line e = rw e (counted n)

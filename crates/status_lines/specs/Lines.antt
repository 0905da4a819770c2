-- The line of a status: document 01's small program, "A walk written out".
use Rattle.std.specs.Prelude.{ℕ, List, [], ◌∷◌, ◌++◌}
use Rattle.step_status.specs.declared.StepStatus.{StepStatus}
use Rattle.step_status.specs.declared.StepStatus.TheVariants.{Complete, NextChild, NextProperty, PreviousParent, MoreMemory, Parameter, NotUnisolated, BadTree}
use Rattle.step_status.specs.Status.{step_number}
use Rattle.decimal.specs.Decimal.{decimal}

-- document 01's number in decimal, and a newline
unfoldable pub line_of : StepStatus → List ℕ
line_of n = decimal (step_number n) ++ (10 ∷ [])

-- the same as the code has it: how long the line is, and its bytes, the first of six (`counted-line` of `proofs/Lines.antt`)
abbrev pub counted_line : StepStatus → List ℕ
counted_line Complete = 2 ∷ 48 ∷ 10 ∷ 0 ∷ 0 ∷ 0 ∷ 0 ∷ []
counted_line NextChild = 2 ∷ 50 ∷ 10 ∷ 0 ∷ 0 ∷ 0 ∷ 0 ∷ []
counted_line NextProperty = 2 ∷ 51 ∷ 10 ∷ 0 ∷ 0 ∷ 0 ∷ 0 ∷ []
counted_line PreviousParent = 2 ∷ 52 ∷ 10 ∷ 0 ∷ 0 ∷ 0 ∷ 0 ∷ []
counted_line MoreMemory = 2 ∷ 53 ∷ 10 ∷ 0 ∷ 0 ∷ 0 ∷ 0 ∷ []
counted_line Parameter = 3 ∷ 45 ∷ 51 ∷ 10 ∷ 0 ∷ 0 ∷ 0 ∷ []
counted_line NotUnisolated = 6 ∷ 45 ∷ 57 ∷ 48 ∷ 48 ∷ 51 ∷ 10 ∷ []
counted_line (BadTree at) = 3 ∷ 45 ∷ 49 ∷ 10 ∷ 0 ∷ 0 ∷ 0 ∷ []

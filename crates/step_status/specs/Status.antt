-- The statuses of a step.
use Rattle.std.specs.Prelude.{Bool, true, false, ℤ, pos, neg_ℤ}
use Rattle.step_status.specs.declared.StepStatus.{StepStatus}
use Rattle.step_status.specs.declared.StepStatus.TheVariants.{Complete, NextChild, NextProperty, PreviousParent, MoreMemory, Parameter, NotUnisolated, BadTree}

-- document 01's numbers
abbrev pub step_number : StepStatus → ℤ
step_number Complete = pos 0
step_number NextChild = pos 2
step_number NextProperty = pos 3
step_number PreviousParent = pos 4
step_number MoreMemory = pos 5
step_number Parameter = neg_ℤ (pos 3)
step_number NotUnisolated = neg_ℤ (pos 9003)
step_number (BadTree at) = neg_ℤ (pos 1)

-- the statuses below 0
abbrev pub is_refusal : StepStatus → Bool
is_refusal Complete = false
is_refusal NextChild = false
is_refusal NextProperty = false
is_refusal PreviousParent = false
is_refusal MoreMemory = false
is_refusal Parameter = true
is_refusal NotUnisolated = true
is_refusal (BadTree at) = true

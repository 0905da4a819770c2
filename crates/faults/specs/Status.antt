-- The offset that goes with a status.
use Rattle.std.specs.Prelude.{ℕ, Bool, true, false}
use Rattle.step_status.specs.declared.StepStatus.{StepStatus}
use Rattle.step_status.specs.declared.StepStatus.TheVariants.{Complete, NextChild, NextProperty, PreviousParent, MoreMemory, Parameter, NotUnisolated, BadTree}

-- the status is -1
abbrev pub is_bad_tree : StepStatus → Bool
is_bad_tree Complete = false
is_bad_tree NextChild = false
is_bad_tree NextProperty = false
is_bad_tree PreviousParent = false
is_bad_tree MoreMemory = false
is_bad_tree Parameter = false
is_bad_tree NotUnisolated = false
is_bad_tree (BadTree at) = true

-- the offset that it carries, else 0
abbrev pub status_offset : StepStatus → ℕ
status_offset Complete = 0
status_offset NextChild = 0
status_offset NextProperty = 0
status_offset PreviousParent = 0
status_offset MoreMemory = 0
status_offset Parameter = 0
status_offset NotUnisolated = 0
status_offset (BadTree at) = at

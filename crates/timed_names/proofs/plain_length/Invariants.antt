-- `timed_names::plain_length` meets its contract: what was passed and what `name_length` finds from here add up to what it finds from the start.
use mathlib.Core.Path.{◌≡◌}
use Prim.Native.Nat.{◌≤◌, ◌+◌, ◌-◌}
use Rattle.words.specs.Bytes.{name_length}
use Rattle.timed_names.proofs.plain_length.Given as goal

abbrev pub invariant-loop-left : goal.invariant-loop-left
invariant-loop-left l = (l.at ≤ l.i) × (l.i + l.left ≡ l.at + l.limit) × (name_length l.limit l.s l.at ≡ (l.i - l.at) + name_length l.left l.s l.i)

abbrev pub decreases-loop-left : goal.decreases-loop-left
decreases-loop-left l = l.left

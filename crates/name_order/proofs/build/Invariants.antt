-- `name_order::build` meets its contract: each turn exchanges elements.
use mathlib.Core.Path.{◌≡◌}
use Prim.Native.Nat.{◌/◌, ◌≤◌}
use lib.ListN.{length}
use Rattle.name_order.specs.Shuffled.{Shuffled}
use Rattle.name_order.proofs.build.Given as goal

abbrev pub invariant-loop-h : goal.invariant-loop-h
invariant-loop-h l = (l.h ≤ l.n / 2) × (length l.names ≡ length l.initial.names) × Shuffled l.n l.initial.names l.names

abbrev pub decreases-loop-h : goal.decreases-loop-h
decreases-loop-h l = l.h

-- `pool::half_mask` meets its contract: the mask of the lines up to i.
use Prim.Native.Nat.{◌-◌, ◌≤◌}
use mathlib.Core.Path.{◌≡◌}
use Rattle.table.specs.Layout.{line_at}
use Rattle.table.specs.Model.{rows}
use Rattle.pool.specs.Pool.{is_free, mask_of}
use Rattle.pool.proofs.half_mask.Given as goal

abbrev pub invariant-loop-i : goal.invariant-loop-i
invariant-loop-i l = (l.i ≤ 32) × (l.m ≡ mask_of (is_free l.kind) (rows (line_at l.t) l.start l.i))

abbrev pub decreases-loop-i : goal.decreases-loop-i
decreases-loop-i l = 32 - l.i

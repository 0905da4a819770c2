-- `property_entries::put_byte` meets its contract.
use mathlib.Core.Path.{sym}
use mathlib.Core.List.{[], ◌∷◌}
use native.Mathlib.Omega.{arith}
use Rattle.buffer.proofs.Put.{put_in, put-out}
use Rattle.property_entries.proofs.put_byte.Goals as goal

pub returns-then-at-dst : goal.returns-then-at-dst
returns-then-at-dst c = let a = c.args in sym (put_in a.dst.now a.at (a.x ∷ []) (omega arith))

pub returns-else-at-dst : goal.returns-else-at-dst
returns-else-at-dst c = let a = c.args in sym (put-out a.dst.now a.at (a.x ∷ []) (omega arith))

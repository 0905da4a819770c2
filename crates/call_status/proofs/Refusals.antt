-- The number of a refusal is negative.
use mathlib.Core.Path.{◌≡◌, refl}
use Prim.Native.Nat.{◌-◌}
use lib.IntN.{negsuc}
use Rattle.std.specs.Prelude.{Err}
use Rattle.call_status.specs.declared.CallRefusal.{CallRefusal}
use Rattle.call_status.specs.declared.CallRefusal.TheVariants.{UnknownKind, IndexInUse, NoPartition, BadParent, Full, NoConnector, NoResource, KindsDiffer, NotInPool, Holding, Empty, InUse}
use Rattle.call_status.specs.Status.{refusal_number, call_number}

pub refusal-negative : (r : CallRefusal) → call_number (Err r) ≡ negsuc (refusal_number r - 1)
refusal-negative UnknownKind = refl
refusal-negative IndexInUse = refl
refusal-negative NoPartition = refl
refusal-negative BadParent = refl
refusal-negative Full = refl
refusal-negative NoConnector = refl
refusal-negative NoResource = refl
refusal-negative KindsDiffer = refl
refusal-negative NotInPool = refl
refusal-negative Holding = refl
refusal-negative Empty = refl
refusal-negative InUse = refl

-- `name_places::find_name` meets its contract: the first place from here on is the first place.
use Prim.Native.Nat.{◌-◌}
use mathlib.Core.Path.{◌≡◌}
use lib.ListN.{length}
use Rattle.name_places.specs.Names.{name_here, first_of, place_of}
use Rattle.name_places.proofs.find_name.Given as goal

abbrev pub invariant-loop-p : goal.invariant-loop-p
invariant-loop-p l = first_of (name_here l.name l.used) (length l.used - l.p) l.p ≡ place_of l.name l.used

-- A number for an answer, and what is left beside it.
use Prim.Native.Nat.{ℕ}
use mathlib.Core.Path.{◌≡◌}
use mathlib.Core.List.{List}
use lib.IntN.{ℤ}
use Rattle.memory_lists.specs.Converted.{Converted}
use Rattle.memory_numbers.specs.Numbers.{ConvertedTo}

pub converted-to : (r : ℤ) (out : List ℕ) (written : ℕ) {c d : Converted} → ConvertedTo r out written c → c ≡ d → ConvertedTo r out written d
converted-to r out written h e = rw e at h

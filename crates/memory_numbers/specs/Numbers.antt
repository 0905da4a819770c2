-- What the conversions of memory lists answer in numbers, and what they leave of what they were lent.
use Rattle.std.specs.Prelude.{ℕ, ◌≡◌, List, ℤ}
use Rattle.memory_lists.specs.Converted.{Converted, converting_number}

pub record ConvertedTo (r : ℤ) (out : List ℕ) (written : ℕ) (c : Converted) : Type 0 where
  pub answer : r ≡ converting_number c.answer
  pub list : out ≡ c.out
  pub bytes : written ≡ c.written

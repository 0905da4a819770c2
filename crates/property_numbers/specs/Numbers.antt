-- What the writer and the reader of array properties answer in numbers, and what they leave of what they were lent.
use Rattle.std.specs.Prelude.{ℕ, ◌≡◌, List, ℤ}
use Rattle.std.specs.Result.{result_unwrap_or}
use Rattle.property_writer.specs.Writer.{Buffers, WriterLeft, writing_number}
use Rattle.property_reader.specs.Reader.{ListLeft, listing_number}

pub record WrittenTo (r : ℤ) (after : Buffers) (left : WriterLeft) : Type 0 where
  pub answer : r ≡ writing_number left.answer
  pub buffers : after ≡ left.left

-- a refusal leaves the number of bytes written as it was before
pub record ReadTo (r : ℤ) (out : List ℕ) (written before : ℕ) (left : ListLeft) : Type 0 where
  pub answer : r ≡ listing_number left.answer
  pub list : out ≡ left.out
  pub length : written ≡ result_unwrap_or left.answer before

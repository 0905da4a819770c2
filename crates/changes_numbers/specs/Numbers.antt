-- What update-nodes and its reader answer in numbers, and what they leave of what they were lent.
use Rattle.std.specs.Prelude.{ℕ, ◌≡◌, List, ℤ, pos, Result, Ok, Err}
use Rattle.std.specs.Result.{result_unwrap_or}
use Rattle.changes_writer.specs.Writer.{UpdatesLeft, updating_number}
use Rattle.changes_reader.specs.declared.AreaFault.{AreaFault}
use Rattle.changes_reader.specs.Reader.{UpdatesRead, area_number}

pub record ReportedTo (r : ℤ) (after : List ℕ) (left : UpdatesLeft) : Type 0 where
  pub answer : r ≡ updating_number left.answer
  pub area : after ≡ left.area

-- 0 where nothing is refused
abbrev pub answer_number : Result ℕ AreaFault → ℤ
answer_number (Ok written) = pos 0
answer_number (Err fault) = area_number fault

-- the number of words, which a refusal leaves as it was
pub record AreaReadTo (r : ℤ) (out : List ℕ) (before written : ℕ) (read : UpdatesRead) : Type 0 where
  pub answer : r ≡ answer_number read.answer
  pub changes : out ≡ read.out
  pub words : written ≡ result_unwrap_or read.answer before

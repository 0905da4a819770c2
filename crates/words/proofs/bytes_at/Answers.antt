-- `words::bytes_at` meets its contract.
use Rattle.std.proofs.Common.{arith}
use Rattle.words.proofs.Parts.{whole-part}
use Rattle.words.proofs.bytes_at.Goals as goal

pub returns : goal.returns
returns g c = let a = c.args in whole-part a.s.now a.at g.row.N _ c.as_array.result (omega arith) (omega arith) c.as_array.ensures.cases

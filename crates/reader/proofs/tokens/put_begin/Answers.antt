-- `reader::tokens::put_begin` meets its contract.
use mathlib.Core.Path.{refl}
use native.Mathlib.Omega.{arith}
use Rattle.reader.proofs.Written.{begin-then}
use Rattle.reader.proofs.tokens.put_begin.Goals as goal

pub returns : goal.returns
returns c =
    let a = c.args in
    begin-then a.dst.now _ _ a.at _ _ a.name.now refl c.up_to_four.ensures c.put_word.ensures c.put_filled.ensures (omega arith)

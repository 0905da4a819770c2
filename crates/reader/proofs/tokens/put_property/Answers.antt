-- `reader::tokens::put_property` meets its contract.
use mathlib.Core.Path.{refl}
use native.Mathlib.Omega.{arith}
use Rattle.reader.proofs.Written.{property-then}
use Rattle.reader.proofs.tokens.put_property.Goals as goal

pub returns : goal.returns
returns c =
    let a = c.args in
    property-then a.dst.now _ _ _ _ a.at _ _ a.offset a.value.now refl c.up_to_four.ensures c.put_word.ensures c.put_word-2.ensures c.put_word-3.ensures c.put_filled.ensures (omega arith)

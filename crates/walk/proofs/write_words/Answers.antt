-- `walk::write_words` meets its contract.
use Prim.Native.Nat.{◌+◌}
use native.Mathlib.Omega.{arith}
use Rattle.walk.proofs.Area.{words-written}
use Rattle.walk.proofs.write_words.Goals as goal

pub returns : goal.returns
returns c =
    let a = c.args in
    words-written a.area.now 20 a.len (a.n + 21) c.put_word.new.dst c.put_word-2.new.dst _ (omega arith) c.put_word.ensures c.put_word-2.ensures c.put_word-3.ensures

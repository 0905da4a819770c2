-- `memory_lists::long_at` meets its contract.
use mathlib.Core.Path.{sym}
use native.Mathlib.Omega.{arith}
use Rattle.memory_lists.proofs.Lists.{long-none, long-is, two-words}
use Rattle.memory_lists.proofs.long_at.Goals as goal

pub returns-then-room-lt8 : goal.returns-then-room-lt8
returns-then-room-lt8 c = let a = c.args in sym (long-none a.s.now a.at (omega arith))

pub returns : goal.returns
returns c =
    let a = c.args in
    let both = two-words c.word_at.result c.word_at-2.result (omega arith) (omega arith) in
    rw (c.from.ensures, c.from-2.ensures, both, c.word_at.ensures, c.word_at-2.ensures) (sym (long-is a.s.now a.at (omega arith)))

-- `memory_lists::wrong_size` meets its contract.
use mathlib.Core.Path.{sym}
use native.Mathlib.Omega.{arith}
use Rattle.memory_lists.proofs.Lists.{size-short, size-counted}
use Rattle.memory_lists.proofs.wrong_size.Goals as goal

pub returns-then-s-lt-COUNT_BYTES : goal.returns-then-s-lt-COUNT_BYTES
returns-then-s-lt-COUNT_BYTES c = let a = c.args in sym (size-short a.s.now (omega arith))

pub returns : goal.returns
returns c =
    let a = c.args in
    rw c.word_at.ensures (sym (size-counted a.s.now (omega arith)))

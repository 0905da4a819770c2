-- `memory_lists::begin_list` meets its contract.
use mathlib.Core.Path.{sym}
use borrow.Author.Tests.{lt-ltb, le-ltb}
use Rattle.words.proofs.Pick.{pick_yes, pick_no}
use Rattle.memory_lists.specs.Converted.{begun}
use Rattle.memory_lists.proofs.begin_list.Goals as goal

pub returns-then-out-bytes : goal.returns-then-out-bytes
unfolding begun
returns-then-out-bytes c = rw (← c.from.ensures) (sym (pick_yes _ _ _ (lt-ltb _ _ c.if-out-bytes.true)))

pub returns : goal.returns
unfolding begun
returns c = rw (c.put_word.ensures, c.from-2.ensures, ← c.from.ensures) (sym (pick_no _ _ _ (le-ltb _ _ c.if-out-bytes.false)))

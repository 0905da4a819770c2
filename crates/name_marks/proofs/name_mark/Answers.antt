-- `name_marks::name_mark` meets its contract: each test of the code decides one of the definition's.
use Rattle.std.proofs.Common.{◌-◌, length, ◌∙◌, arith, ◌≡◌, ◌+◌, ◌≤◌, ap, suc}
use borrow.Author.Tests.{le-leb, lt-leb, lt-ltb, le-ltb}
use Rattle.words.specs.Pick.{pick}
use Rattle.name_marks.specs.Marks.{name_mark}
use Rattle.name_marks.proofs.Laws.{long-alone, short-alone}
use Rattle.name_marks.proofs.name_mark.Goals as goal
use Rattle.name_marks.proofs.name_mark.Goals.{then-room-n-via-then-room-n, then-room-n-via-else-room-n+then-n-gt47}

pub returns-then-room-n : goal.returns-then-room-n
unfolding name_mark pick
returns-then-room-n c =
    let a = c.args in
    elim c.then-room-n.branch [
      | then-room-n-via-then-room-n w ↦ (simp (le-leb (length a.block.now - a.x) a.n (omega arith)), omega arith)
      | then-room-n-via-else-room-n+then-n-gt47 w ↦ (simp (lt-leb (length a.block.now - a.x) a.n (omega arith), lt-ltb _ _ w.if-n-gt47.true), omega arith)
    ]

pub returns-in-0 : goal.returns-in-0
unfolding name_mark pick
returns-in-0 c =
    let a = c.args in
    (simp (lt-leb (length a.block.now - a.x) a.n (omega arith), le-ltb _ _ c.if-n-gt47.false, lt-leb 7 a.n (omega arith), lt-ltb a.n 1 (omega arith)), omega arith)

pub returns-in-1-to-6 : goal.returns-in-1-to-6
unfolding name_mark pick
returns-in-1-to-6 c =
    let a = c.args in
    let size : a.x + a.n + 1 - a.x ≡ suc a.n = omega arith in
    let mark = c.short_mark.ensures.0 ∙ short-alone a.block.now _ a.x a.n (rw size) (omega arith) in
    (mark ∙ simp (lt-leb (length a.block.now - a.x) a.n (omega arith), le-ltb _ _ c.if-n-gt47.false, lt-leb 7 a.n (omega arith), le-ltb a.n 1 (omega arith)), c.short_mark.ensures.1)

pub returns-in_default : goal.returns-in_default
unfolding name_mark pick
returns-in_default c =
    let a = c.args in
    let size : a.x + a.n + 1 - a.x ≡ suc a.n = omega arith in
    let mark = c.long_mark.ensures.0 ∙ long-alone a.block.now _ a.x a.n (rw size) (omega arith) (omega arith) in
    (mark ∙ simp (lt-leb (length a.block.now - a.x) a.n (omega arith), le-ltb _ _ c.if-n-gt47.false, le-leb 7 a.n (omega arith)), c.long_mark.ensures.1)

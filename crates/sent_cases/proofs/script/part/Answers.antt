-- `sent_cases::script::part` meets its contract.
use Prim.Native.Nat.{◌+◌, ◌-◌}
use native.Mathlib.Omega.{arith}
use Rattle.sent_cases.proofs.Laws.{part-past, part-short, part-whole}
use Rattle.sent_cases.proofs.script.part.Goals as goal

pub returns-then-s-at : goal.returns-then-s-at
returns-then-s-at c = let a = c.args in part-past a.s.now a.at a.n (omega arith)

pub returns-then-s-at-2 : goal.returns-then-s-at-2
returns-then-s-at-2 c = let a = c.args in part-short a.s.now a.at a.n (omega arith) (omega arith)

pub returns : goal.returns
returns c =
    let a = c.args in
    part-whole a.s.now a.at a.n (a.at + a.n - a.at) (omega arith) (omega arith) (omega arith)

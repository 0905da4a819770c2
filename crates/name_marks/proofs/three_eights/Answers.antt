-- `name_marks::three_eights` meets its contract.
use Rattle.std.proofs.Common.{◌≡◌, ◌+◌, ◌-◌, ◌/◌, length, arith}
use Rattle.name_marks.specs.Marks.{eights}
use Rattle.name_marks.proofs.three_eights.Goals as goal

pub returns : goal.returns
unfolding eights
returns c =
    let n = length c.args.name.now in
    let last : 0 + (n - 1 - 7) ≡ n - 8 = omega arith in
    let middle : 0 + (n - 1 - 7) / 2 ≡ (n - 8) / 2 = omega arith in
    (rw (c.eight_at-3.ensures, c.eight_at-2.ensures, c.eight_at.ensures, last, middle), omega arith)

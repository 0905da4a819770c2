-- `decimal::put_digits` meets its contract.
use Rattle.std.proofs.Common.{sym, ap, ◌∙◌, rules, arith}
use borrow.Rule.Slice.PartMut.{put_mid}
use Rattle.decimal.specs.Decimal.{digits}
use Rattle.buffer.proofs.Put.{put-mid, put-out}
use Rattle.decimal.proofs.Digits.{some-digit}
use Rattle.decimal.proofs.put_digits.Goals as goal

pub slice_bounds-write_digits-end : goal.slice_bounds-write_digits-end
slice_bounds-write_digits-end c = omega (arith, some-digit c.args.n)

pub returns-then-count-room : goal.returns-then-count-room
returns-then-count-room c =
    let a = c.args in
    (ap (put_mid a.at _ a.dst.now) c.write_digits.ensures ∙ put-mid a.dst.now (digits a.n) a.at _ (omega arith) (omega (arith, some-digit a.n)) (omega arith), search rules, search rules)

pub returns-else-count-room : goal.returns-else-count-room
returns-else-count-room c =
    let a = c.args in
    (sym (put-out a.dst.now a.at (digits a.n) (omega arith)), search rules, search rules)

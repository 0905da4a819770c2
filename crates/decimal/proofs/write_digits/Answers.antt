use Rattle.std.proofs.Common.{◌≡◌, ◌+◌, ◌-◌, suc, [], List, length, drop, take, sym, ap, ◌∙◌, zero-add, arith}
use Rattle.buffer.proofs.Put.{put_in}
use Rattle.buffer.proofs.Words.{put_whole}
use Rattle.decimal.specs.Decimal.{digits}
use Rattle.decimal.proofs.Digits.{all-last, last_more, last_none}
use Rattle.decimal.proofs.write_digits.Goals as goal

pub loop-k-init : goal.loop-k-init
loop-k-init c =
    let d = c.args.dst.now in
    let ds = digits c.args.n in
    rw (c.requires, all-last c.args.n) (sym (put_in d 0 ds (omega arith)) ∙ put_whole d ds c.requires)

pub loop-k-preserved : goal.loop-k-preserved
loop-k-preserved c =
    let e : suc (c.loop-k.k - 1) ≡ c.loop-k.k = omega arith in
    rw zero-add at (last_more c.loop-k.dst 0 (c.loop-k.k - 1) c.loop-k.left) ∙ rw e c.loop-k.invariant

pub returns : goal.returns
returns c = sym (last_none c.loop-k.dst 0 c.loop-k.k c.loop-k.left c.loop-k-test.false) ∙ c.loop-k.invariant

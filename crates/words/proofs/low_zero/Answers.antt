-- `words::low_zero` meets its contract.
use Rattle.std.proofs.Common.{ℕ, ◌*◌, ◌%◌, eqb, sym, ap, arith, pow_pos}
use Rattle.words.proofs.Padding.{low-all, shift-low}
use Rattle.words.proofs.low_zero.Goals as goal

pub returns-then-n-ge4 : goal.returns-then-n-ge4
returns-then-n-ge4 c = ap (λ (w : ℕ). eqb w 0) (sym (low-all c.args.word c.args.n (omega arith) c.if-n-ge4.true))

pub nonzero_rem-result : goal.nonzero_rem-result
nonzero_rem-result c = rw (shift-low c.args.n c.if-n-ge4.false) (pow_pos (8 * c.args.n))

pub returns : goal.returns
returns c = ap (λ (d : ℕ). eqb (c.args.word % d) 0) (shift-low c.args.n c.if-n-ge4.false)

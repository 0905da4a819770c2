-- `words::nuls` meets its contract: the lowest mark stands where the name ends.
use Rattle.std.proofs.Common.{◌≡◌, ℕ, ◌+◌, ◌/◌, ◌%◌, ap, ◌∙◌, arith}
use lib.Count.{count_trailing_zeros}
use Rattle.words.proofs.Marks.{spread, marks, little, lessened, marks-name}
use Rattle.words.proofs.nuls.Goals as goal

pub returns : goal.returns
unfolding marks spread little
returns c =
    let bs = c.args.bytes.now in
    let x = c.from_le_bytes-x.result in
    let r : ℕ = (x + 18374403900871474943) % 18446744073709551616 in
    let e : x ≡ little 8 bs 0 = omega arith in
    ap (λ (y : ℕ). count_trailing_zeros 64 (marks 8 r y) / 8) e ∙ marks-name 8 r bs 0 c.fits-bytes (lessened r (little 8 bs 0) (omega arith) (omega arith))

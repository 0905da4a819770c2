-- `decimal::digit_count` meets its contract: one more than the logarithm, and one for 0.
use Rattle.std.proofs.Common.{ap, ◌+◌, ℕ, ◌∙◌, arith}
use Rattle.decimal.proofs.Digits.{count-logs, log-below}
use Rattle.decimal.proofs.digit_count.Goals as goal

pub returns : goal.returns
returns c =
    let log = c.checked_ilog10.ensures in
    (ap (λ (k : ℕ). k + 1) c.unwrap_or.ensures ∙ count-logs c.checked_ilog10.result c.args.n log.none log.power_le log.next_power_gt, rw c.unwrap_or.ensures (log-below c.checked_ilog10.result log.bound))

-- `decimal::write_digits` meets its contract: what is stored and the digits before it add up to the whole.
use Rattle.std.proofs.Common.{◌≡◌}
use lib.Seq.{sets}
use Rattle.decimal.specs.Decimal.{digits}
use Rattle.decimal.proofs.Digits.{last_digits}
use Rattle.decimal.proofs.write_digits.Given as goal

abbrev pub invariant-loop-k : goal.invariant-loop-k
invariant-loop-k l = sets l.dst 0 (last_digits l.k l.left) ≡ digits l.n

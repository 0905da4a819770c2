-- `reader::tokens::value_of` meets its contract.
use Prim.Native.Nat.{◌+◌, ◌-◌}
use mathlib.Core.Path.{◌≡◌}
use native.Mathlib.Omega.{arith}
use Rattle.words.specs.Bytes.{part}
use Rattle.reader.proofs.tokens.value_of.Goals as goal

pub returns : goal.returns
unfolding part
returns c =
    let e : c.args.p.value + c.args.p.len - c.args.p.value ≡ c.args.p.len = omega arith in
    rw e

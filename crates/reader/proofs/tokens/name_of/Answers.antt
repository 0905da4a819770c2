-- `reader::tokens::name_of` meets its contract.
use Prim.Native.Nat.{◌+◌, ◌-◌}
use mathlib.Core.Path.{◌≡◌}
use native.Mathlib.Omega.{arith}
use Rattle.words.specs.Bytes.{part}
use Rattle.reader.proofs.tokens.name_of.Goals as goal

pub returns : goal.returns
unfolding part
returns c =
    let e : c.args.p.name + c.args.p.n - c.args.p.name ≡ c.args.p.n = omega arith in
    rw e

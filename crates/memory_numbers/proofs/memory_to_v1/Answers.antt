-- `memory_numbers::memory_to_v1` meets its contract.
use Rattle.std.proofs.Common.{◌≡◌, rules}
use mir.Syntax.{w32}
use mir.Val.{to_z, of_z}
use Rattle.memory_numbers.proofs.Numbers.{converted-to}
use Rattle.memory_numbers.proofs.memory_to_v1.Goals as goal

pub returns : goal.returns
returns c =
    let e : to_z w32 (of_z w32 c.answer.result) ≡ c.answer.result = search rules in
    rw e (converted-to _ _ _ (c.answer.ensures c.to_v1.new.out) (c.to_v1.ensures c.args.written.now))

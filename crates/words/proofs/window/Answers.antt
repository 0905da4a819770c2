-- `words::window` meets its contract.
use Rattle.std.proofs.Common.{arith}
use Rattle.std.proofs.lemmas.Grind.{common_steps}
use Rattle.std.proofs.lemmas.List.{take_min}
use Rattle.words.specs.Bytes.{part}
use Rattle.words.proofs.window.Goals as goal

pub returns-in-Some : goal.returns-in-Some
unfolding part
returns-in-Some c = grind (arith, common_steps, take_min)

pub returns-in-None : goal.returns-in-None
unfolding part
returns-in-None c = grind (arith, common_steps)

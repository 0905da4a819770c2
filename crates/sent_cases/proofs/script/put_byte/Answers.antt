-- `sent_cases::script::put_byte` meets its contract.
use borrow.Author.Rules.{rules}
use Rattle.sent_cases.proofs.Laws.{byte-in, byte-out}
use Rattle.sent_cases.proofs.script.put_byte.Goals as goal

pub returns-then-out-at : goal.returns-then-out-at
returns-then-out-at c = let a = c.args in byte-out a.out.now a.at a.x (search rules)

pub returns : goal.returns
returns c = let a = c.args in byte-in a.out.now a.at a.x (search rules)

-- `ledger::line_count` meets its contract: the words have as many lines as the model's ledger.
use mathlib.Core.Path.{sym, ◌∙◌}
use Rattle.table.proofs.Refine.{length-ledger}
use Rattle.ledger.proofs.line_count.Goals as goal

pub returns : goal.returns
returns c = c.used_lines.ensures ∙ sym (length-ledger c.args.t.now)

-- `table::count` meets its contract: the words have as many rows as the model has connectors.
use mathlib.Core.Path.{sym, ◌∙◌}
use Rattle.table.proofs.Refine.{length-connectors}
use Rattle.table.proofs.count.Goals as goal

pub returns : goal.returns
returns c = c.used_rows.ensures ∙ sym (length-connectors c.args.t.now)

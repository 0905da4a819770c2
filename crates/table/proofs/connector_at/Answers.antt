-- `table::connector_at` meets its contract: what stands in the row is read of the model, and past the last row nothing.
use mathlib.Core.Path.{sym, ◌∙◌}
use native.Mathlib.Omega.{arith}
use Rattle.table.specs.Layout.{connector_at}
use Rattle.table.proofs.Refine.{connector-read, connector-past}
use Rattle.table.proofs.connector_at.Goals as goal

pub returns-then-used_rows-i : goal.returns-then-used_rows-i
returns-then-used_rows-i c = c.new_connector.ensures ∙ sym (connector-past c.args.t.now c.args.i (omega arith))

pub returns : goal.returns
unfolding connector_at
returns c = c.connector_of.ensures ∙ c.get_row.ensures ∙ sym (connector-read c.args.t.now c.args.i (omega arith))

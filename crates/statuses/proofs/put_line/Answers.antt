-- `statuses::put_line` meets its contract.
use mathlib.Core.Path.{refl, ◌∙◌}
use Rattle.statuses.proofs.Text.{copied}
use Rattle.statuses.proofs.put_line.Goals as goal

pub returns : goal.returns
returns c = (c.copy_bytes.ensures ∙ copied c.args.text.now c.args.at c.args.line.now c.requires, refl)

-- `property_entries::put_name` meets its contract.
use borrow.Author.Rules.{rules}
use mathlib.Core.Path.{sym}
use native.Mathlib.Omega.{arith}
use Rattle.buffer.proofs.Put.{put-out}
use Rattle.property_entries.specs.declared.ArrayProperty.TheVariants.{Names}
use Rattle.property_entries.specs.Entries.{entry}
use Rattle.property_entries.proofs.put_name.Goals as goal

pub returns-else-n-room : goal.returns-else-n-room
returns-else-n-room c = (sym (put-out c.args.dst.now c.args.at (entry Names c.args.kind c.args.index) (omega arith)), search rules, search rules)

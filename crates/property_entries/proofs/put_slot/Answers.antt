-- `property_entries::put_slot` meets its contract.
use mathlib.Core.Path.{sym}
use native.Mathlib.Omega.{arith}
use Rattle.words.specs.Pick.{pick}
use Rattle.buffer.proofs.Put.{put-out}
use Rattle.type_texts.specs.Types.{text_in, type_text, with_nul}
use Rattle.property_entries.proofs.Entries.{put-nul}
use Rattle.property_entries.proofs.put_slot.Goals as goal

pub returns-then-room-ge5 : goal.returns-then-room-ge5
unfolding text_in pick
returns-then-room-ge5 c = let a = c.args in rw c.put_word.ensures (put-nul a.dst.now a.at (type_text 3) (omega arith))

pub returns-else-room-ge5 : goal.returns-else-room-ge5
unfolding text_in pick
returns-else-room-ge5 c = let a = c.args in sym (put-out a.dst.now a.at (with_nul (type_text 3)) (omega arith))

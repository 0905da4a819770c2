-- `reader_words::read_reply` meets its contract.
use mathlib.Core.Path.{sym, ◌∙◌}
use mir.Facts.{to_z-of_z}
use Rattle.reader_words.proofs.Reading.{written, unwritten}
use Rattle.reader_words.proofs.read_reply.Goals as goal

pub returns-then-is_taken : goal.returns-then-is_taken
returns-then-is_taken c =
    let a = c.args in
    written a.w.now a.status _ a.area.now a.structure.now a.strings.now _ _ _ c.read_reply-read.result c.get_reader.ensures (to_z-of_z c.ranges.status) c.read_reply-read.ensures _ (sym c.is_taken.ensures ∙ c.if-is_taken.true) c.put_reader.ensures

pub returns-else-is_taken : goal.returns-else-is_taken
returns-else-is_taken c =
    let a = c.args in
    unwritten a.w.now a.status _ a.area.now a.structure.now a.strings.now _ _ _ c.read_reply-read.result c.get_reader.ensures (to_z-of_z c.ranges.status) c.read_reply-read.ensures (sym c.is_taken.ensures ∙ c.if-is_taken.false)

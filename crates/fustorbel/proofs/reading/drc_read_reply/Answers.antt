-- `fustorbel::reading::drc_read_reply` meets its contract.
use mathlib.Core.Path.{◌≡◌}
use mir.Facts.{to_z-of_z}
use mir.Syntax.{w32}
use mir.Val.{to_z, of_z}
use Rattle.reader_words.proofs.Reading.{passed_on}
use borrow.Author.Rules.{rules}
use Rattle.fustorbel.proofs.reading.drc_read_reply.Goals as goal

pub returns : goal.returns
returns c =
    let e : to_z w32 (of_z w32 c.read_number.result) ≡ c.read_number.result = search rules in
    let a = c.args in
    passed_on _ _ _ _ _ _ a.status _ a.work.now a.structure.now a.strings.now (to_z-of_z c.ranges.status) e c.read_number.ensures

-- `reader::write` meets its contract.
use Rattle.reader.proofs.Taken.{wrote}
use Rattle.buffer.proofs.Put.{length_part}
use native.Mathlib.Omega.{arith}
use Rattle.reader.proofs.write.Goals as goal

pub returns : goal.returns
returns c =
    let a = c.args in
    wrote a.r a.kind a.p a.place.at a.place.fresh a.size _ _ _ _ a.structure.now a.strings.now _ _
    (length_part a.area.now a.p.name a.p.n (omega arith))
    (length_part a.area.now a.p.value a.p.len (omega arith))
    c.requires.4
    c.requires.1
    c.answer_of.ensures
    c.next_reader.ensures
    c.write_tokens.ensures
    c.write_name.ensures

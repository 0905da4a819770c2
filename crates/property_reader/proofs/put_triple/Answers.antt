-- `property_reader::put_triple` meets its contract.
use Rattle.property_reader.proofs.Reader.{put_three}
use Rattle.property_reader.proofs.put_triple.Goals as goal

pub returns : goal.returns
returns c =
    let a = c.args in
    put_three _ _ _ _ a.at a.index a.kind a.domain c.requires c.put_word.ensures c.put_word-2.ensures c.put_word-3.ensures

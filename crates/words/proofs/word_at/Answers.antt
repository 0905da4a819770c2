-- `words::word_at` meets its contract.
use Rattle.std.proofs.Common.{sym, ◌∙◌, arith}
use Rattle.words.proofs.Bytes.{word_none, word-is}
use Rattle.words.proofs.Parts.{word-part}
use Rattle.words.proofs.word_at.Goals as goal

pub returns-in-Some : goal.returns-in-Some
returns-in-Some c =
    let a = c.args in
    c.from_be_bytes.ensures ∙ word-part a.s.now _ a.at c.in-Some.ensures.1 ∙ sym (word-is a.s.now a.at (omega (arith, c.in-Some.ensures.0)))

pub returns-in-None : goal.returns-in-None
returns-in-None c = let a = c.args in sym (word_none a.s.now a.at (omega (arith, c.in-None.ensures)))

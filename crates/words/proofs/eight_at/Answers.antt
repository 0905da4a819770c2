-- `words::eight_at` meets its contract.
use Rattle.std.proofs.Common.{sym, ◌∙◌, arith}
use Rattle.words.proofs.Bytes.{eight-none, eight_is}
use Rattle.words.proofs.Parts.{eight-part}
use Rattle.words.proofs.eight_at.Goals as goal

pub returns-in-Some : goal.returns-in-Some
returns-in-Some c =
    let a = c.args in
    c.from_le_bytes.ensures ∙ eight-part a.s.now _ a.at c.in-Some.ensures.1 ∙ sym (eight_is a.s.now a.at (omega (arith, c.in-Some.ensures.0)))

pub returns-in-None : goal.returns-in-None
returns-in-None c = let a = c.args in sym (eight-none a.s.now a.at (omega (arith, c.in-None.ensures)))

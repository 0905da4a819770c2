-- `type_texts::kind_of_text` meets its contract.
use mathlib.Core.Path.{ap, ◌∙◌}
use native.Mathlib.Omega.{arith}
use Rattle.words.specs.Pick.{pick}
use Rattle.same_trees.specs.Same.{alike, same_bytes}
use Rattle.type_texts.specs.Types.{kind_in, kind_of_text}
use Rattle.type_texts.proofs.Types.{part-rest, part-past}
use Rattle.type_texts.proofs.kind_of_text.Goals as goal

pub returns-in_err-rest : goal.returns-in_err-rest
unfolding kind_in same_bytes alike pick
returns-in_err-rest c = let a = c.args in rw (c.from_residual.ensures, part-past a.s.now a.at a.n (omega (arith, c.in_err-rest.ensures.lookup.0)))

pub returns : goal.returns
returns c =
    let a = c.args in
    c.kind_named.ensures ∙ ap kind_of_text (part-rest a.s.now c.in_ok-rest.rest.now a.at a.n c.min.result c.in_ok-rest.ensures.lookup.0.2 c.min.ensures)

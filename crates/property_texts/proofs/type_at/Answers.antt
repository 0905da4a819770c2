-- `property_texts::type_at` meets its contract.
use mathlib.Core.Path.{refl, sym, ◌∙◌}
use mathlib.Core.List.{[], ◌∷◌}
use native.Mathlib.Omega.{arith}
use Rattle.words.specs.Pick.{pick}
use Rattle.same_trees.specs.Same.{alike, same_bytes}
use Rattle.type_texts.specs.Types.{kind_in}
use Rattle.property_texts.proofs.Texts.{no_nul, clean-by, typed-there, three-there}
use Rattle.property_texts.proofs.type_at.Goals as goal

pub returns-in-1129338112 : goal.returns-in-1129338112
unfolding no_nul kind_in same_bytes alike pick
returns-in-1129338112 c =
    let a = c.args in
    let stands = three-there a.s.now a.at c.type_inv.s 67 80 85 0 (omega arith) (omega arith) (omega arith) (omega arith) (omega arith) (sym c.word_at.ensures ∙ c.in-1129338112.is) refl in
    typed-there a.s.now a.at (67 ∷ 80 ∷ 85 ∷ []) (clean-by (67 ∷ 80 ∷ 85 ∷ []) refl) stands _ c.of_three.ensures.0 c.of_three.ensures.1

pub returns-in-1346912768 : goal.returns-in-1346912768
unfolding no_nul kind_in same_bytes alike pick
returns-in-1346912768 c =
    let a = c.args in
    let stands = three-there a.s.now a.at c.type_inv.s 80 72 66 0 (omega arith) (omega arith) (omega arith) (omega arith) (omega arith) (sym c.word_at.ensures ∙ c.in-1346912768.is) refl in
    typed-there a.s.now a.at (80 ∷ 72 ∷ 66 ∷ []) (clean-by (80 ∷ 72 ∷ 66 ∷ []) refl) stands _ c.of_three-in-1346912768.ensures.0 c.of_three-in-1346912768.ensures.1

pub returns-in-1296387328 : goal.returns-in-1296387328
unfolding no_nul kind_in same_bytes alike pick
returns-in-1296387328 c =
    let a = c.args in
    let stands = three-there a.s.now a.at c.type_inv.s 77 69 77 0 (omega arith) (omega arith) (omega arith) (omega arith) (omega arith) (sym c.word_at.ensures ∙ c.in-1296387328.is) refl in
    typed-there a.s.now a.at (77 ∷ 69 ∷ 77 ∷ []) (clean-by (77 ∷ 69 ∷ 77 ∷ []) refl) stands _ c.of_three-in-1296387328.ensures.0 c.of_three-in-1296387328.ensures.1

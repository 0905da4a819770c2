-- `property_texts::slot_at` meets its contract.
use mathlib.Core.Path.{refl}
use mathlib.Core.List.{[], ◌∷◌}
use native.Mathlib.Omega.{arith}
use Rattle.words.specs.Pick.{pick}
use Rattle.same_trees.specs.Same.{alike, same_bytes}
use Rattle.type_texts.specs.Types.{kind_in}
use Rattle.property_texts.proofs.Texts.{no_nul, clean-by, typed-there, four-there}
use Rattle.property_texts.proofs.slot_at.Goals as goal

pub returns : goal.returns
unfolding no_nul kind_in same_bytes alike pick
returns c =
    let a = c.args in
    let stands = four-there a.s.now a.at c.type_inv.s 83 76 79 84 (omega arith) (omega arith) (omega arith) (omega arith) (omega arith) c.requires (omega arith) c.if-s-at-ne0.false in
    typed-there a.s.now a.at (83 ∷ 76 ∷ 79 ∷ 84 ∷ []) (clean-by (83 ∷ 76 ∷ 79 ∷ 84 ∷ []) refl) stands _ refl refl

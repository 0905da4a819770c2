-- `property_texts::past_texts` meets its contract: the place behind those to come is the place behind all.
use mathlib.Core.Path.{◌≡◌}
use Prim.Native.Nat.{◌-◌}
use Rattle.property_texts.specs.Texts.{past_texts}
use Rattle.property_texts.proofs.past_texts.Given as goal

abbrev pub invariant-loop : goal.invariant-loop
invariant-loop l = past_texts (l.n - l.counter) l.s l.at ≡ past_texts l.n l.s 4

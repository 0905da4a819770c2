-- `property_texts::scan_types` meets its contract: those passed and those to come make up all.
use mathlib.Core.Path.{◌≡◌}
use mathlib.Core.Bool.{true}
use Prim.Native.Nat.{◌-◌}
use Rattle.words.specs.Pick.{pick}
use Rattle.property_texts.specs.Texts.{past_texts, unknown_in}
use Rattle.property_texts.proofs.scan_types.Given as goal

abbrev pub invariant-loop : goal.invariant-loop
invariant-loop l = record {
  place : past_texts (l.n - l.counter) l.s l.at ≡ past_texts l.n l.s 4;
  found : pick l.unknown true (unknown_in (l.n - l.counter) l.s l.at) ≡ unknown_in l.n l.s 4;
}

-- The same of the calls over plain numbers.
use mathlib.Core.Path.{◌≡◌, refl, ap, sym, ◌∙◌}
use mathlib.Core.Bool.{Bool, true, false}
use Rattle.std.specs.Prelude.{Result, Ok, Err, ⊤}
use lib.IntN.{ℤ, pos, negsuc}
use lib.ListN.{length}
use lib.Seq.{sets}
use Rattle.memory_lists.specs.declared.Refusal.{Refusal}
use Rattle.memory_lists.specs.declared.Refusal.TheVariants.{ZeroSize, WrongSize, TooMany, ReservedNotZero, EmptySet, OutOfRange, NoRoom}
use Rattle.memory_lists.specs.Converted.{converted, is_done, converting_number}
use Rattle.memory_numbers.specs.Numbers.{ConvertedTo}
use Rattle.memory_trip.specs.Trip.{NumbersBack}
use Rattle.memory_trip.proofs.Trip.{only-done, old-back}

-- whether a number is that of no refusal
accepts : ℤ → Bool
accepts (pos n) = true
accepts (negsuc n) = false

accepts-done : (a : Result ⊤ Refusal) → accepts (converting_number a) ≡ is_done a
unfolding accepts
accepts-done (Ok u) = refl
accepts-done (Err ZeroSize) = refl
accepts-done (Err WrongSize) = refl
accepts-done (Err TooMany) = refl
accepts-done (Err ReservedNotZero) = refl
accepts-done (Err EmptySet) = refl
accepts-done (Err OutOfRange) = refl
accepts-done (Err NoRoom) = refl

zero-is-done : (a : Result ⊤ Refusal) → pos 0 ≡ converting_number a → a ≡ Ok tt
unfolding accepts
zero-is-done a e = only-done a (sym (accepts-done a) ∙ sym (ap accepts e))

pub numbers-back : NumbersBack
numbers-back size old out new written n b c out' last written' m r room d =
    let back = old-back size old out written b (zero-is-done _ c.answer) out' written' room in
    let d' : ConvertedTo r last m (converted (Ok tt) (sets out' 0 old) (length old)) = rw (c.list, c.bytes, back) at d in
    (d'.answer, d'.list, d'.bytes)

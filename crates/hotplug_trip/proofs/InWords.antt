-- The same of the calls over plain numbers: their answers, words and bytes.
use Rattle.std.specs.Prelude.{ℕ, Result, Ok, Err}
use mathlib.Core.Path.{◌≡◌, refl, ap, ◌∙◌}
use mathlib.Core.List.{List, [], ◌∷◌}
use native.Mathlib.Omega.{arith}
use lib.IntN.{pos}
use lib.ListN.{length}
use Rattle.hotplug.specs.declared.SectionFault.{SectionFault}
use Rattle.hotplug.specs.declared.SectionFault.TheVariants.{LegacyOfTwenty, WrongLength, WrongId, WrongVersion, WrongIdentifier, WrongType, WrongAction, EmptyRange, RangeTooFar, UnusedNotZero}
use Rattle.hotplug_writer.specs.Writer.{section_left}
use Rattle.hotplug_numbers.specs.Numbers.{format_of, event_of, event_words, fault_number, answer_number, SectionTo, EventTo}
use Rattle.hotplug_trip.specs.Trip.{WordsBack, BytesBack}
use Rattle.hotplug_trip.proofs.Trip.{event-back, section-back}

-- no fault has the number 0
no-zero : (x : SectionFault) → pos 0 ≡ fault_number x → ⊥
no-zero LegacyOfTwenty e = cc
no-zero WrongLength e = cc
no-zero WrongId e = cc
no-zero WrongVersion e = cc
no-zero WrongIdentifier e = cc
no-zero WrongType e = cc
no-zero WrongAction e = cc
no-zero EmptyRange e = cc
no-zero RangeTooFar e = cc
no-zero UnusedNotZero e = cc

-- so only where nothing is refused the answer is 0
zero-ok : {T : Type 0} (r : Result T SectionFault) → pos 0 ≡ answer_number r → (x : T) × (r ≡ Ok x)
zero-ok (Ok x) e = (x, refl)
zero-ok (Err x) e = absurd (no-zero x e)

words-event : (ws : List ℕ) → length ws ≡ 5 → event_words (event_of ws) ≡ ws
words-event [] l = absurd (omega arith)
words-event (a ∷ []) l = absurd (omega arith)
words-event (a ∷ b ∷ []) l = absurd (omega arith)
words-event (a ∷ b ∷ c ∷ []) l = absurd (omega arith)
words-event (a ∷ b ∷ c ∷ d ∷ []) l = absurd (omega arith)
words-event (a ∷ b ∷ c ∷ d ∷ e ∷ []) l = refl
words-event (a ∷ b ∷ c ∷ d ∷ e ∷ g ∷ ws) l = absurd (omega arith)

pub words_back : WordsBack
words_back modern event out out' five w r words words' v =
    let b = event-back (format_of modern) (event_of event) out (zero-ok _ w.answer).1 in
    let v' : EventTo r words words' (Ok (event_of event)) = rw (w.buffer, b) at v in
    (v'.answer, v'.event ∙ words-event event five)

pub bytes_back : BytesBack
bytes_back modern s words words' b v r out out' l w =
    let t = zero-ok _ v.answer in
    let v' : EventTo (pos 0) words words' (Ok t.0) = rw t.1 at v in
    let w' : SectionTo r out' (section_left (Ok tt) s) = rw (ap event_of v'.event, section-back (format_of modern) s out t.0 b t.1 l) at w in
    (w'.answer, w'.buffer)

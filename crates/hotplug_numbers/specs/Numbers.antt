-- The hot-plug event section over plain numbers: which format, an event as five words, and the number of each answer.
use Rattle.std.specs.Prelude.{ℕ, ◌≡◌, List, [], ◌∷◌, eqb, ℤ, pos, negsuc, get_or, Result, Ok, Err}
use Rattle.words.specs.Pick.{pick}
use Rattle.hotplug.specs.declared.Format.{Format}
use Rattle.hotplug.specs.declared.Format.TheVariants.{Legacy, Modern}
use Rattle.hotplug.specs.declared.HotplugEvent.{HotplugEvent}
use Rattle.hotplug.specs.declared.SectionFault.{SectionFault}
use Rattle.hotplug.specs.declared.SectionFault.TheVariants.{LegacyOfTwenty, WrongLength, WrongId, WrongVersion, WrongIdentifier, WrongType, WrongAction, EmptyRange, RangeTooFar, UnusedNotZero}
use Rattle.hotplug_writer.specs.Writer.{SectionLeft}

-- 0 is legacy, any other number modern
abbrev pub format_of : ℕ → Format
format_of modern = pick (eqb modern 0) Legacy Modern

-- type, action, identifier, count, index
abbrev pub event_of : List ℕ → HotplugEvent
event_of ws = record { device = get_or ws 0 0; action = get_or ws 1 0; identifier = get_or ws 2 0; count = get_or ws 3 0; index = get_or ws 4 0 }

abbrev pub event_words : HotplugEvent → List ℕ
event_words e = e.device ∷ e.action ∷ e.identifier ∷ e.count ∷ e.index ∷ []

-- document 02's refusals, numbered in its order
abbrev pub fault_number : SectionFault → ℤ
fault_number LegacyOfTwenty = negsuc 40
fault_number WrongLength = negsuc 41
fault_number WrongId = negsuc 42
fault_number WrongVersion = negsuc 43
fault_number WrongIdentifier = negsuc 44
fault_number WrongType = negsuc 45
fault_number WrongAction = negsuc 46
fault_number EmptyRange = negsuc 47
fault_number RangeTooFar = negsuc 48
fault_number UnusedNotZero = negsuc 49

-- 0 where nothing is refused
abbrev pub answer_number : {T : Type 0} → Result T SectionFault → ℤ
answer_number (Ok x) = pos 0
answer_number (Err fault) = fault_number fault

-- what the writer answers, and leaves of the buffer
pub record SectionTo (r : ℤ) (out : List ℕ) (left : SectionLeft) : Type 0 where
  pub answer : r ≡ answer_number left.answer
  pub buffer : out ≡ left.out

-- the five words: the event's where nothing is refused, else as they were
abbrev pub words_left : Result HotplugEvent SectionFault → List ℕ → List ℕ
words_left (Ok e) words = event_words e
words_left (Err fault) words = words

-- what the reader answers, and leaves of the five words
pub record EventTo (r : ℤ) (words words' : List ℕ) (read : Result HotplugEvent SectionFault) : Type 0 where
  pub answer : r ≡ answer_number read
  pub event : words' ≡ words_left read words

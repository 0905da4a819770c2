-- The hot-plug event section of document 001, and when it is refused: document 02, Ticket 2. The format is a parameter: it says how many bytes a section has, which identifiers, and whether 20 bytes have a number of their own.
use Rattle.std.specs.Prelude.{ℕ, ◌+◌, ◌-◌, Bool, true, false, not, List, [], ◌∷◌, eqb, ltb, leb, Result, Ok, Err}
use Rattle.words.specs.Pick.{every, any}
use Rattle.words.specs.First.{first_of}
use Rattle.hotplug.specs.declared.Format.{Format}
use Rattle.hotplug.specs.declared.Format.TheVariants.{Legacy, Modern}
use Rattle.hotplug.specs.declared.HotplugEvent.{HotplugEvent}
use Rattle.hotplug.specs.declared.SectionFacts.{SectionFacts}
use Rattle.hotplug.specs.declared.SectionFault.{SectionFault}
use Rattle.hotplug.specs.declared.SectionFault.TheVariants.{LegacyOfTwenty, WrongLength, WrongId, WrongVersion, WrongIdentifier, WrongType, WrongAction, EmptyRange, RangeTooFar, UnusedNotZero}

-- how many bytes a section has
abbrev pub section_bytes : Format → ℕ
section_bytes Legacy = 16
section_bytes Modern = 20

-- an event names its connectors by an index, by a count, or by a count and the first index, a range
abbrev pub by_index : ℕ
by_index = 2

abbrev pub by_count : ℕ
by_count = 3

abbrev pub by_range : ℕ
by_range = 4

abbrev pub identifiers : Format → List ℕ
identifiers Legacy = by_index ∷ by_count ∷ []
identifiers Modern = by_index ∷ by_count ∷ by_range ∷ []

-- HP
abbrev pub hotplug_id : ℕ
hotplug_id = 18512

abbrev pub hotplug_version : ℕ
hotplug_version = 1

-- ---- what is refused

abbrev pub is_legacy : Format → Bool
is_legacy Legacy = true
is_legacy Modern = false

abbrev pub differs : ℕ → ℕ → Bool
differs n m = not (eqb n m)

-- not from the first to the last
abbrev pub outside : ℕ → ℕ → ℕ → Bool
outside first last n = not (every (leb first n ∷ leb n last ∷ []))

-- 20 borrowed bytes for the legacy format
abbrev pub legacy_of_twenty : Format → ℕ → Bool
legacy_of_twenty f borrowed = every (is_legacy f ∷ eqb borrowed 20 ∷ [])

-- a wrong length, borrowed or stated
abbrev pub wrong_length : Format → ℕ → ℕ → Bool
wrong_length f borrowed stated = not (every (eqb borrowed (section_bytes f) ∷ eqb stated (section_bytes f) ∷ []))

-- an identifier that the format lacks
abbrev pub lacks : Format → ℕ → Bool
lacks f identifier = not (any (eqb identifier) (identifiers f))

abbrev pub is_range : HotplugEvent → Bool
is_range e = eqb e.identifier by_range

-- a range of no entries
abbrev pub empty_range : HotplugEvent → Bool
empty_range e = every (is_range e ∷ eqb e.count 0 ∷ [])

-- a range whose last index passes FFFFFFFF
abbrev pub range_too_far : HotplugEvent → Bool
range_too_far e = every (is_range e ∷ ltb 4294967295 (e.index + e.count - 1) ∷ [])

-- the refusals in their order, each with its test
abbrev pub tests : Format → SectionFacts → List (Bool × Result Unit SectionFault)
tests f l =
    (legacy_of_twenty f l.borrowed, Err LegacyOfTwenty)
    ∷ (wrong_length f l.borrowed l.stated, Err WrongLength)
    ∷ (differs l.id hotplug_id, Err WrongId)
    ∷ (differs l.version hotplug_version, Err WrongVersion)
    ∷ (lacks f l.event.identifier, Err WrongIdentifier)
    ∷ (outside 1 5 l.event.device, Err WrongType)
    ∷ (outside 1 2 l.event.action, Err WrongAction)
    ∷ (empty_range l.event, Err EmptyRange)
    ∷ (range_too_far l.event, Err RangeTooFar)
    ∷ (l.dirty, Err UnusedNotZero)
    ∷ []

-- the first that applies
unfoldable pub fault_of : Format → SectionFacts → Result Unit SectionFault
fault_of f l = first_of (tests f l) (Ok tt)

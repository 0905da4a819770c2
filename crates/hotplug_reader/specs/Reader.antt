-- The event of a hot-plug event section, read.
use Rattle.std.specs.Prelude.{ℕ, ◌+◌, ◌*◌, Bool, true, not, List, [], ◌∷◌, eqb, length, get_or, Result, Ok}
use Rattle.std.specs.Result.{result_and}
use Rattle.words.specs.Pick.{pick, every}
use Rattle.words.specs.Bytes.{word_at, zero_at}
use Rattle.hotplug.specs.declared.Format.{Format}
use Rattle.hotplug.specs.declared.HotplugEvent.{HotplugEvent}
use Rattle.hotplug.specs.declared.SectionFacts.{SectionFacts}
use Rattle.hotplug.specs.declared.SectionFault.{SectionFault}
use Rattle.hotplug.specs.Sections.{by_index, by_range, fault_of}

abbrev pub byte_at : List ℕ → ℕ → ℕ
byte_at s at = get_or s at 0

-- the big-endian number of two bytes
abbrev pub half_at : List ℕ → ℕ → ℕ
half_at s at = byte_at s at * 256 + byte_at s (at + 1)

-- how the section names its connectors
abbrev pub identifier_in : List ℕ → ℕ
identifier_in s = byte_at s 10

-- bytes 12 to 15 are an index, or else a count; the index behind a range's count is in bytes 16 to 19
abbrev pub count_named : List ℕ → ℕ
count_named s = pick (eqb (identifier_in s) by_index) 0 (word_at s 12)

abbrev pub index_named : List ℕ → ℕ
index_named s = pick (eqb (identifier_in s) by_index) (word_at s 12) (pick (eqb (identifier_in s) by_range) (word_at s 16) 0)

unfoldable pub event_in : List ℕ → HotplugEvent
event_in s = record { device = byte_at s 8; action = byte_at s 9; identifier = identifier_in s; count = count_named s; index = index_named s }

-- bytes 5 to 7, 11, and 16 to 19 unless the section names a range
unfoldable pub unused_are_zero : List ℕ → Bool
unused_are_zero s = every (zero_at 3 s 5 ∷ zero_at 1 s 11 ∷ pick (eqb (identifier_in s) by_range) true (zero_at 4 s 16) ∷ [])

-- what the reader finds
abbrev pub found : List ℕ → SectionFacts
found s = record { borrowed = length s; stated = half_at s 2; id = half_at s 0; version = byte_at s 4; event = event_in s; dirty = not (unused_are_zero s) }

-- the section's event; or what it is refused for
unfoldable pub read_section : Format → List ℕ → Result HotplugEvent SectionFault
read_section f s = result_and (fault_of f (found s)) (Ok (event_in s))

-- The hot-plug event section of an event, written.
use Rattle.std.specs.Prelude.{ℕ, ◌/◌, ◌%◌, not, List, [], ◌∷◌, ◌++◌, eqb, length, Result, is_ok}
use Rattle.words.specs.Pick.{pick}
use Rattle.buffer.specs.Put.{bytes32}
use Rattle.hotplug.specs.declared.Format.{Format}
use Rattle.hotplug.specs.declared.Format.TheVariants.{Legacy, Modern}
use Rattle.hotplug.specs.declared.HotplugEvent.{HotplugEvent}
use Rattle.hotplug.specs.declared.SectionFacts.{SectionFacts}
use Rattle.hotplug.specs.declared.SectionFault.{SectionFault}
use Rattle.hotplug.specs.Sections.{by_index, by_count, is_range, section_bytes, hotplug_id, hotplug_version, fault_of}

-- the two bytes of a big-endian number
abbrev pub bytes16 : ℕ → List ℕ
bytes16 x = x / 256 ∷ x % 256 ∷ []

-- bytes 8 to 11: type, action, identifier and an unused byte
abbrev pub event_bytes : HotplugEvent → List ℕ
event_bytes e = e.device ∷ e.action ∷ e.identifier ∷ 0 ∷ []

-- bytes 12 to 15: the index where the event names its connector by it, else the count
abbrev pub index_or_count : HotplugEvent → ℕ
index_or_count e = pick (eqb e.identifier by_index) e.index e.count

-- bytes 16 to 19, which only a modern section has: the first index of a range, else zero
abbrev pub first_index : HotplugEvent → ℕ
first_index e = pick (is_range e) e.index 0

abbrev pub further_bytes : Format → HotplugEvent → List ℕ
further_bytes Legacy e = []
further_bytes Modern e = bytes32 (first_index e)

-- id and length, version and three unused bytes, and so on
unfoldable pub section : Format → HotplugEvent → List ℕ
section f e = bytes16 hotplug_id ++ bytes16 (section_bytes f) ++ (hotplug_version ∷ 0 ∷ 0 ∷ 0 ∷ []) ++ event_bytes e ++ bytes32 (index_or_count e) ++ further_bytes f e

-- the word of an event that it does not use: the count beside an index, the index beside a count
abbrev pub unused_word : HotplugEvent → ℕ
unused_word e = pick (eqb e.identifier by_index) e.count (pick (eqb e.identifier by_count) e.index 0)

-- what the writer is given; stated length, id and version are its own, so they are right
abbrev pub given : Format → HotplugEvent → ℕ → SectionFacts
given f e borrowed = record { borrowed = borrowed; stated = section_bytes f; id = hotplug_id; version = hotplug_version; event = e; dirty = not (eqb (unused_word e) 0) }

-- an answer, and the buffer as it is left
pub record SectionLeft : Type 0 where
  pub answer : Result Unit SectionFault
  pub out : List ℕ

abbrev pub section_left : Result Unit SectionFault → List ℕ → SectionLeft
section_left answer out = record { answer = answer; out = out }

-- the section, over the whole buffer; a refusal leaves the buffer as it was
unfoldable pub write_section : Format → HotplugEvent → List ℕ → SectionLeft
write_section f e out =
    let answer = fault_of f (given f e (length out)) in
    section_left answer (pick (is_ok answer) (section f e) out)

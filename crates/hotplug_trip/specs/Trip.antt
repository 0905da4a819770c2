-- A hot-plug event section written and read back, and one read and written back.
use Rattle.std.specs.Prelude.{ℕ, ◌<◌, ◌≡◌, List, ℤ, pos, length, get_or, IsOk, Ok}
use Rattle.hotplug.specs.declared.Format.{Format}
use Rattle.hotplug.specs.declared.HotplugEvent.{HotplugEvent}
use Rattle.hotplug_writer.specs.Writer.{section_left, write_section}
use Rattle.hotplug_reader.specs.Reader.{read_section}
use Rattle.hotplug_numbers.specs.Numbers.{format_of, event_of, SectionTo, EventTo}

-- every element is a byte
abbrev pub AreBytes : List ℕ → Type 0
AreBytes s = (i : ℕ) → get_or s i 0 < 256

-- reading what was written gives the same event
abbrev pub EventBack : Type 0
EventBack = (f : Format) (e : HotplugEvent) (out : List ℕ) → (write_section f e out).answer ≡ Ok tt → read_section f (write_section f e out).out ≡ Ok e

-- writing what was read, over as many bytes, gives the same bytes
abbrev pub SectionBack : Type 0
SectionBack = (f : Format) (s out : List ℕ) (e : HotplugEvent) → AreBytes s → read_section f s ≡ Ok e → length out ≡ length s → write_section f e out ≡ section_left (Ok tt) s

-- so the reader takes bytes if and only if the writer writes them for some event
pub record SameSections (f : Format) (s : List ℕ) : Type 0 where
  pub made : AreBytes s → IsOk (read_section f s) → (e : HotplugEvent) × ((out : List ℕ) → length out ≡ length s → write_section f e out ≡ section_left (Ok tt) s)
  pub taken : (e : HotplugEvent) (out : List ℕ) → write_section f e out ≡ section_left (Ok tt) s → IsOk (read_section f s)

abbrev pub EverySection : Type 0
EverySection = (f : Format) (s : List ℕ) → SameSections f s

-- the same of calls over plain numbers: five words written with answer 0 are read back with answer 0
abbrev pub WordsBack : Type 0
WordsBack =
    (modern : ℕ) (event out out' : List ℕ) → length event ≡ 5 → SectionTo (pos 0) out' (write_section (format_of modern) (event_of event) out) →
    (r : ℤ) (words words' : List ℕ) → EventTo r words words' (read_section (format_of modern) out') → (r ≡ pos 0) × (words' ≡ event)

-- and bytes read with answer 0 are written back with answer 0
abbrev pub BytesBack : Type 0
BytesBack =
    (modern : ℕ) (s words words' : List ℕ) → AreBytes s → EventTo (pos 0) words words' (read_section (format_of modern) s) →
    (r : ℤ) (out out' : List ℕ) → length out ≡ length s → SectionTo r out' (write_section (format_of modern) (event_of words') out) → (r ≡ pos 0) × (out' ≡ s)

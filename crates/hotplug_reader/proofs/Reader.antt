-- What is read where nothing is refused, and where something is.
use mathlib.Core.Path.{◌≡◌, refl}
use Rattle.std.specs.Prelude.{ℕ, List, length, ◌<◌, Result, Ok, Err}
use Rattle.std.specs.Result.{result_and}
use Rattle.hotplug.specs.declared.Format.{Format}
use Rattle.hotplug.specs.declared.HotplugEvent.{HotplugEvent}
use Rattle.hotplug.specs.declared.SectionFault.TheVariants.{WrongLength}
use Rattle.hotplug.specs.Sections.{fault_of}
use Rattle.hotplug.proofs.Sections.{too_short}
use Rattle.hotplug_reader.specs.Reader.{event_in, found, read_section}

module _ (f : Format) (s : List ℕ) where
  pub event-read : fault_of f (found s) ≡ Ok tt → read_section f s ≡ Ok (event_in s)
  unfolding read_section
  event-read h = rw h refl

  pub read_short : length s < 16 → Err WrongLength ≡ read_section f s
  unfolding read_section
  read_short h = rw (too_short f (found s) h) refl

  pub read-ok : (e : HotplugEvent) → read_section f s ≡ Ok e → (fault_of f (found s) ≡ Ok tt) × (event_in s ≡ e)
  unfolding read_section
  read-ok e h = both (fault_of f (found s)) (event_in s) e h
    where
      both : {E : Type 0} (r : Result Unit E) (a b : HotplugEvent) → result_and r (Ok a) ≡ Ok b → (r ≡ Ok tt) × (a ≡ b)
      both (Ok x) a b k = (refl, cc)
      both (Err x) a b k = (cc, cc)

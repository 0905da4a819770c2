-- A section as five words, and what the writer leaves.
use mathlib.Core.Path.{◌≡◌, refl, ap, ◌∙◌}
use mathlib.Core.List.{List, [], ◌∷◌, ◌++◌}
use Rattle.std.specs.Prelude.{Ok}
use Prim.Native.Nat.{ℕ, ◌+◌, ◌*◌, ◌/◌, ◌%◌, ◌<◌, ◌≤◌}
use native.Mathlib.Omega.{arith}
use lib.ListN.{length}
use Rattle.words.proofs.Pick.{pick_yes}
use Rattle.buffer.specs.Put.{bytes32, put}
use Rattle.buffer.proofs.Words.{put_whole}
use Rattle.buffer.proofs.Put.{put-out, put-append}
use Rattle.hotplug.specs.declared.Format.{Format}
use Rattle.hotplug.specs.declared.Format.TheVariants.{Legacy, Modern}
use Rattle.hotplug.specs.declared.HotplugEvent.{HotplugEvent}
use Rattle.hotplug.specs.Sections.{section_bytes, hotplug_id, fault_of}
use Rattle.hotplug.proofs.Sections.{all-passed, within, lengths-right, small-identifier}
use Rattle.hotplug_writer.specs.Writer.{event_bytes, index_or_count, first_index, section, given, section_left, write_section}

pub event-bytes : (d a i : ℕ) → d < 256 → a < 256 → i < 256 → bytes32 (d * 16777216 + a * 65536 + i * 256) ≡ d ∷ a ∷ i ∷ 0 ∷ []
event-bytes d a i ld la li =
    let first : (d * 16777216 + a * 65536 + i * 256) / 16777216 ≡ d = omega arith in
    let second : (d * 16777216 + a * 65536 + i * 256) / 65536 % 256 ≡ a = omega arith in
    let third : (d * 16777216 + a * 65536 + i * 256) / 256 % 256 ≡ i = omega arith in
    let fourth : (d * 16777216 + a * 65536 + i * 256) % 256 ≡ 0 = omega arith in
    rw (first, second, third, fourth)

-- words written one after the other are bytes written once
module _ (d : List ℕ) (a b c x : ℕ) where
  abbrev four : List ℕ
  four = bytes32 a ++ bytes32 b ++ bytes32 c ++ bytes32 x

  abbrev after-four : List ℕ
  after-four = put (put (put (put d 0 (bytes32 a)) 4 (bytes32 b)) 8 (bytes32 c)) 12 (bytes32 x)

  four-words : 16 ≤ length d → after-four ≡ put d 0 four
  four-words h =
      rw (put-append d 0 (bytes32 a) (bytes32 b) (omega arith), put-append d 0 (bytes32 a ++ bytes32 b) (bytes32 c) (omega arith))
      (put-append d 0 (bytes32 a ++ bytes32 b ++ bytes32 c) (bytes32 x) (omega arith))

  -- a fifth finds no room, or room
  no-fifth : (y : ℕ) → length d ≡ 16 → put after-four 16 (bytes32 y) ≡ four
  no-fifth y e = rw (four-words (omega arith), put_whole d four e) (put-out four 16 (bytes32 y) (omega arith))

  a-fifth : (y : ℕ) → length d ≡ 20 → put after-four 16 (bytes32 y) ≡ four ++ bytes32 y
  a-fifth y e = rw (four-words (omega arith)) (put-append d 0 four (bytes32 y) (omega arith) ∙ put_whole d (four ++ bytes32 y) e)

five-words : (f : Format) (e : HotplugEvent) (d : List ℕ) (w : ℕ) → length d ≡ section_bytes f → bytes32 w ≡ event_bytes e →
    put (after-four d (hotplug_id * 65536 + section_bytes f) 16777216 w (index_or_count e)) 16 (bytes32 (first_index e)) ≡ section f e
unfolding section
five-words Legacy e d w l p = no-fifth d (hotplug_id * 65536 + 16) 16777216 w (index_or_count e) (first_index e) l ∙ ap (λ (m : List ℕ). 72 ∷ 80 ∷ 0 ∷ 16 ∷ 1 ∷ 0 ∷ 0 ∷ 0 ∷ (m ++ bytes32 (index_or_count e))) p
five-words Modern e d w l p = a-fifth d (hotplug_id * 65536 + 20) 16777216 w (index_or_count e) (first_index e) l ∙ ap (λ (m : List ℕ). 72 ∷ 80 ∷ 0 ∷ 20 ∷ 1 ∷ 0 ∷ 0 ∷ 0 ∷ (m ++ bytes32 (index_or_count e) ++ bytes32 (first_index e))) p

-- the five words as the code puts them
pub words-put : (f : Format) (e : HotplugEvent) (d d₁ d₂ d₃ d₄ d₅ : List ℕ) (n w x y : ℕ) → length d ≡ section_bytes f → n ≡ section_bytes f → bytes32 w ≡ event_bytes e → x ≡ index_or_count e → y ≡ first_index e →
    d₁ ≡ put d 0 (bytes32 (hotplug_id * 65536 + n)) → d₂ ≡ put d₁ 4 (bytes32 16777216) → d₃ ≡ put d₂ 8 (bytes32 w) → d₄ ≡ put d₃ 12 (bytes32 x) → d₅ ≡ put d₄ 16 (bytes32 y) → d₅ ≡ section f e
words-put f e d d₁ d₂ d₃ d₄ d₅ n w x y l en ew ex ey p₁ p₂ p₃ p₄ p₅ = rw (p₅, p₄, p₃, p₂, p₁, en, ex, ey) (five-words f e d w l ew)

-- an event that is not refused has numbers that are bytes
pub numbers_fit : (f : Format) (e : HotplugEvent) (n : ℕ) → fault_of f (given f e n) ≡ Ok tt → (n ≡ section_bytes f) × (e.device < 256) × (e.action < 256) × (e.identifier < 256)
numbers_fit f e n h =
    let p = all-passed f (given f e n) h in
    let t = p.1.1.1.1 in
    let d = within 1 5 e.device t.1.0 in
    let a = within 1 2 e.action t.1.1.0 in
    ((lengths-right f n (section_bytes f) p.1.0).0, omega (arith, d.1), omega (arith, a.1), small-identifier f e.identifier t.0)

pub fault-left : (f : Format) (e : HotplugEvent) (out : List ℕ) → (write_section f e out).answer ≡ fault_of f (given f e (length out))
unfolding write_section
fault-left f e out = refl

-- what is left where nothing is refused
pub section-written : (f : Format) (e : HotplugEvent) (out : List ℕ) → fault_of f (given f e (length out)) ≡ Ok tt → write_section f e out ≡ section_left (Ok tt) (section f e)
unfolding write_section
section-written f e out h = rw h (ap (section_left (Ok tt)) (pick_yes _ _ _ refl))

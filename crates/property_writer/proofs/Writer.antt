-- The writer's answer, from what was measured.
use mathlib.Core.Path.{◌≡◌, sym, ◌∙◌}
use Rattle.std.specs.Prelude.{Ok, Err}
use mathlib.Core.Bool.{Bool, true, false, not}
use mathlib.Core.List.{List, [], ◌∷◌}
use Prim.Native.Nat.{ℕ, ◌+◌, ◌*◌}
use lib.Dec.{leb}
use lib.ListN.{length}
use borrow.Author.Tests.{leb-true, not-true, not-false}
use Rattle.words.specs.Pick.{every}
use Rattle.words.proofs.Pick.{pick_yes, pick_no, every-each}
use Rattle.connector.specs.declared.Connector.{Connector}
use Rattle.property_sizes.specs.declared.Sizes.{Sizes}
use Rattle.property_entries.specs.declared.ArrayProperty.TheVariants.{Names, Indexes, Domains, Types}
use Rattle.property_sizes.specs.Arrays.{Measured, array}
use Rattle.property_writer.specs.Rows.{RoomForAll, AllWritten}
use Rattle.property_writer.specs.Writer.{Buffers, buffers, no_room, room_for_all, writer_left, write_arrays}
use Rattle.property_writer.proofs.Rows.{indexes-long, domains-long}

module _ (cs : List Connector) (s : Sizes) (m : Measured s cs) (b : Buffers) where
  -- the sizes as they were measured, against the buffers' lengths
  abbrev pub measured_room : Bool
  measured_room = every (leb s.names (length b.names) ∷ leb (4 + 4 * s.count) (length b.indexes) ∷ leb (4 + 4 * s.count) (length b.domains) ∷ leb s.types (length b.types) ∷ [])

  same-room : measured_room ≡ room_for_all cs b
  same-room = rw (m.names, m.count, m.types, ← indexes-long cs) (rw (indexes-long cs, ← domains-long cs))

  -- a test of it, as the code makes it
  module _ (r : Bool) (t : r ≡ measured_room) where
    pub refused : not r ≡ true → writer_left (Err no_room) b ≡ write_arrays cs b
    unfolding write_arrays
    refused e = sym (pick_no _ _ _ (sym (t ∙ same-room) ∙ not-true r e))

    fitting : not r ≡ false → room_for_all cs b ≡ true
    fitting e = sym (t ∙ same-room) ∙ not-false r e

    pub room_for : not r ≡ false → RoomForAll cs b.names b.indexes b.domains b.types
    room_for e =
        let f = every-each _ (fitting e) in
        record { names-fit = leb-true _ _ f.0; indexes-fit = leb-true _ _ f.1.0; domains-fit = leb-true _ _ f.1.1.0; types-fit = leb-true _ _ f.1.1.1.0 }

    all-lengths : s.names ∷ (4 + 4 * s.count) ∷ (4 + 4 * s.count) ∷ s.types ∷ [] ≡ length (array Names cs) ∷ length (array Indexes cs) ∷ length (array Domains cs) ∷ length (array Types cs) ∷ []
    all-lengths = rw (m.names, m.count, m.types, indexes-long cs, domains-long cs)

    pub all-written : (names indexes domains types : List ℕ) → not r ≡ false → AllWritten cs b.names b.indexes b.domains b.types names indexes domains types → writer_left (Ok tt) (buffers names indexes domains types (s.names ∷ (4 + 4 * s.count) ∷ (4 + 4 * s.count) ∷ s.types ∷ [])) ≡ write_arrays cs b
    unfolding write_arrays
    all-written names indexes domains types e f = rw (f.names-are, f.indexes-are, f.domains-are, f.types_are, all-lengths) (sym (pick_yes _ _ _ (fitting e)))

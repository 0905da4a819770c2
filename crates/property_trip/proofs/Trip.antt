-- The round trip: `every-trip`.
use mathlib.Core.Path.{◌≡◌, ap, sym, ◌∙◌}
use mathlib.Core.Bool.{true, false}
use mathlib.Core.List.{List}
use Prim.Native.Nat.{ℕ, ◌+◌, ◌*◌, ◌≤◌}
use native.Mathlib.Omega.{arith}
use lib.Dec.{ltb}
use lib.ListN.{length, take, drop}
use lib.Seq.{sets, sets-eq, take-append_seam}
use borrow.Author.Tests.{eq-eqb, le-ltb, leb-true}
use Rattle.words.specs.Pick.{pick}
use Rattle.words.proofs.Pick.{pick_yes, every-each}
use Rattle.connector.specs.declared.Connector.{Connector}
use Rattle.table.specs.Model.{table_of}
use Rattle.property_entries.specs.declared.ArrayProperty.{ArrayProperty}
use Rattle.property_entries.specs.declared.ArrayProperty.TheVariants.{Names, Indexes, Domains, Types}
use Rattle.property_texts.specs.Texts.{past_texts}
use Rattle.property_sizes.specs.Arrays.{listed, array}
use Rattle.property_sizes.proofs.Arrays.{length-array}
use Rattle.std.specs.Prelude.{Ok}
use Rattle.property_writer.specs.Writer.{Buffers, room_for_all, with_arrays, WriterLeft, writer_left, write_arrays}
use Rattle.property_writer.proofs.Rows.{indexes-long, domains-long}
use Rattle.property_reader.specs.Reader.{Arrays, arrays, either, cut_short, counts_differ, unended, left_over, first_refusal, answer_to, list_from, list_of, list_left, listing, read_properties}
use Rattle.property_reader.proofs.Reader.{whole}
use Rattle.property_trip.specs.Trip.{arrays_in, connector_list, EveryTrip}
use Rattle.property_trip.proofs.Arrays.{Known, listed-known, count-back, indexes-back, domains-back, types-past, names-past, kinds-back, kinds-told, known-back, triples-back}

-- ---- the arrays of connectors of known kinds pass every test
module _ (cs : List Connector) (k : Known cs) where
  abbrev written : Arrays
  written = arrays (array Names cs) (array Indexes cs) (array Domains cs) (array Types cs)

  not-under : (property : ArrayProperty) → ltb (length (array property cs)) 4 ≡ false
  not-under property = le-ltb (length (array property cs)) 4 (omega (arith, length-array property cs))

  not_short : cut_short written ≡ false
  unfolding cut_short either pick
  not_short =
      rw (
        not-under Names,
        not-under Indexes,
        not-under Domains,
        not-under Types,
        count-back Indexes cs,
        count-back Domains cs,
        le-ltb (length (array Indexes cs)) (4 + 4 * length cs) (omega (arith, indexes-long cs)),
        le-ltb (length (array Domains cs)) (4 + 4 * length cs) (omega (arith, domains-long cs)),
      )

  same-counts : counts_differ (length cs) (array Indexes cs) (array Domains cs) (array Types cs) ≡ false
  unfolding counts_differ either pick
  same-counts = rw (eq-eqb _ _ (count-back Indexes cs), eq-eqb _ _ (count-back Domains cs), eq-eqb _ _ (count-back Types cs))

  all-ended : unended (length cs) (array Names cs) (array Types cs) ≡ false
  unfolding unended either pick
  all-ended =
      rw (
        le-ltb (length (array Names cs)) (past_texts (length cs) (array Names cs) 4) (omega (arith, names-past cs k)),
        le-ltb (length (array Types cs)) (past_texts (length cs) (array Types cs) 4) (omega (arith, types-past cs k)),
      )

  none_left : left_over (length cs) written ≡ false
  unfolding left_over either pick
  none_left =
      rw (
        le-ltb (past_texts (length cs) (array Names cs) 4) (length (array Names cs)) (omega (arith, names-past cs k)),
        le-ltb (4 + 4 * length cs) (length (array Indexes cs)) (omega (arith, indexes-long cs)),
        le-ltb (4 + 4 * length cs) (length (array Domains cs)) (omega (arith, domains-long cs)),
        le-ltb (past_texts (length cs) (array Types cs) 4) (length (array Types cs)) (omega (arith, types-past cs k)),
      )

  list_back : list_of (length cs) written ≡ connector_list cs
  unfolding list_from
  list_back = rw (indexes-back cs, domains-back cs, kinds-back cs k, kinds-told cs) (triples-back cs)

  answer_back : (out : List ℕ) → 12 * length cs ≤ length out → answer_to (length cs) written (length out) ≡ Ok (12 * length cs)
  unfolding answer_to first_refusal pick
  answer_back out room = rw (not_short, same-counts, all-ended, known-back cs k, none_left, le-ltb (length out) (12 * length cs) room)

  arrays-back : (out : List ℕ) → 12 * length cs ≤ length out → read_properties written out ≡ list_left (Ok (12 * length cs)) (sets out 0 (connector_list cs))
  arrays-back out room =
      ap (λ n. listing n written out) (count-back Names cs)
      ∙ sym (whole (length cs) written out (12 * length cs) _ (answer_back out room) (ap (sets out 0) (sym list_back)))

-- ---- what stands in a buffer
found : (d bs : List ℕ) → length bs ≤ length d → take (length bs) (sets d 0 bs) ≡ bs
found d bs h = rw (sets-eq bs d 0 (omega arith)) (take-append_seam bs (drop (0 + length bs) d))

-- with room enough
module _ (cs : List Connector) (b : Buffers) (fits : room_for_all cs b ≡ true) where
  written_all : write_arrays cs b ≡ writer_left (Ok tt) (with_arrays cs b)
  unfolding write_arrays
  written_all = pick_yes _ _ _ fits

  arrays-found : arrays_in (with_arrays cs b) ≡ arrays (array Names cs) (array Indexes cs) (array Domains cs) (array Types cs)
  arrays-found =
      let r = every-each _ fits in
      rw (
        found b.names (array Names cs) (leb-true _ _ r.0),
        found b.indexes (array Indexes cs) (leb-true _ _ r.1.0),
        found b.domains (array Domains cs) (leb-true _ _ r.1.1.0),
        found b.types (array Types cs) (leb-true _ _ r.1.1.1.0),
      )

pub every-trip : EveryTrip
every-trip t partition b out fits room =
    let cs = listed partition (table_of t) in
    let w = written_all cs b fits in
    record {
      writes = rw w;
      reads = ap (λ (o : WriterLeft). read_properties (arrays_in o.left) out) w ∙ ap (λ a. read_properties a out) (arrays-found cs b fits) ∙ arrays-back cs (listed-known partition (table_of t)) out room;
    }

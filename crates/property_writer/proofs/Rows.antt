-- Laws of the entries of rows, as a pass over the table writes them.
use mathlib.Core.Path.{◌≡◌, refl, ap, sym, ◌∙◌}
use mathlib.Core.Bool.{true, false}
use mathlib.Core.List.{List, [], ◌∷◌, ◌++◌, flat_map}
use Prim.Native.Nat.{ℕ, ◌+◌, ◌-◌, ◌*◌, ◌<◌, ◌≤◌}
use native.Mathlib.Omega.{arith}
use lib.ListN.{length, length-append}
use lib.Seq.{sets}
use Rattle.buffer.specs.Put.{put, bytes32}
use Rattle.buffer.proofs.Put.{put_in, put-append}
use Rattle.connector.specs.declared.Connector.{Connector}
use Rattle.table.specs.Model.{Model, rows}
use Rattle.property_entries.specs.declared.ArrayProperty.{ArrayProperty}
use Rattle.property_entries.specs.declared.ArrayProperty.TheVariants.{Indexes, Domains}
use Rattle.property_entries.specs.Entries.{entry}
use Rattle.property_sizes.specs.Arrays.{keep, is_listed, listed, entry_in, array}
use Rattle.property_sizes.proofs.Arrays.{keep-yes, keep-no, keep-end, keep-next, flat_append, flat-one, length-array}
use Rattle.property_writer.specs.Rows.{entries_of}

-- the entry of one row, where it is listed and where not
module _ (property : ArrayProperty) (partition : ℕ) (c : Connector) where
  pub entry-yes : is_listed partition c ≡ true → entries_of property partition (c ∷ []) ≡ entry_in property c
  unfolding entries_of
  entry-yes e = rw (keep-yes (is_listed partition) c e) (flat-one (entry_in property) c)

  pub entry-no : is_listed partition c ≡ false → entries_of property partition (c ∷ []) ≡ []
  unfolding entries_of flat_map
  entry-no e = rw (keep-no (is_listed partition) c e)

-- an array is its count and the entries of all rows
module _ (property : ArrayProperty) (partition : ℕ) (m : Model) where
  array-all : array property (listed partition m) ≡ bytes32 (length (listed partition m)) ++ entries_of property partition m.connectors
  unfolding array listed entries_of
  array-all = refl

  pub array_long : length (array property (listed partition m)) ≡ 4 + length (entries_of property partition m.connectors)
  array_long = rw array-all (length-append (bytes32 (length (listed partition m))) (entries_of property partition m.connectors))

  -- the count is put, and then the entries
  pub put-array : (d d₁ d₂ : List ℕ) (n : ℕ) → n ≡ length (listed partition m) → d₁ ≡ put d 0 (bytes32 n) → d₂ ≡ put d₁ 4 (entries_of property partition m.connectors) → length (array property (listed partition m)) ≤ length d → d₂ ≡ sets d 0 (array property (listed partition m))
  put-array d d₁ d₂ n c e f h =
      let bs = bytes32 (length (listed partition m)) in
      let es = entries_of property partition m.connectors in
      f
      ∙ rw (e, c)
      (put-append d 0 bs es (omega (arith, array_long))
      ∙ sym (ap (put d 0) array-all)
      ∙ put_in d 0 (array property (listed partition m)) (omega arith))

module _ (property : ArrayProperty) (partition : ℕ) (f : ℕ → Connector) (i n : ℕ) where
  pub entries-end : n ≤ i → entries_of property partition (rows f i (n - i)) ≡ []
  unfolding entries_of flat_map
  entries-end h = rw (keep-end (is_listed partition) f i n h)

  entries_next : i < n → entries_of property partition (rows f i (n - i)) ≡ entries_of property partition (f i ∷ []) ++ entries_of property partition (rows f (i + 1) (n - (i + 1)))
  unfolding entries_of
  entries_next h = rw (keep-next (is_listed partition) f i n h) (flat_append (entry_in property) (keep (is_listed partition) (f i ∷ [])) (keep (is_listed partition) (rows f (i + 1) (n - (i + 1)))))

  -- how long the entries from a row on are
  pub entries-long : i < n → length (entries_of property partition (rows f i (n - i))) ≡ length (entries_of property partition (f i ∷ [])) + length (entries_of property partition (rows f (i + 1) (n - (i + 1))))
  entries-long h = rw (entries_next h) (length-append (entries_of property partition (f i ∷ [])) (entries_of property partition (rows f (i + 1) (n - (i + 1)))))

  -- a row's entry is put, and then those after it
  pub put_next : (d d' : List ℕ) (at r : ℕ) → i < n → d' ≡ put d at (entries_of property partition (f i ∷ [])) → r ≡ at + length (entries_of property partition (f i ∷ [])) → length (entries_of property partition (rows f i (n - i))) ≤ length d - at → put d' r (entries_of property partition (rows f (i + 1) (n - (i + 1)))) ≡ put d at (entries_of property partition (rows f i (n - i)))
  put_next d d' at r h e place room =
      rw (e, place, entries_next h)
      (put-append d at (entries_of property partition (f i ∷ [])) (entries_of property partition (rows f (i + 1) (n - (i + 1)))) (omega (arith, entries-long h)))

-- the arrays of numbers: four bytes for the count and for each entry
flat-fours : (f : Connector → List ℕ) → ((c : Connector) → length (f c) ≡ 4) → (cs : List Connector) → length (flat_map f cs) ≡ 4 * length cs
unfolding flat_map
flat-fours f e [] = refl
flat-fours f e (c ∷ cs) = simp length-append (omega (arith, e c, flat-fours f e cs))

pub indexes-long : (cs : List Connector) → length (array Indexes cs) ≡ 4 + 4 * length cs
unfolding entry
indexes-long cs = omega (arith, length-array Indexes cs, flat-fours (entry_in Indexes) (λ c. refl) cs)

pub domains-long : (cs : List Connector) → length (array Domains cs) ≡ 4 + 4 * length cs
unfolding entry
domains-long cs = omega (arith, length-array Domains cs, flat-fours (entry_in Domains) (λ c. refl) cs)

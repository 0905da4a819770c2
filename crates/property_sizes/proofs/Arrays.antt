-- Laws of `keep`, `flat_map` and the arrays.
use mathlib.Core.Path.{◌≡◌, refl, ap, sym}
use mathlib.Core.Bool.{Bool, true, false}
use mathlib.Core.List.{List, [], ◌∷◌, ◌++◌, flat_map, append_assoc, append-nil}
use Prim.Native.Nat.{ℕ, ◌+◌, ◌-◌, ◌<◌, ◌≤◌}
use native.Mathlib.Omega.{arith}
use lib.ListN.{length, length-append}
use lib.Dec.{eqb}
use borrow.Author.Tests.{eq-eqb, ne_eqb}
use Rattle.words.specs.Pick.{pick, any, every}
use Rattle.words.proofs.Pick.{pick_same, every-never}
use Rattle.kinds.specs.Kinds.{known}
use Rattle.table.specs.Model.{rows, blank_connector}
use Rattle.table.proofs.Rows.{rows_end, rows_next}
use Rattle.connector.specs.declared.Connector.{Connector}
use Rattle.property_entries.specs.declared.ArrayProperty.{ArrayProperty}
use Rattle.property_entries.specs.declared.ArrayProperty.TheVariants.{Names, Types}
use Rattle.property_sizes.specs.declared.Sizes.{Sizes}
use Rattle.property_sizes.specs.Arrays.{keep, is_listed, entry_in, array}
use Rattle.property_sizes.specs.Sums.{Added}

module _ {A : Type 0} (p : A → Bool) where
  pub keep-yes : (x : A) → p x ≡ true → keep p (x ∷ []) ≡ x ∷ []
  unfolding keep pick
  keep-yes x e = rw e

  pub keep-no : (x : A) → p x ≡ false → keep p (x ∷ []) ≡ []
  unfolding keep pick
  keep-no x e = rw e

  keep-cons : (x : A) (xs : List A) → keep p (x ∷ xs) ≡ keep p (x ∷ []) ++ keep p xs
  unfolding keep pick
  keep-cons x xs = test (p x) refl
    where
      test : (b : Bool) → p x ≡ b → pick b (x ∷ keep p xs) (keep p xs) ≡ pick b (x ∷ []) [] ++ keep p xs
      test true e = refl
      test false e = refl

  -- those kept of the rows from i on
  pub keep-end : (f : ℕ → A) (i n : ℕ) → n ≤ i → keep p (rows f i (n - i)) ≡ []
  unfolding keep
  keep-end f i n h = rw (rows_end f i n h)

  pub keep-next : (f : ℕ → A) (i n : ℕ) → i < n → keep p (rows f i (n - i)) ≡ keep p (f i ∷ []) ++ keep p (rows f (i + 1) (n - (i + 1)))
  keep-next f i n h = rw (rows_next f i n h) (keep-cons (f i) (rows f (i + 1) (n - (i + 1))))

pub flat_append : {A : Type 0} (f : A → List ℕ) (xs ys : List A) → flat_map f (xs ++ ys) ≡ flat_map f xs ++ flat_map f ys
unfolding flat_map
flat_append f [] ys = refl
flat_append f (x ∷ xs) ys = rw (flat_append f xs ys) (sym (append_assoc (f x) (flat_map f xs) (flat_map f ys)))

pub length-array : (property : ArrayProperty) (cs : List Connector) → length (array property cs) ≡ 4 + length (flat_map (entry_in property) cs)
unfolding array
length-array property cs = simp length-append

-- sizes to which those of the connectors to come must be added
pub record Toward (s : Sizes) (rest all : List Connector) : Type 0 where
  pub count : s.count + length rest ≡ length all
  pub names : s.names + length (flat_map (entry_in Names) rest) ≡ length (array Names all)
  pub types : s.types + length (flat_map (entry_in Types) rest) ≡ length (array Types all)

pub toward-first : (s : Sizes) (all : List Connector) → s.count ≡ 0 → s.names ≡ 4 → s.types ≡ 4 → Toward s all all
toward-first s all a b c =
    record {
      count = omega arith;
      names = omega (arith, length-array Names all);
      types = omega (arith, length-array Types all);
    }

toward-next : (s r : Sizes) (new rest all : List Connector) → Added s r new → Toward s (new ++ rest) all → Toward r rest all
toward-next s r new rest all a t =
    record {
      count = omega (arith, length-append new rest, a.count, t.count);
      names = omega (arith, simp length-append at (ap length (flat_append (entry_in Names) new rest)), a.names, t.names);
      types = omega (arith, simp length-append at (ap length (flat_append (entry_in Types) new rest)), a.types, t.types);
    }

pub toward-last : (s : Sizes) (all : List Connector) → Toward s [] all → (s.count ≡ length all) × (s.names ≡ length (array Names all)) × (s.types ≡ length (array Types all))
unfolding flat_map
toward-last s all t = (omega (arith, t.count), omega (arith, t.names), omega (arith, t.types))

-- whether a connector is listed, by what its two tests say
module _ (partition : ℕ) (c : Connector) where
  pub listed-other : (c.partition ≡ partition → ⊥) → false ≡ is_listed partition c
  unfolding every pick
  listed-other n = rw (ne_eqb c.partition partition n)

  pub listed-own : c.partition ≡ partition → known c.kind ≡ is_listed partition c
  unfolding every pick
  listed-own e = rw (eq-eqb c.partition partition e) (sym (pick_same (known c.kind)))

pub listed-blank : (partition : ℕ) → false ≡ is_listed partition blank_connector
unfolding known any pick
listed-blank partition = sym (every-never (eqb 0 partition ∷ []) [])

-- an entry of a listed connector, alone
pub flat-one : (f : Connector → List ℕ) (c : Connector) → flat_map f (c ∷ []) ≡ f c
unfolding flat_map
flat-one f c = append-nil (f c)

-- one connector more, which is listed
pub added-one : (s r : Sizes) (c : Connector) → r.count ≡ s.count + 1 → r.names ≡ s.names + length (entry_in Names c) → r.types ≡ s.types + length (entry_in Types c) → length (entry_in Names c) ≤ 16 → length (entry_in Types c) ≤ 16 → Added s r (c ∷ [])
added-one s r c n a b l m =
    record {
      count = n;
      names = rw (flat-one (entry_in Names) c) a;
      types = rw (flat-one (entry_in Types) c) b;
      one = omega arith;
      names_more = omega arith;
      types_more = omega arith;
    }

pub added_none : (s : Sizes) → Added s s []
unfolding flat_map
added_none s = record { count = omega arith; names = omega arith; types = omega arith; one = omega arith; names_more = omega arith; types_more = omega arith }

-- one row more, and past the last row
module _ (p : Connector → Bool) (f : ℕ → Connector) (i n : ℕ) (s : Sizes) (all : List Connector) where
  pub toward-row : (r : Sizes) → i < n → Added s r (keep p (f i ∷ [])) → Toward s (keep p (rows f i (n - i))) all → Toward r (keep p (rows f (i + 1) (n - (i + 1)))) all
  toward-row r h a t = toward-next s r _ _ all a (rw (keep-next p f i n h) at t)

  pub toward-end : n ≤ i → Toward s (keep p (rows f i (n - i))) all → Toward s [] all
  toward-end h t = rw (keep-end p f i n h) at t

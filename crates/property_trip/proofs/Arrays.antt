-- The four arrays of connectors of known kinds, read back.
use Rattle.std.specs.Prelude.{Some, is_none, unwrap_or}
use mathlib.Core.Path.{◌≡◌, refl, ap, sym, ◌∙◌}
use mathlib.Core.Bool.{Bool, true, false}
use mathlib.Core.List.{List, [], ◌∷◌, ◌++◌, map, flat_map, append-nil}
use Prim.Native.Nat.{ℕ}
use native.Mathlib.Omega.{arith}
use lib.ListN.{length}
use Rattle.words.specs.Pick.{pick, any}
use Rattle.words.proofs.Pick.{every-each}
use Rattle.buffer.specs.Put.{bytes32}
use Rattle.kinds.specs.Kinds.{known}
use Rattle.connector.specs.declared.Connector.{Connector}
use Rattle.table.specs.Model.{Model}
use Rattle.decimal.specs.Decimal.{digits}
use Rattle.decimal.proofs.Digits.{Digits, only-digits}
use Rattle.name_places.proofs.Stored.{Clean}
use Rattle.rebuild.proofs.Blocks.{Holds, holds-between, holds-first, holds-second, word_held}
use Rattle.type_texts.specs.Types.{text_in, type_text, kind_of_text}
use Rattle.type_texts.proofs.Types.{by_kind, text-back}
use Rattle.property_entries.specs.declared.ArrayProperty.{ArrayProperty}
use Rattle.property_entries.specs.declared.ArrayProperty.TheVariants.{Names, Indexes, Domains, Types}
use Rattle.property_entries.specs.Entries.{low_bits, name_of, domain, entry, prefix_of}
use Rattle.property_entries.proofs.Entries.{name-parts}
use Rattle.property_texts.specs.Texts.{texts, past_texts, kinds_of, unknown_in}
use Rattle.property_texts.proofs.Texts.{no_nul, clean-by}
use Rattle.property_sizes.specs.Arrays.{keep, is_listed, listed, entry_in, array}
use Rattle.property_sizes.proofs.Arrays.{length-array}
use Rattle.property_reader.specs.Reader.{count_in, numbers, triples}
use Rattle.property_trip.specs.Trip.{connector_list}
use Rattle.property_trip.proofs.Texts.{AllOf, numbers-read, texts-read, texts-past}

-- ---- every listed connector is of a known kind
abbrev pub Known : List Connector → Type 0
Known cs = AllOf (λ (c : Connector). known c.kind ≡ true) cs

keep_all : (p : Connector → Bool) (P : Connector → Type 0) → ((c : Connector) → p c ≡ true → P c) → (cs : List Connector) → AllOf P (keep p cs)
unfolding keep pick
keep_all p P f [] = tt
keep_all p P f (c ∷ cs) = test (p c) refl (keep_all p P f cs)
  where
    test : (b : Bool) → p c ≡ b → AllOf P (keep p cs) → AllOf P (pick b (c ∷ keep p cs) (keep p cs))
    test true e all = (f c e, all)
    test false e all = all

pub listed-known : (partition : ℕ) (m : Model) → Known (listed partition m)
unfolding listed
listed-known partition m = keep_all (is_listed partition) _ (λ c e. (every-each _ e).1.0) m.connectors

-- ---- no NUL in a text or a name
clean-append : (u v : List ℕ) → Clean u → Clean v → Clean (u ++ v)
clean-append [] v a b = b
clean-append (x ∷ u) v a b = (a.0, clean-append u v a.1 b)

clean-digits : (ds : List ℕ) → Digits ds → Clean ds
clean-digits [] a = tt
clean-digits (d ∷ ds) a = (λ e. omega (arith, a.0), clean-digits ds a.2)

clean-text : (c : Connector) → known c.kind ≡ true → Clean (type_text c.kind)
unfolding no_nul text_in pick
clean-text c = by_kind (λ kind. Clean (type_text kind)) (clean-by (type_text 1) refl) (clean-by (type_text 2) refl) (clean-by (type_text 3) refl) (clean-by (type_text 8) refl) c.kind

clean-prefix : (kind : ℕ) → known kind ≡ true → Clean (prefix_of kind)
unfolding no_nul prefix_of text_in pick
clean-prefix = by_kind (λ kind. Clean (prefix_of kind)) (clean-by (prefix_of 1) refl) (clean-by (prefix_of 2) refl) (clean-by (prefix_of 3) refl) (clean-by (prefix_of 8) refl)

abbrev connector_name : Connector → List ℕ
connector_name c = name_of c.kind c.index.0

abbrev text_for : Connector → List ℕ
text_for c = type_text c.kind

clean-name : (c : Connector) → known c.kind ≡ true → Clean (connector_name c)
clean-name c e = rw (name-parts c.kind c.index.0) (clean-append (prefix_of c.kind) (digits (low_bits c.index.0)) (clean-prefix c.kind e) (clean-digits (digits (low_bits c.index.0)) (only-digits (low_bits c.index.0))))

all-clean : (g : Connector → List ℕ) → ((c : Connector) → known c.kind ≡ true → Clean (g c)) → (cs : List Connector) → Known cs → AllOf (λ c. Clean (g c)) cs
all-clean g f [] k = tt
all-clean g f (c ∷ cs) k = (f c k.0, all-clean g f cs k.1)

-- ---- an array is read back
module _ (property : ArrayProperty) (cs : List Connector) where
  holds_array : Holds (array property cs) 0 (array property cs)
  holds_array = rw (append-nil (array property cs)) at (holds-between [] (array property cs) [])

  pub count-back : count_in (array property cs) ≡ length cs
  unfolding array
  count-back = word_held (array property cs) 0 (length cs) (holds-first (array property cs) 0 (bytes32 (length cs)) (flat_map (entry_in property) cs) holds_array)

  entries-back : Holds (array property cs) 4 (flat_map (entry_in property) cs)
  unfolding array
  entries-back = holds-second (array property cs) 0 (bytes32 (length cs)) (flat_map (entry_in property) cs) holds_array

module _ (cs : List Connector) where
  pub indexes-back : numbers (length cs) (array Indexes cs) 4 ≡ map (λ c. c.index.0) cs
  unfolding entry
  indexes-back = numbers-read (λ (c : Connector). c.index.0) (array Indexes cs) cs 4 (entries-back Indexes cs)

  pub domains-back : numbers (length cs) (array Domains cs) 4 ≡ map (λ c. domain) cs
  unfolding entry
  domains-back = numbers-read (λ (c : Connector). domain) (array Domains cs) cs 4 (entries-back Domains cs)

  module _ (k : Known cs) where
    texts-back : texts (length cs) (array Types cs) 4 ≡ map text_for cs
    unfolding entry
    texts-back = texts-read text_for (array Types cs) cs 4 (all-clean text_for clean-text cs k) (entries-back Types cs)

    pub types-past : past_texts (length cs) (array Types cs) 4 ≡ length (array Types cs)
    unfolding entry
    types-past = texts-past text_for (array Types cs) cs 4 (all-clean text_for clean-text cs k) (entries-back Types cs) ∙ sym (length-array Types cs)

    pub names-past : past_texts (length cs) (array Names cs) 4 ≡ length (array Names cs)
    unfolding entry
    names-past = texts-past connector_name (array Names cs) cs 4 (all-clean connector_name clean-name cs k) (entries-back Names cs) ∙ sym (length-array Names cs)

-- ---- the kinds, and the list
kinds-of : (cs : List Connector) → Known cs → map kind_of_text (map text_for cs) ≡ map (λ c. Some c.kind) cs
kinds-of [] k = refl
kinds-of (c ∷ cs) k = cc (text-back c.kind k.0, kinds-of cs k.1)

pub kinds-back : (cs : List Connector) → Known cs → kinds_of (length cs) (array Types cs) 4 ≡ map (λ c. Some c.kind) cs
kinds-back cs k = ap (map kind_of_text) (texts-back cs k) ∙ kinds-of cs k

all_known : (cs : List Connector) → any is_none (map (λ c. Some c.kind) cs) ≡ false
unfolding any pick
all_known [] = refl
all_known (c ∷ cs) = all_known cs

pub kinds-told : (cs : List Connector) → map (λ k. unwrap_or k 0) (map (λ (c : Connector). Some c.kind) cs) ≡ map (λ c. c.kind) cs
kinds-told [] = refl
kinds-told (c ∷ cs) = ap (λ ks. c.kind ∷ ks) (kinds-told cs)

pub known-back : (cs : List Connector) → Known cs → unknown_in (length cs) (array Types cs) 4 ≡ false
known-back cs k = ap (any is_none) (kinds-back cs k) ∙ all_known cs

pub triples-back : (cs : List Connector) → triples (map (λ c. c.index.0) cs) (map (λ c. c.kind) cs) (map (λ c. domain) cs) ≡ connector_list cs
unfolding triples connector_list flat_map
triples-back [] = refl
triples-back (c ∷ cs) = ap (λ more. bytes32 c.index.0 ++ bytes32 c.kind ++ bytes32 domain ++ more) (triples-back cs)

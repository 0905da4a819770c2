-- The blocks of a tree that passes the check fit into 131,072 bytes each.
use mathlib.Core.Path.{◌≡◌, refl}
use mathlib.Core.List.{List, [], ◌∷◌, ◌++◌}
use mathlib.Core.Bool.{true, false≢true}
use mathlib.Core.Logic.{⊎_elim}
use Prim.Native.Nat.{ℕ, zero, suc, ◌+◌, ◌-◌, ◌*◌, ◌<◌, ◌≤◌}
use native.Mathlib.Omega.{arith}
use lib.ListN.{length, length-append}
use lib.Dec.{eqb, leb, ltb}
use borrow.Author.Tests.{leb-true}
use Rattle.words.specs.Bytes.{part, word_at}
use Rattle.words.proofs.Pick.{pick-cases, pick-either, every-each}
use Rattle.buffer.proofs.Put.{length_part}
use Rattle.devtree.specs.Tokens.{up4, skipped, begin_at, begin_named, property_at, property_named, fault_at, token_of, token_at, and_then, tokens}
use Rattle.devtree.specs.Tree.{Event, events_of, events_from, flatten, tree}
use Rattle.devtree.specs.Check.{last_token, closes, well_formed, passes}
use Rattle.devtree.specs.declared.Token.{Token}
use Rattle.devtree.specs.declared.Token.TheVariants.{Begin, Property, EndNode, End, Fault}
use Rattle.devtree.proofs.Tokens.{Within, Named, tokens-law, token-in, token-named}
use Rattle.devtree.proofs.Tree.{passes-formed, tree-flat}
use Rattle.emits.proofs.Ordered.{root-closes}
use Rattle.reader.specs.Bytes.{begin_bytes, prop_bytes}
use Rattle.name_places.specs.Names.{place_of, new_name}
use Rattle.rebuild.specs.Rebuild.{strings_of, structure_of, structure_for, strings_for, Room}
use Rattle.rebuild.proofs.Blocks.{length-begin, length-prop}

-- ---- how many bytes a token has in the block

-- its words, and its name with the NUL or its value, with the padding
abbrev Long : Token → Type 0
Long (Begin p a n next) = p + (4 + up4 (n + 1)) ≡ next
Long (Property p a n v l next) = p + (12 + up4 l) ≡ next
Long (EndNode p next) = p + 4 ≡ next
Long (End p next) = p + 4 ≡ next
Long (Fault p) = Unit

begin-long : (s : List ℕ) (p : ℕ) → Long (begin_at s p)
unfolding begin_at begin_named
begin-long s p = pick-cases Long _ _ _ (λ e. omega arith) (λ e. tt)

property-long : (s st : List ℕ) (p : ℕ) → Long (property_at s st p)
unfolding property_at property_named
property-long s st p = pick-cases Long (ltb (length s - p) 12) _ _ (λ e. tt) (λ e. pick-cases Long _ _ _ (λ f. omega arith) (λ f. tt))

token-long : (s st : List ℕ) (at : ℕ) → Long (token_at s st at)
unfolding token_at token_of fault_at
token-long s st at =
    let p : ℕ = skipped s at in
    let k : ℕ = word_at s p in
    pick-cases Long (eqb k 1) _ _ (λ u. begin-long s p)
    (λ u. pick-cases Long (eqb k 2) _ _ (λ v. refl)
    (λ v. pick-cases Long (eqb k 3) _ _ (λ w. property-long s st p)
    (λ w. pick-cases Long (eqb k 9) _ _ (λ x. refl) (λ x. tt))))

-- ---- how many bytes a name adds

length-new : (name used : List ℕ) → length (new_name name used) ≤ length name + 1
unfolding new_name
length-new name used =
    pick-cases (λ new. length new ≤ length name + 1) (ltb (place_of name used) (length used)) [] (name ++ (0 ∷ []))
    (λ e. omega arith)
    (λ e. omega (arith, length-append name (0 ∷ [])))

-- ---- the tokens of a tree close with the end token

abbrev Closed : List Token → Type 0
Closed [] = ⊥
Closed (Begin p a n next ∷ ts) = Closed ts
Closed (Property p a n v l next ∷ ts) = Closed ts
Closed (EndNode p next ∷ ts) = Closed ts
Closed (End p next ∷ ts) = Unit
Closed (Fault p ∷ ts) = ⊥

last-closed : (s : List ℕ) (ts : List Token) → last_token s ts ≡ true → Closed ts
unfolding last_token
last-closed s [] e = absurd (false≢true e)
last-closed s (Begin p a n next ∷ ts) e = absurd (false≢true e)
last-closed s (Property p a n v l next ∷ ts) e = absurd (false≢true e)
last-closed s (EndNode p next ∷ ts) e = absurd (false≢true e)
last-closed s (End p next ∷ ts) e = tt
last-closed s (Fault p ∷ ts) e = absurd (false≢true e)

closes-closed : (s : List ℕ) (depth : ℕ) (ts : List Token) → closes s depth ts ≡ true → Closed ts
unfolding closes
closes-closed s depth [] e = absurd (false≢true e)
closes-closed s depth (Begin p a n next ∷ ts) e = closes-closed s (depth + 1) ts e
closes-closed s depth (Property p a n v l next ∷ ts) e = closes-closed s depth ts e
closes-closed s depth (EndNode p next ∷ ts) e =
    let more = closes-closed s (depth - 1) ts in
    ⊎_elim (λ w. last-closed s ts w.1) (λ w. more w.1) (pick-either (leb depth 1) _ _ e)
closes-closed s depth (End p next ∷ ts) e = absurd (false≢true e)
closes-closed s depth (Fault p ∷ ts) e = absurd (false≢true e)

-- ---- the tokens follow one another, and so do their bytes

-- the bytes for the events fit into the structure block from `at` on, and 32 bytes for each name's 12 there
record Fits (s : List ℕ) (at : ℕ) (used : List ℕ) (es : List Event) : Type 0 where
  structure : at + length (structure_of used es) ≤ length s
  strings : 8 * at + 3 * length (strings_of used es) ≤ 8 * length s

-- a token's bytes, before those of what follows
fits-then : (s st : List ℕ) (at : ℕ) (go : ℕ → List Token) (used : List ℕ)
    → ((next : ℕ) (used : List ℕ) → length s - next < length s - at → Closed (go next) → Fits s next used (events_of s st (go next)))
    → (t : Token) → Within s at t → Named s st t → Long t → Closed (and_then go t) → Fits s at used (events_of s st (and_then go t))
unfolding events_of and_then structure_of strings_of
fits-then s st at go used more (Begin p a n next) w m l c =
    let f = more next used (omega arith) c in
    let name : List ℕ = part s a n in
    let long : length name ≡ n = length_part s a n (omega arith) in
    let both = length-append (begin_bytes name) (structure_of used (events_of s st (go next))) in
    record {
      structure = omega (arith, f.structure, both, length-begin name);
      strings = omega (arith, f.strings);
    }
fits-then s st at go used more (Property p a n v k next) w m l c =
    let name : List ℕ = part st a n in
    let value : List ℕ = part s v k in
    let new : List ℕ = new_name name used in
    let es : List Event = events_of s st (go next) in
    let f = more next (used ++ new) (omega arith) c in
    let short : length name ≡ n = length_part st a n (omega arith) in
    let long : length value ≡ k = length_part s v k (omega arith) in
    let both = length-append (prop_bytes (place_of name used) value) (structure_of (used ++ new) es) in
    record {
      structure = omega (arith, f.structure, both, length-prop (place_of name used) value);
      strings = omega (arith, f.strings, length-append new (strings_of (used ++ new) es), length-new name used);
    }
fits-then s st at go used more (EndNode p next) w m l c =
    let f = more next used (omega arith) c in
    record { structure = omega (arith, f.structure); strings = omega (arith, f.strings) }
fits-then s st at go used more (End p next) w m l c = record { structure = omega arith; strings = omega arith }
fits-then s st at go used more (Fault p) w m l c = absurd c

fits-upto : (k : ℕ) (s st : List ℕ) (at : ℕ) (used : List ℕ) → length s - at < k → Closed (tokens s st at) → Fits s at used (events_of s st (tokens s st at))
fits-upto zero s st at used h c = absurd (omega arith)
fits-upto (suc k) s st at used h c =
    rw (tokens-law s st at)
    (fits-then s st at (tokens s st) used (λ next u l. fits-upto k s st next u (omega arith))
    (token_at s st at) (token-in s st at) (token-named s st at) (token-long s st at) (rw (tokens-law s st at) at c))

fits : (s st : List ℕ) → passes s st ≡ true → Fits s 0 [] (flatten (tree s st))
unfolding well_formed events_from
fits s st e =
    let ts : List Token = tokens s st 0 in
    let root = (every-each _ (passes-formed s st e)).1.1.1.0 in
    rw (tree-flat s st e)
    (fits-upto (suc (length s)) s st 0 [] (omega arith) (closes-closed s 0 ts (root-closes s ts root)))

-- ---- the sizes

block_size : (s st : List ℕ) → passes s st ≡ true → length s ≤ 32768
unfolding well_formed
block_size s st e = leb-true _ _ (every-each _ (passes-formed s st e)).0

-- a reader's structure block is no longer than the tree's
pub structure-size : (s st : List ℕ) → passes s st ≡ true → length (structure_for (tree s st)) ≤ length s
structure-size s st e = omega (arith, (fits s st e).structure)

-- at most 32 bytes for each property, whose token has at least 12 of the 32,768
pub strings-size : (s st : List ℕ) → passes s st ≡ true → length (strings_for (tree s st)) ≤ 131072
strings-size s st e = omega (arith, (fits s st e).strings, block_size s st e)

-- buffers of 131,072 bytes have room for every tree that passes the check
pub room-enough : (s st : List ℕ) → passes s st ≡ true → (n m : ℕ) → 131072 ≤ n → 131072 ≤ m → Room (tree s st) n m
room-enough s st e n m h k =
    record {
      structure = omega (arith, structure-size s st e, block_size s st e);
      strings = omega (arith, strings-size s st e);
    }

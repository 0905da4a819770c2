-- What a reader finds in a work area that a reply was written to.
use mathlib.Core.Path.{◌≡◌, refl}
use mathlib.Core.Bool.{true}
use mathlib.Core.List.{List, [], ◌∷◌, ◌++◌}
use Prim.Native.Nat.{ℕ, suc, ◌+◌, ◌≤◌}
use native.Mathlib.Omega.{arith}
use lib.ListN.{length, length-append}
use lib.Seq.{sets, length-sets, append_snoc}
use Rattle.words.specs.Bytes.{part, word_at, name_length}
use Rattle.buffer.specs.Put.{bytes32}
use Rattle.devtree.specs.Tree.{Event, begin, prop, end}
use Rattle.walk.specs.Step.{written}
use Rattle.emits.specs.Good.{GoodName}
use Rattle.emits.specs.Emits.{needed}
use Rattle.name_places.specs.Names.{stands_at}
use Rattle.name_places.proofs.Stored.{stands-part}
use Rattle.rebuild.specs.Names.{with_nul}
use Rattle.rebuild.proofs.Blocks.{Holds, holds-written, holds_kept, holds-first, holds-second, part_held, word_held, word_after, name-held, good-reads}

-- word 2 of the work area says where the name stands, and it reads back; `limit` is one more than it may be long
pub record Named (limit : ℕ) (d name : List ℕ) : Type 0 where
  pub place : word_at d 8 ≡ 20
  pub size : name_length limit d 20 ≡ length name
  pub bytes : part d 20 (length name) ≡ name

-- so do words 3 and 4 for the value
pub record Valued (d : List ℕ) (at : ℕ) (value : List ℕ) : Type 0 where
  pub size : word_at d 12 ≡ length value
  pub place : word_at d 16 ≡ at
  pub bytes : part d at (length value) ≡ value

named-held : (most : ℕ) (d name : List ℕ) → GoodName most name → Holds d 8 (bytes32 20) → Holds d 20 (with_nul name) → Named (suc most) d name
named-held most d name g w h =
    let here : stands_at name d 20 ≡ true = name-held d 20 name h in
    record { place = word_held d 8 20 w; size = good-reads most name d 20 g here; bytes = stands-part name d 20 here }

-- a node's reply
pub node-told : (area name : List ℕ) → GoodName 47 name → 4096 ≤ length area → Named 48 (written area (begin name)) name
unfolding written
node-told area name g l =
    let d : List ℕ = sets area 8 (bytes32 20) in
    let long : length d ≡ length area = length-sets area 8 (bytes32 20) in
    let short : length (with_nul name) ≡ length name + 1 = length-append name (0 ∷ []) in
    named-held 47 (sets d 20 (with_nul name)) name g
    (holds_kept d 8 (bytes32 20) 20 (with_nul name) (omega arith) (holds-written area 8 (bytes32 20) (omega arith)))
    (holds-written d 20 (with_nul name) (omega (arith, g.few)))

-- a property's reply
module _ (area name value : List ℕ) (room : needed name value ≤ length area) where
  abbrev told : List ℕ
  told = written area (prop name value)

  abbrev place : ℕ
  place = 20 + length name + 1

  abbrev body : List ℕ
  body = with_nul name ++ value

  -- words 2, 3 and 4, and what they speak of
  all_held : Holds told 8 (bytes32 20 ++ (bytes32 (length value) ++ (bytes32 place ++ body)))
  unfolding written
  all_held =
      let size : length body ≡ length name + 1 + length value = simp length-append in
      rw (← append_snoc name 0 value) (holds-written area 8 (bytes32 20 ++ (bytes32 (length value) ++ (bytes32 place ++ body))) (omega arith))

  body-held : Holds told 20 body
  body-held = holds-second told 8 (bytes32 20 ++ (bytes32 (length value) ++ bytes32 place)) body all_held

  pub property-named : GoodName 31 name → Named 32 told name
  property-named g = named-held 31 told name g (holds-first told 8 (bytes32 20) _ all_held) (holds-first told 20 (with_nul name) value body-held)

  pub property-valued : Valued told place value
  property-valued =
      let here : 20 + length (with_nul name) ≡ place = omega (arith, length-append name (0 ∷ [])) in
      record {
        size = word_after told 8 (bytes32 20) (length value) _ all_held;
        place = word_after told 8 (bytes32 20 ++ bytes32 (length value)) place _ all_held;
        bytes = part_held told place value (rw here at (holds-second told 20 (with_nul name) value body-held));
      }

-- a reply leaves the work area as long as it was
pub length-written : (area : List ℕ) (e : Event) → length (written area e) ≡ length area
unfolding written
length-written area (begin name) = simp length-sets
length-written area (prop name value) = simp length-sets
length-written area end = refl

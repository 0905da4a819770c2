-- Each token that a reader writes is read as that token.
use mathlib.Core.Path.{◌≡◌, refl, sym, ◌∙◌}
use mathlib.Core.Bool.{true}
use mathlib.Core.List.{List, ◌++◌}
use Prim.Native.Nat.{ℕ, ◌+◌, ◌-◌, ◌<◌, ◌≤◌}
use native.Mathlib.Omega.{arith}
use lib.ListN.{length}
use borrow.Author.Tests.{le-ltb, lt-ltb, le-leb}
use Rattle.words.specs.Pick.{pick}
use Rattle.words.specs.Bytes.{part, word_at}
use Rattle.words.proofs.Pick.{pick_yes, pick_no, each-every}
use Rattle.buffer.specs.Put.{bytes32}
use Rattle.devtree.specs.Tokens.{up4, skipped, begin_at, begin_named, property_at, property_named, token_of, token_at}
use Rattle.devtree.specs.declared.Token.TheVariants.{Begin, Property, EndNode, End}
use Rattle.devtree.proofs.Tokens.{skips-other}
use Rattle.emits.specs.Good.{GoodName}
use Rattle.reader.specs.Bytes.{filled, begin_bytes, prop_bytes, end_bytes, last_bytes}
use Rattle.name_places.specs.Names.{stands_at}
use Rattle.name_places.proofs.Stored.{stands-part, stands-within}
use Rattle.rebuild.proofs.Blocks.{Holds, holds-first, holds-second, part_held, word_held, word_after, name-held, holds-name, good-reads, length-begin, length-prop}

module _ (s st : List ℕ) (at : ℕ) where
  -- the token at a word that is no no-op
  token-held : (kind : ℕ) → (kind ≡ 4 → ⊥) → Holds s at (bytes32 kind) → token_at s st at ≡ token_of s st at kind
  unfolding token_at skipped
  token-held kind n h =
      let word : word_at s at ≡ kind = word_held s at kind h in
      let stays : skipped s at ≡ at = sym (skips-other s at (skipped s at) (length s) refl (λ f. n (sym word ∙ f))) in
      rw (stays, word)

  pub end_back : Holds s at end_bytes → token_at s st at ≡ EndNode at (at + 4)
  unfolding token_of pick
  end_back = token-held 2 (λ e. omega arith)

  pub last-back : Holds s at last_bytes → token_at s st at ≡ End at (at + 4)
  unfolding token_of pick
  last-back = token-held 9 (λ e. omega arith)

  -- a node's token
  module _ (name : List ℕ) (h : Holds s at (begin_bytes name)) where
    begin-stands : stands_at name s (at + 4) ≡ true
    unfolding begin_bytes
    begin-stands = name-held s (at + 4) name (holds-name s (at + 4) name (up4 (length name + 1)) (omega arith) (holds-second s at (bytes32 1) _ h))

    pub begin-name : part s (at + 4) (length name) ≡ name
    begin-name = stands-part name s (at + 4) begin-stands

    begin-token : token_at s st at ≡ begin_at s at
    unfolding begin_bytes token_of pick
    begin-token = token-held 1 (λ e. omega arith) (holds-first s at (bytes32 1) _ h)

    pub begin-back : GoodName 47 name → token_at s st at ≡ Begin at (at + 4) (length name) (at + length (begin_bytes name))
    unfolding begin_at begin_named
    begin-back g =
        let room : up4 (length name + 1) ≤ length s - (at + 4) = omega (arith, h.fits, length-begin name) in
        let next : at + length (begin_bytes name) ≡ at + 4 + up4 (length name + 1) = omega (arith, length-begin name) in
        begin-token
        ∙ rw (good-reads 47 name s (at + 4) g begin-stands, next)
        (pick_yes _ _ _ (each-every _ (le-leb _ _ g.some, (le-leb _ _ g.few, (le-leb _ _ room, tt)))))

  -- a property's token
  module _ (offset : ℕ) (value : List ℕ) (h : Holds s at (prop_bytes offset value)) where
    prop-token : token_at s st at ≡ property_at s st at
    unfolding prop_bytes token_of pick
    prop-token = token-held 3 (λ e. omega arith) (holds-first s at (bytes32 3) _ h)

    prop-length : word_at s (at + 4) ≡ length value
    unfolding prop_bytes
    prop-length = word_after s at (bytes32 3) (length value) _ h

    prop-offset : word_at s (at + 8) ≡ offset
    unfolding prop_bytes
    prop-offset = word_after s at (bytes32 3 ++ bytes32 (length value)) offset _ h

    pub prop-value : part s (at + 12) (length value) ≡ value
    unfolding prop_bytes filled
    prop-value =
        part_held s (at + 12) value (holds-first s (at + 12) value _ (holds-second s at (bytes32 3 ++ (bytes32 (length value) ++ bytes32 offset)) _ h))

    pub prop-back : (name : List ℕ) → GoodName 31 name → length value ≤ 8192 - 20 - (length name + 1) → stands_at name st offset ≡ true → token_at s st at ≡ Property at offset (length name) (at + 12) (length value) (at + length (prop_bytes offset value))
    unfolding property_at property_named
    prop-back name g small stands =
        let inside : length name < length st - offset = omega (arith, stands-within name st offset stands) in
        let size : length (prop_bytes offset value) ≡ 12 + up4 (length value) = length-prop offset value in
        let room : up4 (length value) ≤ length s - (at + 12) = omega (arith, h.fits) in
        let next : at + length (prop_bytes offset value) ≡ at + 12 + up4 (length value) = omega arith in
        prop-token
        ∙ rw (prop-length, prop-offset, good-reads 31 name st offset g stands, next)
        (pick_no _ _ _ (le-ltb (length s - at) 12 (omega (arith, h.fits)))
        ∙ pick_yes _ _ _ (each-every _ (le-leb _ _ g.some, (le-leb _ _ g.few, (lt-ltb _ _ inside, (le-leb _ _ small, (le-leb _ _ room, tt)))))))

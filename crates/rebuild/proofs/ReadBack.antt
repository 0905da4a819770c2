-- The bytes that a reader writes for events read back as those events.
use mathlib.Core.Path.{◌≡◌, ap, ◌∙◌}
use mathlib.Core.Bool.{true}
use mathlib.Core.List.{List, [], ◌∷◌, ◌++◌, append_assoc}
use Prim.Native.Nat.{ℕ, ◌+◌}
use lib.ListN.{length, length-append}
use Rattle.devtree.specs.Tokens.{token_at, tokens, and_then}
use Rattle.devtree.specs.Tree.{Event, begin, prop, end, events_of, events_from}
use Rattle.devtree.specs.declared.Token.{Token}
use Rattle.devtree.proofs.Tokens.{tokens-are}
use Rattle.emits.specs.Good.{AllGood}
use Rattle.reader.specs.Bytes.{begin_bytes, prop_bytes, end_bytes, last_bytes}
use Rattle.name_places.specs.Names.{stands_at, place_of, new_name}
use Rattle.name_places.proofs.Stored.{name-stands, stands-append, stands-part}
use Rattle.rebuild.specs.Rebuild.{strings_of, structure_of}
use Rattle.rebuild.proofs.Blocks.{Holds, holds-between}
use Rattle.rebuild.proofs.Decode.{begin-back, begin-name, prop-back, prop-value, end_back, last-back}

-- the events from a token on
events-are : (s st : List ℕ) (at : ℕ) (t : Token) → token_at s st at ≡ t → events_from s st at ≡ events_of s st (and_then (tokens s st) t)
unfolding events_from
events-are s st at t e = ap (events_of s st) (tokens-are s st at t e)

-- the events after a token's bytes
events-after : (pre bytes more st : List ℕ) (es : List Event) → events_from ((pre ++ bytes) ++ more) st (length (pre ++ bytes)) ≡ es → events_from (pre ++ (bytes ++ more)) st (length pre + length bytes) ≡ es
events-after pre bytes more st es e = rw (append_assoc pre bytes more, length-append pre bytes) at e

-- after the bytes `pre` of a structure block and the bytes `used` of a strings block
pub read-from : (pre used : List ℕ) (es : List Event) → AllGood es → events_from (pre ++ structure_of used es) (used ++ strings_of used es) (length pre) ≡ es
unfolding structure_of strings_of events_of events_from and_then
read-from pre used [] g =
    let s : List ℕ = pre ++ last_bytes in
    let st : List ℕ = used ++ [] in
    events-are s st (length pre) _ (last-back s st (length pre) (holds-between pre last_bytes []))
read-from pre used (begin name ∷ es) g =
    let bytes : List ℕ = begin_bytes name in
    let more : List ℕ = structure_of used es in
    let s : List ℕ = pre ++ (bytes ++ more) in
    let st : List ℕ = used ++ strings_of used es in
    let held : Holds s (length pre) bytes = holds-between pre bytes more in
    events-are s st (length pre) _ (begin-back s st (length pre) name held g.0)
    ∙ rw (begin-name s st (length pre) name held) (ap (◌∷◌ (begin name)) (events-after pre bytes more st es (read-from (pre ++ bytes) used es g.1)))
read-from pre used (prop name value ∷ es) g =
    let new : List ℕ = new_name name used in
    let rest : List ℕ = strings_of (used ++ new) es in
    let st : List ℕ = used ++ (new ++ rest) in
    let offset : ℕ = place_of name used in
    let stands : stands_at name st offset ≡ true = rw (← append_assoc used new rest) (stands-append name (used ++ new) rest offset (name-stands name used)) in
    let bytes : List ℕ = prop_bytes offset value in
    let more : List ℕ = structure_of (used ++ new) es in
    let s : List ℕ = pre ++ (bytes ++ more) in
    let held : Holds s (length pre) bytes = holds-between pre bytes more in
    let again = read-from (pre ++ bytes) (used ++ new) es g.1 in
    events-are s st (length pre) _ (prop-back s st (length pre) offset value held name g.0.0 g.0.1 stands)
    ∙ rw (stands-part name st offset stands, prop-value s st (length pre) offset value held)
    (ap (◌∷◌ (prop name value)) (events-after pre bytes more st es (rw (append_assoc used new rest) at again)))
read-from pre used (end ∷ es) g =
    let more : List ℕ = structure_of used es in
    let s : List ℕ = pre ++ (end_bytes ++ more) in
    let st : List ℕ = used ++ strings_of used es in
    events-are s st (length pre) _ (end_back s st (length pre) (holds-between pre end_bytes more))
    ∙ ap (◌∷◌ end) (events-after pre end_bytes more st es (read-from (pre ++ end_bytes) used es g.1))

-- both blocks of the events read back as those events
pub read_back : (es : List Event) → AllGood es → events_from (structure_of [] es) (strings_of [] es) 0 ≡ es
read_back es g = read-from [] [] es g

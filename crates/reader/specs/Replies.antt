-- What the reader makes of a reply: document 01, "A walk, call by call".
-- `r` is the reader's record, `k` the reply's kind, `p` where its name and value stand in the work area, `s` the structure buffer, `st` the strings buffer.
use Rattle.std.specs.Prelude.{ℕ, ◌+◌, ◌-◌, List, [], ◌∷◌, ◌++◌, not, ℤ, leb, length, take}
use Rattle.std.proofs.lemmas.List.Edits.{sets}
use Rattle.words.specs.Pick.{pick, every}
use Rattle.replies.specs.Replies.{kind_of, most, waits}
use Rattle.sensible.specs.Sensible.{name_in, value_in, parts_of, sensible}
use Rattle.replies.specs.declared.Reader.{Reader}
use Rattle.replies.specs.declared.Reading.{Reading}
use Rattle.replies.specs.declared.Reading.TheVariants.{Waiting, Senseless, NoRoom}
use Rattle.replies.specs.declared.ReplyKind.{ReplyKind}
use Rattle.replies.specs.declared.ReplyKind.TheVariants.{Last, Sibling, Child, Property, Parent, Wait, Other}
use Rattle.sensible.specs.declared.Parts.{Parts}
use Rattle.after_reply.specs.After.{node_after, answer_of}
use Rattle.reader.specs.Bytes.{begin_bytes, prop_bytes, end_bytes, last_bytes}
use Rattle.name_places.specs.Names.{place_of, new_name}
use Rattle.name_places.specs.Places.{is_property}
use Rattle.reader.specs.declared.Read.{Read}

-- ---- what a reply adds

-- the tokens of a reply with this name and value; `place` is where a property's name stands in the strings block
unfoldable pub tokens_of : ReplyKind → ℕ → List ℕ → List ℕ → List ℕ
tokens_of Last place name value = end_bytes ++ last_bytes
tokens_of Sibling place name value = end_bytes ++ begin_bytes name
tokens_of Child place name value = begin_bytes name
tokens_of Property place name value = prop_bytes place value
tokens_of Parent place name value = end_bytes
tokens_of Wait place name value = []
tokens_of Other place name value = []

-- what a reply adds to the structure block and to the strings block; `used` is the used bytes of the strings block
abbrev pub new_tokens : ReplyKind → Parts → List ℕ → List ℕ → List ℕ
new_tokens k p area used = tokens_of k (place_of (name_in p area) used) (name_in p area) (value_in p area)

abbrev pub new_strings : ReplyKind → Parts → List ℕ → List ℕ → List ℕ
new_strings k p area used = pick (is_property k) (new_name (name_in p area) used) []

abbrev pub depth_after : ReplyKind → ℕ → ℕ
depth_after Last depth = 0
depth_after Sibling depth = depth
depth_after Child depth = depth + 1
depth_after Property depth = depth
depth_after Parent depth = depth - 1
depth_after Wait depth = depth
depth_after Other depth = depth

-- the record after a reply that added so many bytes to each block
abbrev pub next : Reader → ReplyKind → ℕ → ℕ → Reader
next r k size fresh =
    record {
      structure = r.structure + size;
      strings = r.strings + fresh;
      depth = depth_after k r.depth;
      node = node_after k r.node;
    }

-- ---- the answer

-- an answer with the record, and the contents of both buffers
pub record Outcome : Type 0 where
  pub answer : Reading
  pub reader : Reader
  pub structure : List ℕ
  pub strings : List ℕ

abbrev pub outcome : Read → List ℕ → List ℕ → Outcome
outcome a s st = record { answer = a.answer; reader = a.reader; structure = s; strings = st }

-- nothing changes
abbrev pub kept : Reading → Reader → List ℕ → List ℕ → Outcome
kept a r s st = record { answer = a; reader = r; structure = s; strings = st }

-- tokens and a new name are written after the used bytes
abbrev pub added : Reader → ReplyKind → List ℕ → List ℕ → List ℕ → List ℕ → Outcome
added r k tokens new s st =
    record {
      answer = answer_of k;
      reader = next r k (length tokens) (length new);
      structure = sets s r.structure tokens;
      strings = sets st r.strings new;
    }

-- a reply that makes sense and does not wait: there is room for what it adds, or nothing changes
unfoldable pub taken : Reader → ReplyKind → Parts → List ℕ → List ℕ → List ℕ → Outcome
taken r k p area s st =
    let tokens : List ℕ = new_tokens k p area (take r.strings st) in
    let new : List ℕ = new_strings k p area (take r.strings st) in
    pick (every (leb (r.structure + length tokens) (most (length s)) ∷ leb (r.strings + length new) (most (length st)) ∷ []))
    (added r k tokens new s st)
    (kept NoRoom r s st)

-- what the reader answers to a reply, its record afterwards, and the final contents of both buffers
unfoldable pub reply : Reader → ℤ → List ℕ → List ℕ → List ℕ → Outcome
reply r status area s st =
    let k : ReplyKind = kind_of status in
    let p : Parts = parts_of k area in
    pick (not (sensible r k p (length area) (length s) (length st))) (kept Senseless r s st)
    (pick (waits k) (kept Waiting r s st)
    (taken r k p area s st))

-- The reader's record in four words: the used lengths of the structure and the strings buffer, the depth, the node.
use Rattle.std.specs.Prelude.{ℕ, ◌≡◌, List, [], ◌∷◌, Bool, true, false, eqb, get_or}
use Rattle.words.specs.Pick.{pick}
use Rattle.replies.specs.declared.Node.{Node}
use Rattle.replies.specs.declared.Node.TheVariants.{NoChild, HasChild, Finished as Done}
use Rattle.replies.specs.declared.Reader.{Reader}
use Rattle.replies.specs.declared.Reading.{Reading}
use Rattle.replies.specs.declared.Reading.TheVariants.{Finished, Taken, Waiting, Senseless, NoRoom}
use Rattle.reader.specs.Replies.{Outcome}

-- 0 no child yet, 1 has a child; any other word reads as finished
unfoldable pub node_of : ℕ → Node
node_of w = pick (eqb w 0) NoChild (pick (eqb w 1) HasChild Done)

abbrev pub word_of_node : Node → ℕ
word_of_node NoChild = 0
word_of_node HasChild = 1
word_of_node Done = 2

abbrev pub reader_of : List ℕ → Reader
reader_of w = record { structure = get_or w 0 0; strings = get_or w 1 0; depth = get_or w 2 0; node = node_of (get_or w 3 0) }

abbrev pub reader_words : Reader → List ℕ
reader_words r = r.structure ∷ r.strings ∷ r.depth ∷ word_of_node r.node ∷ []

-- the answers that change the record
abbrev pub is_taken : Reading → Bool
is_taken Finished = true
is_taken Taken = true
is_taken Waiting = false
is_taken Senseless = false
is_taken NoRoom = false

-- the words after a reply: written where it was taken, else as they were
unfoldable pub reader_words_after : List ℕ → Outcome → List ℕ
reader_words_after w o = pick (is_taken o.answer) (reader_words o.reader) w

-- a reply's answer, the reader's words and both buffers afterwards are the definition's
abbrev pub Replied : {S : Type 0} → (Reading → S) → List ℕ → List ℕ → S → List ℕ → List ℕ → Outcome → Type 0
Replied number w w' a s st o = (a ≡ number o.answer) × (w' ≡ reader_words_after w o) × (s ≡ o.structure) × (st ≡ o.strings)

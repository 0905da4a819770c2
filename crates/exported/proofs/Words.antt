-- A reader's record and its four words are the same thing: the words of a record mean that record.
use Prim.Native.Nat.{ℕ}
use mathlib.Core.Path.{◌≡◌, refl, ap, sym, ◌∙◌}
use mathlib.Core.Bool.{Bool, true, false}
use mathlib.Core.List.{List}
use lib.IntN.{ℤ}
use Rattle.words.specs.Pick.{pick}
use Rattle.words.proofs.Pick.{pick_yes, pick_no}
use Rattle.replies.specs.declared.Node.{Node}
use Rattle.replies.specs.declared.Node.TheVariants.{NoChild, HasChild, Finished as Done}
use Rattle.replies.specs.declared.Reader.{Reader}
use Rattle.replies.specs.declared.Reading.{Reading}
use Rattle.replies.specs.declared.Reading.TheVariants.{Finished, Taken, Waiting, Senseless, NoRoom}
use Rattle.reader.specs.Replies.{Outcome, reply}
use Rattle.reader.proofs.Laws.{took, refused-same}
use Rattle.reader_words.specs.Reading.{node_of, word_of_node, reader_of, reader_words, is_taken, reader_words_after}

node-back : (n : Node) → node_of (word_of_node n) ≡ n
unfolding node_of pick
node-back NoChild = refl
node-back HasChild = refl
node-back Done = refl

pub reader-back : (r : Reader) → reader_of (reader_words r) ≡ r
reader-back r = rw (node-back r.node)

-- what a reply leaves of the words of r is the words of the record that it leaves
pub words-after : (r : Reader) (status : ℤ) (area s st : List ℕ) → reader_words_after (reader_words r) (reply r status area s st) ≡ reader_words (reply r status area s st).reader
unfolding reader_words_after
words-after r status area s st = go (is_taken (reply r status area s st).answer) refl
  where
    go : (b : Bool) → is_taken (reply r status area s st).answer ≡ b → pick (is_taken (reply r status area s st).answer) (reader_words (reply r status area s st).reader) (reader_words r) ≡ reader_words (reply r status area s st).reader
    go true e = pick_yes _ _ _ e
    go false e = pick_no _ _ _ e ∙ ap reader_words (sym (refused-same r status area s st e).reader)

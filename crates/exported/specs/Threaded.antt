-- Demand 2 in the words that the exported functions leave, call by call: each call on the table, and after each reply of the walk that is not negative the reader's. `p` is the partition, `k` the connector's index.
use Rattle.std.specs.Prelude.{ℕ, ◌≡◌, List, [], ◌∷◌, ◌++◌, map, ℤ}
use Rattle.step_status.specs.Status.{step_number}
use Rattle.emits.specs.Run.{Reply}
use Rattle.replies.specs.Replies.{new_reader, reading_number}
use Rattle.reader.specs.Replies.{Outcome, reply}
use Rattle.reader_words.specs.Reading.{reader_of, reader_words, reader_words_after}
use Rattle.history.specs.Calls.{Call, words_after}
use Rattle.rebuild.specs.Rebuild.{Rebuilding}
use Rattle.interleaved.specs.Between.{Exchange, exchanged}

-- the table's words, the reader's four words and both buffers, and the reader's answers so far
pub record Held : Type 0 where
  pub table : List ℕ
  pub reader : List ℕ
  pub structure : List ℕ
  pub strings : List ℕ
  pub answers : List ℤ

-- before the calls: a table's words, a new reader and its buffers
abbrev pub new_held : List ℕ → List ℕ → List ℕ → Held
new_held t s0 st0 = record { table = t; reader = reader_words new_reader; structure = s0; strings = st0; answers = [] }

-- drc_read_reply with a status and the work area that drc_configure_connector left
abbrev pub read_reply : Held → Reply → Held
read_reply h y =
    let o : Outcome = reply (reader_of h.reader) (step_number y.status) y.area h.structure h.strings in
    record {
      table = h.table;
      reader = reader_words_after h.reader o;
      structure = o.structure;
      strings = o.strings;
      answers = h.answers ++ (reading_number o.answer ∷ []);
    }

unfoldable pub read_replies : Held → List Exchange → Held
read_replies h [] = h
read_replies h (x ∷ xs) = read_replies (read_reply h x.reply) xs

-- a call on the table
abbrev pub with_table : List ℕ → Held → Held
with_table t h = record { table = t; reader = h.reader; structure = h.structure; strings = h.strings; answers = h.answers }

unfoldable pub threaded : ℕ → ℕ → Held → List Call → Held
threaded p k h [] = h
threaded p k h (c ∷ cs) = threaded p k (read_replies (with_table (words_after h.table c) h) (exchanged p k h.table c)) cs

-- what is held is what the readings left, in words and numbers
pub record InWords (r : Rebuilding) (h : Held) : Type 0 where
  pub reader : h.reader ≡ reader_words r.reader
  pub structure : h.structure ≡ r.structure
  pub strings : h.strings ≡ r.strings
  pub answers : h.answers ≡ map reading_number r.answers

-- Demand 2 for the exported functions: what they leave, call by call, is the tree that was walked, in the reader's words and buffers.
use Prim.Native.Nat.{ℕ}
use mathlib.Core.Path.{◌≡◌, refl, ap, sym, subst, ◌∙◌}
use mathlib.Core.Bool.{Bool, true}
use mathlib.Core.List.{List, [], ◌∷◌, ◌++◌, map, append_assoc, append-nil, map-append}
use lib.IntN.{ℤ}
use lib.ListN.{length}
use Rattle.devtree.specs.Tree.{tree}
use Rattle.step_status.specs.Status.{step_number}
use Rattle.sent_trees.specs.Trees.{AllAre, owned_tree}
use Rattle.emits.specs.Run.{Reply, unowned_of, until_zero}
use Rattle.replies.specs.declared.Reader.{Reader}
use Rattle.replies.specs.Replies.{new_reader, reading_number}
use Rattle.reader.specs.Replies.{Outcome, reply}
use Rattle.reader_words.specs.Reading.{reader_of, reader_words, reader_words_after, Replied}
use Rattle.table.specs.Model.{table_of}
use Rattle.calls.specs.Calls as calls
use Rattle.calls.specs.Calls.{Told}
use Rattle.history.specs.Calls.{configure, Call, partition, words_after, run}
use Rattle.rebuild.specs.Rebuild.{Rebuilding, read_all, Room, Rebuilt}
use Rattle.interleaved.specs.Between.{Exchange, exchange, exchanged, exchanges, replies_at, lent_at, lent_by, sent_at, WalkBetween}
use Rattle.interleaved.proofs.Rebuilds.{rebuilds-between, owned-between}
use Rattle.exported.specs.Threaded.{Held, new_held, read_reply, read_replies, with_table, threaded, InWords}
use Rattle.exported.proofs.Words.{reader-back, words-after}

-- h is what a reader at r holds, after these answers; from there the readings of ys leave f
record Reads (h : Held) (r : Reader) (ys : List Reply) (f : Held) : Type 0 where
  words : h.reader ≡ reader_words r
  reader : f.reader ≡ reader_words (read_all r ys h.structure h.strings).reader
  structure : f.structure ≡ (read_all r ys h.structure h.strings).structure
  strings : f.strings ≡ (read_all r ys h.structure h.strings).strings
  answers : f.answers ≡ h.answers ++ map reading_number (read_all r ys h.structure h.strings).answers

reads_none : (h : Held) (r : Reader) → h.reader ≡ reader_words r → Reads h r [] h
unfolding read_all
reads_none h r e = record { words = e; reader = e; structure = refl; strings = refl; answers = sym (append-nil h.answers) }

-- one reply, and then the others
module _ (h : Held) (r : Reader) (e : h.reader ≡ reader_words r) (y : Reply) where
  abbrev o : Outcome
  o = reply r (step_number y.status) y.area h.structure h.strings

  at-reader : reader_of h.reader ≡ r
  at-reader = ap reader_of e ∙ reader-back r

  abbrev next : Held
  next = record { table = h.table; reader = reader_words o.reader; structure = o.structure; strings = o.strings; answers = h.answers ++ (reading_number o.answer ∷ []) }

  read-once : read_reply h y ≡ next
  read-once = rw (at-reader, e, words-after r (step_number y.status) y.area h.structure h.strings)

  reads_first : (ys : List Reply) (f : Held) → Reads next o.reader ys f → Reads h r (y ∷ ys) f
  unfolding read_all
  reads_first ys f a =
      record {
        words = e;
        reader = a.reader;
        structure = a.structure;
        strings = a.strings;
        answers = a.answers ∙ append_assoc h.answers (reading_number o.answer ∷ []) _;
      }

-- the replies of one call, and of those after it
reads-replies : (xs : List Exchange) (h : Held) (r : Reader) → h.reader ≡ reader_words r → (ys : List Reply) (f : Held)
    → ((h' : Held) (r' : Reader) → h'.reader ≡ reader_words r' → h'.table ≡ h.table → read_replies h xs ≡ h' → Reads h' r' ys f) → Reads h r (map (λ x. x.reply) xs ++ ys) f
unfolding read_replies
reads-replies [] h r e ys f later = later h r e refl refl
reads-replies (x ∷ xs) h r e ys f later =
    reads_first h r e x.reply (map (λ x. x.reply) xs ++ ys) f
    (reads-replies xs (next h r e x.reply) _ refl ys f (λ h' r' e' t q. later h' r' e' t (ap (λ z. read_replies z xs) (read-once h r e x.reply) ∙ q)))

read_table : (xs : List Exchange) (h : Held) → (read_replies h xs).table ≡ h.table
unfolding read_replies
read_table [] h = refl
read_table (x ∷ xs) h = read_table xs (read_reply h x.reply)

-- what is read does not hang on the table
any-table : (t : List ℕ) (h : Held) (r : Reader) (ys : List Reply) (f : Held) → Reads (with_table t h) r ys f → Reads h r ys f
any-table t h r ys f a = record { words = a.words; reader = a.reader; structure = a.structure; strings = a.strings; answers = a.answers }

module _ (p k : ℕ) where
  reads-calls : (cs : List Call) (h : Held) (r : Reader) → h.reader ≡ reader_words r → Reads h r (replies_at p k h.table cs) (threaded p k h cs)
  unfolding threaded exchanges
  reads-calls [] h r e = reads_none h r e
  reads-calls (c ∷ cs) h r e =
      let t : List ℕ = words_after h.table c in
      let xs : List Exchange = exchanged p k h.table c in
      rw (map-append (λ x. x.reply) xs (exchanges p k t cs))
      (any-table t h r _ _
      (reads-replies xs (with_table t h) r e (replies_at p k t cs) (threaded p k (read_replies (with_table t h) xs) cs)
      (λ h' r' e' q z. rw (z, ← q) (reads-calls cs h' r' e'))))

  table-after : (cs : List Call) (h : Held) → (threaded p k h cs).table ≡ run h.table cs
  unfolding threaded run
  table-after [] h = refl
  table-after (c ∷ cs) h = table-after cs (read_replies (with_table (words_after h.table c) h) (exchanged p k h.table c)) ∙ ap (λ t. run t cs) (read_table (exchanged p k h.table c) (with_table (words_after h.table c) h))

module _ (t : List ℕ) (p k : ℕ) (cs : List Call) (s0 st0 : List ℕ) where
  -- from a new reader on, what is held is what the readings left
  pub in_words : InWords (read_all new_reader (replies_at p k t cs) s0 st0) (threaded p k (new_held t s0 st0) cs)
  in_words =
      let a = reads-calls p k cs (new_held t s0 st0) new_reader refl in
      record { reader = a.reader; structure = a.structure; strings = a.strings; answers = a.answers }

  -- and the table is what the calls left
  pub same-table : (threaded p k (new_held t s0 st0) cs).table ≡ run t cs
  same-table = table-after p k cs (new_held t s0 st0)

  -- so the exported functions leave the tree that was walked, without the nodes that were left out
  pub rebuilds-in-words : (s st : List ℕ) → WalkBetween t p k s st cs → until_zero (replies_at p k t cs) ≡ true → Room (sent_at p k s st t cs) (length s0) (length st0)
      → (r : Rebuilding) × Rebuilt (sent_at p k s st t cs) s0 st0 r × InWords r (threaded p k (new_held t s0 st0) cs)
  rebuilds-in-words s st b zero room = (read_all new_reader (replies_at p k t cs) s0 st0, rebuilds-between t p k s st cs b zero s0 st0 room, in_words)

  -- where the same indexes were unowned at every call of the walk, those that u says, it is a definition on the tree alone
  pub owned-in-words : (u : ℕ → Bool) (s st : List ℕ) → WalkBetween t p k s st cs → AllAre u (unowned_of (lent_at p k t cs)) → until_zero (replies_at p k t cs) ≡ true
      → Room (owned_tree u (tree s st)) (length s0) (length st0) → (r : Rebuilding) × Rebuilt (owned_tree u (tree s st)) s0 st0 r × InWords r (threaded p k (new_held t s0 st0) cs)
  owned-in-words u s st b same zero room = (read_all new_reader (replies_at p k t cs) s0 st0, owned-between t p k s st cs b u same zero s0 st0 room, in_words)

-- ---- what the contracts of the exported functions say is what `threaded` threads

-- the words and the work area that drc_configure_connector leaves, with its number
pub configure-leaves : (t t' area area' s st : List ℕ) (p : ℕ) (n : ℤ) → Told step_number t t' n (calls.configure (table_of t) p area s st).answer
    → area' ≡ (calls.configure (table_of t) p area s st).area
    → (t' ≡ words_after t (partition p (configure area s st))) × (n ≡ step_number (exchange (lent_by p (table_of t) area) (calls.configure (table_of t) p area s st)).reply.status) × (area' ≡ (exchange
    (lent_by p (table_of t) area) (calls.configure (table_of t) p area s st)).reply.area)
unfolding words_after
configure-leaves t t' area area' s st p n e a = (e.1, e.0, a)

-- the words, the buffers and the number that drc_read_reply leaves
pub reply-leaves : (h : Held) (y : Reply) (w' s' st' : List ℕ) (n : ℤ) → Replied reading_number h.reader w' n s' st' (reply (reader_of h.reader) (step_number y.status) y.area h.structure
    h.strings) → read_reply h y ≡ record { table = h.table; reader = w'; structure = s'; strings = st'; answers = h.answers ++ (n ∷ []) }
reply-leaves h y w' s' st' n e = rw (e.0, e.1, e.2, e.3)

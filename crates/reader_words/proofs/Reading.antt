-- What a reply leaves, by whether it was taken. `r` is the record that the words `w` hold, `status'` the status as the code passed it on.
use mathlib.Core.Path.{◌≡◌, refl, ap, sym, ◌∙◌}
use mathlib.Core.Bool.{true, false}
use Prim.Native.Nat.{ℕ}
use mathlib.Core.List.{List}
use lib.IntN.{ℤ}
use Rattle.words.proofs.Pick.{pick_yes, pick_no}
use Rattle.reader.specs.declared.Read.{Read}
use Rattle.replies.specs.declared.Reader.{Reader}
use Rattle.replies.specs.declared.Reading.{Reading}
use Rattle.replies.specs.Replies.{reading_number}
use Rattle.reader.specs.Replies.{outcome, reply}
use Rattle.reader_words.specs.Reading.{Replied, is_taken, reader_of, reader_words, reader_words_after}

module _ (w : List ℕ) (status status' : ℤ) (area s st s' st' : List ℕ) (r : Reader) (a : Read) (read : r ≡ reader_of w) (told : status' ≡ status) (e : outcome a s' st' ≡ reply r status' area s st) where
  -- the record is written
  pub written : (w' : List ℕ) → is_taken a.answer ≡ true → w' ≡ reader_words a.reader → Replied (λ a. a) w w' a.answer s' st' (reply (reader_of w) status area s st)
  unfolding reader_words_after
  written w' t p = rw (← read, ← told, ← e) (refl, p ∙ sym (pick_yes _ _ _ t), refl, refl)

  -- nothing is written
  pub unwritten : is_taken a.answer ≡ false → Replied (λ a. a) w w a.answer s' st' (reply (reader_of w) status area s st)
  unfolding reader_words_after
  unwritten t = rw (← read, ← told, ← e) (refl, sym (pick_no _ _ _ t), refl, refl)

-- the same with the answer's number, for a caller that passes the status on
pub numbered : (w w' : List ℕ) (n : ℤ) (a : Reading) (s' st' : List ℕ) (status status' : ℤ) (area s st : List ℕ) → status' ≡ status → n ≡ reading_number a → Replied (λ a. a) w w' a s' st' (reply (reader_of w) status' area s st) → Replied reading_number w w' n s' st' (reply (reader_of w) status area s st)
numbered w w' n a s' st' status status' area s st told e p = rw (← told) (e ∙ ap reading_number p.0, p.1, p.2, p.3)

-- the same for a caller of that one
pub passed_on : (w w' : List ℕ) (n n' : ℤ) (s' st' : List ℕ) (status status' : ℤ) (area s st : List ℕ) → status' ≡ status → n' ≡ n → Replied reading_number w w' n s' st' (reply (reader_of w) status' area s st) → Replied reading_number w w' n' s' st' (reply (reader_of w) status area s st)
passed_on w w' n n' s' st' status status' area s st told e p = rw (← told) (e ∙ p.0, p.1, p.2, p.3)

-- Changed nodes reported call by call, and read back.
use Rattle.std.specs.Prelude.{ℕ, zero, suc, ◌+◌, ◌*◌, ◌%◌, ◌≤◌, ◌≡◌, Bool, true, false, List, [], ◌∷◌, ◌++◌, map, eqb, ltb, leb, length, take, drop, Result, Ok, Err}
use Rattle.std.specs.Result.{result_unwrap_or}
use Rattle.std.proofs.lemmas.List.Edits.{sets}
use Rattle.words.specs.Pick.{pick, every}
use Rattle.words.specs.Run.{run_from}
use Rattle.node_changes.specs.Changes.{Change, change, add, changes_in, in_order, all_kinds}
use Rattle.node_changes.specs.Lists.{area_bytes}
use Rattle.changes_writer.specs.declared.Updating.{Updating}
use Rattle.changes_writer.specs.declared.Updating.TheVariants.{Done, More}
use Rattle.changes_writer.specs.declared.Refused.{Refused}
use Rattle.changes_writer.specs.Writer.{change_limit, migration, state_in, fitting, reported, bytes_of, UpdatesLeft, update_nodes}
use Rattle.changes_reader.specs.Reader.{change_words, updates_read, read_updates}

-- a change as it is read: only an add has an index
unfoldable pub as_read : Change → Change
as_read c = change c.kind c.node (pick (eqb c.kind add) c.index 0)

-- the changes of one call after the other, as many as fit, until none remain
unfoldable pub call_lists_from : (List Change → List (List Change)) → List Change → List (List Change)
call_lists_from next cs = reported cs ∷ pick (ltb (fitting cs) (length cs)) (next (drop (fitting cs) cs)) []

unfoldable pub call_lists : List Change → List (List Change)
call_lists cs = run_from [] length call_lists_from cs

-- those of a borrowed list, and how many calls that takes
abbrev pub call_lists_of : List ℕ → List (List Change)
call_lists_of ws = call_lists (in_order (changes_in ws))

abbrev pub call_count : List ℕ → ℕ
call_count ws = length (call_lists_of ws)

abbrev pub is_more : Result Updating Refused → Bool
is_more (Ok Done) = false
is_more (Ok More) = true
is_more (Err e) = false

-- the state variable and twelve zero bytes
abbrev pub first_bytes : ℕ → List ℕ
first_bytes state = bytes_of (state ∷ 0 ∷ 0 ∷ 0 ∷ [])

-- up to k calls with the same list, until no more remain: each has the first sixteen bytes that the one before left, and any others
unfoldable pub calls_from : ℕ → List ℕ → (ℕ → List ℕ) → ℕ → List ℕ → List UpdatesLeft
calls_from zero ws others i first = []
calls_from (suc k) ws others i first =
    let l = update_nodes migration ws (first ++ others i) in
    l ∷ pick (is_more l.answer) (calls_from k ws others (suc i) (take 16 l.area)) []

-- from the variable 0 on
abbrev pub calls : ℕ → List ℕ → (ℕ → List ℕ) → List UpdatesLeft
calls k ws others = calls_from k ws others 0 (first_bytes 0)

-- the words that the reader writes into a buffer, of one area after the other
unfoldable pub read_all : List ℕ → List UpdatesLeft → List ℕ
read_all out [] = []
read_all out (l ∷ ls) = let r = read_updates l.area out in take (result_unwrap_or r.answer 0) r.out ++ read_all out ls

-- the reader gives these changes, into any buffer with room for them
abbrev pub ReadAs : List Change → List ℕ → Type 0
ReadAs cs area = (out : List ℕ) → 3 * length cs ≤ length out → read_updates area out ≡ updates_read (Ok (3 * length cs)) (sets out 0 (change_words (map as_read cs)))

-- a call that reports these changes after so many: 1 if there is another call, with the variable so far and twelve zero bytes, and then at least 509
-- changes; else 0, with the variable 0
abbrev pub Answers : ℕ → List Change → List (List Change) → UpdatesLeft → Type 0
Answers state cs [] l = (l.answer ≡ Ok Done) × (state_in l.area ≡ 0)
Answers state cs (next ∷ more) l = (l.answer ≡ Ok More) × (take 16 l.area ≡ first_bytes (state + length cs)) × (509 ≤ length cs)

-- call by call, and no other calls
abbrev pub CallByCall : ℕ → List (List Change) → List UpdatesLeft → Type 0
CallByCall state [] [] = Unit
CallByCall state [] (l ∷ ls) = ⊥
CallByCall state (cs ∷ more) [] = ⊥
CallByCall state (cs ∷ more) (l ∷ ls) = ReadAs cs l.area × Answers state cs more l × CallByCall (state + length cs) more ls

-- a list that is not refused
unfoldable pub accepts_list : List ℕ → Bool
accepts_list ws = every (leb (length (changes_in ws)) change_limit ∷ all_kinds (changes_in ws) ∷ eqb (length ws % 3) 0 ∷ [])

-- how many changes pass a test
unfoldable pub count_of : (Change → Bool) → List Change → ℕ
count_of p [] = 0
count_of p (c ∷ cs) = pick (p c) 1 0 + count_of p cs

-- the calls end, and report what they should; all of them together, read one after the other, give every change in order; each change is in that order as
-- often as it was borrowed; and nine calls are enough
pub record EveryChange (ws : List ℕ) : Type 0 where
  pub reports : (others : ℕ → List ℕ) → ((i : ℕ) → 16 + length (others i) ≡ area_bytes) → (k : ℕ) → call_count ws ≤ k → CallByCall 0 (call_lists_of ws) (calls k ws others)
  pub together : (others : ℕ → List ℕ) → ((i : ℕ) → 16 + length (others i) ≡ area_bytes) → (k : ℕ) → call_count ws ≤ k → (out : List ℕ) → 3054 ≤ length out → read_all out (calls k ws others) ≡ change_words (map as_read (in_order (changes_in ws)))
  pub once : (p : Change → Bool) → count_of p (in_order (changes_in ws)) ≡ count_of p (changes_in ws)
  pub nine : call_count ws ≤ 9

abbrev pub AllChanges : Type 0
AllChanges = (ws : List ℕ) → accepts_list ws ≡ true → EveryChange ws

-- What update-nodes reports of borrowed changes: document 02, Ticket 7.
use Rattle.std.specs.Prelude.{ℕ, zero, suc, ◌+◌, ◌%◌, Bool, false, eqb, ltb, leb, ℤ, pos, negsuc, length, take, drop, Result, Ok, Err}
use mathlib.Core.List.{List, [], ◌∷◌, ◌++◌, flat_map}
use Rattle.std.proofs.lemmas.List.Edits.{sets}
use Rattle.words.specs.Pick.{pick, every}
use Rattle.words.specs.Bytes.{word_at, zero_at}
use Rattle.buffer.specs.Put.{bytes32}
use Rattle.node_changes.specs.Changes.{Change, changes_in, in_order, all_kinds}
use Rattle.node_changes.specs.Lists.{area_bytes, operations}
use Rattle.changes_writer.specs.declared.Updating.{Updating}
use Rattle.changes_writer.specs.declared.Updating.TheVariants.{Done, More}
use Rattle.changes_writer.specs.declared.Refused.{Refused}

abbrev pub change_limit : ℕ
change_limit = 4096

-- the scope of a migration, the only one that is reported
abbrev pub migration : ℕ
migration = 1

-- the words for operation lists: those of the area without the state variable, the twelve zero bytes and the terminator
abbrev pub list_words : ℕ
list_words = 1019

-- the state variable, which counts the changes reported so far
abbrev pub state_in : List ℕ → ℕ
state_in area = word_at area 0

-- nothing is refused but, it may be, a change of another kind
unfoldable pub is_sound : ℕ → List ℕ → List ℕ → Bool
is_sound scope ws area =
    every (
    eqb scope migration
    ∷ leb (state_in area) (length (changes_in ws))
    ∷ leb (length (changes_in ws)) change_limit
    ∷ zero_at 12 area 4
    ∷ eqb (length area) area_bytes
    ∷ eqb (length ws % 3) 0
    ∷ [])

-- nothing is refused
unfoldable pub accepts : ℕ → List ℕ → List ℕ → Bool
accepts scope ws area = pick (is_sound scope ws area) (all_kinds (changes_in ws)) false

-- the highest number up to n that passes, or 0
unfoldable pub highest : (ℕ → Bool) → ℕ → ℕ
highest p zero = 0
highest p (suc n) = pick (p (suc n)) (suc n) (highest p n)

-- as far as whole entries go: how many changes, from the first on, have operation lists for which there is room
unfoldable pub fitting : List Change → ℕ
fitting cs = highest (λ k. leb (length (operations (take k cs))) list_words) (length cs)

-- these
abbrev pub reported : List Change → List Change
reported cs = take (fitting cs) cs

-- the state variable, twelve zero bytes, operation lists and the terminator
unfoldable pub area_words : ℕ → List Change → List ℕ
area_words state cs = (state ∷ 0 ∷ 0 ∷ 0 ∷ operations cs) ++ (0 ∷ [])

abbrev pub bytes_of : List ℕ → List ℕ
bytes_of ws = flat_map bytes32 ws

-- nothing is reported
abbrev pub refused : Refused
refused = record {}

-- the answer, and the area as it is left
pub record UpdatesLeft : Type 0 where
  pub answer : Result Updating Refused
  pub area : List ℕ

abbrev pub updates_left : Result Updating Refused → List ℕ → UpdatesLeft
updates_left answer area = record { answer = answer; area = area }

-- a report of the changes that remain after so many
unfoldable pub report : ℕ → List Change → List ℕ → UpdatesLeft
report state cs area =
    pick (ltb (fitting cs) (length cs))
    (updates_left (Ok More) (sets area 0 (bytes_of (area_words (state + fitting cs) (reported cs)))))
    (updates_left (Ok Done) (sets area 0 (bytes_of (area_words 0 (reported cs)))))

-- the changes in the order of their report, without those reported so far
abbrev pub remaining : ℕ → List ℕ → List Change
remaining state ws = drop state (in_order (changes_in ws))

unfoldable pub update_nodes : ℕ → List ℕ → List ℕ → UpdatesLeft
update_nodes scope ws area = pick (accepts scope ws area) (report (state_in area) (remaining (state_in area) ws) area) (updates_left (Err refused) area)

-- document 002's numbers
abbrev pub updating_number : Result Updating Refused → ℤ
updating_number (Ok Done) = pos 0
updating_number (Ok More) = pos 1
updating_number (Err e) = negsuc 2

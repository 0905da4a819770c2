-- The statuses of a whole walk, as text: document 01's small program, "A walk written out". `s` is the structure block, `st` the strings block.
use Rattle.std.specs.Prelude.{ℕ, zero, suc, ◌+◌, ◌≡◌, List, [], ◌∷◌, ◌++◌, Bool, false, length, drop, replicate, leb}
use Rattle.std.proofs.lemmas.List.Edits.{sets}
use Rattle.words.specs.Pick.{pick, every}
use Rattle.words.specs.Bytes.{part, word_at}
use Rattle.buffer.specs.Put.{bytes32}
use Rattle.devtree.specs.Check.{passes}
use Rattle.connector.specs.declared.Connector.{Connector}
use Rattle.step_status.specs.declared.StepStatus.{StepStatus}
use Rattle.table.specs.Model.{Model, empty_model}
use Rattle.unowned.specs.Unowned.{unowned}
use Rattle.walk.specs.Step.{Outcome, step}
use Rattle.emits.specs.Run.{ends, asks}
use Rattle.status_lines.specs.Lines.{line_of}
use Rattle.walked_connector.specs.Walked.{own_index, own}
use Rattle.statuses.specs.declared.Paused.{Paused}

-- ---- the walk

-- a work area of n bytes, zeroed, with the index in word 0
unfoldable pub area_of : ℕ → List ℕ
area_of n = sets (replicate n 0) 0 (bytes32 own_index)

-- the statuses of at most k calls, from the record c on, with the table m and the work area of the first of them; each call gets the area that the one before it left, the call after a 5 two pages anew
unfoldable pub statuses_from : Model → ℕ → List ℕ → List ℕ → Connector → List ℕ → List StepStatus
statuses_from m zero s st c area = []
statuses_from m (suc k) s st c area =
    let o : Outcome = step (unowned m c.partition) c area s st in
    let n : StepStatus = o.stepped.status in
    n ∷ pick (ends n) [] (statuses_from m k s st o.stepped.connector (pick (asks n) (area_of 8192) o.area))

-- no call follows the last of them
unfoldable pub closed : List StepStatus → Bool
closed [] = false
closed (n ∷ []) = ends n
closed (n ∷ (m ∷ ns)) = closed (m ∷ ns)

-- the statuses of the whole walk, with a table of no connector. Each reply of 2 to 4 moves the walk on inside the structure block, and besides come at most one 5 and the last status: so this many calls are enough (`walk_ends` of `proofs/Ends.antt`)
unfoldable pub walk_statuses : List ℕ → List ℕ → List StepStatus
walk_statuses s st = statuses_from empty_model (length s + 2) s st own (area_of 4096)

-- ---- its text

unfoldable pub lines : List StepStatus → List ℕ
lines [] = []
lines (n ∷ ns) = line_of n ++ lines ns

-- two texts with bytes still to come at a place of each: they are the same once those stand, and end at the same place
pub record Same (text : List ℕ) (at : ℕ) (rest : List ℕ) (text₀ : List ℕ) (at₀ : ℕ) (rest₀ : List ℕ) : Type 0 where
  pub whole : sets text at rest ≡ sets text₀ at₀ rest₀
  pub end : at + length rest ≡ at₀ + length rest₀

-- the text that is still to come where the walk paused
unfoldable pub to_come : Model → List ℕ → List ℕ → Paused → List ℕ
to_come m s st p = pick p.asked (lines (statuses_from m p.left s st p.connector (area_of 8192))) []

-- ---- the whole program

-- the input: the structure block's length as a word, the structure block, the strings block
unfoldable pub input_structure : List ℕ → List ℕ
input_structure input = part input 4 (word_at input 0)

unfoldable pub input_strings : List ℕ → List ℕ
input_strings input = drop (4 + word_at input 0) input

-- the input has the length and the structure block whole, and the check passes
unfoldable pub is_walked : List ℕ → Bool
is_walked input =
    every
    (leb 4 (length input)
    ∷ leb (4 + word_at input 0) (length input)
    ∷ passes (input_structure input) (input_strings input)
    ∷ [])

-- "refused" and a newline
abbrev pub refusal : List ℕ
refusal = 114 ∷ 101 ∷ 102 ∷ 117 ∷ 115 ∷ 101 ∷ 100 ∷ 10 ∷ []

unfoldable pub text_of : List ℕ → List ℕ
text_of input = pick (is_walked input) (lines (walk_statuses (input_structure input) (input_strings input))) refusal

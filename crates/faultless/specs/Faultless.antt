-- Walks that never answer -1, and the statements of the two theorems: document 02, Ticket 11. `s` is the structure block, `st` the strings block.
use Rattle.std.specs.Prelude.{ℕ, ◌≡◌, List, [], ◌∷◌, Bool, true, false, not}
use Rattle.words.specs.Pick.{every}
use Rattle.words.specs.Bytes.{word_at}
use Rattle.devtree.specs.Check.{passes}
use Rattle.states.specs.States.{start}
use Rattle.connector.specs.declared.Connector.{Connector}
use Rattle.step_status.specs.declared.StepStatus.{StepStatus}
use Rattle.walk.specs.Step.{Outcome, step}
use Rattle.emits.specs.Run.{Lent}
use Rattle.table.specs.Model.{table_of}
use Rattle.calls.specs.Calls.{configure}
use Rattle.history.specs.Calls.{Call, run}
use Rattle.interleaved.specs.Between.{WalkBetween}
use Rattle.faults.specs.Status.{is_bad_tree}

-- the statuses of calls that lend these work areas and tables, one after another, each on the record that the one before left, whatever it answered
unfoldable pub statuses_of : List ℕ → List ℕ → Connector → List Lent → List StepStatus
statuses_of s st c [] = []
statuses_of s st c (l ∷ ls) =
    let o : Outcome = step l.unowned c l.area s st in
    o.stepped.status ∷ statuses_of s st o.stepped.connector ls

-- no status is -1
unfoldable pub none_bad : List StepStatus → Bool
none_bad [] = true
none_bad (n ∷ ns) = every (not (is_bad_tree n) ∷ none_bad ns ∷ [])

-- where the check passes, no walk from its start with the same tree ever answers -1: in whatever state the record is, and whatever the calls lend besides
abbrev pub NeverBad : Type 0
NeverBad = (s st : List ℕ) → passes s st ≡ true → (c : Connector) → c.walk ≡ start → (ls : List Lent) → none_bad (statuses_of s st c ls) ≡ true

-- the same at the table: after any calls between, the partition's next call for this connector with this tree does not answer -1
abbrev pub NeverBadBetween : Type 0
NeverBadBetween =
    (t : List ℕ) (p k : ℕ) (s st : List ℕ) (cs : List Call) → WalkBetween t p k s st cs → (area : List ℕ) → word_at area 0 ≡ k
    → is_bad_tree (configure (table_of (run t cs)) p area s st).answer.status ≡ false

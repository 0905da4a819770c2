-- A walk, call by call: each call on the record that the one before left, with a work area and a table of its own. `s` is the structure block, `st` the strings block.
use Rattle.std.specs.Prelude.{ℕ, ◌+◌, ◌≡◌, List, [], ◌∷◌, map, Bool, true, false, eqb, length}
use Rattle.words.specs.Pick.{pick, every}
use Rattle.states.specs.declared.Page.{Page}
use Rattle.states.specs.declared.Page.TheVariants.{None, Asked, Taken}
use Rattle.connector.specs.declared.Connector.{Connector}
use Rattle.step_status.specs.declared.StepStatus.{StepStatus}
use Rattle.step_status.specs.declared.StepStatus.TheVariants.{Complete, NextChild, NextProperty, PreviousParent, MoreMemory, Parameter, NotUnisolated, BadTree}
use Rattle.guards.specs.Guards.{is_area}
use Rattle.walk.specs.Step.{Outcome, step}

-- what a guest sees of a call: the status, and the work area that the call left
pub record Reply : Type 0 where
  pub status : StepStatus
  pub area : List ℕ

abbrev pub reply_of : Outcome → Reply
reply_of o = record { status = o.stepped.status; area = o.area }

-- one token was consumed: a status of 0 to 4
abbrev pub consumes : StepStatus → Bool
consumes Complete = true
consumes NextChild = true
consumes NextProperty = true
consumes PreviousParent = true
consumes MoreMemory = false
consumes Parameter = false
consumes NotUnisolated = false
consumes (BadTree at) = false

-- the second page is asked for: a status of 5
abbrev pub asks : StepStatus → Bool
asks Complete = false
asks NextChild = false
asks NextProperty = false
asks PreviousParent = false
asks MoreMemory = true
asks Parameter = false
asks NotUnisolated = false
asks (BadTree at) = false

-- a walk ends with 0, or with a status below 0
abbrev pub ends : StepStatus → Bool
ends Complete = true
ends NextChild = false
ends NextProperty = false
ends PreviousParent = false
ends MoreMemory = false
ends Parameter = true
ends NotUnisolated = true
ends (BadTree at) = true

-- a status of 0
abbrev pub is_complete : StepStatus → Bool
is_complete Complete = true
is_complete NextChild = false
is_complete NextProperty = false
is_complete PreviousParent = false
is_complete MoreMemory = false
is_complete Parameter = false
is_complete NotUnisolated = false
is_complete (BadTree at) = false

-- what a call lends besides the tree: a work area, and a table, of which it matters which indexes are unowned
pub record Lent : Type 0 where
  pub area : List ℕ
  pub unowned : ℕ → Bool

abbrev pub areas_of : List Lent → List (List ℕ)
areas_of ls = map (λ l. l.area) ls

abbrev pub unowned_of : List Lent → List (ℕ → Bool)
unowned_of ls = map (λ l. l.unowned) ls

-- the replies to calls that lend these, one after another, until the walk ends
unfoldable pub replies : List ℕ → List ℕ → Connector → List Lent → List Reply
replies s st c [] = []
replies s st c (l ∷ ls) =
    let o : Outcome = step l.unowned c l.area s st in
    reply_of o ∷ pick (ends o.stepped.status) [] (replies s st o.stepped.connector ls)

-- what was unowned at each call that took a token
unfoldable pub when_taken : List Lent → List Reply → List (ℕ → Bool)
when_taken [] ys = []
when_taken (l ∷ ls) [] = []
when_taken (l ∷ ls) (y ∷ ys) = pick (consumes y.status) (l.unowned ∷ when_taken ls ys) (when_taken ls ys)

-- the form of a work area: one page where the second was neither asked for nor taken, either while it is asked for, two once it is taken
abbrev pub formed : Page → ℕ → Bool
formed None lent = eqb lent 4096
formed Asked lent = is_area lent
formed Taken lent = eqb lent 8192

-- each call of the walk lends a work area of the form that the walk then wants, with any contents
abbrev pub RightForm : List ℕ → List ℕ → Connector → List Lent → Type 0
RightForm s st c [] = Unit
RightForm s st c (l ∷ ls) =
    let o : Outcome = step l.unowned c l.area s st in
    (formed c.walk.page (length l.area) ≡ true) × (ends o.stepped.status ≡ false → RightForm s st o.stepped.connector ls)

-- the calls went on until the 0
unfoldable pub until_zero : List Reply → Bool
until_zero [] = false
until_zero (y ∷ []) = is_complete y.status
until_zero (y ∷ (z ∷ ys)) = until_zero (z ∷ ys)

-- the next call lends two pages
abbrev pub two_next : List (List ℕ) → Bool
two_next [] = true
two_next (a ∷ areas) = eqb (length a) 8192

-- every call after a 5 lends two pages
unfoldable pub two_after_five : List (List ℕ) → List Reply → Bool
two_after_five [] ys = true
two_after_five (a ∷ areas) [] = true
two_after_five (a ∷ areas) (y ∷ ys) = every (pick (asks y.status) (two_next areas) true ∷ two_after_five areas ys ∷ [])

-- how many replies pass a test of the status
unfoldable pub count : (StepStatus → Bool) → List Reply → ℕ
count test [] = 0
count test (r ∷ rs) = pick (test r.status) 1 0 + count test rs

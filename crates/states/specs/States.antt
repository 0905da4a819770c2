-- The parts of a connector: what is asked of a state, states and pages as words, and the walk's start.
use Rattle.std.specs.Prelude.{ℕ, Bool, true, false, eqb}
use Rattle.words.specs.Pick.{pick}
use Rattle.states.specs.declared.State.{State}
use Rattle.states.specs.declared.State.TheVariants.{Unusable, Available, Unisolated, Configured}
use Rattle.states.specs.declared.Page.{Page}
use Rattle.states.specs.declared.Page.TheVariants.{None, Asked, Taken}
use Rattle.states.specs.declared.Walk.{Walk}

abbrev pub is_configured : State → Bool
is_configured Unusable = false
is_configured Available = false
is_configured Unisolated = false
is_configured Configured = true

abbrev pub in_use : State → Bool
in_use Unusable = false
in_use Available = true
in_use Unisolated = true
in_use Configured = true

-- document 01's get-sensor value
abbrev pub sense_in : State → ℕ
sense_in Unusable = 2
sense_in Available = 1
sense_in Unisolated = 1
sense_in Configured = 1

abbrev pub word_of_state : State → ℕ
word_of_state Unusable = 0
word_of_state Available = 1
word_of_state Unisolated = 2
word_of_state Configured = 3

-- a word that is no state reads as Unusable
unfoldable pub state_of : ℕ → State
state_of w = pick (eqb w 1) Available (pick (eqb w 2) Unisolated (pick (eqb w 3) Configured Unusable))

abbrev pub word_of_page : Page → ℕ
word_of_page None = 0
word_of_page Asked = 1
word_of_page Taken = 2

-- a word that is no page reads as None
unfoldable pub page_of : ℕ → Page
page_of w = pick (eqb w 1) Asked (pick (eqb w 2) Taken None)

abbrev pub start : Walk
start = record { place = 0; depth = 0; page = None }

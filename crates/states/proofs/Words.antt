-- A state and a page come back from their words.
use mathlib.Core.Path.{◌≡◌, refl}
use Rattle.words.specs.Pick.{pick}
use Rattle.states.specs.declared.State.{State}
use Rattle.states.specs.declared.State.TheVariants.{Unusable, Available, Unisolated, Configured}
use Rattle.states.specs.declared.Page.{Page}
use Rattle.states.specs.declared.Page.TheVariants.{None, Asked, Taken}
use Rattle.states.specs.States.{state_of, word_of_state, page_of, word_of_page}

pub state-word : (s : State) → state_of (word_of_state s) ≡ s
unfolding state_of pick
state-word Unusable = refl
state-word Available = refl
state-word Unisolated = refl
state-word Configured = refl

pub page-word : (p : Page) → page_of (word_of_page p) ≡ p
unfolding page_of pick
page-word None = refl
page-word Asked = refl
page-word Taken = refl

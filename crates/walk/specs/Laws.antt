-- What holds of every step: the statement of the law that `proofs/Laws.antt` proves.
use Rattle.std.specs.Prelude.{◌≡◌, true, false, List, ◌≢◌, ℕ, ◌<◌, ◌≤◌, length}
use Rattle.states.specs.declared.State.{State}
use Rattle.states.specs.declared.State.TheVariants.{Unisolated, Configured}
use Rattle.states.specs.declared.Page.TheVariants.{Asked}
use Rattle.connector.specs.declared.Connector.{Connector}
use Rattle.connector.specs.Fields.{with_step}
use Rattle.connector.specs.Laws.{AtStart}
use Rattle.step_status.specs.Status.{is_refusal}
use Rattle.step_status.specs.declared.StepStatus.{StepStatus}
use Rattle.step_status.specs.declared.StepStatus.TheVariants.{Complete, NextChild, NextProperty, PreviousParent, MoreMemory, Parameter, NotUnisolated, BadTree}
use Rattle.walk.specs.Step.{Outcome}

-- the state after a step that found the state s
abbrev pub state_after_step : StepStatus → State → State
state_after_step Complete s = Configured
state_after_step NextChild s = Unisolated
state_after_step NextProperty s = Unisolated
state_after_step PreviousParent s = Unisolated
state_after_step MoreMemory s = Unisolated
state_after_step Parameter s = s
state_after_step NotUnisolated s = s
state_after_step (BadTree at) s = s

-- the step of the record c over the work area and the structure block s, with its outcome o
pub record StepLaw (c : Connector) (area s : List ℕ) (o : Outcome) : Type 0 where
  -- nothing but state and walk
  pub only : o.stepped.connector ≡ with_step o.stepped.connector.state o.stepped.connector.walk c
  -- a refusal changes nothing
  pub refusal : is_refusal o.stepped.status ≡ true → (o.stepped.connector ≡ c) × (o.area ≡ area)
  -- a 5 is answered to one page, and only notes the asking
  pub paged : o.stepped.status ≡ MoreMemory → length area ≡ 4096
  pub asks : o.stepped.status ≡ MoreMemory → (o.stepped.connector ≡ with_step c.state (record { place = c.walk.place; depth = c.walk.depth; page = Asked }) c) × (o.area ≡ area)
  pub size : length o.area ≡ length area
  -- a reply of 2 to 4 moves the walk on, inside the block
  pub forward : is_refusal o.stepped.status ≡ false → o.stepped.status ≢ Complete → o.stepped.status ≢ MoreMemory → (c.walk.place < o.stepped.connector.walk.place) × (o.stepped.connector.walk.place ≤ length s)
  pub walk : AtStart c → AtStart o.stepped.connector
  -- any other answer than a refusal is given only while Unisolated
  pub unisolated : is_refusal o.stepped.status ≡ false → c.state ≡ Unisolated
  pub state : o.stepped.connector.state ≡ state_after_step o.stepped.status c.state

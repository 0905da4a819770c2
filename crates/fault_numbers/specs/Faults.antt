-- Where configure-connector's -1 comes from: document 02, Ticket 11. `s` is the structure block, `st` the strings block.
use Rattle.std.specs.Prelude.{ℕ, List, [], ◌∷◌, eqb, length}
use Rattle.words.specs.Pick.{pick, every}
use Rattle.words.specs.Bytes.{word_at}
use Rattle.table.specs.Model.{Model}
use Rattle.guards.specs.Guards.{is_area}
use Rattle.unowned.specs.Unowned.{unowned}
use Rattle.calls.specs.Calls.{own_at}
use Rattle.faults.specs.Faults.{step_fault}

-- the offset of the step that is made; 0 where step 1 refuses
unfoldable pub configure_fault : Model → ℕ → List ℕ → List ℕ → List ℕ → ℕ
configure_fault m partition area s st =
    pick (every (is_area (length area) ∷ eqb (word_at area 4) 0 ∷ []))
    (own_at m partition (word_at area 0) (λ i c. step_fault (unowned m c.partition) c area s st) 0)
    0

-- When an index is that of an unowned connector: document 02, Ticket 5.
use Rattle.std.specs.Prelude.{ℕ, Bool, false, not, ltb, get_or, length}
use Rattle.words.specs.Pick.{pick}
use Rattle.states.specs.States.{in_use}
use Rattle.table.specs.Model.{Model, blank_connector, position, has_index}

-- the first connector with index k, whoever's it is, is Unusable; an index that is not in the table is not unowned. p, the partition that walks, does not matter yet (document 02, Ticket 14)
unfoldable pub unowned : Model → ℕ → ℕ → Bool
unowned m p k =
    pick (ltb (position (has_index k) m.connectors) (length m.connectors))
    (not (in_use (get_or m.connectors (position (has_index k) m.connectors) blank_connector).state))
    false

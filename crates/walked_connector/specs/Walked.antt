-- The connector that the programs walk.
use Rattle.std.specs.Prelude.{ℕ, false}
use Rattle.states.specs.declared.State.TheVariants.{Unisolated}
use Rattle.connector.specs.declared.Connector.{Connector}
use Rattle.states.specs.States.{start}
use Rattle.kinds.specs.Kinds.{mem}
use Rattle.connector.specs.Fields.{new_connector, changed}

-- the index of the connector, 80000001: the first of the kind MEM
abbrev pub own_index : ℕ
own_index = 2147483649

-- an unisolated connector, with the walk at its start
abbrev pub own : Connector
own = changed Unisolated (record { 0 = 1 }) start false (new_connector mem own_index 1 0)

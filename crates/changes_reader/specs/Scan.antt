-- What a pass over the operators finds.
use Rattle.std.specs.Prelude.{ℕ, ◌+◌, List, [], length, Result, Ok, Err}
use Rattle.std.specs.Result.{result_unwrap_or}
use Rattle.node_changes.specs.Changes.{Change}
use Rattle.changes_reader.specs.declared.AreaFault.{AreaFault}

-- how many changes, with n before them
abbrev pub count_after : ℕ → Result (List Change) AreaFault → Result ℕ AreaFault
count_after n (Ok cs) = Ok (n + length cs)
count_after n (Err fault) = Err fault

-- none of an area that is refused
abbrev pub changes_of : Result (List Change) AreaFault → List Change
changes_of r = result_unwrap_or r []

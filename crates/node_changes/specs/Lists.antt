-- Operation lists, which report changes: document 002.
use Rattle.std.specs.Prelude.{ℕ, ◌+◌, ◌*◌, ◌/◌, ◌%◌, eqb, length}
use mathlib.Core.List.{List, [], ◌∷◌, ◌++◌, flat_map}
use Rattle.words.specs.Pick.{pick}
use Rattle.node_changes.specs.Changes.{Change, delete, update, add, of_kind}

-- the work area has 4 KB
abbrev pub area_bytes : ℕ
area_bytes = 4096

-- how many operands a change has: the node and, of an add, the index
abbrev pub width : ℕ → ℕ
width kind = pick (eqb kind add) 2 1

unfoldable pub operands : Change → List ℕ
operands c = pick (eqb c.kind add) (c.node ∷ c.index ∷ []) (c.node ∷ [])

-- the opcode in the high order byte, then in three bytes how many operands follow
abbrev pub operator : ℕ → ℕ → ℕ
operator kind n = kind * 16777216 + n

abbrev pub opcode_of : ℕ → ℕ
opcode_of w = w / 16777216

abbrev pub operands_after : ℕ → ℕ
operands_after w = w % 16777216

-- one operator and its operands; where there are none, no operator
unfoldable pub operation : ℕ → List Change → List ℕ
operation kind [] = []
operation kind (c ∷ cs) = operator kind (length (flat_map operands (c ∷ cs))) ∷ flat_map operands (c ∷ cs)

-- deletes before updates before adds
unfoldable pub operations : List Change → List ℕ
operations cs = operation delete (of_kind delete cs) ++ (operation update (of_kind update cs) ++ operation add (of_kind add cs))

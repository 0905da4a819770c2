-- Changes of nodes as they are borrowed: document 02, Ticket 7.
use Rattle.std.specs.Prelude.{ℕ, zero, suc, ◌+◌, ◌-◌, ◌/◌, Bool, true, false, List, [], ◌∷◌, ◌++◌, eqb, length, get_or}
use Rattle.words.specs.Pick.{pick, any}
use Rattle.node_changes.specs.declared.Tally.{Tally}

-- its kind; the phandle of the node, of an add that of the parent; and of an add the index of its connector
pub record Change : Type 0 where
  pub kind : ℕ
  pub node : ℕ
  pub index : ℕ

abbrev pub change : ℕ → ℕ → ℕ → Change
change kind node index = record { kind = kind; node = node; index = index }

abbrev pub delete : ℕ
delete = 1

abbrev pub update : ℕ
update = 2

abbrev pub add : ℕ
add = 3

-- there is no other kind
unfoldable pub is_kind : ℕ → Bool
is_kind kind = any (eqb kind) (delete ∷ update ∷ add ∷ [])

unfoldable pub all_kinds : List Change → Bool
all_kinds [] = true
all_kinds (c ∷ cs) = pick (is_kind c.kind) (all_kinds cs) false

-- n changes, three words each, from a place on
unfoldable pub changes_from : ℕ → List ℕ → ℕ → List Change
changes_from zero ws at = []
changes_from (suc n) ws at = change (get_or ws at 0) (get_or ws (at + 1) 0) (get_or ws (at + 2) 0) ∷ changes_from n ws (at + 3)

-- as many as there are from a place on
abbrev pub changes_at : List ℕ → ℕ → List Change
changes_at ws at = changes_from ((length ws - at) / 3) ws at

-- all of them
abbrev pub changes_in : List ℕ → List Change
changes_in ws = changes_at ws 0

-- those of a kind, in the order in which they are borrowed
unfoldable pub of_kind : ℕ → List Change → List Change
of_kind kind [] = []
of_kind kind (c ∷ cs) = pick (eqb c.kind kind) (c ∷ of_kind kind cs) (of_kind kind cs)

-- reports come as deletes, updates, adds
unfoldable pub in_order : List Change → List Change
in_order cs = of_kind delete cs ++ (of_kind update cs ++ of_kind add cs)

-- how many there are of each kind
unfoldable pub tally_of : List Change → Tally
tally_of cs = record { deletes = length (of_kind delete cs); updates = length (of_kind update cs); adds = length (of_kind add cs) }

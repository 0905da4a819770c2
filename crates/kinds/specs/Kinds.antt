-- The kinds of connectors and resources: their numbers, which are known, and what each kind begins with and may have.
use Rattle.std.specs.Prelude.{ℕ, ◌/◌, List, [], ◌∷◌, Bool, eqb}
use Rattle.words.specs.Pick.{any, every}
use Rattle.states.specs.declared.State.{State}
use Rattle.states.specs.declared.State.TheVariants.{Unusable}

abbrev pub cpu : ℕ
cpu = 1

-- a PCI host bridge, the only kind that has slots below it
abbrev pub phb : ℕ
phb = 2

abbrev pub slot : ℕ
slot = 3

-- a block of memory
abbrev pub mem : ℕ
mem = 8

abbrev pub kinds : List ℕ
kinds = cpu ∷ phb ∷ slot ∷ mem ∷ []

unfoldable pub known : ℕ → Bool
known kind = any (eqb kind) kinds

-- the top four bits of an index
abbrev pub kind_of_index : ℕ → ℕ
kind_of_index k = k / 268435456

-- a kind that is known, and is that of the index
abbrev pub kind_fits : ℕ → ℕ → Bool
kind_fits kind k = every (known kind ∷ eqb (kind_of_index k) kind ∷ [])

-- a slot may be given a parent, which is a PHB; no other kind
abbrev pub may_have_parent : ℕ → Bool
may_have_parent kind = eqb kind slot

-- the state in which a connector of a kind begins, and to which it comes back once it is empty
abbrev pub first_state : ℕ → State
first_state kind = Unusable

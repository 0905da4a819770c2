-- What holds of the events of a tree: of each one's name and value, and of their order.
use Rattle.std.specs.Prelude.{ℕ, ◌+◌, ◌-◌, ◌<◌, ◌≤◌, ◌≡◌, List, [], ◌∷◌, Bool, true, false, length, get_or}
use Rattle.devtree.specs.Tree.{Event, begin, prop, end}

-- a name of 1 to `most` bytes, none of them 0
pub record GoodName (most : ℕ) (name : List ℕ) : Type 0 where
  pub some : 1 ≤ length name
  pub few : length name ≤ most
  pub bytes : (j : ℕ) → j < length name → get_or name j 0 ≡ 0 → ⊥

abbrev pub GoodEvent : Event → Type 0
GoodEvent (begin name) = GoodName 47 name
GoodEvent (prop name value) = GoodName 31 name × (length value ≤ 8192 - 20 - (length name + 1))
GoodEvent end = Unit

abbrev pub AllGood : List Event → Type 0
AllGood [] = Unit
AllGood (e ∷ es) = GoodEvent e × AllGood es

-- properties stand before child nodes: none follows an end. `child` says that an end stands just before
abbrev pub PropsFirst : Bool → List Event → Type 0
PropsFirst child [] = Unit
PropsFirst child (begin name ∷ es) = PropsFirst false es
PropsFirst child (prop name value ∷ es) = (child ≡ false) × PropsFirst false es
PropsFirst child (end ∷ es) = PropsFirst true es

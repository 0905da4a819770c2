-- Where the name of a reply stands or goes in a strings block. `used` is the block's used bytes.
use Rattle.std.specs.Prelude.{ℕ, ◌+◌, List, [], ◌∷◌, Bool, true, false, length, leb}
use Rattle.words.specs.Pick.{pick, every}
use Rattle.replies.specs.declared.ReplyKind.{ReplyKind}
use Rattle.replies.specs.declared.ReplyKind.TheVariants.{Last, Sibling, Child, Property, Parent, Wait, Other}
use Rattle.sensible.specs.declared.Parts.{Parts}
use Rattle.name_places.specs.Names.{place_of, new_name}
use Rattle.name_places.specs.declared.Place.{Place}

abbrev pub is_property : ReplyKind → Bool
is_property Last = false
is_property Sibling = false
is_property Child = false
is_property Property = true
is_property Parent = false
is_property Wait = false
is_property Other = false

abbrev pub no_place : Place
no_place = record { at = 0; fresh = 0 }

abbrev pub property_place : List ℕ → List ℕ → Place
property_place name used = record { at = place_of name used; fresh = length (new_name name used) }

-- where the name of a property stands or goes, and how many bytes it adds
abbrev pub place_for : ReplyKind → List ℕ → List ℕ → Place
place_for k name used = pick (is_property k) (property_place name used) no_place

-- the used bytes and the name lie in their blocks, of `area` and `strings` bytes, and the name has at most 48 bytes
unfoldable pub lies_in : Parts → ℕ → ℕ → ℕ → Bool
lies_in p area strings used = every (leb used strings ∷ leb p.n 48 ∷ leb (p.name + p.n) area ∷ [])

-- What the steps of the reader's code say of themselves; no answer rests on a definition of this file alone.
use Rattle.std.specs.Prelude.{◌≡◌, List, [], ◌∷◌, ◌++◌, ℕ, zero, suc, ◌+◌, ◌≤◌}
use Rattle.devtree.specs.Tokens.{up4}
use Rattle.replies.specs.Replies.{most}
use Rattle.replies.specs.declared.Reader.{Reader}
use Rattle.replies.specs.declared.ReplyKind.{ReplyKind}
use Rattle.replies.specs.declared.ReplyKind.TheVariants.{Last, Sibling, Child, Property, Parent, Wait, Other}
use Rattle.sensible.specs.declared.Parts.{Parts}

-- what a reply that makes sense leaves to the code that takes it; the last three are lengths
pub record Sound (r : Reader) (k : ReplyKind) (p : Parts) (area s st : ℕ) : Type 0 where
  pub structure : r.structure ≤ most s
  pub strings : r.strings ≤ most st
  pub depth : r.depth ≤ 8
  pub parent : k ≡ Parent → 1 ≤ r.depth
  pub size : p.n ≤ 48
  pub name : p.name + p.n ≤ area
  pub value : p.value + p.len ≤ area

-- how many bytes the tokens of a reply are
abbrev pub size_of : ReplyKind → Parts → ℕ
size_of Last p = 8
size_of Sibling p = 8 + up4 (p.n + 1)
size_of Child p = 4 + up4 (p.n + 1)
size_of Property p = 12 + up4 p.len
size_of Parent p = 4
size_of Wait p = 0
size_of Other p = 0

-- a name and its NUL, where they take bytes
abbrev pub fresh_bytes : ℕ → List ℕ → List ℕ
fresh_bytes zero name = []
fresh_bytes (suc fresh) name = name ++ (0 ∷ [])

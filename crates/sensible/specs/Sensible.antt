-- What a reply points to, and when it makes sense: document 01, "A walk, call by call".
-- `r` is the reader's record, `k` the reply's kind, `p` where its name and value stand in the work area.
use Rattle.std.specs.Prelude.{ℕ, ◌+◌, List, [], ◌∷◌, Bool, true, false, eqb, leb}
use Rattle.words.specs.Pick.{pick, every}
use Rattle.words.specs.Bytes.{part, word_at, name_length}
use Rattle.replies.specs.Replies.{most}
use Rattle.replies.specs.declared.Node.{Node}
use Rattle.replies.specs.declared.Node.TheVariants.{NoChild, HasChild, Finished as Done}
use Rattle.replies.specs.declared.Reader.{Reader}
use Rattle.replies.specs.declared.ReplyKind.{ReplyKind}
use Rattle.replies.specs.declared.ReplyKind.TheVariants.{Last, Sibling, Child, Property, Parent, Wait, Other}
use Rattle.sensible.specs.declared.Parts.{Parts}

-- ---- what the work area says

abbrev pub no_parts : Parts
no_parts = record { name = 0; n = 0; value = 0; len = 0 }

-- the name at the offset in word 2; `limit` is one more than it may be long
abbrev pub name_parts : ℕ → List ℕ → Parts
name_parts limit area = record { name = word_at area 8; n = name_length limit area (word_at area 8); value = 0; len = 0 }

-- the value's length is in word 3 and its offset in word 4
abbrev pub property_parts : List ℕ → Parts
property_parts area = record { name = word_at area 8; n = name_length 32 area (word_at area 8); value = word_at area 16; len = word_at area 12 }

-- the name and the value in the work area
abbrev pub name_in : Parts → List ℕ → List ℕ
name_in p area = part area p.name p.n

abbrev pub value_in : Parts → List ℕ → List ℕ
value_in p area = part area p.value p.len

-- what a reply of this kind points to
abbrev pub parts_of : ReplyKind → List ℕ → Parts
parts_of Last area = no_parts
parts_of Sibling area = name_parts 48 area
parts_of Child area = name_parts 48 area
parts_of Property area = property_parts area
parts_of Parent area = no_parts
parts_of Wait area = no_parts
parts_of Other area = no_parts

-- a name has 1 to `longest` bytes, stands from byte 20 on, and has its NUL at byte 4,095 at the latest
unfoldable pub name_fits : ℕ → Parts → Bool
name_fits longest p = every (leb 20 p.name ∷ leb 1 p.n ∷ leb p.n longest ∷ leb (p.name + p.n) 4095 ∷ [])

-- a value stands from byte 20 on, within the work area
unfoldable pub value_fits : Parts → ℕ → Bool
value_fits p area = every (leb 20 p.value ∷ leb (p.value + p.len) area ∷ [])

-- the name and the value that a reply of this kind has are within their limits
abbrev pub parts_fit : ReplyKind → Parts → ℕ → Bool
parts_fit Last p area = true
parts_fit Sibling p area = name_fits 47 p
parts_fit Child p area = name_fits 47 p
parts_fit Property p area = every (name_fits 31 p ∷ value_fits p area ∷ [])
parts_fit Parent p area = true
parts_fit Wait p area = true
parts_fit Other p area = true

-- ---- when a reply makes sense

abbrev pub unfinished : Node → Bool
unfinished NoChild = true
unfinished HasChild = true
unfinished Done = false

abbrev pub childless : Node → Bool
childless NoChild = true
childless HasChild = false
childless Done = false

-- whether a reply of this kind may come now
abbrev pub allowed : ReplyKind → ℕ → Node → Bool
allowed Last depth node = eqb depth 1
allowed Sibling depth node = leb 2 depth
allowed Child depth node = leb depth 7
allowed Property depth node = every (leb 1 depth ∷ childless node ∷ [])
allowed Parent depth node = leb 2 depth
allowed Wait depth node = true
allowed Other depth node = false

-- a work area has one page or two
abbrev pub area_size : ℕ → Bool
area_size n = pick (eqb n 4096) true (eqb n 8192)

-- of the last three arguments, each is a length: of the work area, the structure buffer and the strings buffer
unfoldable pub sensible : Reader → ReplyKind → Parts → ℕ → ℕ → ℕ → Bool
sensible r k p area s st =
    every
    (leb r.structure (most s)
    ∷ leb r.strings (most st)
    ∷ leb r.depth 8
    ∷ unfinished r.node
    ∷ area_size area
    ∷ allowed k r.depth r.node
    ∷ parts_fit k p area
    ∷ [])

-- Which tokens of a walk are sent: document 02, Ticket 5. `s` is the structure block, `st` the strings block, and `unowned` says which indexes are those of unowned connectors.
use Rattle.std.specs.Prelude.{ℕ, zero, suc, ◌+◌, List, [], ◌∷◌, Option, Some, None, Result, Ok, Err, Bool, eqb, leb, ltb}
use Rattle.words.specs.Pick.{pick, every}
use Rattle.words.specs.Bytes.{part, word_at}
use Rattle.kinds.specs.declared.Index.{Index}
use Rattle.devtree.specs.Tokens.{tokens, broken}
use Rattle.devtree.specs.Names.{same_name}
use Rattle.devtree.specs.declared.Broken.{Broken}
use Rattle.devtree.specs.declared.Token.{Token}
use Rattle.devtree.specs.declared.Token.TheVariants.{Begin, Property, EndNode, End, Fault}

-- "ibm,my-drc-index"
abbrev pub my_drc_index : List ℕ
my_drc_index = 105 ∷ 98 ∷ 109 ∷ 44 ∷ 109 ∷ 121 ∷ 45 ∷ 100 ∷ 114 ∷ 99 ∷ 45 ∷ 105 ∷ 110 ∷ 100 ∷ 101 ∷ 120 ∷ []

-- a property of this name, with a value of so many bytes, names a connector by its index
unfoldable pub names_connector : List ℕ → ℕ → Bool
names_connector name size = every (same_name name my_drc_index ∷ eqb size 4 ∷ [])

-- what a look ahead finds: the connector that a property names, if one does; or a fault that is met before
abbrev pub Ahead : Type 0
Ahead = Result (Option Index) Broken

-- what stands ahead, in the tokens from past a begin-node on: the first property that names a connector counts. Looking ahead ends there, at the next begin-node, which is not checked itself (so a fault whose word is a begin-node's is none), or at an end-node
unfoldable pub ahead : List ℕ → List ℕ → List Token → Ahead
ahead s st [] = Ok None
ahead s st (Begin at a n next ∷ ts) = Ok None
ahead s st (Property at a n v l next ∷ ts) =
    pick (names_connector (part st a n) l) (Ok (Some (record { 0 = word_at s v }))) (ahead s st ts)
ahead s st (EndNode at next ∷ ts) = Ok None
ahead s st (End at next ∷ ts) = Err (broken at)
ahead s st (Fault at ∷ ts) = pick (eqb (word_at s at) 1) (Ok None) (Err (broken at))

-- the begin-node of a node below the root that a step would take is looked at first
abbrev pub is_looked_at : ℕ → Bool
is_looked_at depth = every (leb 1 depth ∷ ltb depth 8 ∷ [])

-- by what stands ahead of the begin-node `here`: it is sent, or it is left out and another token follows, or there is a fault
abbrev pub after_look : (ℕ → Bool) → Token → Token → Ahead → Token
after_look unowned here other (Ok None) = here
after_look unowned here other (Ok (Some k)) = pick (unowned k.0) other here
after_look unowned here other (Err fault) = Fault fault.at

-- the first of the tokens that is sent, with `depth` nodes open that are sent, and in them `below` open that are skipped
unfoldable pub sent_of : (ℕ → Bool) → List ℕ → List ℕ → ℕ → ℕ → List Token → Token
sent_of unowned s st depth below [] = Fault 0
sent_of unowned s st depth zero (Begin at a n next ∷ ts) =
    pick (is_looked_at depth) (after_look unowned (Begin at a n next) (sent_of unowned s st depth 1 ts) (ahead s st ts)) (Begin at a n next)
sent_of unowned s st depth zero (Property at a n v l next ∷ ts) = Property at a n v l next
sent_of unowned s st depth zero (EndNode at next ∷ ts) = EndNode at next
sent_of unowned s st depth zero (End at next ∷ ts) = End at next
sent_of unowned s st depth zero (Fault at ∷ ts) = Fault at
sent_of unowned s st depth (suc below) (Begin at a n next ∷ ts) =
    pick (leb 8 (depth + suc below)) (Fault at) (sent_of unowned s st depth (suc (suc below)) ts)
sent_of unowned s st depth (suc below) (Property at a n v l next ∷ ts) = sent_of unowned s st depth (suc below) ts
sent_of unowned s st depth (suc below) (EndNode at next ∷ ts) = sent_of unowned s st depth below ts
sent_of unowned s st depth (suc below) (End at next ∷ ts) = Fault at
sent_of unowned s st depth (suc below) (Fault at ∷ ts) = Fault at

-- the next token that is sent, from the walk's place on
unfoldable pub next_sent : (ℕ → Bool) → List ℕ → List ℕ → ℕ → ℕ → Token
next_sent unowned s st depth place = sent_of unowned s st depth 0 (tokens s st place)

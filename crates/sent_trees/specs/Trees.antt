-- The tree that a walk sends: document 02, Ticket 5. What is unowned may differ from call to call, so there is a list of predicates on indexes, one for each token that is sent: `us` has them from the next token on.
use Rattle.std.specs.Prelude.{ℕ, ◌+◌, ◌≡◌, List, [], ◌∷◌, Bool, false, length, drop}
use Rattle.words.specs.Pick.{pick}
use Rattle.words.specs.Bytes.{word_at}
use Rattle.devtree.specs.Tree.{Prop, Nodes, nil, node}
use Rattle.sent.specs.Sent.{names_connector}

-- a node with these properties belongs to an unowned connector: the first property that names one counts
unfoldable pub belongs_to_unowned : (ℕ → Bool) → List Prop → Bool
belongs_to_unowned unowned [] = false
belongs_to_unowned unowned (p ∷ ps) =
    pick (names_connector p.name (length p.value)) (unowned (word_at p.value 0)) (belongs_to_unowned unowned ps)

-- what is unowned at the call that takes the next token; where there is no such call, nothing is
abbrev pub at_next : List (ℕ → Bool) → ℕ → Bool
at_next [] = λ _. false
at_next (u ∷ us) = u

-- nodes in a row as they are sent, and the predicates from past them on
pub record Sending : Type 0 where
  pub nodes : Nodes
  pub later : List (ℕ → Bool)

-- nodes in a row below the root: one that is unowned at the call that takes the next token is left out, with all below it
unfoldable pub sent_row : List (ℕ → Bool) → Nodes → Sending
sent_row us nil = record { nodes = nil; later = us }
sent_row us (node n ps kids rest) =
    let below : Sending = sent_row (drop (1 + length ps) us) kids in
    let after : Sending = sent_row (drop 1 below.later) rest in
    pick (belongs_to_unowned (at_next us) ps) (sent_row us rest)
    (record { nodes = node n ps below.nodes after.nodes; later = after.later })

-- a tree: the root is always sent
unfoldable pub sent_tree : List (ℕ → Bool) → Nodes → Nodes
sent_tree us nil = nil
sent_tree us (node n ps kids rest) =
    let below : Sending = sent_row (drop (1 + length ps) us) kids in
    node n ps below.nodes (sent_tree (drop 1 below.later) rest)

-- the same where the predicate does not change
unfoldable pub owned_row : (ℕ → Bool) → Nodes → Nodes
owned_row unowned nil = nil
owned_row unowned (node n ps kids rest) =
    pick (belongs_to_unowned unowned ps) (owned_row unowned rest) (node n ps (owned_row unowned kids) (owned_row unowned rest))

unfoldable pub owned_tree : (ℕ → Bool) → Nodes → Nodes
owned_tree unowned nil = nil
owned_tree unowned (node n ps kids rest) = node n ps (owned_row unowned kids) (owned_tree unowned rest)

-- each predicate of the list agrees with `unowned` at every index
abbrev pub AllAre : (ℕ → Bool) → List (ℕ → Bool) → Type 0
AllAre unowned [] = Unit
AllAre unowned (u ∷ us) = ((k : ℕ) → u k ≡ unowned k) × AllAre unowned us

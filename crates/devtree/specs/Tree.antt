-- The tree that a structure block and a strings block mean.
use Rattle.std.specs.Prelude.{ℕ, List, [], ◌∷◌, ◌++◌}
use Rattle.words.specs.Bytes.{part}
use Rattle.devtree.specs.Tokens.{tokens}
use Rattle.devtree.specs.declared.Token.{Token}
use Rattle.devtree.specs.declared.Token.TheVariants.{Begin, Property, EndNode, End, Fault}

-- what a token says
pub data Event : Type 0 where
  begin : List ℕ → Event
  prop : List ℕ → List ℕ → Event
  end : Event

-- what the tokens say, in order; an end token and a fault say nothing
unfoldable pub events_of : List ℕ → List ℕ → List Token → List Event
events_of s st [] = []
events_of s st (Begin at a n next ∷ ts) = begin (part s a n) ∷ events_of s st ts
events_of s st (Property at a n v l next ∷ ts) = prop (part st a n) (part s v l) ∷ events_of s st ts
events_of s st (EndNode at next ∷ ts) = end ∷ events_of s st ts
events_of s st (End at next ∷ ts) = events_of s st ts
events_of s st (Fault at ∷ ts) = events_of s st ts

unfoldable pub events_from : List ℕ → List ℕ → ℕ → List Event
events_from s st at = events_of s st (tokens s st at)

pub record Prop : Type 0 where
  pub name : List ℕ
  pub value : List ℕ

-- nodes in a row: the first one's name, properties and children, and the nodes after it
pub data Nodes : Type 0 where
  nil : Nodes
  node : List ℕ → List Prop → Nodes → Nodes → Nodes

-- the properties and the nodes that stand in one node
pub record Body : Type 0 where
  pub props : List Prop
  pub nodes : Nodes

abbrev pub empty_body : Body
empty_body = record { props = []; nodes = nil }

-- a property in front of the innermost body
unfoldable pub with_prop : Prop → List Body → List Body
with_prop p [] = []
with_prop p (b ∷ bs) = record { props = p ∷ b.props; nodes = b.nodes } ∷ bs

-- the innermost body becomes a node, in front of the nodes of the body around it
unfoldable pub with_node : List ℕ → List Body → List Body
with_node n [] = []
with_node n (b ∷ []) = []
with_node n (b ∷ c ∷ bs) = record { props = c.props; nodes = node n b.props b.nodes c.nodes } ∷ bs

-- the bodies that events, taken from the last to the first, leave open, innermost first
unfoldable pub bodies : List Event → List Body
bodies [] = empty_body ∷ []
bodies (begin n ∷ es) = with_node n (bodies es)
bodies (prop n v ∷ es) = with_prop (record { name = n; value = v }) (bodies es)
bodies (end ∷ es) = empty_body ∷ bodies es

unfoldable pub innermost : List Body → Nodes
innermost [] = nil
innermost (b ∷ bs) = b.nodes

-- the tree of the events: the row that holds the root alone
unfoldable pub tree_of : List Event → Nodes
tree_of es = innermost (bodies es)

-- the tree that two blocks mean
unfoldable pub tree : List ℕ → List ℕ → Nodes
tree s st = tree_of (events_from s st 0)

-- ---- the events of a tree, in order

unfoldable pub prop_events : List Prop → List Event
prop_events [] = []
prop_events (p ∷ ps) = prop p.name p.value ∷ prop_events ps

unfoldable pub flatten : Nodes → List Event
flatten nil = []
flatten (node n ps kids rest) = begin n ∷ (prop_events ps ++ (flatten kids ++ (end ∷ flatten rest)))

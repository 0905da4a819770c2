-- Demand 3: what holds after any list of calls from a fresh table.
use Rattle.std.specs.Prelude.{ℕ, suc, ◌+◌, ◌<◌, ◌≡◌, List, [], ◌∷◌, ◌++◌, map, Bool, false, ◌↔◌, ◌≢◌, get_or, length, eqb, ltb}
use Rattle.words.specs.Pick.{every}
use Rattle.states.specs.declared.State.TheVariants.{Unusable}
use Rattle.connector.specs.declared.Connector.{Connector}
use Rattle.kinds.specs.Kinds.{slot}
use Rattle.table.specs.Model.{Line, Model, table_of, blank_connector, blank_line}
use Rattle.pool.specs.Pool.{free_count, how_many}
use Rattle.calls.specs.Calls.{configured_at}
use Rattle.history.specs.Calls.{Call, platform, partition, answer, fresh_words, words_after, run}
use Rattle.history.specs.Book.{Entry, Book, empty_book, fed, standing, booked_wanted}

-- the table after the calls, as its model
unfoldable pub model : List Call → Model
model cs = table_of (run fresh_words cs)

abbrev pub connector : Model → ℕ → Connector
connector m i = get_or m.connectors i blank_connector

abbrev pub line : Model → ℕ → Line
line m j = get_or m.ledger j blank_line

-- the plain book after the calls: fed with their arguments and statuses
unfoldable pub book_from : List ℕ → Book → List Call → Book
book_from t b [] = b
book_from t b (c ∷ cs) = book_from (words_after t c) (fed b c (answer (table_of t) c).status) cs

unfoldable pub book : List Call → Book
book cs = book_from fresh_words empty_book cs

-- a connector of the kind that names a resource
abbrev pub holds_one : ℕ → Connector → Bool
holds_one kind c = every (eqb c.kind kind ∷ ltb 0 c.resource.0 ∷ [])

abbrev pub entry_of : Connector → Entry
entry_of c = record { index = c.index.0; state = c.state; wanted = c.wanted }

-- a partition's call leaves each other partition's connector, and the ledger line of what is held there
abbrev pub Untouched : Model → Model → ℕ → Type 0
Untouched m m' p =
    (i : ℕ) → i < length m.connectors → (connector m i).partition ≢ p
    → (connector m' i ≡ connector m i) × ((j : ℕ) → j < length m.ledger → (line m j).at ≡ (connector m i).index.0 → line m' j ≡ line m j)

abbrev pub Apart : Model → Model → Call → Type 0
Apart m m' (platform c) = Unit
Apart m m' (partition p r) = Untouched m m' p

-- what a table holds, and what the plain book says of it
pub record Holds (m : Model) (b : Book) : Type 0 where
  -- a connector names a resource exactly when the ledger names that connector for it
  pub named : (i j : ℕ) → i < length m.connectors → j < length m.ledger → ((connector m i).resource.0 ≡ suc j) ↔ ((line m j).at ≡ (connector m i).index.0)
  -- what a connector names is in the ledger, and what the ledger names is a connector
  pub lined : (i j : ℕ) → i < length m.connectors → (connector m i).resource.0 ≡ suc j → j < length m.ledger
  pub seated : (j : ℕ) → j < length m.ledger → (line m j).at ≢ 0 → (i : ℕ) × (i < length m.connectors) × ((line m j).at ≡ (connector m i).index.0)
  -- no resource stands at two connectors
  pub once : (i i' : ℕ) → i < length m.connectors → i' < length m.connectors → (connector m i).resource.0 ≢ 0 → (connector m i).resource.0 ≡ (connector m i').resource.0 → i ≡ i'
  -- each connector's entry and resource, where each resource stands, and its kind, are what the plain book says
  pub states : map entry_of m.connectors ≡ b.entries
  pub places : map (λ l. l.at) m.ledger ≡ b.places
  pub kinds : map (λ l. l.kind) m.ledger ≡ b.kinds
  pub resources : (i : ℕ) → i < length m.connectors → (connector m i).resource.0 ≡ standing (connector m i).index.0 1 b.places
  -- each connector is wanted back where the plain book says so, and an empty one never is
  pub wanted : (i : ℕ) → i < length m.connectors → (connector m i).wanted ≡ booked_wanted (connector m i).index.0 b.entries
  pub unwanted : (i : ℕ) → i < length m.connectors → (connector m i).resource.0 ≡ 0 → (connector m i).wanted ≡ false
  -- resources are conserved by kind: those that the book has are free or held
  pub conserved : (kind : ℕ) → how_many (λ k. eqb k kind) b.kinds ≡ free_count kind m.ledger + how_many (holds_one kind) m.connectors
  -- a slot whose given parent is not Configured is Unusable
  pub slots : (i : ℕ) → i < length m.connectors → (connector m i).kind ≡ slot → (connector m i).parent.0 ≢ 0 → configured_at m (connector m i).parent.0 ≡ false → (connector m i).state ≡ Unusable

-- after the calls from a fresh table
pub record History (cs : List Call) : Type 0 where
  pub holds : Holds (model cs) (book cs)
  -- no partition's call in the list touches another partition's connector or what it holds
  pub apart : (before : List Call) (c : Call) (rest : List Call) → cs ≡ before ++ (c ∷ rest) → Apart (model before) (table_of (words_after (run fresh_words before) c)) c

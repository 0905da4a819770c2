-- A walk of one connector at the table, with any other calls between. `p` is the partition, `k` the connector's index, `s` and `st` the blocks of its tree, `t` the table's words.
use Rattle.std.specs.Prelude.{ℕ, ◌+◌, ◌<◌, ◌≡◌, List, [], ◌∷◌, ◌++◌, map, Bool, true, false, not, eqb, get_or, length}
use Rattle.words.specs.Pick.{pick, every}
use Rattle.words.specs.Bytes.{word_at}
use Rattle.devtree.specs.Tree.{Nodes, tree}
use Rattle.devtree.specs.Check.{passes}
use Rattle.same_trees.specs.Same.{same_bytes}
use Rattle.states.specs.declared.State.TheVariants.{Unisolated}
use Rattle.connector.specs.declared.Connector.{Connector}
use Rattle.states.specs.States.{start}
use Rattle.step_status.specs.Status.{is_refusal}
use Rattle.sent_trees.specs.Trees.{sent_tree}
use Rattle.emits.specs.Run.{Reply, Lent, when_taken, formed}
use Rattle.table.specs.Layout.{word_count}
use Rattle.table.specs.Model.{Model, table_of, position, has_index, blank_connector}
use Rattle.unowned.specs.Unowned.{unowned}
use Rattle.calls.specs.Calls as calls
use Rattle.connector.specs.Orders.{isolate, unisolate, usable, unusable}
use Rattle.calls.specs.Calls.{Configuring, NamedOrder, none, some, order_named}
use Rattle.history.specs.Calls.{Request, set_indicator, get_sensor, configure, Call, platform, partition, words_after}

-- the first connector with index k
abbrev pub at_k : ℕ → Model → Connector
at_k k m = get_or m.connectors (position (has_index k) m.connectors) blank_connector

-- connector k is the partition's own, and Unisolated with its walk at the start
pub record Starting (p k : ℕ) (m : Model) : Type 0 where
  pub there : position (has_index k) m.connectors < length m.connectors
  pub own : (at_k k m).partition ≡ p
  pub state : (at_k k m).state ≡ Unisolated
  pub walk : (at_k k m).walk ≡ start

-- what a configure-connector lent, and the reply that it got
pub record Exchange : Type 0 where
  pub lent : Lent
  pub reply : Reply

abbrev pub exchange : Lent → Configuring → Exchange
exchange l o = record { lent = l; reply = record { status = o.answer.status; area = o.area } }

-- on the table m partition p lends a work area, and what is unowned to it there
abbrev pub lent_by : ℕ → Model → List ℕ → Lent
lent_by p m area = record { area = area; unowned = unowned m p }

-- a request of partition q on the table m is p's configure-connector of k, and is not refused
abbrev pub is_replied : ℕ → ℕ → Model → ℕ → List ℕ → List ℕ → List ℕ → Bool
is_replied p k m q area s st = every (eqb q p ∷ eqb (word_at area 0) k ∷ not (is_refusal (calls.configure m q area s st).answer.status) ∷ [])

-- the exchange of such a request; any other has none
unfoldable pub requested : ℕ → ℕ → Model → ℕ → Request → List Exchange
requested p k m q (set_indicator token x value) = []
requested p k m q (get_sensor token x) = []
requested p k m q (configure area s st) = pick (is_replied p k m q area s st) (exchange (lent_by q m area) (calls.configure m q area s st) ∷ []) []

unfoldable pub exchanged : ℕ → ℕ → List ℕ → Call → List Exchange
exchanged p k t (platform c) = []
exchanged p k t (partition q r) = requested p k (table_of t) q r

-- the exchanges of the walk in a list of calls, each on the table that the one before left
unfoldable pub exchanges : ℕ → ℕ → List ℕ → List Call → List Exchange
exchanges p k t [] = []
exchanges p k t (c ∷ cs) = exchanged p k t c ++ exchanges p k (words_after t c) cs

abbrev pub replies_at : ℕ → ℕ → List ℕ → List Call → List Reply
replies_at p k t cs = map (λ x. x.reply) (exchanges p k t cs)

abbrev pub lent_at : ℕ → ℕ → List ℕ → List Call → List Lent
lent_at p k t cs = map (λ x. x.lent) (exchanges p k t cs)

-- the tree that they send: without the nodes that were unowned at the call that took the token after them
abbrev pub sent_at : ℕ → ℕ → List ℕ → List ℕ → List ℕ → List Call → Nodes
sent_at p k s st t cs = sent_tree (when_taken (lent_at p k t cs) (replies_at p k t cs)) (tree s st)

abbrev pub is_isolate : NamedOrder → Bool
is_isolate none = false
is_isolate (some isolate) = true
is_isolate (some unisolate) = false
is_isolate (some usable) = false
is_isolate (some unusable) = false

-- the partition's configure-connector of k, where it is not refused, lends the tree, and its isolate of k is not among the calls
abbrev pub Fits : ℕ → ℕ → List ℕ → List ℕ → Model → ℕ → Request → Type 0
Fits p k s st m q (set_indicator token x value) = every (eqb q p ∷ eqb x k ∷ is_isolate (order_named token value) ∷ []) ≡ false
Fits p k s st m q (get_sensor token x) = Unit
Fits p k s st m q (configure area s' st') = is_replied p k m q area s' st' ≡ true → (s' ≡ s) × (st' ≡ st)

abbrev pub CallFits : ℕ → ℕ → List ℕ → List ℕ → Model → Call → Type 0
CallFits p k s st m (platform c) = Unit
CallFits p k s st m (partition q r) = Fits p k s st m q r

-- each call of a list, on the table that the one before left, is as `Fits` says
abbrev pub Walking : ℕ → ℕ → List ℕ → List ℕ → List ℕ → List Call → Type 0
Walking p k s st t [] = Unit
Walking p k s st t (c ∷ cs) = CallFits p k s st (table_of t) c × Walking p k s st (words_after t c) cs

-- demand 2's premise at the table: from any words t, connector k starts its walk, the tree passes the check, and the calls are as `Walking` says. Which connectors are unowned may change with every call
pub record WalkBetween (t : List ℕ) (p k : ℕ) (s st : List ℕ) (cs : List Call) : Type 0 where
  pub words : length t ≡ word_count
  pub starting : Starting p k (table_of t)
  pub checked : passes s st ≡ true
  pub walking : Walking p k s st t cs

-- a well-formed call of the walk: the partition's configure-connector of k that lends the tree, over a work area of the right form with word 1 zero
abbrev pub is_formed : ℕ → ℕ → List ℕ → List ℕ → Model → ℕ → Request → Bool
is_formed p k s st m q (set_indicator token x value) = false
is_formed p k s st m q (get_sensor token x) = false
is_formed p k s st m q (configure area s' st') =
    every (eqb q p ∷ eqb (word_at area 0) k ∷ eqb (word_at area 4) 0 ∷ formed (at_k k m).walk.page (length area) ∷ same_bytes s' s ∷ same_bytes st' st ∷ [])

abbrev pub call_formed : ℕ → ℕ → List ℕ → List ℕ → Model → Call → Bool
call_formed p k s st m (platform c) = false
call_formed p k s st m (partition q r) = is_formed p k s st m q r

-- how many there are in a list of calls
unfoldable pub formed_calls : ℕ → ℕ → List ℕ → List ℕ → List ℕ → List Call → ℕ
formed_calls p k s st t [] = 0
formed_calls p k s st t (c ∷ cs) = pick (call_formed p k s st (table_of t) c) 1 0 + formed_calls p k s st (words_after t c) cs

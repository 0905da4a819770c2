-- Document 01's starred desk cards: calls in a row with what each answers, and how a connector and the ledger stand after them.
use Rattle.std.specs.Prelude.{ℕ, ◌≡◌, List, [], ◌∷◌, ◌++◌, map, ℤ, pos, neg_ℤ, get_or, replicate}
use Rattle.buffer.specs.Put.{bytes32}
use Rattle.states.specs.declared.State.{State}
use Rattle.states.specs.declared.State.TheVariants.{Unusable, Available, Unisolated, Configured}
use Rattle.states.specs.declared.Page.TheVariants.{None}
use Rattle.states.specs.declared.Walk.{Walk}
use Rattle.connector.specs.declared.Connector.{Connector}
use Rattle.states.specs.States.{start}
use Rattle.table.specs.Model.{Model, table_of, position, has_index, blank_connector}
use Rattle.calls.specs.Calls as calls
use Rattle.history.specs.Calls.{Call, platform, partition, add_connector, add_resource, place, set_indicator, get_sensor, configure, answer, fresh_words, words_after, run}

-- ---- the form of a card

-- what a call shows: its status, and of get-sensor the value too, which is 0 here for every other call
pub record Shown : Type 0 where
  pub status : ℤ
  pub value : ℕ

abbrev pub value_of : Model → Call → ℕ
value_of m (platform c) = 0
value_of m (partition p (set_indicator token k value)) = 0
value_of m (partition p (get_sensor token k)) = (calls.get_sensor m p token k).value
value_of m (partition p (configure area s st)) = 0

abbrev pub shown : Model → Call → Shown
shown m c = record { status = (answer m c).status; value = value_of m c }

-- what a list of calls shows, from the words t on
unfoldable pub shown_from : List ℕ → List Call → List Shown
shown_from t [] = []
shown_from t (c ∷ cs) = shown (table_of t) c ∷ shown_from (words_after t c) cs

-- a call and what it shows
pub record CardLine : Type 0 where
  pub call : Call
  pub shows : Shown

abbrev pub says : ℤ → Call → CardLine
says s c = record { call = c; shows = record { status = s; value = 0 } }

abbrev pub done : Call → CardLine
done c = says (pos 0) c

abbrev pub minus : ℕ → Call → CardLine
minus n c = says (neg_ℤ (pos n)) c

-- a connector: its state, the resource that stands at it, 0 for none, and its walk
pub record Standing : Type 0 where
  pub state : State
  pub resource : ℕ
  pub walk : Walk

abbrev pub standing_of : Connector → Standing
standing_of c = record { state = c.state; resource = c.resource.0; walk = c.walk }

-- the first connector with index k
abbrev pub standing_at : Model → ℕ → Standing
standing_at m k = standing_of (get_or m.connectors (position (has_index k) m.connectors) blank_connector)

-- where each resource stands by the ledger, from number 1 on: a connector's index, 0 for the pool
abbrev pub places_of : Model → List ℕ
places_of m = map (λ l. l.at) m.ledger

-- the calls on the table that `prepared` makes; afterwards, how the connector with index `at` stands, and the ledger
pub record Card : Type 0 where
  pub lines : List CardLine
  pub at : ℕ
  pub standing : Standing
  pub places : List ℕ

-- ---- the table of the cards

abbrev pub mem1 : ℕ
mem1 = 0x80000001

abbrev pub phb1 : ℕ
phb1 = 0x20000001

abbrev pub slot1 : ℕ
slot1 = 0x30000001

abbrev pub mem2 : ℕ
mem2 = 0x80000002

-- three connectors of partition 1 and one of partition 2; resources 1 (MEM), 2 (PHB) and 3 (SLOT)
abbrev pub prepared : List CardLine
prepared =
    done (platform (add_connector 8 mem1 1 0))
    ∷ done (platform (add_connector 2 phb1 1 0))
    ∷ done (platform (add_connector 3 slot1 1 phb1))
    ∷ done (platform (add_connector 8 mem2 2 0))
    ∷ done (platform (add_resource 8))
    ∷ done (platform (add_resource 2))
    ∷ done (platform (add_resource 3))
    ∷ []

-- ---- the calls of the cards

abbrev pub isolate : ℕ → ℕ → Call
isolate p k = partition p (set_indicator 9001 k 0)

abbrev pub unisolate : ℕ → ℕ → Call
unisolate p k = partition p (set_indicator 9001 k 1)

abbrev pub unusable : ℕ → ℕ → Call
unusable p k = partition p (set_indicator 9003 k 0)

abbrev pub usable : ℕ → ℕ → Call
usable p k = partition p (set_indicator 9003 k 1)

abbrev pub senses : ℕ → ℕ → ℕ → CardLine
senses v p k = record { call = partition p (get_sensor 9003 k); shows = record { status = pos 0; value = v } }

-- document 01's "A walk written out": the nodes mem@1, which has the property reg, and c
abbrev pub words : List ℕ → List ℕ
words [] = []
words (w ∷ ws) = bytes32 w ++ words ws

abbrev pub structure : List ℕ
structure = words (1 ∷ 0x6D656D40 ∷ 0x31000000 ∷ 3 ∷ 4 ∷ 0 ∷ 0x10 ∷ 1 ∷ 0x63000000 ∷ 2 ∷ 2 ∷ 9 ∷ [])

abbrev pub strings : List ℕ
strings = words (0x72656700 ∷ [])

-- a zeroed page in which only word 0 is set
abbrev pub page : ℕ → List ℕ
page k = bytes32 k ++ replicate 4092 0

abbrev pub walk : ℕ → ℕ → Call
walk p k = partition p (configure (page k) structure strings)

-- resource r is placed at k, and partition 1 takes it
abbrev pub taking : ℕ → ℕ → List CardLine
taking r k = done (platform (place r k)) ∷ done (usable 1 k) ∷ []

abbrev pub walking : ℕ → List CardLine
walking k = done (unisolate 1 k) ∷ says (pos 2) (walk 1 k) ∷ says (pos 3) (walk 1 k) ∷ says (pos 2) (walk 1 k) ∷ says (pos 4) (walk 1 k) ∷ done (walk 1 k) ∷ []

-- the PHB is Configured and its slot Available
abbrev pub slot_taken : List CardLine
slot_taken = taking 2 phb1 ++ (walking phb1 ++ taking 3 slot1)

abbrev pub still : State → ℕ → Standing
still s r = record { state = s; resource = r; walk = start }

-- ---- the starred cards, in document 01's order
abbrev pub cards : List Card
cards =
    -- empty connector: sense 2; usable -3
    record { lines = senses 2 1 mem1 ∷ minus 3 (usable 1 mem1) ∷ []; at = mem1; standing = still Unusable 0; places = 0 ∷ 0 ∷ 0 ∷ [] }
    -- placed, not taken: sense 2; unusable 0 and the resource stays
    ∷ record { lines = done (platform (place 1 mem1)) ∷ senses 2 1 mem1 ∷ done (unusable 1 mem1) ∷ []; at = mem1; standing = still Unusable 1; places = mem1 ∷ 0 ∷ 0 ∷ [] }
    -- usable: 0, then sense 1
    ∷ record { lines = done (platform (place 1 mem1)) ∷ done (usable 1 mem1) ∷ senses 1 1 mem1 ∷ []; at = mem1; standing = still Available 1; places = mem1 ∷ 0 ∷ 0 ∷ [] }
    -- partition 2 orders 80000001: -3
    ∷ record {
      lines = taking 1 mem1 ++ (minus 3 (isolate 2 mem1) ∷ minus 3 (unisolate 2 mem1) ∷ minus 3 (usable 2 mem1) ∷ minus 3 (unusable 2 mem1) ∷ []);
      at = mem1;
      standing = still Available 1;
      places = mem1 ∷ 0 ∷ 0 ∷ [];
    }
    -- unusable while Unisolated: -3
    ∷ record { lines = taking 1 mem1 ++ (done (unisolate 1 mem1) ∷ minus 3 (unusable 1 mem1) ∷ []); at = mem1; standing = still Unisolated 1; places = mem1 ∷ 0 ∷ 0 ∷ [] }
    -- configure while Available: -9003
    ∷ record { lines = taking 1 mem1 ++ (minus 9003 (walk 1 mem1) ∷ []); at = mem1; standing = still Available 1; places = mem1 ∷ 0 ∷ 0 ∷ [] }
    -- configure while Configured: -9003
    ∷ record { lines = taking 1 mem1 ++ (walking mem1 ++ (minus 9003 (walk 1 mem1) ∷ [])); at = mem1; standing = still Configured 1; places = mem1 ∷ 0 ∷ 0 ∷ [] }
    -- unisolate in mid-walk: 0, place kept
    ∷ record {
      lines = taking 1 mem1 ++ (done (unisolate 1 mem1) ∷ says (pos 2) (walk 1 mem1) ∷ says (pos 3) (walk 1 mem1) ∷ done (unisolate 1 mem1) ∷ []);
      at = mem1;
      standing = record { state = Unisolated; resource = 1; walk = record { place = 28; depth = 1; page = None } };
      places = mem1 ∷ 0 ∷ 0 ∷ [];
    }
    -- slot usable, PHB Unisolated: -3
    ∷ record {
      lines = taking 2 phb1 ++ (done (unisolate 1 phb1) ∷ done (platform (place 3 slot1)) ∷ minus 3 (usable 1 slot1) ∷ []);
      at = slot1;
      standing = still Unusable 3;
      places = 0 ∷ phb1 ∷ slot1 ∷ [];
    }
    -- PHB isolated, slot Available: -9000
    ∷ record { lines = slot_taken ++ (minus 9000 (isolate 1 phb1) ∷ []); at = phb1; standing = still Configured 2; places = 0 ∷ phb1 ∷ slot1 ∷ [] }
    -- after the slot's unusable: 0
    ∷ record { lines = slot_taken ++ (done (unusable 1 slot1) ∷ done (isolate 1 phb1) ∷ []); at = phb1; standing = still Available 2; places = 0 ∷ phb1 ∷ 0 ∷ [] }
    -- released at 80000001, placed at 80000002, then partition 1 says unusable again: 0, and partition 2 keeps it
    ∷ record {
      lines = taking 1 mem1 ++ (done (unusable 1 mem1) ∷ done (platform (place 1 mem2)) ∷ done (unusable 1 mem1) ∷ []);
      at = mem2;
      standing = still Unusable 1;
      places = mem2 ∷ 0 ∷ 0 ∷ [];
    }
    ∷ []

-- ---- the claim: from a fresh table, the calls show what the card says, and the table stands as it says
abbrev pub calls_of : List CardLine → List Call
calls_of ls = map (λ l. l.call) ls

abbrev pub table_after : Card → Model
table_after c = table_of (run fresh_words (calls_of (prepared ++ c.lines)))

-- what is seen of a card: what each call shows, and afterwards the connector and the ledger
pub record Seen : Type 0 where
  pub shows : List Shown
  pub standing : Standing
  pub places : List ℕ

-- what the card says
abbrev pub said : Card → Seen
said c = record { shows = map (λ l. l.shows) (prepared ++ c.lines); standing = c.standing; places = c.places }

-- what the calls do
unfoldable pub seen : Card → Seen
seen c =
    record {
      shows = shown_from fresh_words (calls_of (prepared ++ c.lines));
      standing = standing_at (table_after c) c.at;
      places = places_of (table_after c);
    }

abbrev pub Hold : List Card → Type 0
Hold cs = map seen cs ≡ map said cs

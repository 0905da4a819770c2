-- A connector's fields: read from words and written to them, given at first, and changed. Of the definitions, only these name each field.
use Rattle.std.specs.Prelude.{ℕ, Bool, true, false, List, [], ◌∷◌, eqb, get_or}
use Rattle.words.specs.Pick.{pick}
use Rattle.states.specs.declared.State.{State}
use Rattle.states.specs.declared.Walk.{Walk}
use Rattle.kinds.specs.declared.Resource.{Resource}
use Rattle.connector.specs.declared.Connector.{Connector}
use Rattle.states.specs.States.{sense_in, state_of, word_of_state, page_of, word_of_page, start}
use Rattle.kinds.specs.Kinds.{first_state}

-- how many words a connector has
abbrev pub columns : ℕ
columns = 10

-- the column that says whether a connector is wanted back
abbrev pub wanted_column : ℕ
wanted_column = 9

-- that, as a word; any word but 1 reads as not
abbrev pub wanted_of : ℕ → Bool
wanted_of w = eqb w 1

abbrev pub word_of_wanted : Bool → ℕ
word_of_wanted b = pick b 1 0

-- the connector whose word in column f is `word f`
abbrev pub connector_from : (ℕ → ℕ) → Connector
connector_from word =
    record {
      index = record { 0 = word 0 };
      kind = word 1;
      partition = word 2;
      parent = record { 0 = word 3 };
      state = state_of (word 4);
      resource = record { 0 = word 5 };
      walk = record { place = word 6; depth = word 7; page = page_of (word 8) };
      wanted = wanted_of (word wanted_column);
    }

-- the connector that words in a row mean
abbrev pub connector_of : List ℕ → Connector
connector_of ws = connector_from (λ f. get_or ws f 0)

-- its words, in the order of the columns
abbrev pub connector_words : Connector → List ℕ
connector_words c =
    c.index.0
    ∷ c.kind
    ∷ c.partition
    ∷ c.parent.0
    ∷ word_of_state c.state
    ∷ c.resource.0
    ∷ c.walk.place
    ∷ c.walk.depth
    ∷ word_of_page c.walk.page
    ∷ word_of_wanted c.wanted
    ∷ []

-- the words of its state and its walk, each with its column
abbrev pub step_words : ℕ → ℕ → ℕ → ℕ → List (ℕ × ℕ)
step_words state place depth page = (4, state) ∷ (6, place) ∷ (7, depth) ∷ (8, page) ∷ []

abbrev pub step_of : State → Walk → List (ℕ × ℕ)
step_of s w = step_words (word_of_state s) w.place w.depth (word_of_page w.page)

-- a new connector is empty, Unusable, and not wanted back
abbrev pub new_connector : ℕ → ℕ → ℕ → ℕ → Connector
new_connector kind k partition parent =
    record {
      index = record { 0 = k };
      kind = kind;
      partition = partition;
      parent = record { 0 = parent };
      state = first_state kind;
      resource = record { 0 = 0 };
      walk = start;
      wanted = false;
    }

-- the same connector in another state, with another resource and another walk, wanted back or not
abbrev pub changed : State → Resource → Walk → Bool → Connector → Connector
changed s r w b c =
    record {
      index = c.index;
      kind = c.kind;
      partition = c.partition;
      parent = c.parent;
      state = s;
      resource = r;
      walk = w;
      wanted = b;
    }

-- the same connector in another state, with another walk: what a step of the walk changes
abbrev pub with_step : State → Walk → Connector → Connector
with_step s w c = changed s c.resource w c.wanted c

-- what a release or a retraction leaves of it: empty, in the state in which it began, and no longer wanted back
abbrev pub vacated : Connector → Connector
vacated c = changed (first_state c.kind) (record { 0 = 0 }) c.walk false c

-- the same connector, wanted back or not
abbrev pub with_wanted : Bool → Connector → Connector
with_wanted b c = changed c.state c.resource c.walk b c

abbrev pub wanted_back : Connector → Connector
wanted_back c = with_wanted true c

-- document 01's get-sensor value
abbrev pub sense_of : Connector → ℕ
sense_of c = sense_in c.state

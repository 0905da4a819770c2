-- Lists of calls, run from a fresh table, each on the table that the last one left.
use Rattle.std.specs.Prelude.{ℕ, List, [], ◌∷◌, ℤ, pos, replicate}
use Rattle.table.specs.Layout.{word_count}
use Rattle.table.specs.Model.{Model, table_of, writes}
use Rattle.connector.specs.Orders.{order_number}
use Rattle.step_status.specs.Status.{step_number}
use Rattle.calls.specs.Calls as calls
use Rattle.want_back.specs.WantBack as wanting
use Rattle.call_status.specs.Status.{call_number}
use Rattle.calls.specs.Calls.{Answer}

-- a call of the platform with its arguments
pub data PlatformCall : Type 0 where
  add_connector : ℕ → ℕ → ℕ → ℕ → PlatformCall
  add_resource : ℕ → PlatformCall
  place : ℕ → ℕ → PlatformCall
  retract : ℕ → PlatformCall
  want_back : ℕ → PlatformCall
  ask_pool : ℕ → PlatformCall

-- what a partition asks: token, index and value; token and index; a work area, structure and strings block
pub data Request : Type 0 where
  set_indicator : ℕ → ℕ → ℕ → Request
  get_sensor : ℕ → ℕ → Request
  configure : List ℕ → List ℕ → List ℕ → Request

-- a call of the platform, or of a partition
pub data Call : Type 0 where
  platform : PlatformCall → Call
  partition : ℕ → Request → Call

-- an answer with its status as document 01's number
abbrev pub numbered : {S : Type 0} → (S → ℤ) → Answer S → Answer ℤ
numbered number a = record { status = number a.status; edits = a.edits }

-- asking the pool only looks
abbrev pub platform_answer : Model → PlatformCall → Answer ℤ
platform_answer m (add_connector kind k p parent) = numbered call_number (calls.add_connector m kind k p parent)
platform_answer m (add_resource kind) = numbered call_number (calls.add_resource m kind)
platform_answer m (place r k) = numbered call_number (calls.place m r k)
platform_answer m (retract k) = numbered call_number (calls.retract m k)
platform_answer m (want_back k) = numbered call_number (wanting.want_back m k)
platform_answer m (ask_pool kind) = record { status = pos 0; edits = [] }

-- get-sensor only looks
abbrev pub request_answer : Model → ℕ → Request → Answer ℤ
request_answer m p (set_indicator token k value) = numbered order_number (calls.set_indicator m p token k value)
request_answer m p (get_sensor token k) = record { status = order_number (calls.get_sensor m p token k).status; edits = [] }
request_answer m p (configure area s st) = numbered step_number (calls.configure m p area s st).answer

abbrev pub answer : Model → Call → Answer ℤ
answer m (platform c) = platform_answer m c
answer m (partition p r) = request_answer m p r

-- a fresh table's words
abbrev pub fresh_words : List ℕ
fresh_words = replicate word_count 0

-- the words that a call leaves, and those that a list of calls leaves
unfoldable pub words_after : List ℕ → Call → List ℕ
words_after t c = writes t (answer (table_of t) c).edits

unfoldable pub run : List ℕ → List Call → List ℕ
run t [] = t
run t (c ∷ cs) = run (words_after t c) cs

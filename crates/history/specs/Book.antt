-- Document 01's plain book: each connector's state, whether it is wanted back (document 02, Ticket 6), where each resource stands, and its kind. It is fed each call's arguments and status, and nothing from the table.
use Rattle.std.specs.Prelude.{ℕ, zero, suc, ◌-◌, List, [], ◌∷◌, ◌++◌, map, Bool, true, false, eqb, ℤ, pos, negsuc, set}
use Rattle.words.specs.Pick.{pick}
use Rattle.words.specs.Bytes.{word_at}
use Rattle.states.specs.declared.State.{State}
use Rattle.states.specs.declared.State.TheVariants.{Unusable, Available, Unisolated, Configured}
use Rattle.connector.specs.Orders.{Order, isolate, unisolate, usable, unusable}
use Rattle.connector.specs.Laws.{state_after_order}
use Rattle.calls.specs.Calls.{NamedOrder, none, some, order_named}
use Rattle.history.specs.Calls.{Call, platform, partition, add_connector, add_resource, place, retract, want_back, ask_pool, set_indicator, get_sensor, configure}

-- a connector's index and state, and whether it is wanted back
pub record Entry : Type 0 where
  pub index : ℕ
  pub state : State
  pub wanted : Bool

-- for each resource, from number 1 on, `places` has the index of the connector where it stands, 0 for the pool, and `kinds` its kind
pub record Book : Type 0 where
  pub entries : List Entry
  pub places : List ℕ
  pub kinds : List ℕ

abbrev pub empty_book : Book
empty_book = record { entries = []; places = []; kinds = [] }

-- the entry of the connector with index k, changed by f
abbrev pub changed_at : ℕ → (Entry → Entry) → Entry → Entry
changed_at k f e = pick (eqb e.index k) (f e) e

abbrev pub change_entry : ℕ → (Entry → Entry) → Book → Book
change_entry k f b = record { entries = map (changed_at k f) b.entries; places = b.places; kinds = b.kinds }

-- its state, changed by f
abbrev pub state_by : (State → State) → Entry → Entry
state_by f e = record { index = e.index; state = f e.state; wanted = e.wanted }

abbrev pub move_state : ℕ → (State → State) → Book → Book
move_state k f b = change_entry k (state_by f) b

-- wanted back, or no longer
abbrev pub wanted_as : Bool → Entry → Entry
wanted_as w e = record { index = e.index; state = e.state; wanted = w }

-- what stands at k goes to the pool
abbrev pub emptied : ℕ → ℕ → ℕ
emptied k p = pick (eqb p k) 0 p

-- and the connector is no longer wanted back
abbrev pub empty_place : ℕ → Book → Book
empty_place k b = record { entries = (change_entry k (wanted_as false) b).entries; places = map (emptied k) b.places; kinds = b.kinds }

-- what f says of the entry of the connector with index k, or what is said where there is none
unfoldable pub booked : {A : Type 0} → (Entry → A) → A → ℕ → List Entry → A
booked f missing k [] = missing
booked f missing k (e ∷ es) = pick (eqb e.index k) (f e) (booked f missing k es)

-- its state; Unusable where there is none
abbrev pub booked_state : ℕ → List Entry → State
booked_state k es = booked (λ e. e.state) Unusable k es

-- whether it is wanted back; not where there is none
abbrev pub booked_wanted : ℕ → List Entry → Bool
booked_wanted k es = booked (λ e. e.wanted) false k es

abbrev pub is_available : State → Bool
is_available Unusable = false
is_available Available = true
is_available Unisolated = false
is_available Configured = false

-- unusable takes what stands at an Available connector to the pool; `state_after_order` (connector's laws) says what each order does to a state
unfoldable pub after_order : ℕ → Book → Order → Book
after_order k b isolate = move_state k (state_after_order isolate) b
after_order k b unisolate = move_state k (state_after_order unisolate) b
after_order k b usable = move_state k (state_after_order usable) b
after_order k b unusable = pick (is_available (booked_state k b.entries)) (empty_place k (move_state k (state_after_order unusable) b)) b

-- what names no order changes nothing
abbrev pub after_named : ℕ → Book → NamedOrder → Book
after_named k b none = b
after_named k b (some o) = after_order k b o

abbrev pub to_configured : State → State
to_configured s = Configured

-- a call that was answered with status 0
unfoldable pub entered : Book → Call → Book
entered b (platform (add_connector kind k p parent)) = record { entries = b.entries ++ (record { index = k; state = Unusable; wanted = false } ∷ []); places = b.places; kinds = b.kinds }
entered b (platform (add_resource kind)) = record { entries = b.entries; places = b.places ++ (0 ∷ []); kinds = b.kinds ++ (kind ∷ []) }
entered b (platform (place r k)) = record { entries = b.entries; places = set b.places (r - 1) k; kinds = b.kinds }
entered b (platform (retract k)) = empty_place k b
entered b (platform (want_back k)) = change_entry k (wanted_as true) b
entered b (platform (ask_pool kind)) = b
entered b (partition p (set_indicator token k value)) = after_named k b (order_named token value)
entered b (partition p (get_sensor token k)) = b
entered b (partition p (configure area s st)) = move_state (word_at area 0) to_configured b

-- only status 0 changes the book
unfoldable pub fed : Book → Call → ℤ → Book
fed b c (pos zero) = entered b c
fed b c (pos (suc n)) = b
fed b c (negsuc n) = b

-- the number of the resource that stands at k, counted from n on; 0 where none does
unfoldable pub standing : ℕ → ℕ → List ℕ → ℕ
standing k n [] = 0
standing k n (p ∷ ps) = pick (eqb p k) n (standing k (suc n) ps)

-- The platform's calls keep the invariant.
use Prim.Native.Nat.{ℕ, ◌-◌, ◌/◌, ◌≤◌, ◌<◌}
use mathlib.Core.Path.{◌≡◌, refl, ap, sym, ◌∙◌}
use mathlib.Core.Logic.{◌≢◌}
use mathlib.Core.List.{List, [], ◌∷◌, ◌++◌, map}
use mathlib.Core.Bool.{Bool, true, false, false≢true}
use native.Mathlib.Omega.{arith}
use borrow.Author.Tests.{eqb-true, eqb-false, leb-true, leb-false, lt-ltb}
use lib.Dec.{eqb, leb, ltb}
use lib.IntN.{ℤ}
use lib.ListN.{set, length}
use lib.Seq.{map-set_same}
use Rattle.words.specs.Pick.{pick, every}
use Rattle.words.proofs.Pick.{pick-cases, pick_yes, every-each}
use Rattle.states.specs.declared.State.TheVariants.{Unusable}
use Rattle.connector.specs.declared.Connector.{Connector}
use Rattle.kinds.specs.Kinds.{phb, slot, known, kind_of_index}
use Rattle.connector.specs.Fields.{vacated, new_connector, wanted_back}
use Rattle.table.specs.Layout.{connector_limit, resource_limit}
use Rattle.table.specs.Model.{Model, blank_connector, has_index, Edit, row, move_line, add_up_to, edits, add_row, add_line}
use Rattle.calls.specs.Calls as calls
use Rattle.want_back.specs.WantBack as wanting
use Rattle.want_back.specs.WantBack.{want_back_status}
use Rattle.std.specs.Prelude.{Ok, Err}
use Rattle.call_status.specs.Status.{CallStatus, accepted, call_number, is_accepted}
use Rattle.call_status.proofs.Refusals.{refusal-negative}
use Rattle.calls.specs.Calls.{Answer, phb_of, parent_fits, add_connector_status, add_resource_status, is_resource, to_pool, holding, place_status, retract_status}
use Rattle.calls.proofs.Look.{retracted-unusable}
use Rattle.call_status.specs.declared.CallRefusal.TheVariants.{NoConnector}
use Rattle.history.specs.Calls.{Call, PlatformCall, platform, add_connector, add_resource, place, retract, want_back, ask_pool, platform_answer}
use Rattle.history.specs.Book.{Book, wanted_as, entered, fed}
use Rattle.history.specs.Holds.{connector, line, entry_of}
use Rattle.history.specs.Refusals.{negative}
use Rattle.history.proofs.Lists.{pick-ne, any_none}
use Rattle.history.proofs.Fair.{Below, May, unknown-zero}
use Rattle.history.proofs.Kept as kept
use Rattle.history.proofs.Kept.{Sound, within, entry-by, steady}
use Rattle.history.proofs.Lookups.{Found, at-index, Keeps}
use Rattle.history.proofs.Rows.{emptying-kept}

-- what a call leaves by its status and edits
abbrev After : Model → Book → Call → CallStatus → List Edit → Type 0
After m b c s es = Sound (edits m es) (fed b c (call_number s))

-- ---- a call that is accepted came by every test
accepted-yes : (t : Bool) (x y : CallStatus) → is_accepted y ≡ false → pick t x y ≡ accepted → (t ≡ true) × (x ≡ accepted)
unfolding pick
accepted-yes true x y n e = (refl, e)
accepted-yes false x y n e = absurd (false≢true (sym n ∙ ap is_accepted e))

accepted-no : (t : Bool) (x y : CallStatus) → is_accepted x ≡ false → pick t x y ≡ accepted → (t ≡ false) × (y ≡ accepted)
unfolding pick
accepted-no true x y n e = absurd (false≢true (sym n ∙ ap is_accepted e))
accepted-no false x y n e = (refl, e)

room : {A : Type 0} (limit : ℕ) (xs : List A) (x : A) → length xs < limit → add_up_to limit xs x ≡ xs ++ (x ∷ [])
unfolding add_up_to
room limit xs x h = pick_yes (ltb (length xs) limit) (xs ++ (x ∷ [])) xs (lt-ltb (length xs) limit h)

module _ (m : Model) (b : Book) (ok : Sound m b) where
  by-status : (c : Call) (s : CallStatus) (es : List Edit) → (s ≡ accepted → Sound (edits m es) (entered b c)) → After m b c s (pick (is_accepted s) es [])
  unfolding pick fed
  by-status c (Ok u) es f = f refl
  by-status c (Err r) es f = rw (refusal-negative r) ok

  -- ---- add connector
  module _ (kind k p parent : ℕ) where
    parent-below : parent_fits m kind p parent ≡ true → parent ≢ 0 → (y : ℕ) × Below (new_connector kind k p parent) (connector m y)
    unfolding parent_fits phb_of
    parent-below e n =
        let s = every-each (eqb kind slot ∷ phb_of m p parent ∷ []) (sym (pick-ne parent 0 true (every (eqb kind slot ∷ phb_of m p parent ∷ [])) n) ∙ e) in
        at-index m (λ t. t ≡ true → (y : ℕ) × Below (new_connector kind k p parent) (connector m y)) parent _ _
        (λ i f u.
        let v = every-each (eqb (connector m i).kind phb ∷ eqb (connector m i).partition p ∷ []) u in (
          i,
          record {
            index = f.index;
            bridge = eqb-true (connector m i).kind phb v.0;
            slotted = eqb-true kind slot s.0;
            partition = eqb-true (connector m i).partition p v.1.0;
            configured = λ z. absurd (false≢true z);
          },
        ))
        (λ _ u. absurd (false≢true u))
        s.1.0

    connector-added : add_connector_status m kind k p parent ≡ accepted → Sound (edits m (add_row (new_connector kind k p parent) ∷ [])) (entered b (platform (add_connector kind k p parent)))
    unfolding add_connector_status entered
    connector-added e =
        let s₁ = accepted-yes _ _ _ refl e in
        let s₂ = accepted-no _ _ _ refl s₁.1 in
        let s₃ = accepted-yes _ _ _ refl s₂.1 in
        let s₄ = accepted-yes _ _ _ refl s₃.1 in
        let s₅ = accepted-no _ _ _ refl s₄.1 in
        let known-kind = every-each (known kind ∷ eqb (kind_of_index k) kind ∷ []) s₁.0 in
        let top : k / 268435456 ≡ kind = eqb-true (kind_of_index k) kind known-kind.1.0 in
        let nz : k ≢ 0 = λ z. unknown-zero kind known-kind.0 (omega arith) in
        let h : length m.connectors < connector_limit = leb-false connector_limit (length m.connectors) s₅.0 in
        rw (room connector_limit m.connectors (new_connector kind k p parent) h)
        (kept.more-row m b ok (new_connector kind k p parent) nz
        (λ x z. eqb-false (connector m x).index.0 k (any_none blank_connector (has_index k) m.connectors s₂.0 x (within m (λ c. c.index.0) refl x (λ q. nz (sym z ∙ q)))) z)
        known-kind.0 refl refl (parent-below s₄.0))

  -- ---- add resource
  resource-added : (kind : ℕ) → add_resource_status m kind ≡ accepted → Sound (edits m (add_line kind ∷ [])) (entered b (platform (add_resource kind)))
  unfolding add_resource_status entered
  resource-added kind e =
      let s₁ = accepted-yes _ _ _ refl e in
      let s₂ = accepted-no _ _ _ refl s₁.1 in
      let h : length m.ledger < resource_limit = leb-false resource_limit (length m.ledger) s₂.0 in
      rw (room resource_limit m.ledger (record { kind = kind; at = 0 }) h) (kept.more-line m b ok kind s₁.0)

  -- ---- place and retract, at a connector that is looked up
  module _ (k i : ℕ) (f : Found m k i) where
    unchanged : May (connector m) i (connector m i).state
    unchanged = steady m b ok i (connector m i).state (λ u. u) (λ u. u)

    same-states : (r : ℕ) → map entry_of (set m.connectors i (holding r (connector m i))) ≡ b.entries
    same-states r = map-set_same entry_of m.connectors i (holding r (connector m i)) blank_connector refl ∙ ok.states

    resource-placed : (r : ℕ) → place_status m r (connector m i) ≡ accepted → Sound (edits m (move_line (r - 1) (connector m i).index.0 ∷ row i (holding r (connector m i)) ∷ [])) (entered b (platform (place r k)))
    unfolding place_status is_resource entered
    resource-placed r e =
        let s₁ = accepted-yes _ _ _ refl e in
        let s₂ = accepted-yes _ _ _ refl s₁.1 in
        let s₃ = accepted-yes _ _ _ refl s₂.1 in
        let s₄ = accepted-yes _ _ _ refl s₃.1 in
        let range = every-each (leb 1 r ∷ leb r (length m.ledger) ∷ []) s₁.0 in
        let low : 1 ≤ r = leb-true 1 r range.0 in
        let high : r ≤ length m.ledger = leb-true r (length m.ledger) range.1.0 in
        rw (← f.index)
        (kept.put m b ok i f.there (connector m i).state (record { 0 = r }) (connector m i).walk (connector m i).wanted unchanged b.entries (same-states r) (λ _. ok.unwanted i (eqb-true (connector m i).resource.0 0 s₄.0)) (r - 1) (omega arith) (connector m i).index.0
        (omega arith) refl (eqb-true (connector m i).resource.0 0 s₄.0) (eqb-true (line m (r - 1)).at 0 s₃.0) (eqb-true (line m (r - 1)).kind (connector m i).kind s₂.0))

    resource-retracted : retract_status (connector m i) ≡ accepted → Sound (edits m (calls.emptying m i (connector m i) (vacated (connector m i)))) (entered b (platform (retract k)))
    unfolding retract_status entered
    resource-retracted e =
        let u : (connector m i).state ≡ Unusable = retracted-unusable (connector m i) (ap is_accepted e) in
        emptying-kept m b ok k i f Unusable (connector m i).walk _ (steady m b ok i Unusable (λ z. absurd (false≢true z)) (λ z. absurd (false≢true (rw u at z))))
        (rw f.index at (entry-by m b ok i f.there Unusable (record { 0 = 0 }) (connector m i).walk false (wanted_as false) (rw u)))

    -- ---- want back
    connector-wanted : want_back_status (connector m i) ≡ accepted → Sound (edits m (row i (wanted_back (connector m i)) ∷ [])) (entered b (platform (want_back k)))
    unfolding want_back_status entered
    connector-wanted e =
        let d = connector m i in
        let n = accepted-no _ _ _ refl e in
        rw f.index at
        (kept.moved m b ok i f.there d.state d.resource d.walk true unchanged _ (entry-by m b ok i f.there d.state d.resource d.walk true (wanted_as true) refl)
        (λ z. absurd (eqb-false d.resource.0 0 n.0 z)) refl)

  pub platform-kept : (c : PlatformCall) → Keeps m b (platform c)
  unfolding calls.add_connector calls.add_resource calls.place calls.retract wanting.want_back fed entered
  platform-kept (add_connector kind k p parent) = by-status (platform (add_connector kind k p parent)) (add_connector_status m kind k p parent) _ (connector-added kind k p parent)
  platform-kept (add_resource kind) = by-status (platform (add_resource kind)) (add_resource_status m kind) _ (resource-added kind)
  platform-kept (place r k) =
      at-index {A = Answer CallStatus} m (λ a. After m b (platform (place r k)) a.status a.edits) k _ _
      (λ i f. by-status (platform (place r k)) (place_status m r (connector m i)) _ (resource-placed k i f r))
      (λ _. ok)
  platform-kept (retract k) =
      at-index {A = Answer CallStatus} m (λ a. After m b (platform (retract k)) a.status a.edits) k _ _
      (λ i f. by-status (platform (retract k)) (retract_status (connector m i)) _ (resource-retracted k i f))
      (λ _. ok)
  platform-kept (want_back k) =
      at-index {A = Answer CallStatus} m (λ a. After m b (platform (want_back k)) a.status a.edits) k _ _
      (λ i f. by-status (platform (want_back k)) (want_back_status (connector m i)) _ (connector-wanted k i f))
      (λ _. ok)
  platform-kept (ask_pool kind) = ok

-- ---- a refused call edits nothing
abbrev Quiet : Answer CallStatus → Type 0
Quiet a = negative (call_number a.status) ≡ true → a.edits ≡ []

decided-quiet : (s : CallStatus) (es : List Edit) → Quiet (calls.decided s es)
unfolding pick
decided-quiet (Ok u) es e = absurd (false≢true e)
decided-quiet (Err r) es e = refl

-- ---- what the edits of a platform's call leave alone: none, a row more, a line more, or moves of lines and a row that keeps its index, partition, state and walk
pub data Calm (m : Model) : List Edit → Type 0 where
  nothing : Calm m []
  row_more : (c : Connector) → Calm m (add_row c ∷ [])
  line_more : (kind : ℕ) → Calm m (add_line kind ∷ [])
  stored : (i : ℕ) (v : Connector)
      → v.index.0 ≡ (connector m i).index.0
      → v.partition ≡ (connector m i).partition
      → (v.state ≡ (connector m i).state) × (v.walk ≡ (connector m i).walk)
      → Calm m (row i v ∷ [])
  moved : (j k : ℕ) {es : List Edit} → Calm m es → Calm m (move_line j k ∷ es)

-- a call's status and edits: a refusal edits nothing, and every edit is calm
pub record PlatformLaw (m : Model) (status : ℤ) (es : List Edit) : Type 0 where
  pub quiet : negative status ≡ true → es ≡ []
  pub calm : Calm m es

module _ (m : Model) where
  abbrev Lawful : Answer CallStatus → Type 0
  Lawful a = PlatformLaw m (call_number a.status) a.edits

  lawful : (s : CallStatus) (es : List Edit) → (is_accepted s ≡ true → Calm m es) → Lawful (calls.decided s es)
  lawful s es f = record { quiet = decided-quiet s es; calm = pick-cases (Calm m) (is_accepted s) es [] f (λ _. nothing) }

  unfound : (s : CallStatus) → Lawful (calls.refused s)
  unfound s = record { quiet = λ _. refl; calm = nothing }

  emptied-calm : (i : ℕ) → is_accepted (retract_status (connector m i)) ≡ true → Calm m (calls.emptying m i (connector m i) (vacated (connector m i)))
  unfolding to_pool
  emptied-calm i e =
      let last : Calm m (row i (vacated (connector m i)) ∷ []) = stored i (vacated (connector m i)) refl refl (sym (retracted-unusable (connector m i) e), refl) in
      pick-cases (λ es. Calm m (es ++ (row i (vacated (connector m i)) ∷ []))) _ _ _ (λ _. moved _ _ last) (λ _. last)

  pub platform-law : (c : PlatformCall) → PlatformLaw m (platform_answer m c).status (platform_answer m c).edits
  unfolding calls.add_connector calls.add_resource calls.place calls.retract wanting.want_back
  platform-law (add_connector kind k p parent) = lawful (add_connector_status m kind k p parent) _ (λ _. row_more _)
  platform-law (add_resource kind) = lawful (add_resource_status m kind) _ (λ _. line_more kind)
  platform-law (place r k) =
      at-index m Lawful k _ _
      (λ i _. lawful (place_status m r (connector m i)) _ (λ _. moved _ _ (stored i (holding r (connector m i)) refl refl (refl, refl))))
      (λ _. unfound (Err NoConnector))
  platform-law (retract k) = at-index m Lawful k _ _ (λ i _. lawful (retract_status (connector m i)) _ (emptied-calm i)) (λ _. unfound (Err NoConnector))
  platform-law (want_back k) = at-index m Lawful k _ _ (λ i _. lawful (want_back_status (connector m i)) _ (λ _. stored i (wanted_back (connector m i)) refl refl (refl, refl))) (λ _. unfound (Err NoConnector))
  platform-law (ask_pool kind) = record { quiet = λ _. refl; calm = nothing }

-- A partition sees of a connector that is wanted back nothing but usable's -3. Assumes nothing.
use Prim.Native.Nat.{ℕ, ◌-◌}
use mathlib.Core.Path.{◌≡◌, refl, ap, sym, ◌∙◌}
use mathlib.Core.List.{List, [], ◌∷◌, ◌++◌}
use mathlib.Core.Bool.{Bool, true, false, false≢true, not, xor}
use lib.Dec.{eqb}
use lib.IntN.{ℤ}
use Rattle.words.specs.Pick.{pick, every}
use Rattle.words.specs.Bytes.{word_at}
use Rattle.words.proofs.Pick.{both-picks}
use Rattle.states.specs.declared.State.TheVariants.{Unusable}
use Rattle.states.specs.States.{in_use}
use Rattle.connector.specs.declared.Connector.{Connector}
use Rattle.std.specs.Prelude.{Err}
use Rattle.connector.specs.declared.orders.OrderRefusal.TheVariants.{Parameter}
use Rattle.connector.specs.declared.orders.Change.{Change}
use Rattle.connector.specs.declared.orders.Change.TheVariants.{Kept, Moved, Released}
use Rattle.connector.specs.Fields.{vacated, with_wanted, wanted_back}
use Rattle.connector.specs.Orders.{unready, order_number, isolate, unisolate, usable, unusable, order_of, usable_of}
use Rattle.table.specs.Model.{Model, table_of, has_index, Edit, row, move_line, writes}
use Rattle.step_status.specs.Status.{step_number}
use Rattle.unowned.specs.Unowned.{unowned}
use Rattle.walk.specs.Step.{Outcome}
use Rattle.walk.proofs.Same.{Agree, step_same}
use Rattle.call_status.specs.Status.{CallStatus, call_number, is_accepted}
use Rattle.calls.specs.Calls as calls
use Rattle.calls.specs.Calls.{Answer, Configuring, Surroundings, NamedOrder, none, some, order_named, order_in, order_answer, order_edits, around, holding, parent_fits, add_connector_status, add_resource_status, added_number, is_resource, place_status, place_at, retract_status, retract_at, to_pool, emptying, step_edits}
use Rattle.calls.proofs.Own.{set_found}
use Rattle.want_back.specs.WantBack as wanting
use Rattle.want_back.specs.WantBack.{want_back_status, want_back_at}
use Rattle.history.specs.Calls.{Call, PlatformCall, platform, partition, add_connector, add_resource, place, retract, want_back, ask_pool, set_indicator, get_sensor, configure, answer, platform_answer, numbered, words_after}
use Rattle.history.specs.Holds.{connector}
use Rattle.history.specs.Refusals.{area_after, Own}
use Rattle.wanted_seen.specs.Seen.{DifferInWanted, beside, is_usable, may_show, Unseen, WantedSeen}
use Rattle.wanted_seen.proofs.Words.{bare, same-connectors, same-ledger, rows-like, same-edit, LikeEdits, no-edits, more-edits, writes-like}
use Rattle.wanted_seen.proofs.Models.{SameBut, same_size, same-any, at-alike, own-alike, own-unless, same-phb, same-around, same-pool, same-unowned, AnswersAlike}
use Rattle.wanted_seen.proofs.Orders.{SameOrdered, usable-alike, order_alike}

-- the same edits are alike
edits-alike : (es : List Edit) → LikeEdits es es
edits-alike [] = no-edits
edits-alike (e ∷ es) = more-edits (same-edit e) (edits-alike es)

-- some that are the same, then some that are alike
after : (es : List Edit) {fs gs : List Edit} → LikeEdits fs gs → LikeEdits (es ++ fs) (es ++ gs)
after [] f = f
after (e ∷ es) f = more-edits (same-edit e) (after es f)

one-row : (i : ℕ) (c c' : Connector) → bare c ≡ bare c' → LikeEdits (row i c ∷ []) (row i c' ∷ [])
one-row i c c' e = more-edits (rows-like i c c' e) no-edits

equal : {S : Type 0} (x : Answer S) → AnswersAlike x x
equal x = record { status = refl; edits = edits-alike x.edits }

decided-same : (s s' : CallStatus) (es es' : List Edit) → s ≡ s' → LikeEdits es es' → AnswersAlike (calls.decided s es) (calls.decided s' es')
decided-same s s' es es' e f = rw e (record { status = refl; edits = both-picks LikeEdits (is_accepted s') f no-edits })

numbered-same : {S : Type 0} (number : S → ℤ) {x y : Answer S} → AnswersAlike x y → AnswersAlike (numbered number x) (numbered number y)
numbered-same number r = record { status = ap number r.status; edits = r.edits }

-- the same answer, and the same work area
record SameConfiguring (x y : Configuring) : Type 0 where
  answer : AnswersAlike x.answer y.answer
  area : x.area ≡ y.area

is-usable : (n : NamedOrder) → is_usable n ≡ true → n ≡ some usable
is-usable none e = absurd (false≢true e)
is-usable (some isolate) e = absurd (false≢true e)
is-usable (some unisolate) e = absurd (false≢true e)
is-usable (some usable) e = refl
is-usable (some unusable) e = absurd (false≢true e)

module _ (m m' : Model) (a : SameBut m m') where
  -- ---- the platform's calls
  same-parent : (kind p parent : ℕ) → parent_fits m kind p parent ≡ parent_fits m' kind p parent
  unfolding parent_fits
  same-parent kind p parent = rw (same-phb m m' a p parent)

  same-connector-status : (kind k p parent : ℕ) → add_connector_status m kind k p parent ≡ add_connector_status m' kind k p parent
  unfolding add_connector_status
  same-connector-status kind k p parent = rw (same-any m m' a (has_index k) (λ _. refl), same-parent kind p parent, same_size m m' a)

  same-resource-status : (kind : ℕ) → add_resource_status m kind ≡ add_resource_status m' kind
  unfolding add_resource_status
  same-resource-status kind = rw a.ledger

  same-place-status : (r : ℕ) (c : Connector) (w : Bool) → place_status m r c ≡ place_status m' r (with_wanted w c)
  unfolding place_status is_resource
  same-place-status r c w = rw a.ledger

  emptying-like : (i : ℕ) (c v v' : Connector) (w : Bool) → bare v ≡ bare v' → LikeEdits (emptying m i c v) (emptying m' i (with_wanted w c) v')
  emptying-like i c v v' w e = rw (same-pool m m' a c.resource.0 c.index.0) (after (to_pool m' c.resource.0 c.index.0) (one-row i v v' e))

  platform-same : (c : PlatformCall) → AnswersAlike (platform_answer m c) (platform_answer m' c)
  unfolding calls.add_connector calls.add_resource calls.place calls.retract wanting.want_back retract_status want_back_status
  platform-same (add_connector kind k p parent) = numbered-same call_number (decided-same _ _ _ _ (same-connector-status kind k p parent) (edits-alike _))
  platform-same (add_resource kind) = numbered-same call_number (decided-same _ _ _ _ (same-resource-status kind) (edits-alike _))
  platform-same (place r k) =
      numbered-same call_number
      (at-alike m m' a AnswersAlike (place_at m r) (place_at m' r) _ _ k
      (λ i c w. decided-same _ _ _ _ (same-place-status r c w) (more-edits (same-edit (move_line (r - 1) c.index.0)) (one-row i (holding r c) (holding r (with_wanted w c)) refl)))
      (equal _))
  platform-same (retract k) =
      numbered-same call_number
      (at-alike m m' a AnswersAlike (retract_at m) (retract_at m') _ _ k
      (λ i c w. decided-same _ _ _ _ refl (emptying-like i c (vacated c) (vacated (with_wanted w c)) w refl))
      (equal _))
  platform-same (want_back k) =
      numbered-same call_number
      (at-alike m m' a AnswersAlike want_back_at want_back_at _ _ k
      (λ i c w. decided-same _ _ _ _ refl (one-row i (wanted_back c) (wanted_back (with_wanted w c)) refl))
      (equal _))
  platform-same (ask_pool kind) = equal _

  -- ---- set-indicator
  edits-like : (i : ℕ) (c v v' : Connector) (w : Bool) (t : Change) → bare v ≡ bare v' → LikeEdits (order_edits m i c t v) (order_edits m' i (with_wanted w c) t v')
  unfolding order_edits
  edits-like i c v v' w Kept e = no-edits
  edits-like i c v v' w Moved e = one-row i v v' e
  edits-like i c v v' w Released e = emptying-like i c v v' w e

  ordered_same : (n : NamedOrder) (i : ℕ) (c : Connector) (w : Bool) → ((s : Surroundings) → SameOrdered (order_in s n c) (order_in s n (with_wanted w c))) → AnswersAlike (order_answer m i c (order_in (around m c) n c)) (order_answer m' i (with_wanted w c) (order_in (around m' (with_wanted w c)) n (with_wanted w c)))
  ordered_same n i c w f =
      rw (← same-around m m' a c w)
      (let r = f (around m c) in
      record { status = r.status; edits = rw (← r.change) (edits-like i c _ _ w _ r.connector) })

  indicator-same : (p token k value : ℕ) → may_show m m' (partition p (set_indicator token k value)) ≡ false → AnswersAlike (calls.set_indicator m p token k value) (calls.set_indicator m' p token k value)
  unfolding calls.set_indicator may_show pick
  indicator-same p token k value e = go (is_usable n) refl e
    where
      n : NamedOrder
      n = order_named token value

      go : (b : Bool) → is_usable n ≡ b → pick b (calls.own_at m p k (λ i c. every (not (in_use c.state) ∷ xor c.wanted (connector m' i).wanted ∷ [])) false) false ≡ false → AnswersAlike (calls.set_indicator m p token k value) (calls.set_indicator m' p token k value)
      go true u z =
          own-unless m m' a AnswersAlike _ _ _ _ p k (λ c w. every (not (in_use c.state) ∷ xor c.wanted w ∷ [])) z
          (λ i c w q. ordered_same n i c w (λ s. rw (is-usable n u) (usable-alike s c w q)))
          (equal _)
      go false u z = own-alike m m' a AnswersAlike _ _ _ _ p k (λ i c w. ordered_same n i c w (λ s. order_alike s c w n u)) (equal _)

  -- ---- get-sensor
  sensor-same : (p token k : ℕ) → calls.get_sensor m p token k ≡ calls.get_sensor m' p token k
  unfolding calls.get_sensor
  sensor-same p token k = both-picks ◌≡◌ (eqb token 9003) (own-alike m m' a ◌≡◌ _ _ _ _ p k (λ i c w. refl) refl) refl

  -- ---- configure-connector
  steps-like : (i : ℕ) (o o' : Outcome) → Agree o o' → LikeEdits (step_edits i o.stepped.status o.stepped.connector) (step_edits i o'.stepped.status o'.stepped.connector)
  unfolding step_edits
  steps-like i o o' r = rw (r.status, r.alike.state, r.alike.walk) (edits-alike _)

  configure-same : (p : ℕ) (area s st : List ℕ) → SameConfiguring (calls.configure m p area s st) (calls.configure m' p area s st)
  unfolding calls.configure
  configure-same p area s st =
      both-picks SameConfiguring _
      (own-alike m m' a SameConfiguring _ _ _ _ p (word_at area 0)
      (λ i c w.
      let o = step_same (unowned m' c.partition) c (with_wanted w c) (record { state = refl; walk = refl }) area s st in
      rw (same-unowned m m' a c.partition)
      (record { answer = record { status = sym o.status; edits = steps-like i _ _ o }; area = sym o.area }))
      none-same)
      none-same
    where
      none-same : SameConfiguring (calls.not_configured area) (calls.not_configured area)
      none-same = record { answer = equal _; area = refl }

  -- ---- any call
  call_same : (c : Call) → may_show m m' c ≡ false → AnswersAlike (answer m c) (answer m' c)
  call_same (platform c) e = platform-same c
  call_same (partition p (set_indicator token k value)) e = numbered-same order_number (indicator-same p token k value e)
  call_same (partition p (get_sensor token k)) e = record { status = ap (λ r. order_number r.status) (sensor-same p token k); edits = no-edits }
  call_same (partition p (configure area s st)) e = numbered-same step_number (configure-same p area s st).answer

  same_number : (kind : ℕ) → added_number m kind ≡ added_number m' kind
  unfolding added_number
  same_number kind = rw (same-resource-status kind, a.ledger)

  beside_same : (c : Call) → beside m c ≡ beside m' c
  beside_same (platform (add_connector kind k p parent)) = refl
  beside_same (platform (add_resource kind)) = rw (same_number kind)
  beside_same (platform (place r k)) = refl
  beside_same (platform (retract k)) = refl
  beside_same (platform (want_back k)) = refl
  beside_same (platform (ask_pool kind)) = rw a.ledger
  beside_same (partition p (set_indicator token k value)) = refl
  beside_same (partition p (get_sensor token k)) = rw (sensor-same p token k)
  beside_same (partition p (configure area s st)) = refl

module _ (t t' : List ℕ) (a : DifferInWanted t t') where
  same-but : SameBut (table_of t) (table_of t')
  same-but = record { connectors = same-connectors t t' a; ledger = same-ledger t t' a }

  area_same : (c : Call) → area_after t c ≡ area_after t' c
  area_same (platform c) = refl
  area_same (partition p (set_indicator token k value)) = refl
  area_same (partition p (get_sensor token k)) = refl
  area_same (partition p (configure area s st)) = (configure-same (table_of t) (table_of t') same-but p area s st).area

  unseen : (c : Call) → may_show (table_of t) (table_of t') c ≡ false → Unseen t t' c
  unfolding words_after
  unseen c e =
      let r = call_same (table_of t) (table_of t') same-but c e in
      record {
        status = r.status;
        numbers = beside_same (table_of t) (table_of t') same-but c;
        area = area_same c;
        words = writes-like t t' a r.edits;
      }

-- ---- usable on an Unusable connector that is wanted back
refused-answer : (m : Model) (p token k value i : ℕ) → order_named token value ≡ some usable → Own m p k i → (connector m i).state ≡ Unusable → (connector m i).wanted ≡ true → calls.set_indicator m p token k value ≡ record { status = Err Parameter; edits = [] }
unfolding order_in order_of usable_of unready pick order_edits
refused-answer m p token k value i n o s w =
    set_found m p k i (connector m i) o.first o.there refl token value o.own
    ∙ rw (n, s, w)

pub wanted-seen : WantedSeen
unfolding words_after
wanted-seen =
    record {
      unseen = λ t t' c a e. unseen t t' a c e;
      refused = λ t p token k value i n o s w.
          let r = refused-answer (table_of t) p token k value i n o s w in
          (ap (λ x. order_number x.status) r, ap (λ x. writes t x.edits) r);
    }

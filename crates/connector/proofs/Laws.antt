-- The laws of the orders, over the definitions. Assumes nothing.
use mathlib.Core.Bool.{Bool, true, false}
use mathlib.Core.Path.{◌≡◌, refl, ap, sym, ◌∙◌}
use mathlib.Core.Logic.{◌≢◌}
use native.Mathlib.Omega.{arith}
use Rattle.words.specs.Pick.{pick}
use Rattle.states.specs.declared.State.{State}
use Rattle.states.specs.declared.State.TheVariants.{Unusable, Available, Unisolated, Configured}
use Rattle.states.specs.declared.Walk.{Walk}
use Rattle.connector.specs.declared.Connector.{Connector}
use Rattle.std.specs.Prelude.{Err}
use Rattle.connector.specs.declared.orders.OrderRefusal.TheVariants.{Parameter, Occupied}
use Rattle.connector.specs.declared.orders.Change.TheVariants.{Released}
use Rattle.connector.specs.declared.orders.Ordered.{Ordered}
use Rattle.states.specs.States.{word_of_state}
use Rattle.connector.specs.Orders.{OrderStatus, done, Order, isolate, unisolate, usable, unusable, kept, moved, released, isolate_in, unisolate_in, usable_in, unusable_in, isolate_of, unisolate_of, usable_of, unusable_of, order_of}
use Rattle.connector.specs.Laws.{state_after_order, StartUnless, OrderLaw}

-- the ways that an order o on c can go from the state s
data Way (o : Order) (s : State) (c : Connector) : Ordered → Type 0 where
  stays : (n : OrderStatus) → (n ≡ done → s ≡ state_after_order o s) → Way o s c (kept n c)
  moves : (t : State) (w : Walk) → t ≡ state_after_order o s → (StartUnless s c.walk → StartUnless t w) → Way o s c (moved t w c)
  releases : o ≡ unusable → s ≡ Available → Way o s c (released c)

as-before : {o : Order} {s : State} {c : Connector} → s ≡ state_after_order o s → Way o s c (kept done c)
as-before e = stays done (λ _. e)

either : {o : Order} {s : State} {c : Connector} {x y : Ordered} (b : Bool) → Way o s c x → Way o s c y → Way o s c (pick b x y)
unfolding pick
either true v w = v
either false v w = w

-- a walk that is kept, from a state that is not Unisolated
keeps : {s t : State} {w : Walk} → s ≢ Unisolated → StartUnless s w → StartUnless t w
keeps n h _ = h n

apart : (s t : State) → word_of_state s ≢ word_of_state t → s ≢ t
apart s t n e = n (ap word_of_state e)

module _ (slot_in_use parent_configured : Bool) (c : Connector) where
  isolate-way : (s : State) → Way isolate s c (isolate_in s slot_in_use c)
  isolate-way Unusable = as-before refl
  isolate-way Available = as-before refl
  isolate-way Unisolated = moves _ _ refl (λ _ _. refl)
  isolate-way Configured = either _ (stays (Err Occupied) (λ e. cc)) (moves _ _ refl (keeps (apart _ _ (λ e. omega arith))))

  unisolate-way : (s : State) → Way unisolate s c (unisolate_in s c)
  unisolate-way Unusable = stays (Err Parameter) (λ e. cc)
  unisolate-way Available = moves _ _ refl (λ _ _. refl)
  unisolate-way Unisolated = as-before refl
  unisolate-way Configured = as-before refl

  usable-way : (s : State) → Way usable s c (usable_in s parent_configured c)
  usable-way Unusable = either _ (stays (Err Parameter) (λ e. cc)) (moves _ _ refl (keeps (apart _ _ (λ e. omega arith))))
  usable-way Available = as-before refl
  usable-way Unisolated = as-before refl
  usable-way Configured = as-before refl

  unusable-way : (s : State) → Way unusable s c (unusable_in s c)
  unusable-way Unusable = as-before refl
  unusable-way Available = releases refl refl
  unusable-way Unisolated = stays (Err Parameter) (λ e. cc)
  unusable-way Configured = stays (Err Parameter) (λ e. cc)

  way : (o : Order) → Way o c.state c (order_of o slot_in_use parent_configured c)
  unfolding order_of isolate_of unisolate_of usable_of unusable_of
  way isolate = isolate-way c.state
  way unisolate = unisolate-way c.state
  way usable = usable-way c.state
  way unusable = unusable-way c.state

  released-by : (o : Order) → (o ≡ unusable) × (c.state ≡ Available) → (order_of o slot_in_use parent_configured c).change ≡ Released
  unfolding order_of unusable_of
  released-by o h = rw (h.0, h.1)

law : (o : Order) (c : Connector) {r : Ordered} → Way o c.state c r → ((o ≡ unusable) × (c.state ≡ Available) → r.change ≡ Released) → OrderLaw o c r
law o c (stays n e) b =
    record {
      only = refl;
      refused = λ _. refl;
      same = λ _. refl;
      holds = λ _. (refl, refl);
      release = ((λ h. (cc, cc)), b);
      emptied = λ h. (cc, cc, cc);
      walk = λ h. h;
      state = e;
    }
law o c (moves t w e f) b =
    record {
      only = refl;
      refused = λ n. absurd (n refl);
      same = λ h. cc;
      holds = λ _. (refl, refl);
      release = ((λ h. (cc, cc)), b);
      emptied = λ h. (cc, cc, cc);
      walk = f;
      state = λ _. e;
    }
law o c (releases p q) b =
    record {
      only = refl;
      refused = λ n. absurd (n refl);
      same = λ h. cc;
      holds = λ h. (cc, cc);
      release = ((λ _. (p, q)), b);
      emptied = λ _. (refl, refl, refl);
      walk = λ h _. h (λ e. apart Available Unisolated (λ x. omega arith) (sym q ∙ e));
      state = λ _. rw (p, q);
    }

pub order-law : (o : Order) (slot_in_use parent_configured : Bool) (c : Connector) → OrderLaw o c (order_of o slot_in_use parent_configured c)
order-law o slot_in_use parent_configured c = law o c (way slot_in_use parent_configured c o) (released-by slot_in_use parent_configured c o)

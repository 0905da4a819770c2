-- The law of a step, over the definition. Assumes nothing.
use mathlib.Core.Path.{◌≡◌, refl, ap, sym, ◌∙◌}
use mathlib.Core.Bool.{Bool, true, false, false≢true}
use mathlib.Core.Logic.{◌≢◌}
use mathlib.Core.List.{List, [], ◌∷◌}
use Prim.Native.Nat.{ℕ, ◌+◌, ◌<◌, ◌≤◌}
use native.Mathlib.Omega.{arith}
use lib.ListN.{length}
use lib.Dec.{eqb, ltb}
use borrow.Author.Tests.{eqb-true}
use lib.Seq.{length-sets}
use Rattle.words.specs.Pick.{pick, every}
use Rattle.words.specs.Bytes.{part}
use Rattle.words.proofs.Pick.{pick-cases, every-each}
use Rattle.devtree.proofs.Tokens.{Within}
use Rattle.sent.specs.Sent.{next_sent}
use Rattle.sent.proofs.Laws.{sent-in}
use Rattle.devtree.specs.Tree.{Event, begin, prop, end}
use Rattle.devtree.specs.declared.Token.{Token}
use Rattle.devtree.specs.declared.Token.TheVariants.{Begin, Property, EndNode, End, Fault}
use Rattle.states.specs.declared.State.{State}
use Rattle.states.specs.declared.State.TheVariants.{Unusable, Available, Unisolated, Configured}
use Rattle.connector.specs.declared.Connector.{Connector}
use Rattle.states.specs.States.{start}
use Rattle.connector.specs.Fields.{with_step}
use Rattle.step_status.specs.declared.StepStatus.{StepStatus}
use Rattle.step_status.specs.declared.StepStatus.TheVariants.{Complete, NextChild, NextProperty, PreviousParent, MoreMemory, Parameter, NotUnisolated, BadTree}
use Rattle.guards.specs.Guards.{is_unisolated}
use Rattle.stepped.specs.Stepped.{end_stepped}
use Rattle.walk.specs.Step.{Outcome, refused, written, replied, asking, on_begin, on_property, consume, step}
use Rattle.step_status.specs.Status.{is_refusal}
use Rattle.walk.specs.Laws.{state_after_step, StepLaw}

-- what a reply writes lies within the work area
written-size : (area : List ℕ) (e : Event) → length (written area e) ≡ length area
unfolding written
written-size area (begin name) = simp length-sets
written-size area (prop name value) = simp length-sets
written-size area end = refl

-- the answers that consume a token and leave the walk under way
data Reply : StepStatus → Type 0 where
  child : Reply NextChild
  property : Reply NextProperty
  parent : Reply PreviousParent

-- the ways that a step of c can go
data Way (c : Connector) (area s : List ℕ) : Outcome → Type 0 where
  refuses : (n : StepStatus) → is_refusal n ≡ true → Way c area s (refused n c area)
  asks : c.state ≡ Unisolated → length area ≡ 4096 → Way c area s (asking c area)
  replies : {n : StepStatus} → Reply n → (next depth : ℕ) (e : Event) → c.state ≡ Unisolated → (c.walk.place < next) × (next ≤ length s) → Way c area s (replied n next depth e c area)
  completes : c.state ≡ Unisolated → Way c area s (record { stepped = record { status = Complete; connector = with_step Configured start c }; area = area })

is-unisolated : (s : State) → is_unisolated s ≡ true → s ≡ Unisolated
is-unisolated Unusable e = absurd (false≢true e)
is-unisolated Available e = absurd (false≢true e)
is-unisolated Unisolated e = refl
is-unisolated Configured e = absurd (false≢true e)

module _ (c : Connector) (area s : List ℕ) where
  either : {x y : Outcome} (b : Bool) → Way c area s x → Way c area s y → Way c area s (pick b x y)
  either b v w = pick-cases (Way c area s) b _ _ (λ _. v) (λ _. w)

  begin-way : c.state ≡ Unisolated → (at next : ℕ) (name : List ℕ) → (c.walk.place < next) × (next ≤ length s) → Way c area s (on_begin c area at next name)
  unfolding on_begin
  begin-way u at next name f = either _ (refuses _ refl) (replies child next _ (begin name) u f)

  property-way : c.state ≡ Unisolated → (at next : ℕ) (name value : List ℕ) → (c.walk.place < next) × (next ≤ length s) → Way c area s (on_property c area at next name value)
  unfolding on_property
  property-way u at next name value f =
      either _ (refuses _ refl)
      (pick-cases (Way c area s) (every (eqb (length area) 4096 ∷ ltb 4096 (20 + length name + 1 + length value) ∷ [])) _ _
      (λ e. asks u (eqb-true _ _ (every-each _ e).0))
      (λ _. replies property next _ (prop name value) u f))

  end-way : c.state ≡ Unisolated → (at next : ℕ) → (c.walk.place < next) × (next ≤ length s) → Way c area s (record { stepped = end_stepped c (length area) at next; area = area })
  unfolding end_stepped written
  end-way u at next f =
      pick-cases (λ r. Way c area s (record { stepped = r; area = area })) (eqb c.walk.depth 0) _ _ (λ _. refuses _ refl)
      (λ _. pick-cases (λ r. Way c area s (record { stepped = r; area = area })) (eqb c.walk.depth 1) _ _ (λ _. completes u)
      (λ _. replies parent next _ end u f))

  token-way : c.state ≡ Unisolated → (st : List ℕ) (t : Token) → Within s c.walk.place t → Way c area s (consume c area s st t)
  unfolding consume
  token-way u st (Begin at a n next) w = begin-way u at next (part s a n) (omega arith)
  token-way u st (Property at a n v l next) w = property-way u at next (part st a n) (part s v l) (omega arith)
  token-way u st (EndNode at next) w = end-way u at next (omega arith)
  token-way u st (End at next) w = refuses _ refl
  token-way u st (Fault at) w = refuses _ refl

  way : (unowned : ℕ → Bool) (st : List ℕ) → Way c area s (step unowned c area s st)
  unfolding step
  way unowned st =
      either _
      (pick-cases (Way c area s) (is_unisolated c.state) _ _
      (λ e. either _ (either _ (token-way (is-unisolated c.state e) st (next_sent unowned s st c.walk.depth c.walk.place) (sent-in unowned s st c.walk.depth c.walk.place)) (refuses _ refl)) (refuses _ refl))
      (λ _. refuses _ refl))
      (refuses _ refl)

-- a refusal leaves the state as it was
kept : (n : StepStatus) (s : State) → is_refusal n ≡ true → s ≡ state_after_step n s
kept Complete s e = absurd (false≢true e)
kept NextChild s e = absurd (false≢true e)
kept NextProperty s e = absurd (false≢true e)
kept PreviousParent s e = absurd (false≢true e)
kept MoreMemory s e = absurd (false≢true e)
kept Parameter s e = refl
kept NotUnisolated s e = refl
kept (BadTree at) s e = refl

-- a reply is neither a refusal nor a 5
answered : {n : StepStatus} → Reply n → is_refusal n ≡ false
answered child = refl
answered property = refl
answered parent = refl

others : {n : StepStatus} → Reply n → n ≢ MoreMemory
others child e = let z : ◌≡◌ {A = ℕ} 0 1 = cc in omega arith
others property e = let z : ◌≡◌ {A = ℕ} 0 1 = cc in omega arith
others parent e = let z : ◌≡◌ {A = ℕ} 0 1 = cc in omega arith

stays : {n : StepStatus} → Reply n → (s : State) → Unisolated ≡ state_after_step n s
stays child s = refl
stays property s = refl
stays parent s = refl

law : (c : Connector) (area s : List ℕ) {o : Outcome} → Way c area s o → StepLaw c area s o
law c area s (refuses n r) =
    record {
      only = refl;
      refusal = λ _. (refl, refl);
      paged = λ e. absurd (false≢true (sym (ap is_refusal e) ∙ r));
      asks = λ e. absurd (false≢true (sym (ap is_refusal e) ∙ r));
      size = refl;
      forward = λ e _ _. absurd (false≢true (sym e ∙ r));
      walk = λ h. h;
      unisolated = λ e. absurd (false≢true (sym e ∙ r));
      state = kept n c.state r;
    }
law c area s (asks u p) =
    record {
      only = refl;
      refusal = λ e. absurd (false≢true e);
      paged = λ _. p;
      asks = λ _. (rw u, refl);
      size = refl;
      forward = λ _ _ n. absurd (n refl);
      walk = λ _ n. absurd (n refl);
      unisolated = λ _. u;
      state = refl;
    }
law c area s (replies r next depth e u f) =
    record {
      only = refl;
      refusal = λ x. absurd (false≢true (sym (answered r) ∙ x));
      paged = λ x. absurd (others r x);
      asks = λ x. absurd (others r x);
      size = written-size area e;
      forward = λ _ _ _. f;
      walk = λ _ n. absurd (n refl);
      unisolated = λ _. u;
      state = stays r c.state;
    }
law c area s (completes u) =
    record {
      only = refl;
      refusal = λ e. absurd (false≢true e);
      paged = λ e. cc;
      asks = λ e. (cc, cc);
      size = refl;
      forward = λ _ n _. absurd (n refl);
      walk = λ _ _. refl;
      unisolated = λ _. u;
      state = refl;
    }

pub step-law : (unowned : ℕ → Bool) (c : Connector) (area s st : List ℕ) → StepLaw c area s (step unowned c area s st)
step-law unowned c area s st = law c area s (way c area s unowned st)

-- The offset that a step's status carries is the definition's, and it is at most the block's length. Assumes nothing.
use mathlib.Core.Path.{◌≡◌, refl}
use mathlib.Core.Bool.{Bool, true, false}
use mathlib.Core.List.{List}
use Prim.Native.Nat.{ℕ, ◌≤◌}
use native.Mathlib.Omega.{arith}
use borrow.Author.Tests.{leb-true}
use lib.ListN.{length}
use Rattle.words.specs.Pick.{pick}
use Rattle.words.proofs.Pick.{pick-cases, pick_yes, pick_no, every-each}
use Rattle.devtree.specs.declared.Token.{Token}
use Rattle.devtree.specs.declared.Token.TheVariants.{Begin, Property, EndNode, End, Fault}
use Rattle.devtree.proofs.Tokens.{Within}
use Rattle.connector.specs.declared.Connector.{Connector}
use Rattle.sent.specs.Sent.{next_sent}
use Rattle.sent.proofs.Laws.{sent-in}
use Rattle.step_status.specs.declared.StepStatus.{StepStatus}
use Rattle.guards.specs.Guards.{is_area, is_unisolated, pages_meet, readable}
use Rattle.stepped.specs.declared.Stepped.{Stepped}
use Rattle.stepped.specs.Stepped.{end_stepped}
use Rattle.walk.specs.Step.{Outcome, on_begin, on_property, consume, step}
use Rattle.walk.proofs.Tests.{step-area, step-state, step-pages, step-blocks, step-token}
use Rattle.faults.specs.Status.{is_bad_tree, status_offset}
use Rattle.faults.specs.Faults.{offset_of, step_fault}
use Rattle.faults.specs.Laws.{FaultLaw}
use Rattle.faults.proofs.Places.{sent-of, token-stands}

-- an offset in the block, and in the longest that is read
abbrev pub Inside : List ℕ → ℕ → Type 0
Inside s x = (x ≤ length s) × (x ≤ 32768)

pub zero-inside : (s : List ℕ) → Inside s 0
zero-inside s = (omega arith, omega arith)

-- the status carries x, if it is -1
abbrev Carries : ℕ → StepStatus → Type 0
Carries x n = status_offset n ≡ pick (is_bad_tree n) x 0

carried : (x : ℕ) → x ≡ pick true x 0
unfolding pick
carried x = refl

none : (x : ℕ) → 0 ≡ pick false x 0
unfolding pick
none x = refl

module _ (c : Connector) (area s st : List ℕ) where
  -- a token that is taken, or asked a page for, or at fault; it stands in the block
  token-carries : (at : ℕ) (t : Token) → Within s at t → Carries (offset_of t) (consume c area s st t).stepped.status × (offset_of t ≤ length s)
  unfolding consume on_begin on_property end_stepped
  token-carries at (Begin p a n next) w = (pick-cases (λ (o : Outcome). Carries p o.stepped.status) _ _ _ (λ _. carried p) (λ _. none p), omega arith)
  token-carries at (Property p a n v l next) w = (
    pick-cases (λ (o : Outcome). Carries p o.stepped.status) _ _ _ (λ _. carried p)
        (λ _. pick-cases (λ (o : Outcome). Carries p o.stepped.status) _ _ _ (λ _. none p) (λ _. none p)),
    omega arith,
  )
  token-carries at (EndNode p next) w = (
    pick-cases (λ (r : Stepped). Carries p r.status) _ _ _ (λ _. carried p)
        (λ _. pick-cases (λ (r : Stepped). Carries p r.status) _ _ _ (λ _. none p) (λ _. none p)),
    omega arith,
  )
  token-carries at (End p next) w = (carried p, omega arith)
  token-carries at (Fault p) w = (carried p, w)

  module _ (unowned : ℕ → Bool) where
    abbrev place : ℕ
    place = c.walk.place

    abbrev next : Token
    next = next_sent unowned s st c.walk.depth place

    next-carries : Carries (offset_of next) (consume c area s st next).stepped.status × (offset_of next ≤ length s)
    next-carries = token-carries place next (sent-in unowned s st c.walk.depth place)

    pub fault-is : status_offset (step unowned c area s st).stepped.status ≡ step_fault unowned c area s st
    unfolding step_fault pick
    fault-is = go (is_area (length area)) refl (is_unisolated c.state) refl (pages_meet c.walk.page (length area)) refl (readable (length s) (length st) c.walk.place) refl
      where
        go : (w : Bool) → is_area (length area) ≡ w → (x : Bool) → is_unisolated c.state ≡ x → (y : Bool) → pages_meet c.walk.page (length area) ≡ y → (z : Bool)
            → readable (length s) (length st) c.walk.place ≡ z → status_offset (step unowned c area s st).stepped.status ≡ step_fault unowned c area s st
        go false e x f y g z h = rw (step-area unowned c area s st e)
        go true e false f y g z h = rw (step-state unowned c area s st e f)
        go true e true f false g z h = rw (step-pages unowned c area s st e f g)
        go true e true f true g false h = rw (step-blocks unowned c area s st e f g h, h)
        go true e true f true g true h = rw (step-token unowned c area s st e f g h, h) next-carries.0

    abbrev bad : Bool
    bad = is_bad_tree (step unowned c area s st).stepped.status

    abbrev reads : Bool
    reads = readable (length s) (length st) place

    -- the structure block is not too long, where a token is named
    pub fault-inside : Inside s (step_fault unowned c area s st)
    unfolding step_fault readable
    fault-inside =
        pick-cases (Inside s) bad _ _
        (λ _. pick-cases (Inside s) reads _ _
        (λ e. let h = leb-true (length s) 32768 (every-each _ e).0 in (next-carries.1, omega (arith, next-carries.1)))
        (λ _. zero-inside s))
        (λ _. zero-inside s)

    -- so it fits a word
    pub fault-short : (n : ℕ) → n ≡ status_offset (step unowned c area s st).stepped.status → n ≤ 32768
    fault-short n e = rw (e, fault-is) fault-inside.1

    pub fault-law : FaultLaw unowned c area s st
    unfolding step_fault
    fault-law =
        record {
          inside = fault-inside.0;
          others = λ e. pick_no bad _ _ e;
          unread = λ e. pick-cases (λ x. x ≡ 0) bad _ _ (λ _. pick_no reads _ _ e) (λ _. refl);
          met = λ e f. rw (pick_yes bad (pick reads (offset_of next) 0) 0 e, pick_yes reads (offset_of next) 0 f) (sent-of unowned s st c.walk.depth place);
          stands = token-stands s st;
        }

-- A step looks at a record's state and walk only.
use Prim.Native.Nat.{ℕ}
use mathlib.Core.Path.{◌≡◌, refl, subst}
use mathlib.Core.Bool.{Bool}
use mathlib.Core.List.{List}
use Rattle.words.proofs.Pick.{both-picks}
use Rattle.devtree.specs.declared.Token.{Token}
use Rattle.devtree.specs.declared.Token.TheVariants.{Begin, Property, EndNode, End, Fault}
use Rattle.states.specs.declared.State.{State}
use Rattle.states.specs.declared.Walk.{Walk}
use Rattle.connector.specs.declared.Connector.{Connector}
use Rattle.step_status.specs.declared.StepStatus.{StepStatus}
use Rattle.stepped.specs.declared.Stepped.{Stepped}
use Rattle.connector.specs.Fields.{with_step}
use Rattle.stepped.specs.Stepped.{end_stepped}
use Rattle.sent.specs.Sent.{next_sent}
use Rattle.walk.specs.Step.{Outcome, on_begin, on_property, consume, step}

-- v has the state and the walk of c
pub record Alike (c v : Connector) : Type 0 where
  pub state : v.state ≡ c.state
  pub walk : v.walk ≡ c.walk

-- two outcomes with one status and work area, whose records are alike
pub record Agree (o u : Outcome) : Type 0 where
  pub status : u.stepped.status ≡ o.stepped.status
  pub alike : Alike o.stepped.connector u.stepped.connector
  pub area : u.area ≡ o.area

module _ (x y : Connector) (q : State) (w : Walk) (a : List ℕ) where
  abbrev c : Connector
  c = with_step q w x

  abbrev d : Connector
  d = with_step q w y

  -- both go to one state, with one walk
  went : {n : StepStatus} {r : State} {v : Walk} {b : List ℕ} → Agree (record { stepped = record { status = n; connector = with_step r v x }; area = b }) (record { stepped = record { status = n; connector = with_step r v y }; area = b })
  went = record { status = refl; alike = record { state = refl; walk = refl }; area = refl }

  abbrev Ends : Stepped → Stepped → Type 0
  Ends r v = Agree (record { stepped = r; area = a }) (record { stepped = v; area = a })

  token-same : (s st : List ℕ) (t : Token) → Agree (consume c a s st t) (consume d a s st t)
  unfolding consume on_begin on_property end_stepped
  token-same s st (Begin at x n next) = both-picks Agree _ went went
  token-same s st (Property at x n v m next) = both-picks Agree _ went (both-picks Agree _ went went)
  token-same s st (EndNode at next) = both-picks Ends _ went (both-picks Ends _ went went)
  token-same s st (End at next) = went
  token-same s st (Fault at) = went

  same : (u : ℕ → Bool) (s st : List ℕ) → Agree (step u c a s st) (step u d a s st)
  unfolding step
  same u s st = both-picks Agree _ (both-picks Agree _ (both-picks Agree _ (both-picks Agree _ (token-same s st (next_sent u s st w.depth w.place)) went) went) went) went

pub step_same : (u : ℕ → Bool) (c d : Connector) → Alike c d → (a s st : List ℕ) → Agree (step u c a s st) (step u d a s st)
step_same u c d e a s st =
    subst (λ z. Agree (step u c a s st) (step u z a s st)) as-d (same c d c.state c.walk a u s st)
  where
    as-d : with_step c.state c.walk d ≡ d
    as-d = rw (← e.state, ← e.walk)

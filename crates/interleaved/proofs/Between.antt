-- A walk at the table, with any other calls between, gives the replies of the walk of the record alone. Assumes nothing.
use Prim.Native.Nat.{ℕ, ◌+◌, ◌≤◌}
use mathlib.Core.Path.{◌≡◌, refl, ap, sym, ◌∙◌}
use mathlib.Core.List.{List, [], ◌∷◌}
use mathlib.Core.Bool.{Bool, true, false, false≢true}
use native.Mathlib.Omega.{arith}
use lib.ListN.{length}
use Rattle.words.proofs.Pick.{pick-cases, pick_yes, pick_no}
use Rattle.devtree.specs.Check.{passes}
use Rattle.states.specs.declared.State.TheVariants.{Configured}
use Rattle.connector.specs.declared.Connector.{Connector}
use Rattle.unowned.specs.Unowned.{unowned}
use Rattle.walk.specs.Step.{Outcome, step}
use Rattle.step_status.specs.Status.{is_refusal}
use Rattle.walk.proofs.Laws.{step-law}
use Rattle.emits.specs.Run.{reply_of, areas_of, ends, is_complete, RightForm, until_zero, replies}
use Rattle.emits.proofs.Counts.{until-later}
use Rattle.emits.proofs.Steps.{Sized, Ready, Next, goes_on, completes, then, answers, answered-form, sizes, ready, told}
use Rattle.table.specs.Layout.{word_count}
use Rattle.table.specs.Model.{table_of}
use Rattle.history.specs.Calls.{Call, words_after}
use Rattle.history.proofs.History.{words-after}
use Rattle.interleaved.specs.Between.{at_k, Starting, exchanged, exchanges, replies_at, lent_at, lent_by, Walking, call_formed, formed_calls}
use Rattle.interleaved.proofs.Stands.{as-itself, Stands}
use Rattle.interleaved.proofs.Turns.{Turn, other, own, turn}

module _ (p k : ℕ) (s st : List ℕ) where
  -- ---- a Configured connector gets no reply
  Ended : List Call → Type 0
  Ended cs = (c : Connector) → c.state ≡ Configured → (t : List ℕ) → length t ≡ word_count → Stands p k c (table_of t).connectors → Walking p k s st t cs → exchanges p k t cs ≡ []

  ended-turn : (x : Call) (cs : List Call) → Ended cs → (c : Connector) → c.state ≡ Configured → (t : List ℕ) → length t ≡ word_count → Walking p k s st t (x ∷ cs) → Turn p k s st c t x → exchanges p k t (x ∷ cs) ≡ []
  unfolding Ended exchanges
  ended-turn x cs later c q t n w (other e f g) = rw e (later c q (words_after t x) (words-after t n x) g w.1)
  ended-turn x cs later c q t n w (own area e r g) = let z : ◌≡◌ {A = ℕ} 0 1 = cc (q, (step-law (unowned (table_of t) p) c area s st).unisolated r) in absurd (omega arith)

  ended : (cs : List Call) → Ended cs
  unfolding Ended exchanges
  ended [] c q t n h w = refl
  ended (x ∷ cs) c q t n h w = ended-turn x cs (ended cs) c q t n w (turn p k s st c t n h x w.0)

  -- ---- the walk, from the record c on
  pub record Walks (c : Connector) (t : List ℕ) (cs : List Call) : Type 0 where
    pub right : RightForm s st c (lent_at p k t cs)
    pub same : replies_at p k t cs ≡ replies s st c (lent_at p k t cs)
    pub calls : until_zero (replies_at p k t cs) ≡ false → formed_calls p k s st t cs ≤ length (areas_of (lent_at p k t cs))

  module _ (sized : Sized s st) where
    Onwards : List Call → Type 0
    Onwards cs = (c : Connector) → Ready s st c → (t : List ℕ) → length t ≡ word_count → Stands p k c (table_of t).connectors → Walking p k s st t cs → Walks c t cs

    module _ (x : Call) (cs : List Call) (later : Onwards cs) (c : Connector) (r : Ready s st c) (t : List ℕ) (n : length t ≡ word_count) (w : Walking p k s st t (x ∷ cs)) where
      abbrev t' : List ℕ
      t' = words_after t x

      n' : length t' ≡ word_count
      n' = words-after t n x

      -- another call, which is not well-formed
      passed : exchanged p k t x ≡ [] → call_formed p k s st (table_of t) x ≡ false → Stands p k c (table_of t').connectors → Walks c t (x ∷ cs)
      unfolding Onwards exchanges formed_calls
      passed e f g =
          let v = later c r t' n' g w.1 in
          record { right = rw e v.right; same = rw e v.same; calls = rw (e, pick_no {A = ℕ} (call_formed p k s st (table_of t) x) 1 0 f) (λ z. omega (arith, v.calls z)) }

      -- the partition's own, whose exchange is the first
      module _ (area : List ℕ) (e : exchanged p k t x ≡ record { lent = lent_by p (table_of t) area; reply = reply_of (step (unowned (table_of t) p) c area s st) } ∷ []) (a : is_refusal (step (unowned (table_of t) p) c area s st).stepped.status ≡ false) where
        abbrev o : Outcome
        o = step (unowned (table_of t) p) c area s st

        at_most : formed_calls p k s st t (x ∷ cs) ≤ 1 + formed_calls p k s st t' cs
        unfolding formed_calls
        at_most = pick-cases (λ b. b + formed_calls p k s st t' cs ≤ 1 + formed_calls p k s st t' cs) (call_formed p k s st (table_of t) x) 1 0 (λ _. omega arith) (λ _. omega arith)

        replied : Stands p k o.stepped.connector (table_of t').connectors → Next s st o → Walks c t (x ∷ cs)
        unfolding Onwards Ended exchanges replies until_zero
        replied g (goes_on q u d) =
            let v = later o.stepped.connector d t' n' g w.1 in
            record {
              right = rw e (answered-form (unowned (table_of t) p) c area s st a, (λ _. v.right));
              same = rw (e, pick_no (ends o.stepped.status) [] (replies s st o.stepped.connector (lent_at p k t' cs)) q) (ap (◌∷◌ (reply_of o)) v.same);
              calls = rw e (λ z. let y = v.calls (sym (until-later (reply_of o) (replies_at p k t' cs) u) ∙ z) in omega (arith, at_most));
            }
        replied g (completes q d) =
            let none = ended cs o.stepped.connector d t' n' g w.1 in
            record {
              right = rw (e, none) (answered-form (unowned (table_of t) p) c area s st a, (λ _. tt));
              same = rw (e, none, pick_yes (ends o.stepped.status) [] (replies s st o.stepped.connector []) (ap ends q));
              calls = rw (e, none) (λ z. absurd (false≢true (sym z ∙ ap is_complete q)));
            }

      walks_turn : Turn p k s st c t x → Walks c t (x ∷ cs)
      walks_turn (other e f g) =
          passed e (by-formed (call_formed p k s st (table_of t) x) refl) g
        where
          by-formed : (b : Bool) → call_formed p k s st (table_of t) x ≡ b → call_formed p k s st (table_of t) x ≡ false
          by-formed false q = q
          by-formed true q = let z = f q in absurd (false≢true (sym (answers (told s st sized (unowned (table_of t) p) z.0 c r z.1)) ∙ z.2))
      walks_turn (own area e a g) = replied area e a g (then (told s st sized (unowned (table_of t) p) area c r (answered-form (unowned (table_of t) p) c area s st a)))

    walks : (cs : List Call) → Onwards cs
    unfolding Onwards exchanges replies formed_calls
    walks [] c r t n h w = record { right = tt; same = refl; calls = λ _. omega arith }
    walks (x ∷ cs) c r t n h w = walks_turn x cs (walks cs) c r t n w (turn p k s st c t n h x w.0)

pub walk-between : (t : List ℕ) → length t ≡ word_count → (p k : ℕ) → Starting p k (table_of t) → (s st : List ℕ) → passes s st ≡ true → (cs : List Call) → Walking p k s st t cs → Walks p k s st (at_k k (table_of t)) t cs
unfolding Onwards
walk-between t len p k h s st ok cs w =
    walks p k s st (sizes s st ok) cs (at_k k (table_of t)) (ready s st ok (at_k k (table_of t)) h.state h.walk) t len
    (record { there = h.there; own = h.own; begins = rw h.state; alike = as-itself _ }) w

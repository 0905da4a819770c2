-- What every reachable table keeps, over what is read at each place, and that each move keeps it. Past the last connector and line a blank is read: index 0, kind 0, no resource.
use Prim.Native.Nat.{ℕ, suc}
use mathlib.Core.Path.{◌≡◌, refl, ap, sym, ◌∙◌}
use mathlib.Core.Logic.{dite, ◌≢◌}
use mathlib.Core.Bool.{Bool, true, false≢true}
use native.Mathlib.Decide.{ℕ_discrete}
use native.Mathlib.Omega.{arith}
use Rattle.words.specs.Pick.{pick, any}
use Rattle.states.specs.declared.State.{State}
use Rattle.states.specs.declared.Walk.{Walk}
use Rattle.kinds.specs.declared.Resource.{Resource}
use Rattle.connector.specs.declared.Connector.{Connector}
use Rattle.states.specs.States.{in_use, is_configured}
use Rattle.connector.specs.Fields.{changed}
use Rattle.kinds.specs.Kinds.{phb, slot, known}
use Rattle.table.specs.Model.{Line, moved_to}
use Rattle.history.proofs.Lists.{At}

-- the resource of the line stands at the connector
abbrev pub Stands : Connector → Line → Type 0
Stands c l = (c.index.0 ≢ 0) × (l.at ≡ c.index.0) × (l.kind ≡ c.kind)

-- the slot c stands below the PHB p of its partition, which is Configured while c is in use
pub record Below (c p : Connector) : Type 0 where
  pub index : p.index.0 ≡ c.parent.0
  pub bridge : p.kind ≡ phb
  pub slotted : c.kind ≡ slot
  pub partition : p.partition ≡ c.partition
  pub configured : in_use c.state ≡ true → is_configured p.state ≡ true

pub record Fair (con : ℕ → Connector) (lin : ℕ → Line) : Type 0 where
  pub single : (x y : ℕ) → (con x).index.0 ≢ 0 → (con x).index.0 ≡ (con y).index.0 → x ≡ y
  pub kinded : (x : ℕ) → (con x).index.0 ≢ 0 → known (con x).kind ≡ true
  pub stands : (x j : ℕ) → (con x).resource.0 ≡ suc j → Stands (con x) (lin j)
  pub named : (j : ℕ) → (lin j).at ≢ 0 → (x : ℕ) × ((lin j).at ≡ (con x).index.0) × ((con x).resource.0 ≡ suc j)
  pub below : (x : ℕ) → (con x).parent.0 ≢ 0 → (y : ℕ) × Below (con x) (con y)

-- connector i may go to the state s: in use only where its PHB is Configured, and a PHB from Configured only where no slot below is in use
pub record May (con : ℕ → Connector) (i : ℕ) (s : State) : Type 0 where
  pub rise : in_use s ≡ true → (con i).parent.0 ≢ 0 → (y : ℕ) → (con y).index.0 ≡ (con i).parent.0 → is_configured (con y).state ≡ true
  pub leave : is_configured (con i).state ≡ true → (con i).kind ≡ phb → (x : ℕ) → (con x).kind ≡ slot → (con x).parent.0 ≡ (con i).index.0 → in_use (con x).state ≡ true → is_configured s ≡ true

-- kind 0 is none
pub unknown-zero : (n : ℕ) → known n ≡ true → n ≢ 0
unfolding known any pick
unknown-zero n k e = false≢true (rw e at k)

module _ (con : ℕ → Connector) (lin : ℕ → Line) (f : Fair con lin) where
  -- the connector that a line names, by its index
  pub named-at : (x j : ℕ) → (con x).index.0 ≢ 0 → (lin j).at ≡ (con x).index.0 → (con x).resource.0 ≡ suc j
  named-at x j n e =
      let w = f.named j (λ z. n (sym e ∙ z)) in
      let p : x ≡ w.0 = f.single x w.0 n (sym e ∙ w.1) in
      ap (λ y. (con y).resource.0) p ∙ w.2

  -- the PHB above a slot, by its index
  pub below_at : (x y : ℕ) → (con x).parent.0 ≢ 0 → (con y).index.0 ≡ (con x).parent.0 → in_use (con x).state ≡ true → is_configured (con y).state ≡ true
  below_at x y n e u =
      let w = f.below x n in
      let p : y ≡ w.0 = f.single y w.0 (λ z. n (sym e ∙ z)) (e ∙ sym w.1.index) in
      ap (λ z. is_configured (con z).state) p ∙ w.1.configured u

  -- the line of a resource that stands somewhere has a kind, so it is no blank
  pub lined : (x j : ℕ) → (con x).resource.0 ≡ suc j → (lin j).kind ≢ 0
  lined x j e z =
      let s = f.stands x j e in
      unknown-zero (con x).kind (f.kinded x s.0) (sym s.2 ∙ z)

  -- as to a state that neither brings it into use nor takes it from Configured
  pub calm : (i : ℕ) (s : State) → (in_use s ≡ true → in_use (con i).state ≡ true) → (is_configured (con i).state ≡ true → is_configured s ≡ true) → May con i s
  calm i s g h = record { rise = λ u n y e. below_at i y n e (g u); leave = λ c k x ks e u. h c }

  -- connector i is changed, in state, resource, walk and whether it is wanted back only
  module _ (con' : ℕ → Connector) (i : ℕ) (s : State) (r : Resource) (w : Walk) (v : Bool) (a : At con con' i (changed s r w v (con i))) (may : May con i s) where
    same : {B : Type 0} (g : Connector → B) → g (changed s r w v (con i)) ≡ g (con i) → (x : ℕ) → g (con' x) ≡ g (con x)
    same g e x = dite (ℕ_discrete x i) (λ (p : x ≡ i). rw p (ap g a.here ∙ e)) (λ p. ap g (a.there x p))

    pub index : (x : ℕ) → (con' x).index.0 ≡ (con x).index.0
    index = same (λ c. c.index.0) refl

    kind : (x : ℕ) → (con' x).kind ≡ (con x).kind
    kind = same (λ c. c.kind) refl

    parent : (x : ℕ) → (con' x).parent.0 ≡ (con x).parent.0
    parent = same (λ c. c.parent.0) refl

    partition : (x : ℕ) → (con' x).partition ≡ (con x).partition
    partition = same (λ c. c.partition) refl

    here-resource : (con' i).resource.0 ≡ r.0
    here-resource = ap (λ c. c.resource.0) a.here

    there-resource : (x : ℕ) → x ≢ i → (con' x).resource.0 ≡ (con x).resource.0
    there-resource x p = ap (λ c. c.resource.0) (a.there x p)

    still : (x y : ℕ) → Below (con x) (con y) → (con x).parent.0 ≢ 0 → in_use (con' x).state ≡ true → is_configured (con' y).state ≡ true
    still x y =
        dite (ℕ_discrete x i)
        (λ (p : x ≡ i). rw p (λ b n u.
        let q : y ≢ i = λ (z : y ≡ i). omega (arith, b.bridge, b.slotted, ap (λ v. (con v).kind) z) in
        rw (a.there y q) (may.rise (ap (λ c. in_use c.state) (sym a.here) ∙ u) n y b.index)))
        (λ p.
        let before : in_use (con' x).state ≡ true → in_use (con x).state ≡ true = λ u. ap (λ c. in_use c.state) (sym (a.there x p)) ∙ u in
        dite (ℕ_discrete y i)
        (λ (q : y ≡ i). rw q (λ b n u. ap (λ c. is_configured c.state) a.here ∙ may.leave (b.configured (before u)) b.bridge x b.slotted (sym b.index) (before u)))
        (λ q b n u. rw (a.there y q) (b.configured (before u))))

    fair : (lin' : ℕ → Line) → ((x j : ℕ) → (con' x).resource.0 ≡ suc j → Stands (con x) (lin' j)) → ((j : ℕ) → (lin' j).at ≢ 0 → (x : ℕ) × ((lin' j).at ≡ (con x).index.0) × ((con' x).resource.0 ≡ suc j)) → Fair con' lin'
    fair lin' t n =
        record {
          single = λ x y p e. f.single x y (λ z. p (index x ∙ z)) (sym (index x) ∙ e ∙ index y);
          kinded = λ x p. ap known (kind x) ∙ f.kinded x (λ z. p (index x ∙ z));
          stands = λ x j e. rw (index x, kind x) (t x j e);
          named = λ j p. let v = n j p in (v.0, v.1 ∙ sym (index v.0), v.2);
          below = λ x p. above x (λ z. p (parent x ∙ z));
        }
      where
        above : (x : ℕ) → (con x).parent.0 ≢ 0 → (y : ℕ) × Below (con' x) (con' y)
        above x p =
            let v = f.below x p in
            let y = v.0 in
            let b = v.1 in (
              y,
              record {
                index = index y ∙ b.index ∙ sym (parent x);
                bridge = kind y ∙ b.bridge;
                slotted = kind x ∙ b.slotted;
                partition = partition y ∙ b.partition ∙ sym (partition x);
                configured = still x y b p;
              },
            )

    -- its resource stays
    pub moved : r.0 ≡ (con i).resource.0 → Fair con' lin
    moved e =
        let res : (x : ℕ) → (con' x).resource.0 ≡ (con x).resource.0 = same (λ c. c.resource.0) e in
        fair lin (λ x j q. f.stands x j (sym (res x) ∙ q)) (λ j n. let v = f.named j n in (v.0, v.1, res v.0 ∙ v.2))

    -- and line j, where its resource stands
    module _ (lin' : ℕ → Line) (j to : ℕ) (b : At lin lin' j (moved_to to (lin j))) where
      at_here : (lin' j).at ≡ to
      at_here = ap (λ l. l.at) b.here

      both : ((y : ℕ) → r.0 ≡ suc y → Stands (con i) (lin' y)) → ((x y : ℕ) → x ≢ i → (con x).resource.0 ≡ suc y → y ≢ j) → ((lin' j).at ≢ 0 → ((lin' j).at ≡ (con i).index.0) × (r.0 ≡ suc j)) → ((x y : ℕ) → y ≢ j → (con x).resource.0 ≡ suc y → x ≢ i) → Fair con' lin'
      both here other found beside = fair lin' stands' named'
        where
          stands' : (x y : ℕ) → (con' x).resource.0 ≡ suc y → Stands (con x) (lin' y)
          stands' x y =
              dite (ℕ_discrete x i)
              (λ (p : x ≡ i). rw p (λ e. here y (sym here-resource ∙ e)))
              (λ p e.
              let e' : (con x).resource.0 ≡ suc y = sym (there-resource x p) ∙ e in
              rw (b.there y (other x y p e')) (f.stands x y e'))

          named' : (y : ℕ) → (lin' y).at ≢ 0 → (x : ℕ) × ((lin' y).at ≡ (con x).index.0) × ((con' x).resource.0 ≡ suc y)
          named' y =
              dite (ℕ_discrete y j)
              (λ (q : y ≡ j). rw q (λ n. let h = found n in (i, h.0, here-resource ∙ h.1)))
              (λ q n.
              let e : (lin' y).at ≡ (lin y).at = ap (λ l. l.at) (b.there y q) in
              let u = f.named y (λ z. n (e ∙ z)) in
              (u.0, e ∙ u.1, there-resource u.0 (beside u.0 y q u.2) ∙ u.2))

      -- line j, which was in the pool, names connector i, which was empty
      pub put : (con i).index.0 ≢ 0 → r.0 ≡ suc j → to ≡ (con i).index.0 → (con i).resource.0 ≡ 0 → (lin j).at ≡ 0 → (lin j).kind ≡ (con i).kind → Fair con' lin'
      put n er ev ri aj k =
          both
          (λ y e. let z : y ≡ j = omega arith in rw z (n, at_here ∙ ev, ap (λ l. l.kind) b.here ∙ k))
          (λ x y p e z. let s = f.stands x y e in s.0 (sym s.1 ∙ ap (λ u. (lin u).at) z ∙ aj))
          (λ _. (at_here ∙ ev, er))
          (λ x y q e z. omega (arith, ap (λ u. (con u).resource.0) z))

      -- line j, which named connector i, goes to the pool, and the connector is emptied
      pub taken : r.0 ≡ 0 → to ≡ 0 → (con i).resource.0 ≡ suc j → Fair con' lin'
      taken er ev ri =
          both
          (λ y e. absurd (omega arith))
          (λ x y p e z. let s = f.stands x y e in p (f.single x i s.0 (sym s.1 ∙ ap (λ u. (lin u).at) z ∙ (f.stands i j ri).1)))
          (λ n. absurd (n (at_here ∙ ev)))
          (λ x y q e z. q (omega (arith, ap (λ u. (con u).resource.0) z)))

  -- one connector more, where a blank was read
  module _ (con' : ℕ → Connector) (n : ℕ) (c : Connector) (a : At con con' n c) (blank : (con n).index.0 ≡ 0) (nz : c.index.0 ≢ 0) (fresh : (x : ℕ) → (con x).index.0 ≢ c.index.0) (kc : known c.kind ≡ true) (empty : c.resource.0 ≡ 0) (pc : c.parent.0 ≢ 0 → (y : ℕ) × Below c (con y)) where
    -- what has an index stands at another place
    beside : (y : ℕ) → (con y).index.0 ≢ 0 → y ≢ n
    beside y p z = p (ap (λ u. (con u).index.0) z ∙ blank)

    below_more : (d : Connector) → (d.parent.0 ≢ 0 → (y : ℕ) × Below d (con y)) → d.parent.0 ≢ 0 → (y : ℕ) × Below d (con' y)
    below_more d g p =
        let b = g p in
        (b.0, rw (a.there b.0 (beside b.0 (λ z. p (sym b.1.index ∙ z)))) b.1)

    single' : (x y : ℕ) → (con' x).index.0 ≢ 0 → (con' x).index.0 ≡ (con' y).index.0 → x ≡ y
    single' x y =
        dite (ℕ_discrete x n)
        (λ (p : x ≡ n).
        dite (ℕ_discrete y n)
        (λ (q : y ≡ n) _ _. p ∙ sym q)
        (λ q. rw (p, a.here, a.there y q) (λ _ e. absurd (fresh y (sym e)))))
        (λ p.
        dite (ℕ_discrete y n)
        (λ (q : y ≡ n). rw (q, a.here, a.there x p) (λ _ e. absurd (fresh x e)))
        (λ q. rw (a.there x p, a.there y q) (f.single x y)))

    pub more-row : Fair con' lin
    more-row =
        record {
          single = single';
          kinded = λ x. dite (ℕ_discrete x n) (λ (p : x ≡ n). rw (p, a.here) (λ _. kc)) (λ p. rw (a.there x p) (f.kinded x));
          stands = λ x j. dite (ℕ_discrete x n) (λ (p : x ≡ n). rw (p, a.here) (λ e. absurd (omega arith))) (λ p. rw (a.there x p) (f.stands x j));
          named = λ j p. let v = f.named j p in let q : con' v.0 ≡ con v.0 = a.there v.0 (beside v.0 (λ z. p (v.1 ∙ z))) in (v.0, v.1 ∙ ap (λ u. u.index.0) (sym q), ap (λ u. u.resource.0) q ∙ v.2);
          below = λ x. dite (ℕ_discrete x n) (λ (p : x ≡ n). rw (p, a.here) (below_more c pc)) (λ p. rw (a.there x p) (below_more (con x) (f.below x)));
        }

  -- one line more, in the pool, where a blank was read
  module _ (lin' : ℕ → Line) (k : ℕ) (l : Line) (a : At lin lin' k l) (blank : (lin k).kind ≡ 0) (pooled : l.at ≡ 0) where
    pub more-line : Fair con lin'
    more-line =
        record {
          single = f.single;
          kinded = f.kinded;
          stands = λ x j e. rw (a.there j (λ z. lined x j e (ap (λ u. (lin u).kind) z ∙ blank))) (f.stands x j e);
          named = λ j p.
              let q : lin' j ≡ lin j = a.there j (λ z. p (ap (λ u. (lin' u).at) z ∙ ap (λ u. u.at) a.here ∙ pooled)) in
              let v = f.named j (λ z. p (ap (λ u. u.at) q ∙ z)) in
              (v.0, ap (λ u. u.at) q ∙ v.1, v.2);
          below = f.below;
        }

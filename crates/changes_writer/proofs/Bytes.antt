-- Operation lists as bytes, put one after the other.
use mathlib.Core.Path.{◌≡◌, refl, ap, sym, ◌∙◌}
use mathlib.Core.Bool.{Bool, true, false}
use mathlib.Core.List.{List, [], ◌∷◌, ◌++◌, append_assoc, flat_map}
use Prim.Native.Nat.{ℕ, zero, suc, ◌+◌, ◌-◌, ◌*◌, ◌<◌, ◌≤◌}
use native.Mathlib.Omega.{arith}
use native.Mathlib.Numerals.{sub-one}
use lib.Dec.{eqb}
use lib.ListN.{length, set, take, length-append}
use lib.Seq.{sets, set_comm, set-set}
use borrow.Author.Tests.{eq-eqb, ne_eqb}
use Rattle.words.specs.Pick.{pick}
use Rattle.words.proofs.Pick.{pick_yes, pick_no}
use Rattle.buffer.specs.Put.{put, bytes32}
use Rattle.buffer.proofs.Put.{put-append, put_in, length-put}
use Rattle.node_changes.specs.Changes.{Change, change, add}
use Rattle.node_changes.specs.Lists.{width, operands, operator, operation}
use Rattle.node_changes.proofs.Windows.{AllKind}
use Rattle.changes_writer.specs.Writer.{bytes_of}
use Rattle.changes_writer.specs.Plan.{list_size, entry_bytes}
use Rattle.changes_writer.proofs.Room.{size_none, size-some}

pub bytes-both : (u v : List ℕ) → bytes_of (u ++ v) ≡ bytes_of u ++ bytes_of v
unfolding flat_map
bytes-both [] v = refl
bytes-both (x ∷ u) v = ap (λ (r : List ℕ). bytes32 x ++ r) (bytes-both u v) ∙ sym (append_assoc (bytes32 x) (bytes_of u) (bytes_of v))

pub bytes-long : (u : List ℕ) → length (bytes_of u) ≡ 4 * length u
unfolding flat_map
bytes-long [] = refl
bytes-long (x ∷ u) = omega (arith, bytes-long u)

pub bytes_one : (x : ℕ) → bytes_of (x ∷ []) ≡ bytes32 x
unfolding flat_map
bytes_one x = refl

-- words after words
pub put_both : (d d₁ d₂ : List ℕ) (at at₁ : ℕ) (u v : List ℕ) → d₁ ≡ put d at (bytes_of u) → at₁ ≡ at + 4 * length u → d₂ ≡ put d₁ at₁ (bytes_of v) → 4 * length u + 4 * length v ≤ length d - at → d₂ ≡ put d at (bytes_of (u ++ v))
put_both d d₁ d₂ at at₁ u v e p f room =
    let long : at₁ ≡ at + length (bytes_of u) = omega (arith, bytes-long u) in
    f ∙ rw (e, long, bytes-both u v) (put-append d at (bytes_of u) (bytes_of v) (omega (arith, bytes-long u, bytes-long v)))

-- ---- how many there are

operands-one : (c : Change) → length (operands c) ≡ width c.kind
unfolding operands pick
operands-one c = test (eqb c.kind add)
  where
    test : (b : Bool) → length (pick b (c.node ∷ c.index ∷ []) (c.node ∷ [])) ≡ pick b 2 1
    test true = refl
    test false = refl

pub operands-bytes : (c : Change) → length (bytes_of (operands c)) ≡ 4 * width c.kind
operands-bytes c = bytes-long (operands c) ∙ ap (λ (n : ℕ). 4 * n) (operands-one c)

module _ (kind : ℕ) where
  pub operands-long : (cs : List Change) → AllKind kind cs → length (flat_map operands cs) ≡ length cs * width kind
  unfolding flat_map
  operands-long [] h = omega arith
  operands-long (c ∷ cs) h =
      length-append (operands c) (flat_map operands cs)
      ∙ rw (operands-one c, h.0, operands-long cs h.1) (omega arith)

  pub operation-long : (cs : List Change) → AllKind kind cs → length (operation kind cs) ≡ list_size (length cs) (width kind)
  unfolding operation
  operation-long [] h = sym (size_none (width kind))
  operation-long (c ∷ cs) h = omega (arith, operands-long (c ∷ cs) h, size-some (suc (length cs)) (width kind) (omega arith))

  -- the operator, and its operands
  pub operation-some : (cs : List Change) → 0 < length cs → AllKind kind cs → operation kind cs ≡ operator kind (length cs * width kind) ∷ flat_map operands cs
  unfolding operation
  operation-some [] some h = absurd (omega arith)
  operation-some (c ∷ cs) some h = ap (λ (n : ℕ). operator kind n ∷ flat_map operands (c ∷ cs)) (operands-long (c ∷ cs) h)

-- ---- one entry after the other

module _ (c : Change) (cs : List Change) (n : ℕ) (some : 0 < n) where
  pub entries-more : entry_bytes (take n (c ∷ cs)) ≡ bytes_of (operands c) ++ entry_bytes (take (n - 1) cs)
  unfolding entry_bytes flat_map
  entries-more = go n some
    where
      go : (n : ℕ) → 0 < n → bytes_of (flat_map operands (take n (c ∷ cs))) ≡ bytes_of (operands c) ++ bytes_of (flat_map operands (take (n - 1) cs))
      go zero h = absurd (omega arith)
      go (suc n) h = rw sub-one (bytes-both (operands c) (flat_map operands (take n cs)))

  pub entries-long : length (entry_bytes (take n (c ∷ cs))) ≡ 4 * width c.kind + length (entry_bytes (take (n - 1) cs))
  entries-long =
      ap length entries-more
      ∙ length-append (bytes_of (operands c)) (entry_bytes (take (n - 1) cs))
      ∙ ap (λ (k : ℕ). k + length (entry_bytes (take (n - 1) cs))) (operands-bytes c)

  pub put-entry : (d d₁ : List ℕ) (to : ℕ) → d₁ ≡ put d to (bytes_of (operands c)) → length (entry_bytes (take n (c ∷ cs))) ≤ length d - to → put d₁ (to + 4 * width c.kind) (entry_bytes (take (n - 1) cs)) ≡ put d to (entry_bytes (take n (c ∷ cs)))
  put-entry d d₁ to e room =
      rw (e, entries-more, ← operands-bytes c) (put-append d to (bytes_of (operands c)) (entry_bytes (take (n - 1) cs)) (omega (arith, entries-long, operands-bytes c)))

-- the operands of one change
pub operands-add : (kind node index : ℕ) → kind ≡ add → operands (change kind node index) ≡ node ∷ index ∷ []
unfolding operands
operands-add kind node index e = pick_yes _ _ _ (eq-eqb kind add e)

pub operands-other : (kind node index : ℕ) → (kind ≡ add → ⊥) → operands (change kind node index) ≡ node ∷ []
unfolding operands
operands-other kind node index e = pick_no _ _ _ (ne_eqb kind add e)

pub width-add : (kind : ℕ) → kind ≡ add → width kind ≡ 2
width-add kind e = pick_yes _ _ _ (eq-eqb kind add e)

pub width-other : (kind : ℕ) → (kind ≡ add → ⊥) → width kind ≡ 1
width-other kind e = pick_no _ _ _ (ne_eqb kind add e)

-- words put one by one
pub put_next : (d d₁ d₂ : List ℕ) (at at₁ : ℕ) (u : List ℕ) (x : ℕ) → d₁ ≡ put d at (bytes_of u) → at₁ ≡ at + 4 * length u → d₂ ≡ put d₁ at₁ (bytes32 x) → 4 * length u + 4 ≤ length d - at → d₂ ≡ put d at (bytes_of (u ++ (x ∷ [])))
put_next d d₁ d₂ at at₁ u x e p f room = put_both d d₁ d₂ at at₁ u (x ∷ []) e p (f ∙ ap (put d₁ at₁) (sym (bytes_one x))) room

pub put_first : (d d₁ : List ℕ) (at x : ℕ) → d₁ ≡ put d at (bytes32 x) → d₁ ≡ put d at (bytes_of (x ∷ []))
put_first d d₁ at x e = e ∙ ap (put d at) (sym (bytes_one x))

module _ (d d₁ : List ℕ) (at kind node index : ℕ) (e : d₁ ≡ put d at (bytes32 node)) where
  pub put_other : (kind ≡ add → ⊥) → d₁ ≡ put d at (bytes_of (operands (change kind node index)))
  put_other other = rw (operands-other kind node index other) (put_first d d₁ at node e)

  pub put-add : (d₂ : List ℕ) → kind ≡ add → d₂ ≡ put d₁ (at + 4) (bytes32 index) → at + 4 * width kind ≤ length d → d₂ ≡ put d at (bytes_of (operands (change kind node index)))
  put-add d₂ same f room = rw (operands-add kind node index same) (put_next d d₁ d₂ at (at + 4) (node ∷ []) index (put_first d d₁ at node e) (omega arith) f (omega (arith, width-add kind same)))

-- the state variable and three zero words
pub put_four : (d d₁ d₂ d₃ d₄ : List ℕ) (x : ℕ) → 16 ≤ length d → d₁ ≡ put d 0 (bytes32 x) → d₂ ≡ put d₁ 4 (bytes32 0) → d₃ ≡ put d₂ 8 (bytes32 0) → d₄ ≡ put d₃ 12 (bytes32 0) → d₄ ≡ put d 0 (bytes_of (x ∷ 0 ∷ 0 ∷ 0 ∷ []))
put_four d d₁ d₂ d₃ d₄ x room e₁ e₂ e₃ e₄ =
    let two = put_next d d₁ d₂ 0 4 (x ∷ []) 0 (put_first d d₁ 0 x e₁) (omega arith) e₂ (omega arith) in
    let three = put_next d d₂ d₃ 0 8 (x ∷ 0 ∷ []) 0 two (omega arith) e₃ (omega arith) in
    put_next d d₃ d₄ 0 12 (x ∷ 0 ∷ 0 ∷ []) 0 three (omega arith) e₄ (omega arith)

-- ---- bytes put over others

set_before : (d : List ℕ) (i at x : ℕ) (g : List ℕ) → i < at → set (sets d at g) i x ≡ sets (set d i x) at g
set_before d i at x [] h = refl
set_before d i at x (y ∷ g) h = set_before (set d at y) i (suc at) x g (omega arith) ∙ ap (λ (r : List ℕ). sets r (suc at) g) (set_comm d at i y x (λ e. omega arith))

sets_over : (d : List ℕ) (at : ℕ) (g bs : List ℕ) → length g ≤ length bs → sets (sets d at g) at bs ≡ sets d at bs
sets_over d at [] bs h = refl
sets_over d at (x ∷ g) [] h = absurd (omega arith)
sets_over d at (x ∷ g) (y ∷ bs) h =
    ap (λ (r : List ℕ). sets r (suc at) bs) (set_before (set d at x) at (suc at) y g (omega arith) ∙ ap (λ (r : List ℕ). sets r (suc at) g) (set-set d at x y))
    ∙ sets_over (set d at y) (suc at) g bs (omega arith)

pub put-over : (d : List ℕ) (at : ℕ) (g bs : List ℕ) → length g ≤ length bs → at + length bs ≤ length d → put (put d at g) at bs ≡ put d at bs
put-over d at g bs fewer room =
    let e = put_in d at g (omega arith) in
    put_in (put d at g) at bs (omega (arith, length-put d at g)) ∙ rw e (sets_over d at g bs fewer) ∙ sym (put_in d at bs (omega arith))

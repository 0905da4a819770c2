-- The operation lists of portions, put one after the other.
use mathlib.Core.Path.{◌≡◌, ap, ◌∙◌}
use mathlib.Core.List.{List, [], ◌∷◌, ◌++◌, append_assoc, flat_map}
use Prim.Native.Nat.{ℕ, ◌+◌, ◌*◌, ◌<◌, ◌≤◌}
use native.Mathlib.Omega.{arith}
use lib.ListN.{length, take, drop, length-append, length-take, length-drop}
use lib.Seq.{sets}
use Rattle.words.specs.Pick.{pick}
use Rattle.buffer.specs.Put.{put, bytes32}
use Rattle.buffer.proofs.Put.{put_in}
use Rattle.node_changes.specs.Changes.{Change, delete, update, add, of_kind}
use Rattle.node_changes.specs.Lists.{area_bytes, width, operands, operator, operation}
use Rattle.node_changes.proofs.Windows.{AllKind, of-kind, kind-take, kind-drop}
use Rattle.changes_writer.specs.declared.Plan.{Plan}
use Rattle.changes_writer.specs.declared.Portion.{Portion}
use Rattle.changes_writer.specs.Writer.{bytes_of}
use Rattle.changes_writer.specs.Plan.{list_size, in_portion, entry_bytes, lists_of, PortionFits, PlanFits}
use Rattle.changes_writer.proofs.Room.{size-some}
use Rattle.changes_writer.proofs.Bytes.{bytes-long, operands-long, operation-long, operation-some, put_both, put_first, put_next}

module _ (kind : ℕ) (p : Portion) (cs : List Change) where
  abbrev some : List Change
  some = in_portion kind p cs

  all-kind : AllKind kind some
  unfolding in_portion
  all-kind = kind-take kind p.count (drop p.skip (of_kind kind cs)) (kind-drop kind p.skip (of_kind kind cs) (of-kind kind cs))

  pub portion-none : p.count ≡ 0 → operation kind some ≡ []
  unfolding in_portion operation
  portion-none e = rw e

  module _ (f : PortionFits kind p cs) where
    portion-long : length some ≡ p.count
    unfolding in_portion
    portion-long = length-take p.count (drop p.skip (of_kind kind cs)) ∙ omega (arith, length-drop p.skip (of_kind kind cs), f.there)

    pub list-long : length (operation kind some) ≡ list_size p.count (width kind)
    list-long = operation-long kind some all-kind ∙ ap (λ (n : ℕ). list_size n (width kind)) portion-long

    pub entries-long : length (entry_bytes some) ≡ 4 * (p.count * width kind)
    unfolding entry_bytes
    entries-long = bytes-long (flat_map operands some) ∙ ap (λ (n : ℕ). 4 * n) (operands-long kind some all-kind ∙ ap (λ (n : ℕ). n * width kind) portion-long)

    -- the same, as a search for it gives them
    module _ (rest : List Change) (e : rest ≡ drop p.skip (of_kind kind cs)) where
      pub portion-from : take p.count rest ≡ some
      unfolding in_portion
      portion-from = ap (take p.count) e

      pub portion-there : p.count ≤ length rest
      portion-there = omega (arith, ap length e, length-drop p.skip (of_kind kind cs), f.there)

      pub portion-room : (d : List ℕ) (at : ℕ) → 0 < p.count → at + 4 * list_size p.count (width kind) ≤ length d → at + 4 + length (entry_bytes (take p.count rest)) ≤ length d
      portion-room d at more room = rw portion-from (omega (arith, entries-long, size-some p.count (width kind) more))

    -- the operator, then its operands
    pub put-list : (d d₁ d₂ : List ℕ) (at : ℕ) → 0 < p.count → d₁ ≡ put d at (bytes32 (operator kind (p.count * width kind))) → d₂ ≡ put d₁ (at + 4) (entry_bytes some) → at + 4 * list_size p.count (width kind) ≤ length d → d₂ ≡ put d at (bytes_of (operation kind some))
    unfolding entry_bytes
    put-list d d₁ d₂ at more e g room =
        let o = operator kind (p.count * width kind) in
        let l : operation kind some ≡ o ∷ flat_map operands some = operation-some kind some (omega (arith, portion-long)) all-kind ∙ ap (λ (n : ℕ). operator kind (n * width kind) ∷ flat_map operands some) portion-long in
        rw l
        (put_both d d₁ d₂ at (at + 4) (o ∷ []) (flat_map operands some) (put_first d d₁ at o e) (omega arith) g
        (omega (arith, operands-long kind some all-kind ∙ ap (λ (n : ℕ). n * width kind) portion-long, size-some p.count (width kind) more)))

-- head, three lists and the terminator
module _ (p : Plan) (cs : List Change) (f : PlanFits p cs) (d : List ℕ) (state : ℕ) (long : length d ≡ area_bytes) where
  abbrev head : List ℕ
  head = state ∷ 0 ∷ 0 ∷ 0 ∷ []

  abbrev ds : List ℕ
  ds = operation delete (in_portion delete p.deletes cs)

  abbrev us : List ℕ
  us = operation update (in_portion update p.updates cs)

  abbrev as' : List ℕ
  as' = operation add (in_portion add p.adds cs)

  -- where each list ends
  abbrev end_d : ℕ
  end_d = 16 + 4 * list_size p.deletes.count (width delete)

  abbrev end_u : ℕ
  end_u = end_d + 4 * list_size p.updates.count (width update)

  abbrev end_a : ℕ
  end_a = end_u + 4 * list_size p.adds.count (width add)

  pub within : end_a + 4 ≤ area_bytes
  unfolding pick
  within = omega (arith, f.room)

  pub put-area : (d₁ d₂ d₃ d₄ d₅ : List ℕ) (r₁ r₂ r₃ : ℕ) → d₁ ≡ put d 0 (bytes_of head) → d₂ ≡ put d₁ 16 (bytes_of ds) → r₁ ≡ end_d → d₃ ≡ put d₂ r₁ (bytes_of us) → r₂ ≡ r₁ + 4 * list_size p.updates.count (width update) → d₄ ≡ put d₃ r₂ (bytes_of as')
      → r₃ ≡ r₂ + 4 * list_size p.adds.count (width add) → d₅ ≡ put d₄ r₃ (bytes32 0) → d₅ ≡ sets d 0 (bytes_of ((state ∷ 0 ∷ 0 ∷ 0 ∷ lists_of p cs) ++ (0 ∷ [])))
  unfolding lists_of
  put-area d₁ d₂ d₃ d₄ d₅ r₁ r₂ r₃ e₁ e₂ p₁ e₃ p₂ e₄ p₃ e₅ =
      let z = within in
      let ld = list-long delete p.deletes cs f.deletes in
      let lu = list-long update p.updates cs f.updates in
      let la = list-long add p.adds cs f.adds in
      let l₂ = length-append ds us in
      let l₃ = length-append (ds ++ us) as' in
      let two = put_both d d₁ d₂ 0 16 head ds e₁ (omega arith) e₂ (omega arith) in
      let three = put_both d d₂ d₃ 0 r₁ (head ++ ds) us two (omega arith) e₃ (omega arith) in
      let four = put_both d d₃ d₄ 0 r₂ (head ++ ds ++ us) as' three (omega arith) e₄ (omega arith) in
      let five = put_next d d₄ d₅ 0 r₃ (head ++ ds ++ us ++ as') 0 four (omega arith) e₅ (omega arith) in
      let all : List ℕ = head ++ ds ++ us ++ as' ++ (0 ∷ []) in
      five
      ∙ put_in d 0 (bytes_of all) (omega (arith, bytes-long all, length-append (head ++ ds ++ us ++ as') (0 ∷ [])))
      ∙ ap (λ (u : List ℕ). sets d 0 (bytes_of ((head ++ u) ++ (0 ∷ [])))) (append_assoc ds us as')

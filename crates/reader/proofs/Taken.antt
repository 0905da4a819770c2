-- Laws of `sensible`, `taken` and `reply`: from what the code decided to the definitions.
use mathlib.Core.Path.{◌≡◌, refl, sym, subst, ◌∙◌}
use mathlib.Core.Bool.{Bool, true, false, not}
use mathlib.Core.List.{List, [], ◌∷◌, ◌++◌}
use mathlib.Core.Logic.{⊎_elim}
use Prim.Native.Nat.{ℕ, zero, suc, ◌+◌, ◌<◌, ◌≤◌}
use native.Mathlib.Omega.{arith}
use lib.ListN.{length, take, length-append}
use lib.Seq.{sets}
use lib.IntN.{ℤ}
use lib.Dec.{eqb, leb, ltb}
use borrow.Author.Tests.{leb-true, le-leb, eqb-true, not-true, not-false}
use Rattle.words.specs.Pick.{pick, every}
use Rattle.words.specs.Bytes.{part}
use Rattle.words.proofs.Pick.{pick-cases, pick-either, pick_yes, every-each, each-every, every-never}
use Rattle.devtree.specs.Tokens.{up4}
use Rattle.buffer.proofs.Put.{length_part}
use Rattle.reader.specs.Bytes.{begin_bytes, prop_bytes}
use Rattle.name_places.specs.Names.{place_of, new_name}
use Rattle.name_places.specs.Places.{is_property, no_place, property_place, place_for, lies_in}
use Rattle.replies.specs.Replies.{kind_of, most, waits}
use Rattle.sensible.specs.Sensible.{parts_of, name_fits, value_fits, parts_fit, allowed, area_size, sensible}
use Rattle.reader.specs.Replies.{tokens_of, next, outcome, kept, added, taken, reply}
use Rattle.after_reply.specs.After.{answer_of}
use Rattle.reader.specs.Steps.{Sound, size_of, fresh_bytes}
use Rattle.reader.proofs.Written.{length-filled}
use Rattle.replies.specs.declared.Reader.{Reader}
use Rattle.replies.specs.declared.Reading.{Reading}
use Rattle.replies.specs.declared.Reading.TheVariants.{Waiting, Senseless, NoRoom}
use Rattle.sensible.specs.declared.Parts.{Parts}
use Rattle.name_places.specs.declared.Place.{Place}
use Rattle.replies.specs.declared.ReplyKind.{ReplyKind}
use Rattle.replies.specs.declared.ReplyKind.TheVariants.{Last, Sibling, Child, Property, Parent, Wait, Other}

-- ---- a reply that makes sense

area-within : (n : ℕ) → area_size n ≡ true → 4096 ≤ n
area-within n e = ⊎_elim (λ w. omega (arith, eqb-true n 4096 w.0)) (λ w. omega (arith, eqb-true n 8192 w.1)) (pick-either (eqb n 4096) true (eqb n 8192) e)

-- where the parts of a reply lie
abbrev Lie : Parts → ℕ → Type 0
Lie p area = (p.n ≤ 48) × (p.name + p.n ≤ area) × (p.value + p.len ≤ area)

parts-lie : (k : ReplyKind) (area : List ℕ) → 4096 ≤ length area → parts_fit k (parts_of k area) (length area) ≡ true → Lie (parts_of k area) (length area)
unfolding name_fits value_fits
parts-lie Last area h e = (omega arith, omega arith, omega arith)
parts-lie Sibling area h e = let f = every-each _ e in (omega (arith, leb-true), omega (arith, leb-true), omega arith)
parts-lie Child area h e = let f = every-each _ e in (omega (arith, leb-true), omega (arith, leb-true), omega arith)
parts-lie Property area h e =
    let f = every-each _ e in
    let g = every-each _ f.0 in
    let v = every-each _ f.1.0 in
    (omega (arith, leb-true), omega (arith, leb-true), omega (arith, leb-true))
parts-lie Parent area h e = (omega arith, omega arith, omega arith)
parts-lie Wait area h e = (omega arith, omega arith, omega arith)
parts-lie Other area h e = (omega arith, omega arith, omega arith)

pub sensible-sound : (r : Reader) (k : ReplyKind) (area : List ℕ) (s st : ℕ) → sensible r k (parts_of k area) (length area) s st ≡ true → Sound r k (parts_of k area) (length area) s st
unfolding sensible
sensible-sound r k area s st e =
    let f = every-each _ e in
    let a = area-within (length area) f.1.1.1.1.0 in
    let l = parts-lie k area a f.1.1.1.1.1.1.0 in
    record {
      structure = leb-true _ _ f.0;
      strings = leb-true _ _ f.1.0;
      depth = leb-true _ _ f.1.1.0;
      parent = λ p. omega (arith, leb-true 2 r.depth (subst (λ j. allowed j r.depth r.node ≡ true) p f.1.1.1.1.1.0));
      size = l.0;
      name = l.1;
      value = l.2;
    }

-- ---- how much a reply adds

token-size : (k : ReplyKind) (p : Parts) (place : ℕ) (name value : List ℕ) → length name ≡ p.n → length value ≡ p.len → length (tokens_of k place name value) ≡ size_of k p
unfolding tokens_of begin_bytes prop_bytes
token-size Last p place name value l m = refl
token-size Sibling p place name value l m = rw l (omega (arith, length-filled (up4 (p.n + 1)) name (omega arith)))
token-size Child p place name value l m = rw l (omega (arith, length-filled (up4 (p.n + 1)) name (omega arith)))
token-size Property p place name value l m = rw m (omega (arith, length-filled (up4 p.len) value (omega arith)))
token-size Parent p place name value l m = refl
token-size Wait p place name value l m = refl
token-size Other p place name value l m = refl

fresh-size : (fresh n : ℕ) (name : List ℕ) → length name ≡ n → (0 < fresh → fresh ≡ n + 1) → length (fresh_bytes fresh name) ≡ fresh
fresh-size zero n name l h = refl
fresh-size (suc fresh) n name l h = length-append name (0 ∷ []) ∙ omega (arith, h (omega arith))

-- what was written is what is added
pub wrote : (r : Reader) (k : ReplyKind) (p : Parts) (place fresh size : ℕ) (name value : List ℕ) (a : Reading) (r' : Reader) (s st s' st' : List ℕ) → length name ≡ p.n → length value ≡ p.len → (0 < fresh → fresh ≡ p.n + 1) → size ≡ size_of k p → a ≡ answer_of k → r' ≡ next r k size fresh → s' ≡ sets s r.structure (tokens_of k place name value) → st' ≡ sets st r.strings (fresh_bytes fresh name) → outcome (record { answer = a; reader = r' }) s' st' ≡ added r k (tokens_of k place name value) (fresh_bytes fresh name) s st
wrote r k p place fresh size name value a r' s st s' st' l m f e ea er es est =
    rw (token-size k p place name value l m, fresh-size fresh p.n name l f, ← e, ea, er, es, est)

-- ---- taken, or no room

pick-new : (P : List ℕ → Type 0) (name used : List ℕ) → P [] → P (name ++ (0 ∷ [])) → P (new_name name used)
unfolding new_name
pick-new P name used x y = pick-cases P (ltb (place_of name used) (length used)) [] (name ++ (0 ∷ [])) (λ e. x) (λ e. y)

fresh-whole : (name : List ℕ) → fresh_bytes (length (name ++ (0 ∷ []))) name ≡ name ++ (0 ∷ [])
fresh-whole [] = refl
fresh-whole (b ∷ bs) = refl

-- of a property, or of no property: the new name's bytes, how many they are, and that they are all or none
module _ (name used : List ℕ) where
  fresh-bytes : (b : Bool) → fresh_bytes (pick b (property_place name used) no_place).fresh name ≡ pick b (new_name name used) []
  unfolding pick
  fresh-bytes true = pick-new (λ l. fresh_bytes (length l) name ≡ l) name used refl (fresh-whole name)
  fresh-bytes false = refl

  fresh-length : (b : Bool) → length (pick b (new_name name used) []) ≡ (pick b (property_place name used) no_place).fresh
  unfolding pick
  fresh-length true = refl
  fresh-length false = refl

  fresh-is : (b : Bool) (n : ℕ) → length name ≡ n → 0 < (pick b (property_place name used) no_place).fresh → (pick b (property_place name used) no_place).fresh ≡ n + 1
  unfolding pick
  fresh-is true n l h = pick-new (λ x. 0 < length x → length x ≡ n + 1) name used (λ i. absurd (omega arith)) (λ i. rw (← l) (length-append name (0 ∷ []))) h
  fresh-is false n l h = absurd (omega arith)

-- only a property's tokens look at the place
place-only : (k : ReplyKind) (name used value : List ℕ) → tokens_of k (place_for k name used).at name value ≡ tokens_of k (place_of name used) name value
unfolding tokens_of pick
place-only Last name used value = refl
place-only Sibling name used value = refl
place-only Child name used value = refl
place-only Property name used value = refl
place-only Parent name used value = refl
place-only Wait name used value = refl
place-only Other name used value = refl

module _ (r : Reader) (k : ReplyKind) (p : Parts) (area s st : List ℕ) (sound : Sound r k p (length area) (length s) (length st)) where
  abbrev name : List ℕ
  name = part area p.name p.n

  abbrev value : List ℕ
  value = part area p.value p.len

  abbrev used : List ℕ
  used = take r.strings st

  tokens-size : (place : ℕ) → length (tokens_of k place name value) ≡ size_of k p
  tokens-size place =
      token-size k p place name value
      (length_part area p.name p.n (omega arith))
      (length_part area p.value p.len (omega arith))

  module _ (size : ℕ) (e : size ≡ size_of k p) (b : Bool) (eb : b ≡ leb (r.structure + size) (most (length s))) where
    pub no_room : not b ≡ true → kept NoRoom r s st ≡ taken r k p area s st
    unfolding taken pick
    no_room h = rw (tokens-size (place_of name used), ← e, ← eb, not-true b h, every-never [] _)

    module _ (q : Place) (placed : q ≡ pick (lies_in p (length area) (length st) r.strings) (place_for k name used) no_place) (d : Bool) (ed : d ≡ leb (r.strings + q.fresh) (most (length st))) where
      eq : q ≡ place_for k name used
      unfolding lies_in
      eq =
          placed
          ∙ pick_yes _ _ _ (each-every _ (le-leb r.strings (length st) (omega arith), (le-leb p.n 48 (omega arith), (le-leb (p.name + p.n) (length area) (omega arith), tt))))

      pub no-strings : not d ≡ true → kept NoRoom r s st ≡ taken r k p area s st
      unfolding taken pick
      no-strings h = rw (fresh-length name used (is_property k), ← eq, ← ed, not-true d h, every-never (_ ∷ []) _)

      module _ (hb : not b ≡ false) (hd : not d ≡ false) where
        pub has_room : added r k (tokens_of k q.at name value) (fresh_bytes q.fresh name) s st ≡ taken r k p area s st
        unfolding taken every pick
        has_room =
            rw (eq, place-only k name used value, fresh-bytes name used (is_property k), tokens-size (place_of name used), fresh-length name used (is_property k), ← eq, ← ed, not-false d hd, ← e, ← eb, not-false b hb)

        pub may_write : Sound r k p (length area) (length s) (length st) × (size ≡ size_of k p) × (r.structure + size ≤ most (length s)) × (r.strings + q.fresh ≤ most (length st)) × (0 < q.fresh → q.fresh ≡ p.n + 1)
        may_write = (
          sound,
          e,
          leb-true _ _ (sym eb ∙ not-false b hb),
          leb-true _ _ (sym ed ∙ not-false d hd),
          rw eq (fresh-is name used (is_property k) p.n (length_part area p.name p.n (omega arith))),
        )

-- ---- the answer

module _ (r : Reader) (z : ℤ) (area s st : List ℕ) (k : ReplyKind) (p : Parts) (b : Bool) (ek : k ≡ kind_of z) (ep : p ≡ parts_of k area) (eb : b ≡ sensible r k p (length area) (length s) (length st)) where
  pub senseless : not b ≡ true → kept Senseless r s st ≡ reply r z area s st
  unfolding reply pick
  senseless h = rw (← ek, ← ep, ← eb, h)

  module _ (h : not b ≡ false) where
    pub sound : Sound r k p (length area) (length s) (length st)
    sound = rw ep (sensible-sound r k area (length s) (length st) (rw (← ep, ← eb) (not-false b h)))

    module _ (w : Bool) (ew : w ≡ waits k) where
      pub waiting : w ≡ true → kept Waiting r s st ≡ reply r z area s st
      unfolding reply pick
      waiting hw = rw (← ek, ← ep, ← eb, h, ← ew, hw)

      pub taking : w ≡ false → taken r k p area s st ≡ reply r z area s st
      unfolding reply pick
      taking hw = rw (← ek, ← ep, ← eb, h, ← ew, hw)

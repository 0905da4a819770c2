-- A token is read from its own bytes and the no-ops before it: where the same bytes stand elsewhere, the same token is read there.
use mathlib.Core.Path.{◌≡◌, refl, sym, ap, subst, ◌∙◌}
use mathlib.Core.List.{List, ◌++◌}
use mathlib.Core.Bool.{Bool, true, false}
use Prim.Native.Nat.{ℕ, zero, suc, ◌+◌, ◌-◌, ◌%◌, ◌<◌, ◌≤◌}
use native.Mathlib.Omega.{arith}
use native.Mathlib.Nat.{add-zero, add_assoc}
use lib.ListN.{length, get_or, drop, length-append, get_or-append}
use lib.Seq.{get_or-take, get_or-drop, get_or-append-add, ext_get_or}
use lib.Dec.{eqb, ltb}
use borrow.Author.Tests.{eqb-true, le-ltb, lt-ltb, le-leb}
use Rattle.words.specs.Pick.{pick}
use Rattle.words.specs.Bytes.{part, word_at, name_length, zero_at}
use Rattle.words.proofs.Pick.{pick-cases, pick_yes, pick_no, each-every}
use Rattle.words.proofs.Bytes.{word_in, word-is}
use Rattle.buffer.proofs.Put.{length_part}
use Rattle.devtree.specs.Tokens.{up4, skip_up_to, skipped, begin_at, begin_named, property_at, property_named, fault_at, token_of, token_at, tokens, and_then}
use Rattle.devtree.specs.Check.{clean}
use Rattle.devtree.specs.declared.Token.{Token}
use Rattle.devtree.specs.declared.Token.TheVariants.{Begin, Property, EndNode, End, Fault}
use Rattle.devtree.proofs.Tokens.{skips-more, skips-other, begin_tests, property_tests, Within, Named, tokens-law, lies, named}

-- ---- no-ops

-- from `at` to x there are no-ops only
pub data NoOps (s : List ℕ) : ℕ → ℕ → Type 0 where
  here : {x : ℕ} → NoOps s x x
  another : {at x : ℕ} → word_at s at ≡ 4 → NoOps s (at + 4) x → NoOps s at x

no-ops-upto : (k : ℕ) (s : List ℕ) (at : ℕ) → NoOps s at (skip_up_to k s at)
unfolding skip_up_to
no-ops-upto zero s at = here
no-ops-upto (suc k) s at = pick-cases (NoOps s at) (eqb (word_at s at) 4) _ _ (λ e. another (eqb-true _ _ e) (no-ops-upto k s (at + 4))) (λ e. here)

pub no-ops : (s : List ℕ) (at : ℕ) → NoOps s at (skipped s at)
unfolding skipped
no-ops s at = no-ops-upto (length s) s at

pub no-ops-four : {s : List ℕ} {at x : ℕ} → NoOps s at x → (at ≤ x) × ((x - at) % 4 ≡ 0)
no-ops-four here = (omega arith, omega arith)
no-ops-four (another e r) = let f = no-ops-four r in (omega arith, omega arith)

skip-enough : (k j : ℕ) (s : List ℕ) (at : ℕ) → length s ≤ at + k → length s ≤ at + j → skip_up_to k s at ≡ skip_up_to j s at
unfolding skip_up_to
skip-enough zero zero s at h h' = refl
skip-enough zero (suc j) s at h h' = skips-other s at _ (suc j) refl (λ e. let i = word_in s at (λ z. omega arith) in omega arith)
skip-enough (suc k) zero s at h h' = sym (skips-other s at _ (suc k) refl (λ e. let i = word_in s at (λ z. omega arith) in omega arith))
skip-enough (suc k) (suc j) s at h h' = rw (skip-enough k j s (at + 4) (omega arith) (omega arith))

skip-past : {s : List ℕ} {at x : ℕ} → NoOps s at x → skipped s at ≡ skipped s x
unfolding skipped
skip-past here = refl
skip-past {s} {at} (another e r) =
    let on = skips-more s at _ (length s) (omega arith) refl e in
    sym on.2 ∙ skip-enough on.0 (length s) s (at + 4) on.1 (omega arith) ∙ skip-past r

pub token-past : {s : List ℕ} {at x : ℕ} (st : List ℕ) → NoOps s at x → token_at s st at ≡ token_at s st x
unfolding token_at
token-past st r = rw (skip-past r)

pub tokens-past : {s : List ℕ} {at x : ℕ} (st : List ℕ) → NoOps s at x → tokens s st at ≡ tokens s st x
tokens-past {s} {at} {x} st r = tokens-law s st at ∙ ap (and_then (tokens s st)) (token-past st r) ∙ sym (tokens-law s st x)

-- ---- the same bytes

-- the n bytes of s from `at` on stand in s' from `to` on
pub record Same (s : List ℕ) (at : ℕ) (s' : List ℕ) (to n : ℕ) : Type 0 where
  pub from : at + n ≤ length s
  pub fits : to + n ≤ length s'
  pub bytes : (j : ℕ) → j < n → get_or s' (to + j) 0 ≡ get_or s (at + j) 0

pub same-placed : (pre more s : List ℕ) (at n : ℕ) → at + n ≤ length s → Same s at (pre ++ (part s at n ++ more)) (length pre) n
unfolding part
same-placed pre more s at n h =
    let long : length (part s at n) ≡ n = length_part s at n (omega arith) in
    record {
      from = h;
      fits = omega (arith, length-append pre (part s at n ++ more), length-append (part s at n) more);
      bytes =
          λ j l. get_or-append-add pre (part s at n ++ more) j 0 ∙ get_or-append (part s at n) more 0 j (omega arith)
          ∙ get_or-take n (drop at s) j 0 l ∙ get_or-drop at s j 0;
    }

module _ (s : List ℕ) (at : ℕ) (s' : List ℕ) (to n : ℕ) (e : Same s at s' to n) where
  pub same-later : (k m : ℕ) → k + m ≤ n → Same s (at + k) s' (to + k) m
  same-later k m h =
      record {
        from = omega (arith, e.from);
        fits = omega (arith, e.fits);
        bytes = λ j l. rw (add_assoc to k j, add_assoc at k j) (e.bytes (k + j) (omega arith));
      }

  pub same_word : (k : ℕ) → k + 4 ≤ n → word_at s' (to + k) ≡ word_at s (at + k)
  same_word k h =
      let b : (j : ℕ) → j < 4 → get_or s' (to + k + j) 0 ≡ get_or s (at + k + j) 0 = (same-later k 4 h).bytes in
      word-is s' (to + k) (omega (arith, e.fits))
      ∙ rw (e.bytes k (omega arith), b 1 (omega arith), b 2 (omega arith), b 3 (omega arith)) (sym (word-is s (at + k) (omega (arith, e.from))))

  pub same-part : (k m : ℕ) → k + m ≤ n → part s' (to + k) m ≡ part s (at + k) m
  unfolding part
  same-part k m h =
      let long : length (part s (at + k) m) ≡ m = length_part s (at + k) m (omega (arith, e.from)) in
      let long' : length (part s' (to + k) m) ≡ m = length_part s' (to + k) m (omega (arith, e.fits)) in
      ext_get_or 0 (part s' (to + k) m) (part s (at + k) m) (omega arith)
      (λ j l. rw (get_or-take m (drop (to + k) s') j 0 (omega arith), get_or-drop (to + k) s' j 0, get_or-take m (drop (at + k) s) j 0 (omega arith), get_or-drop (at + k) s j 0) ((same-later k m h).bytes j (omega arith)))

  pub same-zero : (m k : ℕ) → k + m ≤ n → zero_at m s' (to + k) ≡ zero_at m s (at + k)
  unfolding zero_at
  same-zero zero k h = refl
  same-zero (suc m) k h = rw (e.bytes k (omega arith), add_assoc to k 1, add_assoc at k 1, same-zero m (k + 1) (omega arith))

  -- a name that ends among them
  pub same_name : (limit k : ℕ) → name_length limit s (at + k) < limit → k + name_length limit s (at + k) < n → name_length limit s' (to + k) ≡ name_length limit s (at + k)
  unfolding name_length pick
  same_name zero k h l = absurd (omega arith)
  same_name (suc limit) k h l =
      rw (e.bytes k (omega arith)) (go (eqb (get_or s (at + k) 0) 0) h l (rw (← add_assoc to k 1, ← add_assoc at k 1) at (same_name limit (k + 1))))
    where
      go : (b : Bool) → pick b 0 (suc (name_length limit s (at + k + 1))) < suc limit → k + pick b 0 (suc (name_length limit s (at + k + 1))) < n
          → (name_length limit s (at + k + 1) < limit → k + 1 + name_length limit s (at + k + 1) < n → name_length limit s' (to + k + 1) ≡ name_length limit s (at + k + 1))
          → pick b 0 (suc (name_length limit s' (to + k + 1))) ≡ pick b 0 (suc (name_length limit s (at + k + 1)))
      go true h l next = refl
      go false h l next = ap suc (next (omega arith) (omega arith))

-- no-ops among them
pub same-no-ops : {s : List ℕ} {at x : ℕ} (s' : List ℕ) (to n : ℕ) → NoOps s at x → x ≤ at + n → Same s at s' to n → NoOps s' to (to + (x - at))
same-no-ops {at = at} s' to n here h e = let stays : to + (at - at) ≡ to = omega arith in rw stays here
same-no-ops {s} {at} {x} s' to n (another w r) h e =
    let on = no-ops-four r in
    let there : to + (x - at) ≡ to + 4 + (x - (at + 4)) = omega arith in
    let word : word_at s' to ≡ word_at s at = rw (add-zero to, add-zero at) at (same_word s at s' to n e 0 (omega arith)) in
    rw there (another (word ∙ w) (same-no-ops s' (to + 4) (n - 4) r (omega arith) (same-later s at s' to n e 4 (n - 4) (omega arith))))

-- ---- what is known of a token

-- its words, where x is the place after the no-ops
abbrev pub Words : List ℕ → ℕ → Token → Type 0
Words s x (Begin p a n next) = (p ≡ x) × (word_at s p ≡ 1) × (next ≡ p + 4 + up4 (n + 1))
Words s x (Property p a n v l next) = (p ≡ x) × (word_at s p ≡ 3) × (word_at s (p + 4) ≡ l) × (word_at s (p + 8) ≡ a) × (next ≡ p + 12 + up4 l)
Words s x (EndNode p next) = (p ≡ x) × (word_at s p ≡ 2)
Words s x (End p next) = (p ≡ x) × (word_at s p ≡ 9)
Words s x (Fault p) = Unit

begin-words : (s : List ℕ) (x : ℕ) → word_at s x ≡ 1 → Words s x (begin_at s x)
unfolding begin_at begin_named
begin-words s x w = pick-cases (Words s x) (begin_tests (name_length 48 s (x + 4)) (length s - (x + 4))) _ _ (λ e. (refl, w, refl)) (λ e. tt)

property-words : (s st : List ℕ) (x : ℕ) → word_at s x ≡ 3 → Words s x (property_at s st x)
unfolding property_at property_named
property-words s st x w =
    let a : ℕ = word_at s (x + 8) in
    pick-cases (Words s x) (ltb (length s - x) 12) _ _ (λ e. tt)
    (λ e. pick-cases (Words s x) (property_tests (name_length 32 st a) (length st - a) (word_at s (x + 4)) (length s - (x + 12))) _ _ (λ f. (refl, w, refl, refl, refl)) (λ f. tt))

token-words : (s st : List ℕ) (at : ℕ) → Words s (skipped s at) (token_at s st at)
unfolding token_at token_of fault_at
token-words s st at =
    let x : ℕ = skipped s at in
    let k : ℕ = word_at s x in
    pick-cases (Words s x) (eqb k 1) _ _ (λ u. begin-words s x (eqb-true _ _ u))
    (λ u. pick-cases (Words s x) (eqb k 2) _ _ (λ v. (refl, eqb-true _ _ v))
    (λ v. pick-cases (Words s x) (eqb k 3) _ _ (λ w. property-words s st x (eqb-true _ _ w))
    (λ w. pick-cases (Words s x) (eqb k 9) _ _ (λ y. (refl, eqb-true _ _ y)) (λ y. tt))))

pub record Read (s st : List ℕ) (at : ℕ) (t : Token) : Type 0 where
  pub lies : Within s at t
  pub named : Named s st t
  pub words : Words s (skipped s at) t
  pub gap : (at ≤ skipped s at) × ((skipped s at - at) % 4 ≡ 0)

pub read : (s st : List ℕ) (at : ℕ) (t : Token) → token_at s st at ≡ t → Read s st at t
read s st at t e = record { lies = lies s st at t e; named = named s st at t e; words = subst (Words s (skipped s at)) e (token-words s st at); gap = no-ops-four (no-ops s at) }

-- ---- a token read elsewhere

-- the token at `at` in s, where its bytes up to `next` stand in s' at `to`
module _ (s s' st : List ℕ) (at to next : ℕ) (same : Same s at s' to (next - at)) where
  -- a place there
  abbrev there : ℕ → ℕ
  there x = to + (x - at)

  module _ (p : ℕ) (is : p ≡ skipped s at) (less : p + 4 ≤ next) where
    before : NoOps s at p
    before = rw is (no-ops s at)

    later : Same s p s' (there p) (next - p)
    later =
        let f = no-ops-four before in
        let back : at + (p - at) ≡ p = omega arith in
        rw back at (same-later s at s' to (next - at) same (p - at) (next - p) (omega arith))

    token-there : (kind : ℕ) → word_at s p ≡ kind → (kind ≡ 4 → ⊥) → token_at s' st to ≡ token_of s' st (there p) kind
    unfolding token_at skipped
    token-there kind k other =
        let f = no-ops-four before in
        let word : word_at s' (there p) ≡ kind = rw (add-zero (there p), add-zero p) at (same_word s p s' (there p) (next - p) later 0 (omega arith)) ∙ k in
        let stays : skipped s' (there p) ≡ there p = sym (skips-other s' (there p) _ (length s') refl (λ e. other (sym word ∙ e))) in
        token-past st (same-no-ops s' to (next - at) before (omega arith) same) ∙ rw (stays, word)

  -- a begin-node: its token, its name and its padding
  module _ (p a n : ℕ) (e : token_at s st at ≡ Begin p a n next) where
    known : Read s st at (Begin p a n next)
    known = read s st at _ e

    begin-same : Same s p s' (there p) (next - p)
    begin-same = later p known.words.0 (omega (arith, known))

    pub begin-there : token_at s' st to ≡ Begin (there p) (there p + 4) n (there next)
    unfolding token_of begin_at begin_named pick
    begin-there =
        let r = known in
        let is : name_length 48 s (p + 4) ≡ n = rw r.lies.1 at r.named.0 in
        let name : name_length 48 s' (there p + 4) ≡ n = same_name s p s' (there p) (next - p) begin-same 48 4 (omega arith) (omega arith) ∙ is in
        let ends : there p + 4 + up4 (n + 1) ≡ there next = omega arith in
        let room : up4 (n + 1) ≤ length s' - (there p + 4) = omega (arith, same.fits) in
        token-there p r.words.0 (omega arith) 1 r.words.1 (λ z. omega arith)
        ∙ rw (name, ← ends) (pick_yes _ _ _ (each-every _ (le-leb _ _ r.named.1, (le-leb _ _ r.named.2, (le-leb _ _ room, tt)))))

    pub begin-name : part s' (there p + 4) n ≡ part s a n
    begin-name = let r = known in rw r.lies.1 (same-part s p s' (there p) (next - p) begin-same 4 n (omega arith))

    pub begin-clean : clean s' (Begin (there p) (there p + 4) n (there next)) ≡ clean s (Begin p a n next)
    unfolding clean
    begin-clean =
        let r = known in
        let size : there next - (there p + (4 + n)) ≡ next - (p + (4 + n)) = omega arith in
        rw (r.lies.1, add_assoc (there p) 4 n, add_assoc p 4 n, size) (same-zero s p s' (there p) (next - p) begin-same (next - (p + (4 + n))) (4 + n) (omega arith))

  -- a property: its token, its value and its padding; its name stands in the strings block
  module _ (p a n v l : ℕ) (e : token_at s st at ≡ Property p a n v l next) where
    known-property : Read s st at (Property p a n v l next)
    known-property = read s st at _ e

    property-same : Same s p s' (there p) (next - p)
    property-same = later p known-property.words.0 (omega (arith, known-property))

    pub property-there : token_at s' st to ≡ Property (there p) a n (there p + 12) l (there next)
    unfolding token_of property_at property_named pick
    property-there =
        let r = known-property in
        let w = same_word s p s' (there p) (next - p) property-same in
        let ends : there p + 12 + up4 l ≡ there next = omega arith in
        let room : up4 l ≤ length s' - (there p + 12) = omega (arith, same.fits) in
        token-there p r.words.0 (omega arith) 3 r.words.1 (λ z. omega arith)
        ∙ rw (w 4 (omega arith) ∙ r.words.2, w 8 (omega arith) ∙ r.words.3, r.named.0, ← ends)
        (pick_no _ _ _ (le-ltb (length s' - there p) 12 (omega (arith, same.fits)))
        ∙ pick_yes _ _ _ (each-every _ (le-leb _ _ r.named.1, (le-leb _ _ r.named.2, (lt-ltb _ _ r.named.3, (le-leb _ _ r.named.4, (le-leb _ _ room, tt)))))))

    pub property-value : part s' (there p + 12) l ≡ part s v l
    property-value = let r = known-property in rw r.lies.1 (same-part s p s' (there p) (next - p) property-same 12 l (omega arith))

    pub property-clean : clean s' (Property (there p) a n (there p + 12) l (there next)) ≡ clean s (Property p a n v l next)
    unfolding clean
    property-clean =
        let i = known-property.lies in
        let f = known-property.gap in
        let is = known-property.words.0 in
        let size : there next - (there p + (12 + l)) ≡ next - (p + (12 + l)) = omega arith in
        rw (i.1, add_assoc (there p) 12 l, add_assoc p 12 l, size) (same-zero s p s' (there p) (next - p) property-same (next - (p + (12 + l))) (12 + l) (omega arith))

  module _ (p : ℕ) where
    pub end-there : token_at s st at ≡ EndNode p next → token_at s' st to ≡ EndNode (there p) (there next)
    unfolding token_of pick
    end-there e =
        let r = read s st at _ e in
        let ends : there next ≡ there p + 4 = omega arith in
        token-there p r.words.0 (omega arith) 2 r.words.1 (λ z. omega arith) ∙ rw ends

    pub last-there : token_at s st at ≡ End p next → token_at s' st to ≡ End (there p) (there next)
    unfolding token_of pick
    last-there e =
        let r = read s st at _ e in
        let ends : there next ≡ there p + 4 = omega arith in
        token-there p r.words.0 (omega arith) 9 r.words.1 (λ z. omega arith) ∙ rw ends

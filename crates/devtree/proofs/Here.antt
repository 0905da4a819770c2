-- A token by what is read at its place: its number, of a property its words, and the offset past it.
use mathlib.Core.Path.{◌≡◌, refl, sym, ap, ◌∙◌}
use mathlib.Core.List.{List}
use Prim.Native.Nat.{ℕ, ◌+◌, ◌-◌, ◌≤◌}
use native.Mathlib.Omega.{arith}
use lib.ListN.{length}
use lib.Dec.{ltb}
use borrow.Author.Tests.{le-ltb, ltb-false}
use Rattle.std.specs.Prelude.{Some, None}
use Rattle.words.specs.Pick.{pick}
use Rattle.words.specs.Bytes.{word_at, name_length}
use Rattle.words.proofs.Pick.{pick-cases}
use Rattle.devtree.specs.Tokens.{up4, skipped, begin_at, begin_named, property_at, property_named, property_of, past, token_of, token_at}
use Rattle.devtree.specs.declared.Token.{Token}
use Rattle.devtree.specs.declared.Token.TheVariants.{Begin, Property, Fault}
use Rattle.devtree.proofs.Tokens.{begin_tests, property_tests, begin-fits, property-fits}

-- the next token from p on, where the next word that is no no-op is k, at q
pub token-here : (s st : List ℕ) (p q k : ℕ) → q ≡ skipped s p → k ≡ word_at s q → token_at s st p ≡ token_of s st q k
unfolding token_at
token-here s st p q k place word = rw (← place, ← word)

-- a property token with its three words in the block
module _ (s st : List ℕ) (q rest : ℕ) (room : rest ≡ length s - q) (long : 12 ≤ rest) (len name n tail : ℕ) where
  pub property-is : len ≡ word_at s (q + 4) → name ≡ word_at s (q + 8) → n ≡ name_length 32 st name → tail ≡ length st - name → property_at s st q ≡ property_named q name n tail len (rest - 12)
  unfolding property_at pick
  property-is len_is name-is n-is tail-is =
      let left : length s - (q + 12) ≡ rest - 12 = omega arith in
      rw (left, ← room, ← len_is, ← name-is, ← n-is, ← tail-is) (simp (le-ltb rest 12 long))

-- ---- by the offset past it, a token or a fault in its place

-- with the name that is read
pub begin-read : (s : List ℕ) (q n : ℕ) → n ≡ name_length 48 s (q + 4) → past (begin_named q n (length s - (q + 4))) ≡ past (begin_at s q)
unfolding begin_at
begin-read s q n e = ap (λ (m : ℕ). past (begin_named q m (length s - (q + 4)))) e

pub property-read : (s st : List ℕ) (q name n : ℕ) → name ≡ word_at s (q + 8) → n ≡ name_length 32 st name → past (property_of s st q name n) ≡ past (property_at s st q)
unfolding property_of property_at
property-read s st q name n e f =
    ap (λ (m : ℕ). past (property_of s st q name m)) f ∙ ap (λ (x : ℕ). past (property_of s st q x (name_length 32 st x))) e

pub begin-past : (s : List ℕ) (q next : ℕ) → past (begin_at s q) ≡ Some next → begin_at s q ≡ Begin q (q + 4) (name_length 48 s (q + 4)) next
unfolding begin_at begin_named
begin-past s q next =
    let n : ℕ = name_length 48 s (q + 4) in
    pick-cases (λ t. past t ≡ Some next → t ≡ Begin q (q + 4) n next) (begin_tests n (length s - (q + 4))) _ _ (λ b e. cc) (λ b e. cc)

pub begin-none : (s : List ℕ) (q : ℕ) → past (begin_at s q) ≡ None → begin_at s q ≡ Fault q
unfolding begin_at begin_named
begin-none s q =
    pick-cases (λ t. past t ≡ None → t ≡ Fault q) (begin_tests (name_length 48 s (q + 4)) (length s - (q + 4))) _ _ (λ b e. cc) (λ b e. refl)

pub property-past : (s st : List ℕ) (q next : ℕ) → past (property_at s st q) ≡ Some next
    → property_at s st q ≡ Property q (word_at s (q + 8)) (name_length 32 st (word_at s (q + 8))) (q + 12) (word_at s (q + 4)) next
unfolding property_at property_named
property-past s st q next =
    let len : ℕ = word_at s (q + 4) in
    let name : ℕ = word_at s (q + 8) in
    let n : ℕ = name_length 32 st name in
    let P : Token → Type 0 = λ t. past t ≡ Some next → t ≡ Property q name n (q + 12) len next in
    pick-cases P (ltb (length s - q) 12) _ _ (λ b e. cc)
    (λ b. pick-cases P (property_tests n (length st - name) len (length s - (q + 12))) _ _ (λ c e. cc) (λ c e. cc))

pub property-none : (s st : List ℕ) (q : ℕ) → past (property_at s st q) ≡ None → property_at s st q ≡ Fault q
unfolding property_at property_named
property-none s st q =
    let name : ℕ = word_at s (q + 8) in
    let P : Token → Type 0 = λ t. past t ≡ None → t ≡ Fault q in
    pick-cases P (ltb (length s - q) 12) _ _ (λ b e. refl)
    (λ b. pick-cases P (property_tests (name_length 32 st name) (length st - name) (word_at s (q + 4)) (length s - (q + 12))) _ _ (λ c e. cc) (λ c e. refl))

-- where the token ends
pub begin-space : (s : List ℕ) (q next : ℕ) → q + 4 ≤ length s → past (begin_at s q) ≡ Some next → (next ≡ q + 4 + up4 (name_length 48 s (q + 4) + 1)) × (next ≤ length s)
unfolding begin_at begin_named
begin-space s q next i =
    let n : ℕ = name_length 48 s (q + 4) in
    let left : ℕ = length s - (q + 4) in
    pick-cases (λ t. past t ≡ Some next → (next ≡ q + 4 + up4 (n + 1)) × (next ≤ length s)) (begin_tests n left) _ _
    (λ b e. let f = begin-fits n left b in let g : q + 4 + up4 (n + 1) ≡ next = cc in (sym g, omega (arith, f.2)))
    (λ b e. cc)

pub property-space : (s st : List ℕ) (q next : ℕ) → past (property_at s st q) ≡ Some next → (next ≡ q + 12 + up4 (word_at s (q + 4))) × (next ≤ length s)
unfolding property_at property_named
property-space s st q next =
    let len : ℕ = word_at s (q + 4) in
    let name : ℕ = word_at s (q + 8) in
    let n : ℕ = name_length 32 st name in
    let left : ℕ = length s - (q + 12) in
    let P : Token → Type 0 = λ t. past t ≡ Some next → (next ≡ q + 12 + up4 len) × (next ≤ length s) in
    pick-cases P (ltb (length s - q) 12) _ _ (λ b e. cc)
    (λ b. pick-cases P (property_tests n (length st - name) len left) _ _
    (λ c e. let f = property-fits n (length st - name) len left c in let r = ltb-false _ _ b in let g : q + 12 + up4 len ≡ next = cc in (sym g, omega (arith, f.4)))
    (λ c e. cc))

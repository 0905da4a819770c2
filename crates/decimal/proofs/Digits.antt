-- Laws of `digits`: their value is the number, none but that of 0 begins with a zero, and how many they are.
use mathlib.Core.Path.{◌≡◌, refl, sym, ◌∙◌}
use mathlib.Core.Bool.{Bool, true, false}
use mathlib.Core.List.{List, [], ◌∷◌, ◌++◌}
use Prim.Native.Nat.{ℕ, zero, suc, ◌+◌, ◌-◌, ◌*◌, ◌/◌, ◌%◌, ◌^◌, ◌<◌, ◌≤◌}
use native.Mathlib.Omega.{arith}
use Rattle.std.proofs.Common.{Option, Some, None, pow-suc}
use Rattle.std.specs.Option.{IfNone, IfSome, unwrap_or}
use lib.ListN.{length, get_or, set, length-append, get_or-append}
use lib.Seq.{sets, set_comm}
use lib.Dec.{ltb}
use borrow.Author.Tests.{lt-ltb, le-ltb, ltb-true, ltb-false}
use Rattle.words.specs.Pick.{pick}
use Rattle.words.proofs.Pick.{pick_yes, pick_no}
use Rattle.words.proofs.Run.{Falls, run-law}
use Rattle.buffer.proofs.Put.{sets-append}
use Rattle.decimal.specs.Decimal.{digits_body, digits}
use Rattle.decimal.specs.Value.{value_from, digits_value}

falls : Falls (λ (k : ℕ). k) digits_body
unfolding digits_body
falls go go' n h = test (ltb n 10) refl
  where
    test : (b : Bool) → ltb n 10 ≡ b → pick (ltb n 10) ((48 + n) ∷ []) (go (n / 10) ++ ((48 + n % 10) ∷ [])) ≡ pick (ltb n 10) ((48 + n) ∷ []) (go' (n / 10) ++ ((48 + n % 10) ∷ []))
    test true e = pick_yes _ _ _ e ∙ sym (pick_yes _ _ _ e)
    test false e = let l = ltb-false n 10 e in rw (h (n / 10) (omega arith))

law : (n : ℕ) → digits n ≡ digits_body digits n
unfolding digits
law n = run-law [] (λ k. k) digits_body falls n

digits-one : (n : ℕ) → n < 10 → digits n ≡ (48 + n) ∷ []
unfolding digits_body
digits-one n h = law n ∙ pick_yes _ _ _ (lt-ltb n 10 h)

digits_more : (n : ℕ) → 10 ≤ n → digits n ≡ digits (n / 10) ++ ((48 + n % 10) ∷ [])
unfolding digits_body
digits_more n h = law n ∙ pick_no _ _ _ (le-ltb n 10 h)

-- what holds of one digit, and of a number where it holds of its tens, holds of every number
module _ (P : ℕ → Type 0) (one : (n : ℕ) → n < 10 → P n) (more : (n : ℕ) → 10 ≤ n → P (n / 10) → P n) where
  up_to : (k n : ℕ) → n < k → P n
  up_to zero n h = absurd (omega arith)
  up_to (suc k) n h = test (ltb n 10) refl (λ l. up_to k (n / 10) l)
    where
      test : (b : Bool) → ltb n 10 ≡ b → (n / 10 < k → P (n / 10)) → P n
      test true e go = one n (ltb-true n 10 e)
      test false e go = let l = ltb-false n 10 e in more n l (go (omega arith))

  by_digits : (n : ℕ) → P n
  by_digits n = up_to (suc n) n (omega arith)

value-snoc : (v : ℕ) (ds : List ℕ) (d : ℕ) → value_from v (ds ++ (d ∷ [])) ≡ value_from v ds * 10 + (d - 48)
unfolding value_from
value-snoc v [] d = refl
value-snoc v (x ∷ ds) d = value-snoc (v * 10 + (x - 48)) ds d

-- the digits' value is the number
pub digits_value_lem : (n : ℕ) → digits_value (digits n) ≡ n
unfolding value_from
digits_value_lem = by_digits (λ n. digits_value (digits n) ≡ n) one more
  where
    one : (n : ℕ) → n < 10 → digits_value (digits n) ≡ n
    one n h = rw (digits-one n h) (omega arith)

    more : (n : ℕ) → 10 ≤ n → digits_value (digits (n / 10)) ≡ n / 10 → digits_value (digits n) ≡ n
    more n h e = rw (digits_more n h, value-snoc 0 (digits (n / 10)) (48 + n % 10), e) (omega arith)

pub some-digit : (n : ℕ) → 1 ≤ length (digits n)
some-digit = by_digits (λ n. 1 ≤ length (digits n)) (λ n h. rw (digits-one n h) (omega arith)) (λ n h l. rw (digits_more n h) (simp length-append (omega arith)))

-- 0 is one digit, and no other number begins with a zero
pub digits-zero : digits 0 ≡ 48 ∷ []
digits-zero = digits-one 0 (omega arith)

pub no-leading-zero : (n : ℕ) → 0 < n → 49 ≤ get_or (digits n) 0 0
no-leading-zero = by_digits (λ n. 0 < n → 49 ≤ get_or (digits n) 0 0) one more
  where
    one : (n : ℕ) → n < 10 → 0 < n → 49 ≤ get_or (digits n) 0 0
    one n h p = rw (digits-one n h) (omega arith)

    more : (n : ℕ) → 10 ≤ n → (0 < n / 10 → 49 ≤ get_or (digits (n / 10)) 0 0) → 0 < n → 49 ≤ get_or (digits n) 0 0
    more n h f p =
        let s = some-digit (n / 10) in
        rw (digits_more n h, get_or-append (digits (n / 10)) ((48 + n % 10) ∷ []) 0 0 (omega arith)) (f (omega arith))

-- each digit is one of 0 to 9
abbrev pub Digits : List ℕ → Type 0
Digits [] = Unit
Digits (d ∷ ds) = (48 ≤ d) × (d ≤ 57) × Digits ds

digits-snoc : (ds : List ℕ) (d : ℕ) → Digits ds → 48 ≤ d → d ≤ 57 → Digits (ds ++ (d ∷ []))
digits-snoc [] d a l h = (l, h, tt)
digits-snoc (x ∷ ds) d a l h = (a.0, a.1, digits-snoc ds d a.2 l h)

pub only-digits : (n : ℕ) → Digits (digits n)
only-digits = by_digits (λ n. Digits (digits n)) (λ n h. rw (digits-one n h) (omega arith, omega arith, tt)) (λ n h a. rw (digits_more n h) (digits-snoc (digits (n / 10)) (48 + n % 10) a (omega arith) (omega arith)))

-- how many they are: one more than the tens have, and at most k below the k-th power of ten
pub count-one : (n : ℕ) → n < 10 → length (digits n) ≡ 1
count-one n h = rw (digits-one n h)

count-more : (n : ℕ) → 10 ≤ n → length (digits n) ≡ suc (length (digits (n / 10)))
count-more n h = rw (digits_more n h) (simp length-append (omega arith))

unfoldable pub tens : ℕ → ℕ
tens zero = 1
tens (suc k) = 10 * tens k

tens-some : (k : ℕ) → 1 ≤ tens k
unfolding tens
tens-some zero = omega arith
tens-some (suc k) = omega (arith, tens-some k)

pub count-is : (k n : ℕ) → tens k ≤ n → n < 10 * tens k → length (digits n) ≡ suc k
unfolding tens
count-is zero n l h = count-one n (omega arith)
count-is (suc k) n l h = omega (arith, count-more n (omega (arith, tens-some k)), count-is k (n / 10) (omega arith) (omega arith))

-- tens k is the k-th power of ten
tens-power : (k : ℕ) → tens k ≡ 10 ^ k
unfolding tens
tens-power zero = refl
tens-power (suc k) = omega (arith, pow-suc 10 k, tens-power k)

-- as many as the logarithm says, and one more
count-log : (k n : ℕ) → 10 ^ k ≤ n → n < 10 * 10 ^ k → k + 1 ≡ length (digits n)
count-log k n l h = omega (arith, count-is k n (rw (tens-power k) l) (rw (tens-power k) h))

-- the same of a logarithm that 0 does not have
pub count-logs : (o : Option ℕ) (n : ℕ) → IfNone o (n ≡ 0) → IfSome o (λ k. 10 ^ k ≤ n) → IfSome o (λ k. n < 10 * 10 ^ k) → unwrap_or o 0 + 1 ≡ length (digits n)
count-logs None n z l h = sym (count-one n (omega arith))
count-logs (Some k) n z l h = count-log k n l h

pub log-below : (o : Option ℕ) → IfSome o (λ k. k < 10) → unwrap_or o 0 + 1 ≤ 10
log-below None h = omega arith
log-below (Some k) h = omega arith

count_most : (k n : ℕ) → n < 10 * tens k → length (digits n) ≤ suc k
unfolding tens
count_most zero n h = omega (arith, count-one n (omega arith))
count_most (suc k) n h = test (ltb n 10) refl (count_most k (n / 10) (omega arith))
  where
    test : (b : Bool) → ltb n 10 ≡ b → length (digits (n / 10)) ≤ suc k → length (digits n) ≤ suc (suc k)
    test true e m = let l = ltb-true n 10 e in omega (arith, count-one n l)
    test false e m = let l = ltb-false n 10 e in omega (arith, count-more n l)

pub count-nine : (n : ℕ) → n < 268435456 → length (digits n) ≤ 9
unfolding tens
count-nine n h = count_most 8 n (omega arith)

-- the last k digits, as they are found from the end
unfoldable pub last_digits : ℕ → ℕ → List ℕ
last_digits zero n = []
last_digits (suc k) n = last_digits k (n / 10) ++ ((48 + n % 10) ∷ [])

length_last : (k n : ℕ) → length (last_digits k n) ≡ k
unfolding last_digits
length_last zero n = refl
length_last (suc k) n = simp length-append (omega (arith, length_last k (n / 10)))

pub all-last : (n : ℕ) → last_digits (length (digits n)) n ≡ digits n
unfolding last_digits
all-last = by_digits (λ n. last_digits (length (digits n)) n ≡ digits n) one more
  where
    one : (n : ℕ) → n < 10 → last_digits (length (digits n)) n ≡ digits n
    one n h = let z : n % 10 ≡ n = omega arith in rw (digits-one n h, z)

    more : (n : ℕ) → 10 ≤ n → last_digits (length (digits (n / 10))) (n / 10) ≡ digits (n / 10) → last_digits (length (digits n)) n ≡ digits n
    more n h e = rw (count-more n h, e, digits_more n h)

-- a store behind a run of stores may come before it
store-before : (d : List ℕ) (at j x : ℕ) (bs : List ℕ) → at + length bs ≤ j → set (sets d at bs) j x ≡ sets (set d j x) at bs
store-before d at j x [] h = refl
store-before d at j x (b ∷ bs) h = store-before (set d at b) (suc at) j x bs (omega arith) ∙ rw (set_comm d at j b x (omega arith))

-- the last digit is stored, and then those before it
pub last_more : (d : List ℕ) (at k n : ℕ) → sets (set d (at + k) (48 + n % 10)) at (last_digits k (n / 10)) ≡ sets d at (last_digits (suc k) n)
unfolding last_digits
last_more d at k n =
    sym
    (sets-append d at (last_digits k (n / 10)) ((48 + n % 10) ∷ [])
    ∙ rw (length_last k (n / 10)) (store-before d at (at + k) (48 + n % 10) (last_digits k (n / 10)) (omega (arith, length_last k (n / 10)))))

pub last_none : (d : List ℕ) (at k n : ℕ) → k ≤ 0 → sets d at (last_digits k n) ≡ d
unfolding last_digits
last_none d at zero n h = refl
last_none d at (suc k) n h = absurd (omega arith)

-- Laws of lists of names: that each stands there, and that there is a list.
use mathlib.Core.Path.{◌≡◌, refl, sym, ◌∙◌}
use mathlib.Core.List.{List, [], ◌∷◌}
use mathlib.Core.Bool.{Bool, true, false, false≢true}
use Prim.Native.Nat.{ℕ, zero, suc, ◌+◌, ◌-◌, ◌<◌, ◌≤◌}
use native.Mathlib.Omega.{arith}
use lib.ListN.{length, get_or}
use lib.Dec.{eqb, ltb}
use borrow.Author.Tests.{le-leb, lt-leb, lt-ltb, leb-true, ltb-true, eqb-true, eqb-false}
use Rattle.words.specs.Pick.{pick, every}
use Rattle.words.specs.Bytes.{name_length}
use Rattle.words.proofs.Pick.{pick-and, pick_yes, pick_no, pick_same, every-each, each-every}
use Rattle.devtree.specs.Names.{same_name, among, distinct}
use Rattle.name_order.specs.Order.{name_at, listed, HasName, AllNamed, has_name, all_named, is_list, found_in, distinct_in}
use Rattle.devtree.proofs.Names.{same-equal}

-- the first of several tests decides, or the others do
every-off : (t : Bool) (bs : List Bool) → t ≡ false → every (t ∷ bs) ≡ false
unfolding every
every-off t bs e = pick_no t (every bs) false e

every-on : (t : Bool) (bs : List Bool) → t ≡ true → every (t ∷ bs) ≡ every bs
unfolding every
every-on t bs e = pick_yes t (every bs) false e

every_one : (t : Bool) → every (t ∷ []) ≡ t
unfolding every
every_one t = pick_same t

pub has-name : (b : List ℕ) (x : ℕ) → HasName b x → has_name b x ≡ true
unfolding has_name
has-name b x h = each-every _ (le-leb _ _ h.short, (lt-ltb (name_length 48 b x) (length b - x) (omega (arith, h.inside)), tt))

pub name-has : (b : List ℕ) (x : ℕ) → has_name b x ≡ true → HasName b x
unfolding has_name
name-has b x e = let f = every-each _ e in let g = ltb-true (name_length 48 b x) (length b - x) f.1.0 in record { short = leb-true _ _ f.0; inside = omega arith }

module _ (b : List ℕ) (x : ℕ) where
  pub name-long : 47 < name_length 48 b x → has_name b x ≡ false
  unfolding has_name
  name-long h = every-off _ _ (lt-leb _ _ h)

  pub name-room : name_length 48 b x ≤ 47 → has_name b x ≡ ltb (name_length 48 b x) (length b - x)
  unfolding has_name
  name-room h = every-on _ _ (le-leb _ _ h) ∙ every_one _

-- a search from element i on for an offset where no name stands: t is the answer of one test
module _ (b xs : List ℕ) (i top : ℕ) where
  module _ (h : i < top) {q : ℕ} (at : q ≡ get_or xs i 0) {t : Bool} (e : t ≡ has_name b q) where
    named-first : all_named b xs i (top - i) ≡ pick t (all_named b xs (i + 1) (top - (i + 1))) false
    unfolding all_named
    named-first = let more : top - i ≡ suc (top - (i + 1)) = omega arith in rw (more, ← at, ← e)

    pub named-not : t ≡ false → all_named b xs i (top - i) ≡ false
    named-not f = named-first ∙ pick_no t _ false f

    pub named-on : t ≡ true → all_named b xs i (top - i) ≡ all_named b xs (i + 1) (top - (i + 1))
    named-on f = named-first ∙ pick_yes t _ false f

  pub named-last : top ≤ i → all_named b xs i (top - i) ≡ true
  unfolding all_named
  named-last h = let z : top - i ≡ 0 = omega arith in rw z

all_named_lem : (b xs : List ℕ) (base k : ℕ) → AllNamed b xs base (base + k) → all_named b xs base k ≡ true
unfolding all_named pick
all_named_lem b xs base zero h = refl
all_named_lem b xs base (suc k) h = simp (has-name b _ (h base (omega arith) (omega arith))) (all_named_lem b xs (base + 1) k (λ i l m. h i (omega arith) (omega arith)))

named-all : (b xs : List ℕ) (base k : ℕ) → all_named b xs base k ≡ true → AllNamed b xs base (base + k)
unfolding all_named
named-all b xs base zero e i l m = absurd (omega arith)
named-all b xs base (suc k) e i l m =
    let both = pick-and (has_name b (get_or xs base 0)) (all_named b xs (base + 1) k) e in
    at (eqb i base) refl both.0 (named-all b xs (base + 1) k both.1 i)
  where
    at : (c : Bool) → eqb i base ≡ c → has_name b (get_or xs base 0) ≡ true → (base + 1 ≤ i → i < base + 1 + k → HasName b (get_or xs i 0)) → HasName b (get_or xs i 0)
    at true c h rest = rw (eqb-true i base c) (name-has b _ h)
    at false c h rest = let z = eqb-false i base c in rest (omega arith) (omega arith)

-- the tests for a list, one after the other
module _ (b xs : List ℕ) (base top : ℕ) where
  pub list-turned : top < base → is_list b xs base top ≡ false
  unfolding is_list
  list-turned h = every-off _ _ (lt-leb _ _ h)

  module _ (h : base ≤ top) where
    pub list-long : length xs < top → is_list b xs base top ≡ false
    unfolding is_list
    list-long l = every-on _ _ (le-leb _ _ h) ∙ every-off _ _ (lt-leb _ _ l)

    pub list_inside : top ≤ length xs → is_list b xs base top ≡ all_named b xs base (top - base)
    unfolding is_list
    list_inside l = every-on _ _ (le-leb _ _ h) ∙ every-on _ _ (le-leb _ _ l) ∙ every_one _

-- there is a list exactly where its bounds and its names are as they must be
pub is-list : (b xs : List ℕ) (base top : ℕ) → base ≤ top → top ≤ length xs → AllNamed b xs base top → is_list b xs base top ≡ true
unfolding is_list
is-list b xs base top h i n = each-every _ (le-leb _ _ h, (le-leb _ _ i, (all_named_lem b xs base (top - base) (λ j l m. n j l (omega arith)), tt)))

pub record IsList (b xs : List ℕ) (base top : ℕ) : Type 0 where
  pub up : base ≤ top
  pub inside : top ≤ length xs
  pub named : AllNamed b xs base top

pub list-is : (b xs : List ℕ) (base top : ℕ) → is_list b xs base top ≡ true → IsList b xs base top
unfolding is_list
list-is b xs base top e =
    let f = every-each _ e in
    let up = leb-true _ _ f.0 in
    record { up = up; inside = leb-true _ _ f.1.0; named = λ i l m. named-all b xs base (top - base) f.1.1.0 i l (omega arith) }

-- what is found, and whether the names differ: t and u are the answers of the tests for a list and for a name
module _ (b xs : List ℕ) (base top : ℕ) {t : Bool} (e : t ≡ is_list b xs base top) where
  pub unlisted-distinct : t ≡ false → distinct_in b xs base top ≡ false
  unfolding distinct_in
  unlisted-distinct f = every-off _ _ (sym e ∙ f)

  pub listed-distinct : t ≡ true → distinct_in b xs base top ≡ distinct (listed b xs base (top - base))
  unfolding distinct_in
  listed-distinct f = every-on _ _ (sym e ∙ f) ∙ every_one _

  module _ (x : ℕ) where
    pub unlisted-found : t ≡ false → found_in b xs base top x ≡ false
    unfolding found_in
    unlisted-found f = every-off _ _ (sym e ∙ f)

    module _ {u : Bool} (g : u ≡ has_name b x) (f : t ≡ true) where
      pub unnamed-found : u ≡ false → found_in b xs base top x ≡ false
      unfolding found_in
      unnamed-found h = every-on _ _ (sym e ∙ f) ∙ every-off _ _ (sym g ∙ h)

      pub named-found : u ≡ true → found_in b xs base top x ≡ among (name_at b x) (listed b xs base (top - base))
      unfolding found_in
      named-found h = every-on _ _ (sym e ∙ f) ∙ every-on _ _ (sym g ∙ h) ∙ every_one _

-- a name that is one of a list stands at a place of it
pub among-place : (b xs : List ℕ) (n : List ℕ) (base k : ℕ) → among n (listed b xs base k) ≡ true → (i : ℕ) × (base ≤ i) × (i < base + k) × (n ≡ name_at b (get_or xs i 0))
unfolding among listed
among-place b xs n base zero e = absurd (false≢true e)
among-place b xs n base (suc k) e = go (same_name n (name_at b (get_or xs base 0))) refl (among-place b xs n (base + 1) k)
  where
    Place : Type 0
    Place = (i : ℕ) × (base ≤ i) × (i < base + suc k) × (n ≡ name_at b (get_or xs i 0))

    go : (c : Bool) → same_name n (name_at b (get_or xs base 0)) ≡ c → (among n (listed b xs (base + 1) k) ≡ true → (i : ℕ) × (base + 1 ≤ i) × (i < base + 1 + k) × (n ≡ name_at b (get_or xs i 0))) → Place
    go true c rest = (base, omega arith, omega arith, same-equal _ _ c)
    go false c rest = let r = rest (rw (pick_no (same_name n (name_at b (get_or xs base 0))) true (among n (listed b xs (base + 1) k)) c) at e) in (r.0, omega arith, omega arith, r.3)

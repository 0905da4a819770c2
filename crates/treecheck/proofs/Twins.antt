-- The list of the names met so far: what a name that is added does to it.
use mathlib.Core.Path.{◌≡◌, refl, sym, subst, ◌∙◌, ap}
use mathlib.Core.List.{List, [], ◌∷◌, ◌++◌}
use mathlib.Core.Bool.{Bool, true, false}
use Prim.Native.Nat.{ℕ, ◌+◌, ◌-◌, ◌*◌, ◌%◌, ◌/◌, ◌<◌, ◌≤◌}
use native.Mathlib.Omega.{arith}
use lib.ListN.{length, get_or, set, drop, length-set}
use lib.Seq.{get_or-set_same, get_or-set_other, get_or-take, get_or-drop}
use lib.Dec.{eqb, leb}
use borrow.Author.Tests.{eqb-true, eqb-false, leb-false, lt-leb}
use Rattle.words.specs.Pick.{pick, every}
use Rattle.words.specs.Bytes.{part, name_length}
use Rattle.words.proofs.Pick.{pick_no, pick-unless, pick_same}
use Rattle.words.proofs.Bytes.{name-nul}
use Rattle.buffer.proofs.Put.{length_part}
use Rattle.devtree.specs.Names.{among, distinct}
use Rattle.name_order.specs.Order.{name_at, listed, HasName, is_list, found_in, SameBelow}
use Rattle.name_order.proofs.Names.{listed_same, listed-snoc, distinct_snoc}
use Rattle.name_order.proofs.Named.{has-name, is-list, among-place}
use Rattle.name_marks.proofs.Laws.{mark-same}
use Rattle.treecheck.specs.Lists.{mark_at, Raised, Shown, Listing, Kept, Added}

-- ---- names of the same bytes have the same mark

name-long : (b : List ℕ) (x : ℕ) → HasName b x → length (name_at b x) ≡ name_length 48 b x
name-long b x h = length_part b x (name_length 48 b x) (omega (arith, h.inside))

name-byte : (b : List ℕ) (x n i : ℕ) → i < n → get_or (part b x n) i 0 ≡ get_or b (x + i) 0
unfolding part
name-byte b x n i h = rw (get_or-take {A = ℕ} n (drop x b) i 0 h, get_or-drop {A = ℕ} x b i 0)

same-mark : (b : List ℕ) (x y : ℕ) → HasName b x → HasName b y → name_at b x ≡ name_at b y → mark_at b x ≡ mark_at b y
same-mark b x y hx hy e =
    let n : ℕ = name_length 48 b x in
    let long : name_length 48 b y ≡ n = sym (name-long b y hy) ∙ ap length (sym e) ∙ name-long b x hx in
    rw long (mark-same b x y n (λ i h. byte i h long (eqb i n) refl) hx.inside (rw long at hy.inside))
  where
    byte : (i : ℕ) → i ≤ name_length 48 b x → name_length 48 b y ≡ name_length 48 b x → (c : Bool) → eqb i (name_length 48 b x) ≡ c → get_or b (x + i) 0 ≡ get_or b (y + i) 0
    byte i h long true c =
        let at_x = name-nul 48 b x (omega (arith, hx.short)) in
        let at_y = name-nul 48 b y (omega (arith, hy.short)) in
        rw (eqb-true i _ c) (at_x ∙ sym (rw long at at_y))
    byte i h long false c =
        let z = eqb-false i _ c in
        sym (name-byte b x _ i (omega arith)) ∙ ap (λ (l : List ℕ). get_or l i 0) e ∙ name-byte b y _ i (omega arith)

never : (b : Bool) → (b ≡ true → ⊥) → b ≡ false
never true n = absurd (n refl)
never false n = refl

-- ---- a mark is set

pub raised : (marks : List ℕ) (m from : ℕ) → m < length marks → Raised from marks (set marks m from)
raised marks m from h least i l k = at (eqb i m) refl
  where
    at : (c : Bool) → eqb i m ≡ c → least ≤ get_or (set marks m from) i 0
    at true c = rw (eqb-true i m c, get_or-set_same marks m from 0 h) l
    at false c = rw (get_or-set_other marks m i from 0 (eqb-false i m c)) k

-- both marks of a name are set, one after the other
pub both-marks : (marks marks₁ marks₂ : List ℕ) (m from : ℕ) (a b : Bool) → m < 4194304 → 2048 ≤ length marks
    → a ≡ leb from (get_or marks (m % 2048) 0) → marks₁ ≡ set marks (m % 2048) from → b ≡ leb from (get_or marks₁ (m / 2048) 0) → marks₂ ≡ set marks₁ (m / 2048) from
    → (a ≡ false → Shown marks from m → ⊥) × (b ≡ false → Shown marks from m → ⊥) × Shown marks₂ from m × Raised from marks marks₂
both-marks marks marks₁ marks₂ m from a b h k ea e₁ eb e₂ =
    let long : length marks₁ ≡ length marks = rw e₁ (length-set marks (m % 2048) from) in
    let up₁ : Raised from marks marks₁ = rw e₁ (raised marks (m % 2048) from (omega arith)) in
    let up₂ : Raised from marks₁ marks₂ = rw e₂ (raised marks₁ (m / 2048) from (omega arith)) in
    let first : get_or marks₁ (m % 2048) 0 ≡ from = rw e₁ (get_or-set_same marks (m % 2048) from 0 (omega arith)) in
    let second : get_or marks₂ (m / 2048) 0 ≡ from = rw e₂ (get_or-set_same marks₁ (m / 2048) from 0 (omega arith)) in (
      λ z s. let l = leb-false from (get_or marks (m % 2048) 0) (sym ea ∙ z) in omega (arith, s.first),
      λ z s. let l = leb-false from (get_or marks₁ (m / 2048) 0) (sym eb ∙ z) in let u = up₁ from (m / 2048) (omega arith) s.second in omega arith,
      record { first = up₂ from _ (omega arith) (omega arith); second = omega arith },
      λ least i l g. up₂ least i l (up₁ least i l g),
    )

-- ---- a name is added

-- a name is put at the end of a list, and its marks are set
pub record Adding (b names marks marks' : List ℕ) (base top from x : ℕ) : Type 0 where
  pub bounds : base ≤ top
  pub room : top < length names
  pub list : Listing b names marks base top from
  pub name : HasName b x
  pub up : Raised from marks marks'
  pub shown : Shown marks' from (mark_at b x)

pub put-below : (names : List ℕ) (top x : ℕ) → SameBelow top names (set names top x)
put-below names top x i h = get_or-set_other names top i x 0 (λ e. omega arith)

module _ (b names marks marks' : List ℕ) (base top from x : ℕ) (a : Adding b names marks marks' base top from x) where
  abbrev names' : List ℕ
  names' = set names top x

  below : SameBelow top names names'
  below = put-below names top x

  here : get_or names' top 0 ≡ x
  here = get_or-set_same names top x 0 a.room

  h : base ≤ top
  h = a.bounds

  pub same-list : listed b names' base (top - base) ≡ listed b names base (top - base)
  same-list = listed_same b names names' base (top - base) (λ i l m. below i (omega arith))

  pub longer : listed b names' base (top + 1 - base) ≡ listed b names base (top - base) ++ (name_at b x ∷ [])
  longer =
      let one : top + 1 - base ≡ top - base + 1 = omega arith in
      let end : base + (top - base) ≡ top = omega arith in
      rw (one, listed-snoc b names' base (top - base), end, here, same-list)

  -- a name whose marks are not shown is new
  pub unmet : (Shown marks from (mark_at b x) → ⊥) → among (name_at b x) (listed b names base (top - base)) ≡ false
  unmet none =
      never _
      (λ e. let p = among-place b names (name_at b x) base (top - base) e in
      let there = a.list.named p.0 p.1 (omega arith) in
      none (subst (Shown marks from) (sym (same-mark b x _ a.name there p.3)) (a.list.shown p.0 p.1 (omega arith))))

  higher : (m : ℕ) → Shown marks from m → Shown marks' from m
  higher m s = record { first = a.up from _ (omega arith) s.first; second = a.up from _ (omega arith) s.second }

  -- one that is no twin of the first 64 makes the list longer
  pub new-list : (top - base < 64 → among (name_at b x) (listed b names base (top - base)) ≡ false) → Listing b names' marks' base (top + 1) from
  new-list other = record { named = λ i l m. named i l m (eqb i top) refl; shown = λ i l m. seen i l m (eqb i top) refl; few = few }
    where
      named : (i : ℕ) → base ≤ i → i < top + 1 → (c : Bool) → eqb i top ≡ c → HasName b (get_or names' i 0)
      named i l m true c = rw (eqb-true i top c, here) a.name
      named i l m false c = let z = eqb-false i top c in rw (below i (omega arith)) (a.list.named i l (omega arith))

      seen : (i : ℕ) → base ≤ i → i < top + 1 → (c : Bool) → eqb i top ≡ c → Shown marks' from (mark_at b (get_or names' i 0))
      seen i l m true c = rw (eqb-true i top c, here) a.shown
      seen i l m false c = let z = eqb-false i top c in rw (below i (omega arith)) (higher _ (a.list.shown i l (omega arith)))

      few : top + 1 - base ≤ 64 → distinct (listed b names' base (top + 1 - base)) ≡ true
      few k = rw longer (distinct_snoc _ _ ∙ pick_no (among (name_at b x) (listed b names base (top - base))) _ _ (other (omega arith)) ∙ a.list.few (omega arith))

  -- what a search of a list that is not long answers
  found : is_list b names' base top ≡ true → found_in b names' base top x ≡ among (name_at b x) (listed b names base (top - base))
  unfolding found_in every pick
  found e = simp (e, has-name b x a.name, same-list) (pick_same _)

  module _ (r : Bool) (e : r ≡ pick (leb 64 (top - base)) false (found_in b names' base top x)) where
    few-found : found_in b names' base top x ≡ among (name_at b x) (listed b names base (top - base))
    few-found = found (is-list b names' base top h (rw (length-set names top x) (omega (arith, a.room))) (λ i l m. rw (below i m) (a.list.named i l m)))

    pub is-twin : r ≡ true → among (name_at b x) (listed b names base (top - base)) ≡ true
    is-twin z = sym few-found ∙ (pick-unless (leb 64 (top - base)) _ (sym e ∙ z)).1

    pub no-twin : top - base < 64 → r ≡ false → among (name_at b x) (listed b names base (top - base)) ≡ false
    no-twin k z = sym few-found ∙ sym (pick_no (leb 64 (top - base)) false _ (lt-leb 64 _ k)) ∙ sym e ∙ z

-- ---- the state of a loop over a list of names

-- the names from `base` to `top` have been met from `at` to `p`
pub record Met (b names₀ marks₀ names marks : List ℕ) (at base p top : ℕ) : Type 0 where
  pub later : at ≤ p
  pub bounds : base ≤ top
  pub used : 8 * top ≤ p
  pub long : length names ≡ length names₀
  pub wide : length marks ≡ length marks₀
  pub kept : Kept base at names₀ names marks₀ marks
  pub list : Listing b names marks base top at

pub none-listed : (b names : List ℕ) (base : ℕ) → listed b names base (base - base) ≡ []
unfolding listed
none-listed b names base = let none : base - base ≡ 0 = omega arith in rw none

pub met_start : (b names marks : List ℕ) (at base : ℕ) → 8 * base ≤ at → Met b names marks names marks at base at base
unfolding distinct
met_start b names marks at base h = record {
  later = omega arith;
  bounds = omega arith;
  used = h;
  long = refl;
  wide = refl;
  kept = record { below = λ i l. refl; raised = λ least i l k. k };
  list = record { named = λ i l m. absurd (omega arith); shown = λ i l m. absurd (omega arith); few = λ k. rw (none-listed b names base) };
}

module _ (b names₀ marks₀ names marks names' marks' : List ℕ) (at base p top : ℕ) (met : Met b names₀ marks₀ names marks at base p top) where
  -- what a function leaves alone that may use the arrays from `top` on
  pub kept_on : (end from : ℕ) → top ≤ end → at ≤ from → Kept end from names names' marks marks' → Kept base at names₀ names' marks₀ marks'
  kept_on end from h k e =
      let o = met.bounds in
      record {
        below = λ i l. e.below i (omega arith) ∙ met.kept.below i l;
        raised = λ least i l g. e.raised least i (omega arith) (met.kept.raised least i l g);
      }

  pub met-added : (x next : ℕ) → Added b names names' marks' base top at x false → Kept top at names names' marks marks' → length names' ≡ length names → length marks' ≡ length marks → p + 8 ≤ next → Met b names₀ marks₀ names' marks' at base next (top + 1)
  met-added x next a k l w h =
      let o = met.bounds in
      let u = met.used in
      let g = met.later in
      record { later = omega arith; bounds = omega arith; used = omega arith; long = l ∙ met.long; wide = w ∙ met.wide; kept = kept_on top at (omega arith) (omega arith) k; list = a.new refl }

  -- a node was scanned behind the names
  pub met-past : (from next : ℕ) → p ≤ from → from ≤ next → Kept top from names names' marks marks' → length names' ≡ length names → length marks' ≡ length marks → Met b names₀ marks₀ names' marks' at base next top
  met-past from next h i k l w =
      let g = met.later in
      let u = met.used in
      let same : (j : ℕ) → j < top → get_or names' j 0 ≡ get_or names j 0 = k.below in
      record {
        later = omega arith;
        bounds = met.bounds;
        used = omega arith;
        long = l ∙ met.long;
        wide = w ∙ met.wide;
        kept = kept_on top from (omega arith) (omega arith) k;
        list = record {
          named = λ j e f. rw (same j f) (met.list.named j e f);
          shown = λ j e f. rw (same j f) (record { first = k.raised at _ (omega arith) (met.list.shown j e f).first; second = k.raised at _ (omega arith) (met.list.shown j e f).second });
          few = λ z. rw (listed_same b names names' base (top - base) (λ j e f. let o = met.bounds in same j (omega arith))) (met.list.few z);
        };
      }

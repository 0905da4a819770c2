-- What a line adds to the text, and what the text of a walk is after each call.
use mathlib.Core.Path.{◌≡◌, refl, ap, sym, subst, ◌∙◌}
use mathlib.Core.Bool.{Bool, true, false, false≢true}
use mathlib.Core.List.{List, [], ◌∷◌, ◌++◌}
use Prim.Native.Nat.{ℕ, zero, suc, ◌+◌, ◌-◌, ◌<◌, ◌≤◌}
use native.Mathlib.Omega.{arith}
use native.Mathlib.Numerals.{sub-one}
use lib.ListN.{length, take, drop, replicate, length-append, length-drop, length-replicate}
use lib.Seq.{sets, sets-eq, length-sets, take_all, take-length, take-append_seam}
use lib.Dec.{leb}
use borrow.Author.Tests.{le-leb, lt-leb, leb-true}
use Rattle.words.specs.Pick.{pick, every}
use Rattle.words.specs.Bytes.{part, word_at}
use Rattle.words.proofs.Pick.{pick_yes, pick_no, every-each}
use Rattle.buffer.specs.Put.{bytes32, put}
use Rattle.buffer.proofs.Put.{put_in, sets-append}
use Rattle.devtree.specs.Check.{well_formed, passes}
use Rattle.devtree.proofs.Tree.{passes-formed}
use Rattle.connector.specs.declared.Connector.{Connector}
use Rattle.step_status.specs.declared.StepStatus.{StepStatus}
use Rattle.step_status.specs.declared.StepStatus.TheVariants.{Complete, NextChild, NextProperty, PreviousParent, MoreMemory, Parameter, NotUnisolated, BadTree}
use Rattle.stepped.specs.declared.Stepped.{Stepped}
use Rattle.table.specs.Layout.{word_count}
use Rattle.table.specs.Model.{Model, empty_model, rows, table_of}
use Rattle.unowned.specs.Unowned.{unowned}
use Rattle.walk.specs.Step.{step}
use Rattle.walk.proofs.Laws.{step-law}
use Rattle.status_lines.specs.Lines.{line_of}
use Rattle.walked_connector.specs.Walked.{own_index, own}
use Rattle.statuses.specs.declared.Paused.{Paused}
use Rattle.emits.specs.Run.{ends, asks}
use Rattle.statuses.specs.Statuses.{area_of, statuses_from, walk_statuses, lines, Same, to_come, input_structure, input_strings, is_walked, refusal, text_of}

-- bytes that fit, copied whole
pub copied : (d : List ℕ) (at : ℕ) (bs : List ℕ) → at + length bs ≤ length d → put d at (part bs 0 (length bs)) ≡ sets d at bs
unfolding part
copied d at bs h = rw (take-length bs) (put_in d at bs (omega arith))

pub same_then : {t u v : List ℕ} {i j k : ℕ} {p q r : List ℕ} → Same t i p u j q → Same u j q v k r → Same t i p v k r
same_then a b = record { whole = a.whole ∙ b.whole; end = a.end ∙ b.end }

-- a line was written
line-written : (text : List ℕ) (at : ℕ) (line rest : List ℕ) → Same (sets text at line) (at + length line) rest text at (line ++ rest)
line-written text at line rest = record { whole = sym (sets-append text at line rest); end = omega (arith, length-append line rest) }

pub asks-more : (n : StepStatus) → asks n ≡ true → n ≡ MoreMemory
asks-more Complete e = absurd (false≢true e)
asks-more NextChild e = absurd (false≢true e)
asks-more NextProperty e = absurd (false≢true e)
asks-more PreviousParent e = absurd (false≢true e)
asks-more MoreMemory e = refl
asks-more Parameter e = absurd (false≢true e)
asks-more NotUnisolated e = absurd (false≢true e)
asks-more (BadTree at) e = absurd (false≢true e)

-- one call, and those after it
calls-more : (m : Model) (k : ℕ) (s st : List ℕ) (c : Connector) (area : List ℕ) (r : Stepped) → 0 < k → r ≡ (step (unowned m c.partition) c area s st).stepped
    → statuses_from m k s st c area ≡ r.status ∷ pick (ends r.status) [] (statuses_from m (k - 1) s st r.connector (pick (asks r.status) (area_of 8192) (step (unowned m c.partition) c area s st).area))
unfolding statuses_from
calls-more m zero s st c area r h e = absurd (omega arith)
calls-more m (suc k) s st c area r h e = rw (e, sub-one)

pub calls-none : (m : Model) (k : ℕ) (s st : List ℕ) (c : Connector) (area : List ℕ) → k ≤ 0 → statuses_from m k s st c area ≡ []
unfolding statuses_from
calls-none m zero s st c area h = refl
calls-none m (suc k) s st c area h = absurd (omega arith)

-- no call is left
pub none_left : {text text₀ rest₀ : List ℕ} {at at₀ : ℕ} (m : Model) (k : ℕ) (s st : List ℕ) (c : Connector) (area : List ℕ) → k ≤ 0 → Same text at (lines (statuses_from m k s st c area)) text₀ at₀ rest₀ → Same text at [] text₀ at₀ rest₀
unfolding lines
none_left m k s st c area h e = rw (calls-none m k s st c area h) at e

-- a call with k calls left, its answer r, and the line of its status
pub record Turned (m : Model) (s st text area : List ℕ) (at k : ℕ) (c : Connector) (r : Stepped) (text' area' : List ℕ) (at' : ℕ) : Type 0 where
  pub more : 0 < k
  pub stepped : r ≡ (step (unowned m c.partition) c area s st).stepped
  pub left : area' ≡ (step (unowned m c.partition) c area s st).area
  pub wrote : text' ≡ sets text at (line_of r.status)
  pub moved : at' ≡ at + length (line_of r.status)

module _ {m : Model} {s st text area : List ℕ} {at k : ℕ} {c : Connector} {r : Stepped} {text' area' : List ℕ} {at' : ℕ} (t : Turned m s st text area at k c r text' area' at') where
  calls : statuses_from m k s st c area ≡ r.status ∷ pick (ends r.status) [] (statuses_from m (k - 1) s st r.connector (pick (asks r.status) (area_of 8192) (step (unowned m c.partition) c area s st).area))
  calls = calls-more m k s st c area r t.more t.stepped

  turn : (rest : List StepStatus) → statuses_from m k s st c area ≡ r.status ∷ rest → Same text' at' (lines rest) text at (lines (statuses_from m k s st c area))
  unfolding lines
  turn rest e = rw (e, t.wrote, t.moved) (line-written text at (line_of r.status) (lines rest))

  pub ended : ends r.status ≡ true → Same text' at' [] text at (lines (statuses_from m k s st c area))
  unfolding lines
  ended e = turn [] (calls ∙ ap (◌∷◌ r.status) (pick_yes (ends r.status) [] _ e))

  pub asked : ends r.status ≡ false → asks r.status ≡ true → Same text' at' (lines (statuses_from m (k - 1) s st r.connector (area_of 8192))) text at (lines (statuses_from m k s st c area))
  asked e f =
      turn (statuses_from m (k - 1) s st r.connector (area_of 8192))
      (calls ∙ ap (◌∷◌ r.status) (pick_no (ends r.status) [] _ e ∙ ap (statuses_from m (k - 1) s st r.connector) (pick_yes (asks r.status) (area_of 8192) (step (unowned m c.partition) c area s st).area f)))

  pub replied : ends r.status ≡ false → asks r.status ≡ false → Same text' at' (lines (statuses_from m (k - 1) s st r.connector area')) text at (lines (statuses_from m k s st c area))
  replied e f =
      turn (statuses_from m (k - 1) s st r.connector area')
      (calls ∙ ap (◌∷◌ r.status) (pick_no (ends r.status) [] _ e ∙ ap (statuses_from m (k - 1) s st r.connector) (pick_no (asks r.status) (area_of 8192) (step (unowned m c.partition) c area s st).area f ∙ sym t.left)))

  pub one-page : asks r.status ≡ true → length area ≡ 4096
  one-page e = (step-law (unowned m c.partition) c area s st).paged (ap (λ (x : Stepped). x.status) (sym t.stepped) ∙ asks-more _ e)

  pub same_area : length area' ≡ length area
  same_area = ap length t.left ∙ (step-law (unowned m c.partition) c area s st).size

  pub same_text : length text' ≡ length text
  same_text = ap length t.wrote ∙ length-sets text at (line_of r.status)

-- ---- the whole walk

-- the words of the table that is lent
abbrev pub no_connector : List ℕ
no_connector = replicate word_count 0

pub no_table : table_of no_connector ≡ empty_model
unfolding table_of rows
no_table = refl

-- a zeroed area with the index in word 0
pub area-made : (n : ℕ) (d : List ℕ) → 4 ≤ n → d ≡ put (replicate n 0) 0 (bytes32 own_index) → d ≡ area_of n
unfolding area_of
area-made n d h e = e ∙ put_in (replicate n 0) 0 (bytes32 own_index) (omega (arith, length-replicate {A = ℕ} n 0))

pub area-size : (n : ℕ) → length (area_of n) ≡ n
unfolding area_of
area-size n = length-sets (replicate n 0) 0 (bytes32 own_index) ∙ length-replicate n 0

-- what is still to come where the walk paused
nothing : (m : Model) (s st : List ℕ) (p : Paused) → p.asked ≡ false → to_come m s st p ≡ []
unfolding to_come
nothing m s st p e = pick_no p.asked _ [] e

further : (m : Model) (s st : List ℕ) (p : Paused) → p.asked ≡ true → to_come m s st p ≡ lines (statuses_from m p.left s st p.connector (area_of 8192))
unfolding to_come
further m s st p e = pick_yes p.asked _ [] e

module _ (m : Model) (none : m ≡ empty_model) (s st text : List ℕ) (p : Paused) (text₁ : List ℕ) (calls : ℕ) (c : Connector) (page : List ℕ) (most : calls ≡ length s + 2) (start : c ≡ own)
    (made : page ≡ area_of 4096) (first : Same text₁ p.at (to_come m s st p) text 0 (lines (statuses_from m calls s st c page))) where
  whole : Same text₁ p.at (to_come m s st p) text 0 (lines (walk_statuses s st))
  unfolding walk_statuses
  whole = rw (most, start, made) at (subst (λ x. Same text₁ p.at (to_come m s st p) text 0 (lines (statuses_from x calls s st c page))) none first)

  pub over-one : p.asked ≡ false → (text₁ ≡ sets text 0 (lines (walk_statuses s st))) × (p.at ≡ length (lines (walk_statuses s st)))
  over-one e = let w : Same text₁ p.at [] text 0 (lines (walk_statuses s st)) = rw (nothing m s st p e) at whole in (w.whole, omega (arith, w.end))

  pub over-two : p.asked ≡ true → (q : Paused) (text₂ run : List ℕ) → run ≡ area_of 8192 → q.asked ≡ false
      → Same text₂ q.at (to_come m s st q) text₁ p.at (lines (statuses_from m p.left s st p.connector run))
      → (text₂ ≡ sets text 0 (lines (walk_statuses s st))) × (q.at ≡ length (lines (walk_statuses s st)))
  over-two e q text₂ run f g h =
      let a : Same text₁ p.at (lines (statuses_from m p.left s st p.connector (area_of 8192))) text 0 (lines (walk_statuses s st)) = rw (further m s st p e) at whole in
      let b : Same text₂ q.at [] text₁ p.at (lines (statuses_from m p.left s st p.connector (area_of 8192))) = rw (nothing m s st q g, f) at h in
      let w : Same text₂ q.at [] text 0 (lines (walk_statuses s st)) = same_then b a in
      (w.whole, omega (arith, w.end))

-- ---- the whole program

unpassed : (b : Bool) → ◌≡◌ {A = ℕ} (pick b 1 0) 0 → b ≡ false
unfolding pick
unpassed true e = absurd (omega arith)
unpassed false e = refl

pub checked-well : (b : Bool) → (◌≡◌ {A = ℕ} (pick b 1 0) 0 → ⊥) → b ≡ true
unfolding pick
checked-well true n = refl
checked-well false n = absurd (n refl)

-- a structure block that passes the check is not too long
pub block_size : (s st : List ℕ) → passes s st ≡ true → length s ≤ 32768
unfolding well_formed
block_size s st e = leb-true _ _ (every-each _ (passes-formed s st e)).0

pub refused-written : (text text' input : List ℕ) (r : ℕ) → text_of input ≡ refusal → text' ≡ sets text 0 refusal → r ≡ 8 → 196620 ≤ length text → (text' ≡ sets text 0 (text_of input)) × (r ≡ length (text_of input)) × (r ≤ length text)
refused-written text text' input r e f g h = rw e (f, g, omega arith)

-- the parts of the input
pub structure-part : (input : List ℕ) (e : ℕ) → e ≡ 4 + word_at input 0 → take (e - 4) (drop 4 input) ≡ input_structure input
unfolding input_structure part
structure-part input e h = let z : e - 4 ≡ word_at input 0 = omega arith in rw z

pub strings-part : (input : List ℕ) (e : ℕ) → e ≡ 4 + word_at input 0 → take (length input - e) (drop e input) ≡ input_strings input
unfolding input_strings
strings-part input e h = rw (← h) (take_all (length input - e) (drop e input) (omega (arith, length-drop e input)))

module _ (input : List ℕ) where
  pub too_short : length input < 4 → text_of input ≡ refusal
  unfolding text_of is_walked every pick
  too_short h = simp (lt-leb _ _ h)

  pub ends-early : 4 ≤ length input → length input < 4 + word_at input 0 → text_of input ≡ refusal
  unfolding text_of is_walked every pick
  ends-early h i = simp (le-leb _ _ h, lt-leb _ _ i)

  module _ (h : 4 ≤ length input) (i : 4 + word_at input 0 ≤ length input) (s st : List ℕ) (first : s ≡ input_structure input) (second : st ≡ input_strings input) (r : ℕ) (checked : r ≡ pick (passes s st) 1 0) where
    passing : passes s st ≡ passes (input_structure input) (input_strings input)
    passing = rw (first, second)

    pub not-passed : r ≡ 0 → text_of input ≡ refusal
    unfolding text_of is_walked every pick
    not-passed e = simp (le-leb _ _ h, le-leb _ _ i, ← passing, unpassed (passes s st) (sym checked ∙ e))

    pub passed : (r ≡ 0 → ⊥) → text_of input ≡ lines (walk_statuses s st)
    unfolding text_of is_walked every pick
    passed n = rw (first, second) (simp (le-leb _ _ h, le-leb _ _ i, sym passing ∙ checked-well (passes s st) (λ e. n (checked ∙ e))))

-- the bytes that were stored, read again
pub stored : (d t : List ℕ) → length t ≤ length d → part (sets d 0 t) 0 (length t) ≡ t
unfolding part
stored d t h = rw (sets-eq t d 0 (omega arith)) (take-append_seam t (drop (0 + length t) d))

pub written_out : (d t text : List ℕ) (n : ℕ) (out out' : List ℕ) → text ≡ sets d 0 t → n ≡ length t → n ≤ length d → out' ≡ put out 0 (part text 0 n) → out' ≡ put out 0 t
written_out d t text n out out' e f h g = g ∙ ap (put out 0) (rw (e, f) (stored d t (omega arith)))

-- all of the text where it fits, else none
pub all-or-none : (t : List ℕ) (n k : ℕ) → n ≡ length t → n ≤ k → n ≡ pick (leb (length t) k) (length t) 0
unfolding pick
all-or-none t n k e h = simp (le-leb (length t) k (omega arith)) e

pub none-fits : (t : List ℕ) (n k : ℕ) → n ≡ length t → k < n → ◌≡◌ {A = ℕ} 0 (pick (leb (length t) k) (length t) 0)
unfolding pick
none-fits t n k e h = simp (lt-leb (length t) k (omega arith))

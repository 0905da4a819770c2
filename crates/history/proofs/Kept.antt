-- The invariant of table and book, and the moves that keep it: what each does to table and book.
use Prim.Native.Nat.{ℕ, suc, ◌+◌, ◌<◌}
use mathlib.Core.Path.{◌≡◌, refl, ap, sym, ◌∙◌}
use mathlib.Core.Logic.{dite, ◌≢◌}
use mathlib.Core.List.{List, [], ◌∷◌, ◌++◌, map, map-map}
use mathlib.Core.Bool.{Bool, true, false, false≢true}
use native.Mathlib.Decide.{ℕ_discrete, dec_lt}
use native.Mathlib.Omega.{arith}
use borrow.Author.Tests.{lt-ltb, le-ltb, eq-eqb, ne_eqb}
use lib.Dec.{eqb, ltb}
use lib.ListN.{get_or, set, length, length-set, length-append, get_or-eq_default}
use lib.Seq.{map-set_same}
use Rattle.words.specs.Pick.{pick, every}
use Rattle.states.specs.declared.State.{State}
use Rattle.states.specs.declared.Walk.{Walk}
use Rattle.kinds.specs.declared.Resource.{Resource}
use Rattle.connector.specs.declared.Connector.{Connector}
use Rattle.states.specs.States.{in_use, is_configured}
use Rattle.connector.specs.Fields.{changed}
use Rattle.table.specs.Model.{Line, Model, blank_connector, blank_line, moved_to}
use Rattle.kinds.specs.Kinds.{known}
use Rattle.pool.specs.Pool.{bit_of, how_many, is_free, free_count}
use Rattle.history.specs.Book.{Entry, Book, changed_at, emptied}
use Rattle.history.specs.Holds.{connector, line, holds_one, entry_of}
use Rattle.history.proofs.Lists.{pick-eq, pick-ne, At, at_set, at_more, same_map, how_many-set, how_many-more, map-set, map_more}
use Rattle.history.proofs.Fair as fair
use Rattle.history.proofs.Fair.{Fair, May, Below}

-- the resources of a kind, free or held
abbrev pub total : ℕ → Model → ℕ
total kind m = free_count kind m.ledger + how_many (holds_one kind) m.connectors

pub record Sound (m : Model) (b : Book) : Type 0 where
  pub fair : Fair (connector m) (line m)
  pub seen : (x : ℕ) → x < length m.connectors → (connector m x).index.0 ≢ 0
  pub unwanted : (x : ℕ) → (connector m x).resource.0 ≡ 0 → (connector m x).wanted ≡ false
  pub states : map entry_of m.connectors ≡ b.entries
  pub places : map (λ l. l.at) m.ledger ≡ b.places
  pub kinds : map (λ l. l.kind) m.ledger ≡ b.kinds
  pub count : (kind : ℕ) → how_many (λ k. eqb k kind) b.kinds ≡ total kind m

-- ---- what is counted
last-true : (a b : Bool) → b ≡ true → every (a ∷ b ∷ []) ≡ a
unfolding every pick
last-true true b e = rw e
last-true false b e = refl

last-false : (a b : Bool) → b ≡ false → every (a ∷ b ∷ []) ≡ false
unfolding every pick
last-false true b e = rw e
last-false false b e = refl

module _ (kind : ℕ) where
  held : (c : Connector) → c.resource.0 ≢ 0 → holds_one kind c ≡ eqb c.kind kind
  held c n = last-true (eqb c.kind kind) (ltb 0 c.resource.0) (lt-ltb 0 c.resource.0 (omega arith))

  empty : (c : Connector) → c.resource.0 ≡ 0 → holds_one kind c ≡ false
  empty c e = last-false (eqb c.kind kind) (ltb 0 c.resource.0) (le-ltb 0 c.resource.0 (omega arith))

  free : (l : Line) → l.at ≡ 0 → is_free kind l ≡ eqb l.kind kind
  free l e = last-true (eqb l.kind kind) (eqb l.at 0) (eq-eqb l.at 0 e)

  placed : (l : Line) → l.at ≢ 0 → is_free kind l ≡ false
  placed l n = last-false (eqb l.kind kind) (eqb l.at 0) (ne_eqb l.at 0 n)

-- a known kind is none that is not known
unlike : (n kind : ℕ) → known n ≡ true → known kind ≡ false → eqb n kind ≡ false
unlike n kind p q = ne_eqb n kind (λ e. false≢true (sym q ∙ ap known (sym e) ∙ p))

-- the lists of a known kind are counted, of any other kind the connectors
total-by : (kind n : ℕ) (m m' : Model) → (how_many (is_free kind) m'.ledger + how_many (holds_one kind) m'.connectors ≡ n + (how_many (is_free kind) m.ledger + how_many (holds_one kind) m.connectors)) → (known kind ≡ false → how_many (holds_one kind) m'.connectors ≡ n + how_many (holds_one kind) m.connectors) → total kind m' ≡ n + total kind m
unfolding free_count pick
total-by kind n m m' p q = go (known kind) refl
  where
    go : (t : Bool) → known kind ≡ t → pick t (how_many (is_free kind) m'.ledger) 0 + how_many (holds_one kind) m'.connectors ≡ n + (pick t (how_many (is_free kind) m.ledger) 0 + how_many (holds_one kind) m.connectors)
    go true e = p
    go false e = omega (arith, q e)

-- what is read as no blank is in the list
pub within : (m : Model) (g : Connector → ℕ) → g blank_connector ≡ 0 → (x : ℕ) → g (connector m x) ≢ 0 → x < length m.connectors
within m g e x n =
    dite (dec_lt x (length m.connectors)) (λ h. h)
    (λ h. absurd (n (ap g (get_or-eq_default m.connectors blank_connector (omega arith)) ∙ e)))

module _ (m : Model) (b : Book) (ok : Sound m b) where
  pub line-within : (x j : ℕ) → (connector m x).resource.0 ≡ suc j → j < length m.ledger
  line-within x j e =
      dite (dec_lt j (length m.ledger)) (λ h. h)
      (λ h. absurd (fair.lined (connector m) (line m) ok.fair x j e (ap (λ l. l.kind) (get_or-eq_default m.ledger blank_line (omega arith)))))

  -- a connector by its index, and what it holds by the line that names it
  pub by_index : (x y : ℕ) → x < length m.connectors → (connector m x).index.0 ≡ (connector m y).index.0 → x ≡ y
  by_index x y h e = ok.fair.single x y (ok.seen x h) e

  pub by-line : (x j : ℕ) → x < length m.connectors → (line m j).at ≡ (connector m x).index.0 → (connector m x).resource.0 ≡ suc j
  by-line x j h = fair.named-at (connector m) (line m) ok.fair x j (ok.seen x h)

  -- a state that neither brings connector i into use nor takes it from Configured
  pub steady : (i : ℕ) (s : State) → (in_use s ≡ true → in_use (connector m i).state ≡ true) → (is_configured (connector m i).state ≡ true → is_configured s ≡ true) → May (connector m) i s
  steady = fair.calm (connector m) (line m) ok.fair

  -- ---- the moves
  module _ (c : Connector) (nz : c.index.0 ≢ 0) (fresh : (x : ℕ) → (connector m x).index.0 ≢ c.index.0) (kc : known c.kind ≡ true) (e : c.resource.0 ≡ 0) (u : c.wanted ≡ false) (pc : c.parent.0 ≢ 0 → (y : ℕ) × Below c (connector m y)) where
    more-seen : (x : ℕ) → x < length (m.connectors ++ (c ∷ [])) → (get_or (m.connectors ++ (c ∷ [])) x blank_connector).index.0 ≢ 0
    more-seen x =
        let a = at_more blank_connector m.connectors c in
        dite (ℕ_discrete x (length m.connectors))
        (λ (p : x ≡ length m.connectors). rw (p, a.here) (λ _. nz))
        (λ p h. rw (a.there x p) (ok.seen x (omega (arith, length-append m.connectors (c ∷ [])))))

    more-unwanted : (x : ℕ) → (get_or (m.connectors ++ (c ∷ [])) x blank_connector).resource.0 ≡ 0 → (get_or (m.connectors ++ (c ∷ [])) x blank_connector).wanted ≡ false
    more-unwanted x =
        let a = at_more blank_connector m.connectors c in
        dite (ℕ_discrete x (length m.connectors))
        (λ (p : x ≡ length m.connectors). rw (p, a.here) (λ _. u))
        (λ p. rw (a.there x p) (ok.unwanted x))

    pub more-row : Sound (record { connectors = m.connectors ++ (c ∷ []); ledger = m.ledger }) (record { entries = b.entries ++ (entry_of c ∷ []); places = b.places; kinds = b.kinds })
    more-row =
        record {
          fair = fair.more-row (connector m) (line m) ok.fair _ (length m.connectors) c (at_more blank_connector m.connectors c) (ap (λ c. c.index.0) (get_or-eq_default m.connectors blank_connector (omega arith))) nz fresh kc e pc;
          seen = more-seen;
          unwanted = more-unwanted;
          states = map_more entry_of m.connectors c ∙ ap (λ l. l ++ (entry_of c ∷ [])) ok.states;
          places = ok.places;
          kinds = ok.kinds;
          count = λ kind. omega (arith, ok.count kind, how_many-more (holds_one kind) m.connectors c, ap bit_of (empty kind c e));
        }

  module _ (k : ℕ) (kk : known k ≡ true) where
    abbrev new : Line
    new = record { kind = k; at = 0 }

    pub more-line : Sound (record { connectors = m.connectors; ledger = m.ledger ++ (new ∷ []) }) (record { entries = b.entries; places = b.places ++ (0 ∷ []); kinds = b.kinds ++ (k ∷ []) })
    more-line =
        record {
          fair = fair.more-line (connector m) (line m) ok.fair _ (length m.ledger) new (at_more blank_line m.ledger new) (ap (λ l. l.kind) (get_or-eq_default m.ledger blank_line (omega arith))) refl;
          seen = ok.seen;
          unwanted = ok.unwanted;
          states = ok.states;
          places = map_more (λ l. l.at) m.ledger new ∙ ap (λ l. l ++ (0 ∷ [])) ok.places;
          kinds = map_more (λ l. l.kind) m.ledger new ∙ ap (λ l. l ++ (k ∷ [])) ok.kinds;
          count = λ kind.
              let more : how_many (λ n. eqb n kind) (b.kinds ++ (k ∷ [])) ≡ how_many (λ n. eqb n kind) b.kinds + bit_of (eqb k kind) = how_many-more (λ n. eqb n kind) b.kinds k in
              let one : bit_of (is_free kind new) ≡ bit_of (eqb k kind) = ap bit_of (free kind new refl) in
              let all = total-by kind (bit_of (eqb k kind)) m (record { connectors = m.connectors; ledger = m.ledger ++ (new ∷ []) }) (omega (arith, how_many-more (is_free kind) m.ledger new, one)) (λ q. omega (arith, ap bit_of (unlike k kind kk q))) in
              omega (arith, more, ok.count kind, all);
        }

  -- connector i changes in state, resource, walk and whether it is wanted back; `es` are the book's entries then
  module _ (i : ℕ) (h : i < length m.connectors) (s : State) (r : Resource) (w : Walk) (u : Bool) where
    abbrev own : ℕ
    own = (connector m i).index.0

    abbrev new_row : Connector
    new_row = changed s r w u (connector m i)

    abbrev new-rows : List Connector
    new-rows = set m.connectors i new_row

    at_row : At (connector m) (λ x. get_or new-rows x blank_connector) i new_row
    at_row = at_set blank_connector m.connectors i new_row h

    count-row : (kind : ℕ) → how_many (holds_one kind) new-rows + bit_of (holds_one kind (connector m i)) ≡ how_many (holds_one kind) m.connectors + bit_of (holds_one kind new_row)
    count-row kind = how_many-set blank_connector (holds_one kind) m.connectors i new_row h

    -- the book's entries, by a function that says the new entry and leaves those of other indexes
    pub entries_by : (g : Entry → Entry) → g (entry_of (connector m i)) ≡ entry_of new_row → ((e : Entry) → e.index ≢ own → g e ≡ e) → map entry_of new-rows ≡ map g b.entries
    entries_by g here there =
        rw (← ok.states, map-map)
        (same_map blank_connector entry_of (λ c. g (entry_of c)) m.connectors new-rows (length-set m.connectors i new_row) each)
      where
        each : (x : ℕ) → x < length m.connectors → entry_of (get_or new-rows x blank_connector) ≡ g (entry_of (connector m x))
        each x hx =
            dite (ℕ_discrete x i)
            (λ (p : x ≡ i). rw (p, at_row.here, here))
            (λ p. rw (at_row.there x p) (sym (there (entry_of (connector m x)) (λ z. p (by_index x i hx z)))))

    pub entry-by : (g : Entry → Entry) → g (entry_of (connector m i)) ≡ entry_of new_row → map entry_of new-rows ≡ map (changed_at own g) b.entries
    entry-by g e = entries_by (changed_at own g) (pick-eq own own (g (entry_of (connector m i))) (entry_of (connector m i)) refl ∙ e) (λ d n. pick-ne d.index own (g d) d n)

    module _ (may : May (connector m) i s) (es : List Entry) (st : map entry_of new-rows ≡ es) (un : r.0 ≡ 0 → u ≡ false) where
      row-unwanted : (x : ℕ) → (get_or new-rows x blank_connector).resource.0 ≡ 0 → (get_or new-rows x blank_connector).wanted ≡ false
      row-unwanted x =
          dite (ℕ_discrete x i)
          (λ (p : x ≡ i). rw (p, at_row.here) un)
          (λ p. rw (at_row.there x p) (ok.unwanted x))

      row_seen : (x : ℕ) → x < length new-rows → (get_or new-rows x blank_connector).index.0 ≢ 0
      row_seen x hx z =
          ok.seen x (omega (arith, length-set m.connectors i new_row))
          (sym (fair.index (connector m) (line m) ok.fair _ i s r w u at_row may x) ∙ z)

      pub moved : r.0 ≡ (connector m i).resource.0 → Sound (record { connectors = new-rows; ledger = m.ledger }) (record { entries = es; places = b.places; kinds = b.kinds })
      moved e =
          record {
            fair = fair.moved (connector m) (line m) ok.fair _ i s r w u at_row may e;
            seen = row_seen;
            unwanted = row-unwanted;
            states = st;
            places = ok.places;
            kinds = ok.kinds;
            count = λ kind. omega (arith, ok.count kind, count-row kind, ap (λ n. bit_of (every (eqb (connector m i).kind kind ∷ ltb 0 n ∷ []))) e);
          }

      -- with line j, whose resource goes to v
      module _ (j : ℕ) (hj : j < length m.ledger) (v : ℕ) where
        abbrev new_line : Line
        new_line = moved_to v (line m j)

        abbrev new-model : Model
        new-model = record { connectors = new-rows; ledger = set m.ledger j new_line }

        at-line : At (line m) (line new-model) j new_line
        at-line = at_set blank_line m.ledger j new_line hj

        -- what the ledger has more the connectors have less, of known kinds only
        count-both : (kind : ℕ) → bit_of (is_free kind new_line) + bit_of (holds_one kind new_row) ≡ bit_of (is_free kind (line m j)) + bit_of (holds_one kind (connector m i)) → (known kind ≡ false → holds_one kind new_row ≡ holds_one kind (connector m i)) → total kind new-model ≡ 0 + total kind m
        count-both kind p q =
            total-by kind 0 m new-model (omega (arith, count-row kind, how_many-set blank_line (is_free kind) m.ledger j new_line hj)) (λ z. omega (arith, count-row kind, ap bit_of (q z)))

        both : Fair (connector new-model) (line new-model) → (ps : List ℕ) → map (λ l. l.at) new-model.ledger ≡ ps → ((kind : ℕ) → total kind new-model ≡ 0 + total kind m) → Sound new-model (record { entries = es; places = ps; kinds = b.kinds })
        both f ps e n =
            record {
              fair = f;
              seen = row_seen;
              unwanted = row-unwanted;
              states = st;
              places = e;
              kinds = map-set_same (λ l. l.kind) m.ledger j new_line blank_line refl ∙ ok.kinds;
              count = λ kind. omega (arith, ok.count kind, n kind);
            }

        pub put : r.0 ≡ suc j → v ≡ own → (connector m i).resource.0 ≡ 0 → (line m j).at ≡ 0 → (line m j).kind ≡ (connector m i).kind → Sound new-model (record { entries = es; places = set b.places j v; kinds = b.kinds })
        put er ev ri aj k =
            both
            (fair.put (connector m) (line m) ok.fair _ i s r w u at_row may _ j v at-line (ok.seen i h) er ev ri aj k)
            (set b.places j v)
            (map-set (λ l. l.at) m.ledger j new_line ∙ ap (λ l. set l j v) ok.places)
            (λ kind.
            let after : holds_one kind new_row ≡ eqb (connector m i).kind kind = held kind new_row (λ z. omega arith) in
            let before : holds_one kind (connector m i) ≡ false = empty kind (connector m i) ri in
            count-both kind
            (rw (after, before, placed kind new_line (λ z. ok.seen i h (sym ev ∙ z)), free kind (line m j) aj, k) (omega arith))
            (λ q. after ∙ unlike (connector m i).kind kind (ok.fair.kinded i (ok.seen i h)) q ∙ sym before))

        taken_places : v ≡ 0 → (connector m i).resource.0 ≡ suc j → map (λ l. l.at) new-model.ledger ≡ map (emptied own) b.places
        taken_places ev ri =
            rw (← ok.places, map-map)
            (same_map blank_line (λ l. l.at) (λ l. emptied own l.at) m.ledger (set m.ledger j new_line) (length-set m.ledger j new_line) each)
          where
            each : (y : ℕ) → y < length m.ledger → (line new-model y).at ≡ emptied own (line m y).at
            each y hy =
                dite (ℕ_discrete y j)
                (λ (p : y ≡ j). rw (p, at-line.here, pick-eq (line m j).at own 0 (line m j).at (ok.fair.stands i j ri).1) ev)
                (λ p. rw (at-line.there y p, pick-ne (line m y).at own 0 (line m y).at (λ z. p (omega (arith, by-line i y h z)))))

        pub taken : r.0 ≡ 0 → v ≡ 0 → (connector m i).resource.0 ≡ suc j → Sound new-model (record { entries = es; places = map (emptied own) b.places; kinds = b.kinds })
        taken er ev ri =
            let at = ok.fair.stands i j ri in
            both
            (fair.taken (connector m) (line m) ok.fair _ i s r w u at_row may _ j v at-line er ev ri)
            (map (emptied own) b.places)
            (taken_places ev ri)
            (λ kind.
            let after : holds_one kind new_row ≡ false = empty kind new_row er in
            let before : holds_one kind (connector m i) ≡ eqb (connector m i).kind kind = held kind (connector m i) (λ z. omega arith) in
            count-both kind
            (rw (after, before, free kind new_line ev, placed kind (line m j) (λ z. at.0 (sym at.1 ∙ z)), at.2) (omega arith))
            (λ q. after ∙ sym (unlike (connector m i).kind kind (ok.fair.kinded i at.0) q) ∙ sym before))

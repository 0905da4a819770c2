-- A reader takes the replies of a walk, and writes just the bytes of the events.
use mathlib.Core.Path.{◌≡◌, refl, ap, sym, ◌∙◌}
use mathlib.Core.Bool.{Bool, true, false, false≢true}
use mathlib.Core.List.{List, [], ◌∷◌, ◌++◌, append-nil}
use Prim.Native.Nat.{ℕ, ◌+◌, ◌-◌, ◌<◌, ◌≤◌}
use native.Mathlib.Omega.{arith}
use lib.ListN.{length, take, length-append}
use lib.Seq.{sets, length-sets}
use borrow.Author.Tests.{le-leb}
use Rattle.words.specs.Pick.{pick}
use Rattle.words.proofs.Pick.{pick_yes, each-every}
use Rattle.buffer.proofs.Put.{sets-append}
use Rattle.devtree.specs.Tree.{Event, begin, prop, end, events_from, tree_of, tree, flatten}
use Rattle.devtree.specs.Check.{passes}
use Rattle.devtree.proofs.Tree.{tree-flat}
use Rattle.states.specs.declared.Page.{Page}
use Rattle.states.specs.declared.Page.TheVariants.{None}
use Rattle.step_status.specs.declared.StepStatus.TheVariants.{Complete, NextChild, NextProperty, PreviousParent, MoreMemory}
use Rattle.step_status.specs.Status.{step_number}
use Rattle.walk.specs.Step.{written}
use Rattle.walk.proofs.Area.{area-size}
use Rattle.emits.specs.Run.{Reply, until_zero}
use Rattle.emits.specs.Good.{GoodName, AllGood, PropsFirst}
use Rattle.emits.specs.Emits.{needed, Emits, stopped, child, property, more, parent, last}
use Rattle.emits.proofs.Ordered.{ordered-events}
use Rattle.emits.proofs.Counts.{until-later}
use Rattle.emits.proofs.Steps.{form-area}
use Rattle.replies.specs.declared.Node.{Node}
use Rattle.replies.specs.declared.Node.TheVariants.{NoChild, HasChild}
use Rattle.replies.specs.declared.Reader.{Reader}
use Rattle.replies.specs.declared.Reading.TheVariants.{Taken, Waiting}
use Rattle.replies.specs.declared.ReplyKind.{ReplyKind}
use Rattle.replies.specs.declared.ReplyKind.TheVariants.{Last, Child, Property, Parent, Wait}
use Rattle.sensible.specs.declared.Parts.{Parts}
use Rattle.reader.specs.Bytes.{begin_bytes, prop_bytes, end_bytes, last_bytes}
use Rattle.name_places.specs.Names.{place_of, new_name}
use Rattle.replies.specs.Replies.{new_reader, kind_of, most, waits}
use Rattle.sensible.specs.Sensible.{no_parts, parts_of, name_fits, value_fits, parts_fit, unfinished, allowed, area_size, sensible}
use Rattle.after_reply.specs.After.{node_after, answer_of}
use Rattle.reader.specs.Replies.{tokens_of, new_tokens, new_strings, depth_after, next, Outcome, kept, added, taken, reply}
use Rattle.reader.proofs.Laws.{take-sets}
use Rattle.reader.proofs.Taken.{waiting, taking}
use Rattle.rebuild.specs.Rebuild.{after_answer, read_all, accepted, strings_of, structure_of, structure_for, strings_for, Room, Rebuilt}
use Rattle.rebuild.proofs.Blocks.{tree-good}
use Rattle.rebuild.proofs.ReadBack.{read_back}
use Rattle.rebuild.proofs.Told.{Named, Valued, node-told, property-named, property-valued, length-written}

-- ---- what is claimed

-- the reader's node, by whether an end stands just before
abbrev pub node_for : Bool → Node
node_for true = HasChild
node_for false = NoChild

-- a reader for which the events come next, `depth` nodes being open, and that has room for their bytes
pub record Ready (r : Reader) (depth : ℕ) (ended : Bool) (es : List Event) (s st : List ℕ) : Type 0 where
  pub nested : r.depth ≡ depth
  pub deep : depth ≤ 8
  pub node : r.node ≡ node_for ended
  pub good : AllGood es
  pub ordered : PropsFirst ended es
  pub structure : r.structure + length (structure_of (take r.strings st) es) ≤ most (length s)
  pub strings : r.strings + length (strings_of (take r.strings st) es) ≤ most (length st)

-- the replies are accepted, and leave the bytes `tokens` and `names` after the used bytes of both buffers
pub record Takes (r : Reader) (ys : List Reply) (s st tokens names : List ℕ) : Type 0 where
  pub accepts : accepted (read_all r ys s st).answers ≡ true
  pub used_structure : (read_all r ys s st).reader.structure ≡ r.structure + length tokens
  pub used_strings : (read_all r ys s st).reader.strings ≡ r.strings + length names
  pub structure : (read_all r ys s st).structure ≡ sets s r.structure tokens
  pub strings : (read_all r ys s st).strings ≡ sets st r.strings names

-- the bytes of the events are written
abbrev pub Writes : Reader → List Event → List Reply → List ℕ → List ℕ → Type 0
Writes r es ys s st = Takes r ys s st (structure_of (take r.strings st) es) (strings_of (take r.strings st) es)

-- so for every ready reader
abbrev Reads : ℕ → List Event → List Reply → Type 0
Reads depth es ys = (r : Reader) (ended : Bool) (s st : List ℕ) → Ready r depth ended es s st → Writes r es ys s st

-- ---- one reply

-- what an event adds to both blocks, before those after it
record Adds (used : List ℕ) (e : Event) (es : List Event) (tokens new : List ℕ) : Type 0 where
  structure : structure_of used (e ∷ es) ≡ tokens ++ structure_of (used ++ new) es
  strings : strings_of used (e ∷ es) ≡ new ++ strings_of (used ++ new) es

adds-begin : (used name : List ℕ) (es : List Event) → Adds used (begin name) es (begin_bytes name) []
unfolding structure_of strings_of
adds-begin used name es = record { structure = rw (append-nil used); strings = rw (append-nil used) }

adds-prop : (used name value : List ℕ) (es : List Event) → Adds used (prop name value) es (prop_bytes (place_of name used) value) (new_name name used)
unfolding structure_of strings_of
adds-prop used name value es = record { structure = refl; strings = refl }

adds-end : (used : List ℕ) (es : List Event) → Adds used end es end_bytes []
unfolding structure_of strings_of
adds-end used es = record { structure = rw (append-nil used); strings = rw (append-nil used) }

node-unfinished : (ended : Bool) → unfinished (node_for ended) ≡ true
node-unfinished false = refl
node-unfinished true = refl

-- a reply that a reader may take now, and what it adds
record Comes (r : Reader) (y : Reply) (k : ReplyKind) (p : Parts) (s st tokens new : List ℕ) : Type 0 where
  kind : k ≡ kind_of (step_number y.status)
  parts : p ≡ parts_of k y.area
  sensibly : sensible r k p (length y.area) (length s) (length st) ≡ true
  goes : waits k ≡ false
  structure : new_tokens k p y.area (take r.strings st) ≡ tokens
  strings : new_strings k p y.area (take r.strings st) ≡ new

-- a reply, and those after it
module _ (r : Reader) (y : Reply) (ys : List Reply) (s st : List ℕ) where
  abbrev answered : Outcome
  answered = reply r (step_number y.status) y.area s st

  -- where there is room for what it adds, it is taken
  took : (k : ReplyKind) (p : Parts) (tokens new : List ℕ) → Comes r y k p s st tokens new → r.structure + length tokens ≤ most (length s) → r.strings + length new ≤ most (length st) → answered ≡ added r k tokens new s st
  unfolding taken
  took k p tokens new c a b =
      sym (taking r (step_number y.status) y.area s st k p true c.kind c.parts (sym c.sensibly) refl false (sym c.goes) refl)
      ∙ rw (c.structure, c.strings) (pick_yes _ _ _ (each-every _ (le-leb _ _ a, (le-leb _ _ b, tt))))

  read-on : (o : Outcome) → answered ≡ o → read_all r (y ∷ ys) s st ≡ after_answer o.answer (read_all o.reader ys o.structure o.strings)
  unfolding read_all
  read-on o e = rw e

  waits-on : (tokens names : List ℕ) → answered ≡ kept Waiting r s st → Takes r ys s st tokens names → Takes r (y ∷ ys) s st tokens names
  unfolding accepted
  waits-on tokens names e t =
      let is = read-on (kept Waiting r s st) e in
      record {
        accepts = rw is t.accepts;
        used_structure = rw is t.used_structure;
        used_strings = rw is t.used_strings;
        structure = rw is t.structure;
        strings = rw is t.strings;
      }

  goes_on : (k : ReplyKind) (tokens new later names : List ℕ) → answer_of k ≡ Taken → answered ≡ added r k tokens new s st → Takes (next r k (length tokens) (length new)) ys (sets s r.structure tokens) (sets st r.strings new) later names → Takes r (y ∷ ys) s st (tokens ++ later) (new ++ names)
  unfolding accepted
  goes_on k tokens new later names a e t =
      let is = read-on (added r k tokens new s st) e in
      record {
        accepts = rw (is, a) t.accepts;
        used_structure = rw (is, length-append tokens later) (omega (arith, t.used_structure));
        used_strings = rw (is, length-append new names) (omega (arith, t.used_strings));
        structure = rw is (t.structure ∙ sym (sets-append s r.structure tokens later));
        strings = rw is (t.strings ∙ sym (sets-append st r.strings new names));
      }

-- what is left of a ready reader's room after an event's reply, and the used bytes of the strings buffer then
module _ (r : Reader) (depth : ℕ) (ended : Bool) (e : Event) (es : List Event) (s st : List ℕ) (h : Ready r depth ended (e ∷ es) s st) (tokens new : List ℕ) (adds : Adds (take r.strings st) e es tokens new) where
  abbrev used : List ℕ
  used = take r.strings st

  structure-room : r.structure + (length tokens + length (structure_of (used ++ new) es)) ≤ most (length s)
  structure-room = rw (← length-append tokens (structure_of (used ++ new) es), ← adds.structure) h.structure

  strings-room : r.strings + (length new + length (strings_of (used ++ new) es)) ≤ most (length st)
  strings-room = rw (← length-append new (strings_of (used ++ new) es), ← adds.strings) h.strings

  used-after : take (r.strings + length new) (sets st r.strings new) ≡ used ++ new
  used-after = take-sets st r.strings new (omega (arith, strings-room))

  -- the event's reply is taken, and then those of the events after it
  module _ (ys : List Reply) (depth' : ℕ) (ended' : Bool) (later : Reads depth' es ys) (deep : depth' ≤ 8) (good : AllGood es) (ordered : PropsFirst ended' es) where
    goes : (y : Reply) (k : ReplyKind) (p : Parts) → Comes r y k p s st tokens new → answer_of k ≡ Taken → depth_after k depth ≡ depth' → node_after k (node_for ended) ≡ node_for ended' → Writes r (e ∷ es) (y ∷ ys) s st
    goes y k p c a d n =
        let ready : Ready (next r k (length tokens) (length new)) depth' ended' es (sets s r.structure tokens) (sets st r.strings new) =
        record {
          nested = rw h.nested d;
          deep = deep;
          node = rw h.node n;
          good = good;
          ordered = ordered;
          structure = rw (used-after, length-sets s r.structure tokens) (omega (arith, structure-room));
          strings = rw (used-after, length-sets st r.strings new) (omega (arith, strings-room));
        } in
        rw (adds.structure, adds.strings)
        (goes_on r y ys s st k tokens new _ _ a
        (took r y ys s st k p tokens new c (omega (arith, structure-room)) (omega (arith, strings-room)))
        (rw used-after at (later _ ended' _ _ ready)))

-- ---- the replies of each kind

-- what the work area of a node's reply points to, and of a property's
abbrev node_parts : List ℕ → Parts
node_parts name = record { name = 20; n = length name; value = 0; len = 0 }

abbrev value_parts : List ℕ → List ℕ → Parts
value_parts name value = record { name = 20; n = length name; value = 20 + length name + 1; len = length value }

name-fits : (longest : ℕ) (name : List ℕ) (value len : ℕ) → GoodName longest name → longest ≤ 47 → name_fits longest (record { name = 20; n = length name; value = value; len = len }) ≡ true
unfolding name_fits
name-fits longest name value len g h =
    let ends : 20 + length name ≤ 4095 = omega (arith, g.few) in
    each-every _ (refl, (le-leb _ _ g.some, (le-leb _ _ g.few, (le-leb _ _ ends, tt))))

value-fits : (name value : List ℕ) (area : ℕ) → needed name value ≤ area → value_fits (value_parts name value) area ≡ true
unfolding value_fits
value-fits name value area h =
    let above : 20 ≤ 20 + length name + 1 = omega arith in
    each-every _ (le-leb _ _ above, (le-leb _ _ h, tt))

-- to a ready reader a reply that may come now makes sense
sense : (r : Reader) (depth : ℕ) (ended : Bool) (es : List Event) (s st : List ℕ) → Ready r depth ended es s st → (k : ReplyKind) (p : Parts) (area : List ℕ) → area_size (length area) ≡ true → allowed k depth (node_for ended) ≡ true → parts_fit k p (length area) ≡ true → sensible r k p (length area) (length s) (length st) ≡ true
unfolding sensible
sense r depth ended es s st h k p area l a f =
    let x : r.structure ≤ most (length s) = omega (arith, h.structure) in
    let y : r.strings ≤ most (length st) = omega (arith, h.strings) in
    rw (h.node, h.nested)
    (each-every _
    (le-leb _ _ x, (le-leb _ _ y, (le-leb _ _ h.deep, (node-unfinished ended, (l, (a, (f, tt))))))))

module _ (area : List ℕ) (form : area_size (length area) ≡ true) where
  module _ (depth : ℕ) (es : List Event) (ys : List Reply) where
    on-child : (name : List ℕ) → depth < 8 → Reads (depth + 1) es ys → Reads depth (begin name ∷ es) (record { status = NextChild; area = written area (begin name) } ∷ ys)
    unfolding tokens_of pick
    on-child name d later r ended s st h =
        let g = h.good.0 in
        let tells : List ℕ = written area (begin name) in
        let told : Named 48 tells name = node-told area name g (area-size (length area) form).0 in
        let size : area_size (length tells) ≡ true = rw (length-written area (begin name)) form in
        goes r depth ended (begin name) es s st h (begin_bytes name) [] (adds-begin (take r.strings st) name es) ys (depth + 1) false later (omega arith) h.good.1 h.ordered _ Child (node_parts name)
        (record {
          kind = refl;
          parts = rw (told.place, told.size);
          sensibly = sense r depth ended _ s st h Child (node_parts name) tells size (le-leb depth 7 (omega arith)) (name-fits 47 name 0 0 g (omega arith));
          goes = refl;
          structure = rw told.bytes;
          strings = refl;
        })
        refl refl refl

    on-property : (name value : List ℕ) → 1 ≤ depth → needed name value ≤ length area → Reads depth es ys → Reads depth (prop name value ∷ es) (record { status = NextProperty; area = written area (prop name value) } ∷ ys)
    unfolding tokens_of pick
    on-property name value d room later r ended s st h =
        let g = h.good.0.0 in
        let first : ended ≡ false = h.ordered.0 in
        let tells : List ℕ = written area (prop name value) in
        let named : Named 32 tells name = property-named area name value room g in
        let valued : Valued tells (20 + length name + 1) value = property-valued area name value room in
        let long : length tells ≡ length area = length-written area (prop name value) in
        let size : area_size (length tells) ≡ true = rw long form in
        let may : allowed Property depth (node_for ended) ≡ true = rw first (each-every _ (le-leb 1 depth d, (refl, tt))) in
        let fits : value_fits (value_parts name value) (length tells) ≡ true = value-fits name value (length tells) (rw long room) in
        goes r depth ended (prop name value) es s st h _ _ (adds-prop (take r.strings st) name value es) ys depth false later h.deep h.good.1 h.ordered.1 _ Property (value_parts name value)
        (record {
          kind = refl;
          parts = rw (named.place, named.size, valued.place, valued.size);
          sensibly = sense r depth ended _ s st h Property (value_parts name value) tells size may (each-every _ (name-fits 31 name _ _ g (omega arith), (fits, tt)));
          goes = refl;
          structure = rw (named.bytes, valued.bytes);
          strings = rw named.bytes;
        })
        refl refl (ap node_for first)

    on-parent : 2 ≤ depth → Reads (depth - 1) es ys → Reads depth (end ∷ es) (record { status = PreviousParent; area = area } ∷ ys)
    unfolding tokens_of pick
    on-parent d later r ended s st h =
        goes r depth ended end es s st h end_bytes [] (adds-end (take r.strings st) es) ys (depth - 1) true later (omega (arith, h.deep)) h.good.1 h.ordered _ Parent no_parts
        (record {
          kind = refl;
          parts = refl;
          sensibly = sense r depth ended _ s st h Parent no_parts area form (le-leb 2 depth d) refl;
          goes = refl;
          structure = refl;
          strings = refl;
        })
        refl refl refl

    on-more : Reads depth es ys → Reads depth es (record { status = MoreMemory; area = area } ∷ ys)
    unfolding pick
    on-more later r ended s st h =
        waits-on r _ ys s st _ _
        (sym (waiting r _ area s st Wait no_parts true refl refl (sym (sense r depth ended es s st h Wait no_parts area form refl refl)) refl true refl refl))
        (later r ended s st h)

  on-last : Reads 1 (end ∷ []) (record { status = Complete; area = area } ∷ [])
  unfolding read_all accepted structure_of strings_of tokens_of pick
  on-last r ended s st h =
      let is =
      took r (record { status = Complete; area = area }) [] s st Last no_parts (end_bytes ++ last_bytes) []
      (record {
        kind = refl;
        parts = refl;
        sensibly = sense r 1 ended _ s st h Last no_parts area form refl refl;
        goes = refl;
        structure = refl;
        strings = refl;
      })
      h.structure h.strings in
      record { accepts = rw is; used_structure = rw is; used_strings = rw is; structure = rw is; strings = rw is }

-- ---- all of a walk's replies

pub takes-replies : {depth : ℕ} {page : Page} {es : List Event} {areas : List (List ℕ)} {ys : List Reply} → Emits depth page es areas ys → until_zero ys ≡ true → (r : Reader) (ended : Bool) (s st : List ℕ) → Ready r depth ended es s st → Writes r es ys s st
unfolding until_zero
takes-replies (stopped l) z = absurd (false≢true z)
takes-replies (child {depth} {page} {name} {a} {es} {areas} {rs} f d m) z =
    on-child a (form-area page (length a) f) depth es rs name d (takes-replies m (sym (until-later (record { status = NextChild; area = written a (begin name) }) rs refl) ∙ z))
takes-replies (property {depth} {page} {name} {value} {a} {es} {areas} {rs} f d l m) z =
    on-property a (form-area page (length a) f) depth es rs name value d l (takes-replies m (sym (until-later (record { status = NextProperty; area = written a (prop name value) }) rs refl) ∙ z))
takes-replies (more {depth} {page} {name} {value} {a} {es} {areas} {rs} f d o l m) z =
    on-more a (form-area page (length a) f) depth (prop name value ∷ es) rs (takes-replies m (sym (until-later (record { status = MoreMemory; area = a }) rs refl) ∙ z))
takes-replies (parent {depth} {page} {a} {es} {areas} {rs} f d m) z =
    on-parent a (form-area page (length a) f) depth es rs d (takes-replies m (sym (until-later (record { status = PreviousParent; area = a }) rs refl) ∙ z))
takes-replies (last {page} {a} f) z = on-last a (form-area page (length a) f)

-- the replies of a walk to its 0, read by a new reader with room for the tree
module _ (s st : List ℕ) (ok : passes s st ≡ true) (areas : List (List ℕ)) (ys : List Reply) (emits : Emits 0 None (events_from s st 0) areas ys) (zero : until_zero ys ≡ true) (s0 st0 : List ℕ) (room : Room (tree s st) (length s0) (length st0)) where
  takes_all : Takes new_reader ys s0 st0 (structure_for (tree s st)) (strings_for (tree s st))
  takes_all =
      takes-replies (rw (← tree-flat s st ok) at emits) zero new_reader false s0 st0
      (record {
        nested = refl;
        deep = omega arith;
        node = refl;
        good = tree-good s st ok;
        ordered = rw (tree-flat s st ok) (ordered-events s st ok);
        structure = omega (arith, room.structure);
        strings = omega (arith, room.strings);
      })

  pub rebuilt : Rebuilt (tree s st) s0 st0 (read_all new_reader ys s0 st0)
  unfolding tree
  rebuilt =
      let t = takes_all in
      let back = read_back (flatten (tree s st)) (tree-good s st ok) in
      let wrote : (d bs : List ℕ) → length bs ≤ length d → take (0 + length bs) (sets d 0 bs) ≡ bs = λ d bs h. take-sets d 0 bs (omega arith) in
      record {
        accepts = t.accepts;
        used_structure = omega (arith, t.used_structure);
        used_strings = omega (arith, t.used_strings);
        structure = t.structure;
        strings = t.strings;
        same =
            rw (t.used_structure, t.used_strings, t.structure, t.strings, wrote s0 (structure_for (tree s st)) (omega (arith, room.structure)), wrote st0 (strings_for (tree s st)) (omega (arith, room.strings)), back)
            (ap tree_of (tree-flat s st ok));
      }

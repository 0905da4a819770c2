-- A walk's replies read by a new reader: document 01's demand 2. `s` is a structure block or buffer, `st` a strings block or buffer.
use Rattle.std.specs.Prelude.{ℕ, ◌≤◌, ◌≡◌, List, [], ◌∷◌, ◌++◌, Bool, true, false, length, take}
use Rattle.std.proofs.lemmas.List.Edits.{sets}
use Rattle.devtree.specs.Tree.{Event, begin, prop, end, Nodes, tree, flatten}
use Rattle.devtree.specs.Check.{passes}
use Rattle.states.specs.declared.State.TheVariants.{Unisolated}
use Rattle.connector.specs.declared.Connector.{Connector}
use Rattle.states.specs.States.{start}
use Rattle.step_status.specs.Status.{step_number}
use Rattle.sent_trees.specs.Trees.{sent_tree}
use Rattle.emits.specs.Run.{Reply, Lent, when_taken, RightForm, until_zero, replies}
use Rattle.replies.specs.declared.Reader.{Reader}
use Rattle.replies.specs.declared.Reading.{Reading}
use Rattle.replies.specs.declared.Reading.TheVariants.{Finished, Taken, Waiting, Senseless, NoRoom}
use Rattle.reader.specs.Bytes.{begin_bytes, prop_bytes, end_bytes, last_bytes}
use Rattle.name_places.specs.Names.{place_of, new_name}
use Rattle.replies.specs.Replies.{most}
use Rattle.reader.specs.Replies.{Outcome, reply}

-- demand 2's premise: a tree that passes the check, lent the same throughout to a connector that is Unisolated with its walk at the start, over work areas of the right form, until the 0. Nothing is asked of the tables that the calls lend
pub record WholeWalk (s st : List ℕ) (c : Connector) (ls : List Lent) : Type 0 where
  pub checked : passes s st ≡ true
  pub unisolated : c.state ≡ Unisolated
  pub starts : c.walk ≡ start
  pub form : RightForm s st c ls
  pub zero : until_zero (replies s st c ls) ≡ true

-- the tree that the replies to these calls send: without the nodes that were unowned at the call that took the token after them
abbrev pub sent_by : List ℕ → List ℕ → Connector → List Lent → Nodes
sent_by s st c ls = sent_tree (when_taken ls (replies s st c ls)) (tree s st)

-- the answers to replies that are read one after another, and what they leave: the record and both buffers
pub record Rebuilding : Type 0 where
  pub answers : List Reading
  pub reader : Reader
  pub structure : List ℕ
  pub strings : List ℕ

abbrev pub after_answer : Reading → Rebuilding → Rebuilding
after_answer a r = record { answers = a ∷ r.answers; reader = r.reader; structure = r.structure; strings = r.strings }

-- each reply is read once, in order
unfoldable pub read_all : Reader → List Reply → List ℕ → List ℕ → Rebuilding
read_all r [] s st = record { answers = []; reader = r; structure = s; strings = st }
read_all r (y ∷ ys) s st =
    let o : Outcome = reply r (step_number y.status) y.area s st in
    after_answer o.answer (read_all o.reader ys o.structure o.strings)

-- each answer is 'taken' or 'waiting', and the last one 'finished'
unfoldable pub accepted : List Reading → Bool
accepted [] = false
accepted (Finished ∷ []) = true
accepted (Finished ∷ (a ∷ more)) = false
accepted (Taken ∷ more) = accepted more
accepted (Waiting ∷ more) = accepted more
accepted (Senseless ∷ more) = false
accepted (NoRoom ∷ more) = false

-- what the events add to a strings block with the bytes `used`: each different property name once, in order of first use
unfoldable pub strings_of : List ℕ → List Event → List ℕ
strings_of used [] = []
strings_of used (begin name ∷ es) = strings_of used es
strings_of used (prop name value ∷ es) = new_name name used ++ strings_of (used ++ new_name name used) es
strings_of used (end ∷ es) = strings_of used es

-- a structure block of the events: a token for each, no no-ops, and the end token
unfoldable pub structure_of : List ℕ → List Event → List ℕ
structure_of used [] = last_bytes
structure_of used (begin name ∷ es) = begin_bytes name ++ structure_of used es
structure_of used (prop name value ∷ es) = prop_bytes (place_of name used) value ++ structure_of (used ++ new_name name used) es
structure_of used (end ∷ es) = end_bytes ++ structure_of used es

-- the two blocks of a tree, as a reader writes them
abbrev pub structure_for : Nodes → List ℕ
structure_for t = structure_of [] (flatten t)

abbrev pub strings_for : Nodes → List ℕ
strings_for t = strings_of [] (flatten t)

-- a structure buffer of n bytes and a strings buffer of m bytes have room for the tree
pub record Room (t : Nodes) (n m : ℕ) : Type 0 where
  pub structure : length (structure_for t) ≤ most n
  pub strings : length (strings_for t) ≤ most m

-- what a reader left is the tree; its buffers held `s0` and `st0` before
pub record Rebuilt (t : Nodes) (s0 st0 : List ℕ) (r : Rebuilding) : Type 0 where
  -- the replies are accepted, the last with 'finished'
  pub accepts : accepted r.answers ≡ true
  -- the tokens and names of the tree, and nothing else, stand in the used bytes; the bytes after them are as they were
  pub used_structure : r.reader.structure ≡ length (structure_for t)
  pub used_strings : r.reader.strings ≡ length (strings_for t)
  pub structure : r.structure ≡ sets s0 0 (structure_for t)
  pub strings : r.strings ≡ sets st0 0 (strings_for t)
  -- the used bytes mean the same tree
  pub same : tree (take r.reader.structure r.structure) (take r.reader.strings r.strings) ≡ t

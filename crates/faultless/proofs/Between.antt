-- The same at the table, with any other calls between. Assumes nothing.
use mathlib.Core.Path.{◌≡◌, refl, ap, ◌∙◌}
use mathlib.Core.List.{List, [], ◌∷◌}
use mathlib.Core.Bool.{Bool, true, false}
use Prim.Native.Nat.{ℕ}
use lib.Dec.{eqb}
use lib.ListN.{length}
use Rattle.words.specs.Pick.{every}
use Rattle.words.specs.Bytes.{word_at}
use Rattle.devtree.specs.Check.{passes}
use Rattle.connector.specs.declared.Connector.{Connector}
use Rattle.guards.specs.Guards.{is_area}
use Rattle.unowned.specs.Unowned.{unowned}
use Rattle.table.specs.Layout.{word_count}
use Rattle.table.specs.Model.{Model, table_of}
use Rattle.calls.specs.Calls.{configure}
use Rattle.calls.proofs.Own.{configure-form, configure-found}
use Rattle.history.specs.Calls.{Call, words_after, run}
use Rattle.history.proofs.History.{words-after}
use Rattle.interleaved.specs.Between.{at_k, Walking}
use Rattle.interleaved.proofs.Stands.{as-itself, first, Stands}
use Rattle.interleaved.proofs.Turns.{Turn, other, own, turn}
use Rattle.faults.specs.Status.{is_bad_tree}
use Rattle.faultless.specs.Faultless.{NeverBadBetween}
use Rattle.faultless.proofs.Faultless.{OnTree, at-start, stays}

module _ (p k : ℕ) (s st : List ℕ) (ok : passes s st ≡ true) where
  -- the connector stands as a record whose walk could go on to the end of the tree
  pub record OnTreeAt (t : List ℕ) : Type 0 where
    pub alone : Connector
    pub on_tree : OnTree s st ok alone
    pub stands : Stands p k alone (table_of t).connectors

  after_turn : (t : List ℕ) (x : Call) (h : OnTreeAt t) → Turn p k s st h.alone t x → OnTreeAt (words_after t x)
  after_turn t x h (other e f g) = record { alone = h.alone; on_tree = h.on_tree; stands = g }
  after_turn t x h (own area e r g) = record { alone = _; on_tree = (stays s st ok (unowned (table_of t) p) h.alone area h.on_tree).1; stands = g }

  after-all : (cs : List Call) (t : List ℕ) → length t ≡ word_count → OnTreeAt t → Walking p k s st t cs → OnTreeAt (run t cs)
  unfolding run
  after-all [] t n h w = h
  after-all (x ∷ cs) t n h w = after-all cs (words_after t x) (words-after t n x) (after_turn t x h (turn p k s st h.alone t n h.stands x w.0)) w.1

  module _ (t : List ℕ) (h : OnTreeAt t) (area : List ℕ) (index : word_at area 0 ≡ k) where
    abbrev m : Model
    m = table_of t

    abbrev c : Connector
    c = at_k k m

    here : OnTree s st ok c
    here = let e = h.stands.alike.walk in record { state = refl; four = rw e h.on_tree.four; rest = rw e h.on_tree.rest; order = rw e h.on_tree.order }

    answered : (b : Bool) → every (is_area (length area) ∷ eqb (word_at area 4) 0 ∷ []) ≡ b → is_bad_tree (configure m p area s st).answer.status ≡ false
    answered false f = ap (λ a. is_bad_tree a.answer.status) (configure-form m p area s st f)
    answered true f =
        ap (λ a. is_bad_tree a.answer.status) (configure-found m p area s st f (first k m.connectors) c (rw index) h.stands.there refl h.stands.own) ∙ (stays s st ok (unowned m c.partition) c area here).0

pub never-bad-between : NeverBadBetween
never-bad-between t p k s st cs b area index =
    let i = b.starting in
    let c = at_k k (table_of t) in
    let h : OnTreeAt p k s st b.checked t =
    record { alone = c; on_tree = at-start s st b.checked c i.walk; stands = record { there = i.there; own = i.own; begins = rw i.state; alike = as-itself _ } } in
    answered p k s st b.checked (run t cs) (after-all p k s st b.checked cs t b.words h b.walking) area index _ refl

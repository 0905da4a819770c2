use mathlib.Core.Path.{◌≡◌, refl, sym, ◌∙◌, ap, subst}
use mathlib.Core.List.{List, []}
use mathlib.Core.Bool.{Bool, true, false}
use Prim.Native.Nat.{ℕ, suc, ◌+◌, ◌-◌, ◌≤◌}
use native.Mathlib.Omega.{arith}
use lib.ListN.{length}
use Rattle.words.specs.Bytes.{word_at}
use Rattle.words.proofs.Bytes.{word_in}
use Rattle.devtree.specs.declared.Token.TheVariants.{EndNode}
use Rattle.name_order.proofs.Names.{listed_same}
use Rattle.std.specs.Prelude.{Option, Some, None}
use Rattle.std.specs.Bool.{then_some}
use Rattle.treecheck.specs.Scan.{strict_at, Forward}
use Rattle.treecheck.specs.Lists.{children_from, resumed, Closed, Added, PastProps, PropsFrom}
use Rattle.treecheck.proofs.Scan.{lies}
use Rattle.treecheck.proofs.Past.{ended, not-begun, no_node, too-deep, stuck}
use Rattle.treecheck.proofs.Twins.{Met, met_start, met-added, met-past, kept_on}
use Rattle.treecheck.proofs.Kids.{Opened, opens, row-start, row-stuck, row_ends, row-twins, row-closed, row-twin, row-bad, row_on, props-node, props-closed, kept-both}
use Rattle.treecheck.proofs.+children_node.Goals as goal
use Rattle.treecheck.proofs.+children_node.Goals.{children-At-loop-names, children-In_ok-next, children-Else-add_name, children-Then-kind-eq2, children-After-then_some, children-then-kind-ne1-via-then-kind-ne1, children-then-kind-ne1-via-else-kind-ne1+then-left-eq0, node-In_ok-p}

-- what lies past p lies past what p lies past
later : (s : List ℕ) (at p : ℕ) (r : Option ℕ) → at ≤ p → Forward s p r → Forward s at r
later s at p (Some n) h f = record { more = omega arith; inside = f.inside }
later s at p None h f = tt

-- the offset past a begin-node token is known
child : (t : ℕ) (c : children-In_ok-next t) → Opened c.args.s.now c.args.strings.now c.loop-names.p c.skip-q.result c.name_length-n.result c.in_ok-next.next
child t c =
    opens c.args.s.now c.args.strings.now c.loop-names.p _ c.skip-q.ensures _ _ (sym c.word_at-kind.ensures ∙ c.if-kind-ne1.false) (sym c.strict_begin.ensures ∙ c.in_ok-next.was) c.name_length-n.ensures.0

-- a child was added to the list
listed : (t : ℕ) (c : children-Else-add_name t) → Opened c.args.s.now c.args.strings.now c.loop-names.p c.skip-q.result c.name_length-n.result c.in_ok-next.next
    → Met c.args.s.now c.args.names.now c.args.marks.now c.add_name.new.names c.add_name.new.marks c.args.at c.args.base c.in_ok-next.next (c.loop-names.top + 1)
listed t c o =
    let d = subst (Added _ _ _ _ _ _ _ _) c.if-add_name.false c.add_name.ensures.0 in
    met-added _ _ _ _ _ _ _ _ _ _ _ c.loop-names.invariant.0 _ _ d c.add_name.ensures.1 c.add_name.auto.names c.add_name.auto.marks (omega (arith, o.from, o.past))

-- an end-node token stands here
ender : (t : ℕ) (c : children-Then-kind-eq2 t) → strict_at c.args.s.now c.args.strings.now c.loop-names.p ≡ EndNode c.skip-q.result (c.skip-q.result + 4)
ender t c = ended c.args.s.now c.args.strings.now c.loop-names.p _ c.skip-q.ensures (sym c.word_at-kind.ensures ∙ c.if-kind-eq2.true)

-- a word that is not 0 stands here
worded : (s : List ℕ) (q w k : ℕ) → w ≡ word_at s q → w ≡ suc k → 4 ≤ length s - q
worded s q w k e f = word_in s q (λ z. omega (arith, e, f))

pub children-loop-names-init : goal.children-loop-names-init
children-loop-names-init t c = let f = c.requires.1 in (met_start _ _ _ _ _ f.used, row-start _ _ _ _ _ _, f.inside)

pub children-overflow_add-q : goal.children-overflow_add-q
children-overflow_add-q t c =
    let i = worded c.args.s.now c.skip-q.result _ _ c.word_at-kind.ensures c.if-kind-eq2.true in
    omega arith

-- the node is closed, where its children differ
module _ (t : ℕ) (c : children-After-then_some t) (e : strict_at c.args.s.now c.args.strings.now c.loop-names.p ≡ EndNode c.skip-q.result (c.skip-q.result + 4)) where
  abbrev past : Bool → Option ℕ
  past b = then_some b (c.skip-q.result + 4)

  closing : (b : Bool) → c.differ.result ≡ b → children_from c.args.s.now c.args.strings.now c.args.left [] c.args.at ≡ resumed c.args.s.now c.args.strings.now c.args.left (past b)
  unfolding resumed
  closing true d = row_ends _ _ _ _ _ _ _ _ c.loop-names.invariant.1 _ e (sym c.differ.ensures ∙ d)
  closing false d = row-twins _ _ _ _ _ _ _ _ c.loop-names.invariant.1 _ e (sym c.differ.ensures ∙ d)

  closed : (b : Bool) → Forward c.args.s.now c.args.at (past b) × Closed c.args.s.now c.args.strings.now c.args.at (past b)
  closed true =
      let q : ℕ = c.skip-q.result in
      let v = lies c.args.s.now c.args.strings.now c.loop-names.p (EndNode q (q + 4)) e in
      let h = c.loop-names.invariant.0.later in
      (record { more = omega arith; inside = omega arith }, row-closed _ _ _ _ _ _ _ _ c.loop-names.invariant.1 _ e)
  closed false = (tt, tt)

pub children-returns-then-kind-eq2-clause-at_value : goal.children-returns-then-kind-eq2-clause-at_value
children-returns-then-kind-eq2-clause-at_value t c =
    let l = goal.at.children-returns-then-kind-eq2-clause-at_value t c in
    rw c.then_some.ensures (closing t l.After-then_some (ender t l.Then-kind-eq2) _ refl)

pub children-returns-then-kind-eq2-clause-forward : goal.children-returns-then-kind-eq2-clause-forward
children-returns-then-kind-eq2-clause-forward t c =
    let l = goal.at.children-returns-then-kind-eq2-clause-forward t c in
    let f = closed t l.After-then_some (ender t l.Then-kind-eq2) c.differ.result in
    rw c.then_some.ensures (f.0, f.1, c.loop-names.invariant.0.kept)

pub children-returns-then-kind-ne1-clause-at_value : goal.children-returns-then-kind-ne1-clause-at_value
unfolding resumed
children-returns-then-kind-ne1-clause-at_value t c =
    let i = c.loop-names.invariant.1 in
    elim c.then-kind-ne1.branch [
      | children-then-kind-ne1-via-then-kind-ne1 w ↦
          row-stuck _ _ _ _ _ _ _ _ i
          (no_node c.args.s.now c.args.strings.now c.loop-names.p _ c.skip-q.ensures c.args.left (λ e. w.if-kind-ne1.true (c.word_at-kind.ensures ∙ e)) (λ e. c.if-kind-eq2.false (c.word_at-kind.ensures ∙ e)))
      | children-then-kind-ne1-via-else-kind-ne1+then-left-eq0 w ↦
          row-stuck _ _ _ _ _ _ _ _ i
          (too-deep c.args.s.now c.args.strings.now c.loop-names.p _ c.skip-q.ensures (sym c.word_at-kind.ensures ∙ w.if-kind-ne1.false) c.args.left w.if-left-eq0.true)
    ]

pub children-strict_begin-requires : goal.children-strict_begin-requires
children-strict_begin-requires t c =
    let i = worded c.args.s.now c.skip-q.result _ _ c.word_at-kind.ensures c.if-kind-ne1.false in
    (omega arith, c.name_length-n.ensures.0)

pub children-returns-in_err-next-clause-at_value : goal.children-returns-in_err-next-clause-at_value
unfolding resumed
children-returns-in_err-next-clause-at_value t c =
    let e = not-begun c.args.s.now c.args.strings.now c.loop-names.p _ c.skip-q.ensures (sym c.word_at-kind.ensures ∙ c.if-kind-ne1.false) (sym c.strict_begin.ensures ∙ c.in_err-next.was) in
    rw c.from_residual.ensures (row-stuck _ _ _ _ _ _ _ _ c.loop-names.invariant.1 (stuck c.args.s.now c.args.strings.now c.args.left _ c.loop-names.p _ e))

pub children-overflow_add-q-in-loop-names : goal.children-overflow_add-q-in-loop-names
children-overflow_add-q-in-loop-names t c =
    let i = worded c.args.s.now c.skip-q.result _ _ c.word_at-kind.ensures c.if-kind-ne1.false in
    omega arith

pub children-overflow_add-q-in-loop-names-2 : goal.children-overflow_add-q-in-loop-names-2
children-overflow_add-q-in-loop-names-2 t c =
    let o = child t (goal.at.children-overflow_add-q-in-loop-names-2 t c).In_ok-next in
    omega (arith, o.past, o.inside)

pub children-add_name-requires : goal.children-add_name-requires
children-add_name-requires t c =
    let o = child t (goal.at.children-add_name-requires t c).In_ok-next in
    let m = c.loop-names.invariant.0 in
    let f = c.requires.1 in (
      m.bounds,
      omega (arith, m.used, m.long, f.room, o.from, o.past, o.inside),
      omega (arith, m.wide, f.marked),
      omega (arith, m.later, f.structure, o.from, o.past, o.inside),
      omega (arith, f.structure, o.past, o.inside),
      o.has,
      sym o.long,
      m.list,
    )

pub children-returns-then-add_name-clause-at_value : goal.children-returns-then-add_name-clause-at_value
unfolding resumed
children-returns-then-add_name-clause-at_value t c =
    row-twin _ _ _ _ _ _ _ _ c.loop-names.invariant.1 _ _ _ (child t (goal.at.children-returns-then-add_name-clause-at_value t c).In_ok-next) (c.add_name.ensures.0.met c.if-add_name.true)

pub children-returns-then-add_name-clause-forward : goal.children-returns-then-add_name-clause-forward
children-returns-then-add_name-clause-forward t c = (tt, tt, kept_on _ _ _ _ _ _ _ _ _ _ _ c.loop-names.invariant.0 _ _ (omega arith) (omega arith) c.add_name.ensures.1)

pub children-node-requires : goal.children-node-requires
children-node-requires t c =
    let l = goal.at.children-node-requires t c in
    let o = child t l.In_ok-next in
    let m = listed t l.Else-add_name o in
    let f = c.requires.1 in
    let z = c.if-left-eq0.false in (
      omega (arith, c.decreases),
      (
        omega (arith, c.requires.0),
        record { structure = f.structure; strings = f.strings; room = omega (arith, m.long, f.room); marked = omega (arith, m.wide, f.marked); used = m.used; inside = o.inside },
      ),
    )

pub children-loop-names-smaller : goal.children-loop-names-smaller
children-loop-names-smaller t c =
    let o = child t (goal.at.children-loop-names-smaller t c).In_ok-next in
    let f = subst (Forward _ _) c.in_ok-p.was c.node.ensures.forward.0 in
    omega (arith, o.from, o.past, f.more, f.inside)

pub children-loop-names-preserved : goal.children-loop-names-preserved
children-loop-names-preserved t c =
    let l = goal.at.children-loop-names-preserved t c in
    let o = child t l.In_ok-next in
    let m = listed t l.Else-add_name o in
    let is = c.in_ok-p.was in
    let k = c.node.ensures.forward.2 in
    let f = subst (Forward _ _) is c.node.ensures.forward.0 in
    let from : ℕ = c.args.base in
    let same = listed_same c.args.s.now _ _ from (c.loop-names.top + 1 - from) (λ i h j. k.below i (omega (arith, m.bounds))) in (
      met-past _ _ _ _ _ _ _ _ _ _ _ m _ _ (omega arith) (omega (arith, f.more)) k c.node.auto.names c.node.auto.marks,
      row_on _ _ _ _ _ _ _ _ c.loop-names.invariant.1 _ _ _ o _ _ (same ∙ c.add_name.ensures.0.longer) (c.node.ensures.at_value ∙ ap (resumed _ _ _) is) (subst (Closed _ _ _) is c.node.ensures.forward.1) c.requires.0 c.if-left-eq0.false,
      f.inside,
    )

pub children-returns-in_err-p-clause-at_value : goal.children-returns-in_err-p-clause-at_value
unfolding resumed
children-returns-in_err-p-clause-at_value t c =
    rw c.from_residual-in_err-p.ensures
    (row-bad _ _ _ _ _ _ _ _ c.loop-names.invariant.1 _ _ _ (child t (goal.at.children-returns-in_err-p-clause-at_value t c).In_ok-next) c.if-left-eq0.false _ c.in_err-p.was c.node.ensures.at_value)

pub children-returns-in_err-p-clause-forward : goal.children-returns-in_err-p-clause-forward
children-returns-in_err-p-clause-forward t c =
    let l = goal.at.children-returns-in_err-p-clause-forward t c in
    let m = listed t l.Else-add_name (child t l.In_ok-next) in
    rw c.from_residual-in_err-p.ensures (tt, tt, kept_on _ _ _ _ _ _ _ _ _ _ _ m _ _ (omega arith) (omega (arith, m.later)) c.node.ensures.forward.2)

pub node-returns-in_err-p-clause-at_value : goal.node-returns-in_err-p-clause-at_value
unfolding resumed
node-returns-in_err-p-clause-at_value t c = rw c.from_residual.ensures (subst (PropsFrom _ _ _) c.in_err-p.was c.properties.ensures.0 c.args.left)

-- where the properties end
props : (t : ℕ) (c : node-In_ok-p t) → PastProps c.args.s.now c.args.strings.now c.args.at c.in_ok-p.p
props t c = subst (PropsFrom _ _ _) c.in_ok-p.was c.properties.ensures.0

pub node-returns-clause-at_value : goal.node-returns-clause-at_value
node-returns-clause-at_value t c = props-node _ _ _ _ _ (props t (goal.at.node-returns-clause-at_value t c).In_ok-p) ∙ c.children.ensures.at_value

pub node-returns-clause-forward : goal.node-returns-clause-forward
node-returns-clause-forward t c =
    let v = props t (goal.at.node-returns-clause-forward t c).In_ok-p in
    let w = c.children.ensures.forward in
    (later _ _ _ c.children.result v.later w.0, props-closed _ _ _ _ c.children.result v w.1, kept-both _ _ _ _ _ _ _ _ _ v.later c.properties.ensures.1 w.2)

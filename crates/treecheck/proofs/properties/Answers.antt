use mathlib.Core.Path.{◌≡◌, refl, sym, subst, ◌∙◌}
use mathlib.Core.Bool.{Bool, true, false}
use Rattle.std.specs.Bool.{then_some}
use Prim.Native.Nat.{◌≤◌}
use native.Mathlib.Omega.{arith}
use lib.ListN.{length}
use Rattle.words.proofs.Bytes.{word_in}
use Rattle.treecheck.specs.Lists.{Added, PropsFrom}
use Rattle.treecheck.proofs.Past.{no-property, not-owned, stuck}
use Rattle.treecheck.proofs.Twins.{met_start, met-added, kept_on}
use Rattle.treecheck.proofs.Props.{Owned, owns, going_start, going-ends, going-twins, going-stuck, going-twin, going_on}
use Rattle.treecheck.proofs.properties.Goals as goal
use Rattle.treecheck.proofs.properties.Goals.{At-loop-names, After-then_some, In_ok-next}

-- the array has room for the names met
room : (l : At-loop-names) → l.loop-names.top ≤ length l.loop-names.names
room l =
    let m = l.loop-names.invariant.0 in
    let f = l.requires in
    omega (arith, m.used, m.long, f.room, l.loop-names.invariant.2)

-- a property was passed
owner : (c : In_ok-next) → Owned c.args.s.now c.args.strings.now c.loop-names.p c.skip-q.result c.word_at-name.result c.name_length-n.result c.in_ok-next.next
owner c =
    let is = sym c.word_at.ensures ∙ c.if-word_at-ne3.false in
    owns c.args.s.now c.args.strings.now c.loop-names.p _ c.skip-q.ensures _ _ _ is (sym c.strict_property.ensures ∙ c.in_ok-next.was) c.word_at-name.ensures c.name_length-n.ensures.0

pub loop-names-init : goal.loop-names-init
loop-names-init c = (met_start _ _ _ _ _ c.requires.used, going_start _ _ _ _ _, c.requires.inside)

pub differ-requires : goal.differ-requires
differ-requires c =
    let m = c.loop-names.invariant.0 in
    (m.bounds, room (goal.at.differ-requires c).At-loop-names, m.list.named, m.list.few)

-- the properties that were met are those of the node
ended : (c : After-then_some) (b : Bool) → c.differ.result ≡ b → PropsFrom c.args.s.now c.args.strings.now c.args.at (then_some b c.loop-names.p)
ended c true e =
    going-ends _ _ _ _ _ _ _ c.loop-names.invariant.1 c.loop-names.invariant.0.later c.loop-names.invariant.2 _ c.skip-q.ensures (λ z. c.if-word_at-ne3.true (c.word_at.ensures ∙ z))
    (λ left. no-property c.args.s.now c.args.strings.now c.loop-names.p _ c.skip-q.ensures left (λ z. c.if-word_at-ne3.true (c.word_at.ensures ∙ z)))
    (sym c.differ.ensures ∙ e)
ended c false e = going-twins _ _ _ _ _ _ _ c.loop-names.invariant.1 c.loop-names.invariant.0.later c.loop-names.invariant.2 (sym c.differ.ensures ∙ e)

pub returns-then-word_at-ne3 : goal.returns-then-word_at-ne3
returns-then-word_at-ne3 c = (rw c.then_some.ensures (ended (goal.at.returns-then-word_at-ne3 c).After-then_some _ refl), c.loop-names.invariant.0.kept)

pub overflow_add-q : goal.overflow_add-q
overflow_add-q c =
    let i = word_in c.args.s.now c.skip-q.result (λ z. omega (arith, c.word_at.ensures, c.if-word_at-ne3.false)) in
    omega arith

pub strict_property-requires : goal.strict_property-requires
strict_property-requires c = (c.word_at-name.ensures, c.name_length-n.ensures.0)

pub returns-in_err-next : goal.returns-in_err-next
returns-in_err-next c =
    let i = c.loop-names.invariant in
    let e = not-owned c.args.s.now c.args.strings.now c.loop-names.p _ c.skip-q.ensures (sym c.word_at.ensures ∙ c.if-word_at-ne3.false) (sym c.strict_property.ensures ∙ c.in_err-next.was) in
    (rw c.from_residual.ensures (going-stuck _ _ _ _ _ _ _ i.1 i.0.later i.2 (λ left. stuck c.args.s.now c.args.strings.now left false c.loop-names.p _ e)), i.0.kept)

pub add_name-requires : goal.add_name-requires
add_name-requires c =
    let o = owner (goal.at.add_name-requires c).In_ok-next in
    let m = c.loop-names.invariant.0 in
    let f = c.requires in (
      m.bounds,
      omega (arith, m.used, m.long, f.room, o.from, o.past, o.inside),
      omega (arith, m.wide, f.marked),
      omega (arith, m.later, f.structure, o.from, o.past, o.inside),
      omega (arith, o.has.inside, f.strings),
      o.has,
      sym o.long,
      m.list,
    )

pub returns-then-add_name : goal.returns-then-add_name
returns-then-add_name c =
    let i = c.loop-names.invariant in (
      going-twin _ _ _ _ _ _ _ i.1 i.0.later i.2 _ _ _ _ (owner (goal.at.returns-then-add_name c).In_ok-next) (c.add_name.ensures.0.met c.if-add_name.true),
      kept_on _ _ _ _ _ _ _ _ _ _ _ i.0 _ _ (omega arith) (omega arith) c.add_name.ensures.1,
    )

pub overflow_add-top : goal.overflow_add-top
overflow_add-top c =
    let f = c.requires in
    omega (arith, c.loop-names.invariant.0.used, c.loop-names.invariant.2, f.structure)

pub loop-names-smaller : goal.loop-names-smaller
loop-names-smaller c =
    let o = owner (goal.at.loop-names-smaller c).In_ok-next in
    omega (arith, o.from, o.past, o.inside)

pub loop-names-preserved : goal.loop-names-preserved
loop-names-preserved c =
    let o = owner (goal.at.loop-names-preserved c).In_ok-next in
    let i = c.loop-names.invariant in
    let m = i.0 in
    let d = subst (Added _ _ _ _ _ _ _ _) c.if-add_name.false c.add_name.ensures.0 in (
      met-added _ _ _ _ _ _ _ _ _ _ _ m _ _ d c.add_name.ensures.1 c.add_name.auto.names c.add_name.auto.marks (omega (arith, o.from, o.past)),
      going_on _ _ _ _ _ _ _ i.1 m.later i.2 _ _ _ _ o _ m.bounds c.add_name.ensures.0.longer,
      o.inside,
    )

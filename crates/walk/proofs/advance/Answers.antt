-- `walk::advance` meets its contract.
use mathlib.Core.Path.{◌≡◌, sym, subst, ◌∙◌}
use mathlib.Core.Bool.{Bool}
use mathlib.Core.List.{List}
use Prim.Native.Nat.{ℕ}
use native.Mathlib.Omega.{arith}
use lib.ListN.{length}
use Rattle.devtree.specs.declared.Token.{Token}
use Rattle.devtree.proofs.Tokens.{Within, Named}
use Rattle.sent.specs.Sent.{next_sent}
use Rattle.sent.proofs.Laws.{sent-in, sent-named}
use Rattle.walk.specs.Step.{consume}
use Rattle.walk.proofs.Area.{area-size}
use Rattle.walk.proofs.advance.Goals as goal

-- the token that is consumed, where it lies and what it names
facts : (u : ℕ → Bool) (s st : List ℕ) (depth place : ℕ) (x : Token) → x ≡ next_sent u s st depth place → (t : Token) → x ≡ t → (next_sent u s st depth place ≡ t) × Within s place t × Named s st t
facts u s st depth place x sent t e =
    let is : next_sent u s st depth place ≡ t = sym sent ∙ e in (
      is,
      subst (Within s place) is (sent-in u s st depth place),
      subst (Named s st) is (sent-named u s st depth place),
    )

pub on_begin-requires : goal.on_begin-requires
on_begin-requires c =
    let f = facts _ _ _ _ _ _ c.next_sent.ensures _ c.in-Begin.is in
    let z = area-size (length c.args.area.now) c.requires.0 in
    omega arith

pub on_property-requires : goal.on_property-requires
on_property-requires c =
    let f = facts _ _ _ _ _ _ c.next_sent.ensures _ c.in-Property.is in
    let z = area-size (length c.args.area.now) c.requires.0 in
    (c.requires.0, f.2.0, omega arith, omega arith, omega arith, omega arith, omega arith)

pub overflow_cast-next : goal.overflow_cast-next
overflow_cast-next c =
    let f = facts _ _ _ _ _ _ c.next_sent.ensures _ c.in-EndNode.is in
    omega arith

pub returns-in-Begin : goal.returns-in-Begin
unfolding consume
returns-in-Begin c =
    let e = (facts _ _ _ _ _ _ c.next_sent.ensures _ c.in-Begin.is).0 in
    (rw e c.on_begin.ensures.0, rw e c.on_begin.ensures.1)

pub returns-in-Property : goal.returns-in-Property
unfolding consume
returns-in-Property c =
    let e = (facts _ _ _ _ _ _ c.next_sent.ensures _ c.in-Property.is).0 in
    (rw e c.on_property.ensures.0, rw e c.on_property.ensures.1)

pub returns-in-EndNode : goal.returns-in-EndNode
unfolding consume
returns-in-EndNode c =
    let e = (facts _ _ _ _ _ _ c.next_sent.ensures _ c.in-EndNode.is).0 in
    (rw e c.on_end.ensures, rw e)

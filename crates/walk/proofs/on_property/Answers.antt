-- `walk::on_property` meets its contract.
use mathlib.Core.Path.{◌≡◌, sym, ◌∙◌}
use native.Mathlib.Omega.{arith}
use Rattle.walk.proofs.Area.{paged, room_for}
use borrow.Author.Tests.{eq-eqb, ne_eqb}
use mathlib.Core.List.{[], ◌∷◌}
use Prim.Native.Nat.{◌+◌}
use lib.ListN.{length}
use lib.Dec.{eqb, ltb}
use Rattle.words.specs.Bytes.{part}
use Rattle.words.specs.Pick.{pick, every}
use Rattle.walk.specs.Step.{on_property}
use Rattle.walk.proofs.on_property.Goals as goal

pub returns-then-depth-eq0 : goal.returns-then-depth-eq0
unfolding on_property pick
returns-then-depth-eq0 c = (simp (eq-eqb _ _ c.if-depth-eq0.true), simp (eq-eqb _ _ c.if-depth-eq0.true))

pub returns-then-needs_page : goal.returns-then-needs_page
unfolding on_property pick
returns-then-needs_page c =
    let h = ne_eqb _ _ c.if-depth-eq0.false in
    let p : (every (eqb (length c.args.area.now) 4096 ∷ ltb 4096 (20 + length (part c.args.strings.now c.args.name c.args.n) + 1 + length (part c.args.s.now c.args.value c.args.len)) ∷ []) ≡ _) = (paged (length c.args.area.now) c.args.s.now c.args.strings.now c.args.name c.args.n c.args.value c.args.len (omega arith) (omega arith) ∙ sym c.needs_page.ensures ∙ c.if-needs_page.true) in
    (simp (h, p) c.asking.ensures, simp (h, p))

pub write_property-requires : goal.write_property-requires
write_property-requires c =
    let r = room_for (length c.args.area.now) c.args.n c.args.len c.requires.0 (sym c.needs_page.ensures ∙ c.if-needs_page.false) (omega arith) (omega arith) in
    omega arith

pub returns : goal.returns
unfolding on_property pick
returns c =
    let h = ne_eqb _ _ c.if-depth-eq0.false in
    let p : (every (eqb (length c.args.area.now) 4096 ∷ ltb 4096 (20 + length (part c.args.strings.now c.args.name c.args.n) + 1 + length (part c.args.s.now c.args.value c.args.len)) ∷ []) ≡ _) = (paged (length c.args.area.now) c.args.s.now c.args.strings.now c.args.name c.args.n c.args.value c.args.len (omega arith) (omega arith) ∙ sym c.needs_page.ensures ∙ c.if-needs_page.false) in
    (simp (h, p) c.step_to.ensures, simp (h, p) c.write_property.ensures)

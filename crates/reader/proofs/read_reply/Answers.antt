-- `reader::read_reply` meets its contract.
use Rattle.reader.proofs.Taken.{senseless, sound, waiting, taking}
use mathlib.Core.Path.{◌≡◌, ◌∙◌}
use Rattle.replies.specs.Replies.{kind_of}
use mir.Syntax.{w32}
use mir.Val.{SFits, of_z, to_z}
use mir.Facts.{to_z-of_z}
use lib.IntN.{ℤ}
use Rattle.replies.specs.declared.ReplyKind.{ReplyKind}
use mathlib.Core.Path.{ap}
use mathlib.Core.Bool.{not}
use Rattle.reader.proofs.read_reply.Goals as goal

-- the kind of the status that was passed on by its bits
told : {z : ℤ} {k : ReplyKind} → k ≡ kind_of (to_z w32 (of_z w32 z)) → SFits w32 z → k ≡ kind_of z
told e f = e ∙ ap kind_of (to_z-of_z f)

pub returns-then-not-is_sensible : goal.returns-then-not-is_sensible
returns-then-not-is_sensible c =
    let a = c.args in
    senseless a.r a.status a.area.now a.structure.now a.strings.now _ _ _ (told c.kind_of-kind.ensures c.ranges.status) c.parts_of-p.ensures c.is_sensible.ensures (ap not c.if-not-is_sensible.true)

pub returns-then-is_waiting : goal.returns-then-is_waiting
returns-then-is_waiting c =
    let a = c.args in
    waiting a.r a.status a.area.now a.structure.now a.strings.now _ _ _ (told c.kind_of-kind.ensures c.ranges.status) c.parts_of-p.ensures c.is_sensible.ensures (ap not c.if-not-is_sensible.false) _ c.is_waiting.ensures c.if-is_waiting.true

pub take_reply-requires : goal.take_reply-requires
take_reply-requires c =
    let a = c.args in
    sound a.r a.status a.area.now a.structure.now a.strings.now _ _ _ (told c.kind_of-kind.ensures c.ranges.status) c.parts_of-p.ensures c.is_sensible.ensures (ap not c.if-not-is_sensible.false)

pub returns : goal.returns
returns c =
    let a = c.args in
    c.take_reply.ensures ∙ taking a.r a.status a.area.now a.structure.now a.strings.now _ _ _ (told c.kind_of-kind.ensures c.ranges.status) c.parts_of-p.ensures c.is_sensible.ensures (ap not c.if-not-is_sensible.false) _ c.is_waiting.ensures c.if-is_waiting.false

-- `reader::tokens::write_tokens` meets its contract.
use Rattle.words.specs.Bytes.{part}
use Rattle.reader.proofs.Written.{put-put, put-sets}
use Rattle.reader.specs.Replies.{tokens_of}
use Rattle.reader.specs.Bytes.{begin_bytes, end_bytes, last_bytes}
use Rattle.buffer.proofs.Put.{length_part, put_in}
use Rattle.devtree.specs.Tokens.{up4}
use lib.ListN.{length}
use Prim.Native.Nat.{◌+◌, ◌≤◌}
use mathlib.Core.Path.{◌≡◌, ap, ◌∙◌}
use native.Mathlib.Omega.{arith}
use Rattle.reader.proofs.tokens.write_tokens.Goals as goal

pub put_begin-requires : goal.put_begin-requires
put_begin-requires c =
    let h : c.args.at + (8 + up4 (c.args.p.n + 1)) ≤ length c.args.structure.now = rw c.in-Sibling.is at c.requires.0 in
    let l : length c.name_of.result.now ≡ c.args.p.n = ap length c.name_of.ensures ∙ length_part c.args.area.now c.args.p.name c.args.p.n (omega arith) in
    rw l (omega arith, omega arith)

pub put_begin-requires-in-Child : goal.put_begin-requires-in-Child
put_begin-requires-in-Child c =
    let h : c.args.at + (4 + up4 (c.args.p.n + 1)) ≤ length c.args.structure.now = rw c.in-Child.is at c.requires.0 in
    let l : length c.name_of-in-Child.result.now ≡ c.args.p.n = ap length c.name_of-in-Child.ensures ∙ length_part c.args.area.now c.args.p.name c.args.p.n (omega arith) in
    rw l (omega arith, omega arith)

pub put_property-requires : goal.put_property-requires
put_property-requires c =
    let h : c.args.at + (12 + up4 c.args.p.len) ≤ length c.args.structure.now = rw c.in-Property.is at c.requires.0 in
    let l : length c.value_of.result.now ≡ c.args.p.len = ap length c.value_of.ensures ∙ length_part c.args.area.now c.args.p.value c.args.p.len (omega arith) in
    rw l (omega arith, omega arith)

pub returns-in-Last : goal.returns-in-Last
unfolding tokens_of
returns-in-Last c =
    let e = c.in-Last.is in
    let h : c.args.at + 8 ≤ length c.args.structure.now = rw e at c.requires.0 in
    rw e (put-put c.args.structure.now _ _ c.args.at end_bytes last_bytes c.put_word.ensures c.put_word-in-Last.ensures (omega arith))

pub returns-in-Sibling : goal.returns-in-Sibling
unfolding tokens_of
returns-in-Sibling c =
    let e = c.in-Sibling.is in
    let h : c.args.at + (8 + up4 (c.args.p.n + 1)) ≤ length c.args.structure.now = rw e at c.requires.0 in
    rw e (put-sets c.args.structure.now _ _ c.args.at end_bytes (begin_bytes (part c.args.area.now c.args.p.name c.args.p.n)) c.put_word-in-Sibling.ensures (rw c.name_of.ensures at c.put_begin.ensures) (omega arith))

pub returns-in-Child : goal.returns-in-Child
unfolding tokens_of
returns-in-Child c = rw c.in-Child.is (rw c.name_of-in-Child.ensures at c.put_begin-in-Child.ensures)

pub returns-in-Property : goal.returns-in-Property
unfolding tokens_of
returns-in-Property c = rw c.in-Property.is (rw c.value_of.ensures at c.put_property.ensures)

pub returns-in-Parent : goal.returns-in-Parent
unfolding tokens_of
returns-in-Parent c =
    let e = c.in-Parent.is in
    let h : c.args.at + 4 ≤ length c.args.structure.now = rw e at c.requires.0 in
    rw e (c.put_word-in-Parent.ensures ∙ put_in c.args.structure.now c.args.at end_bytes (omega arith))

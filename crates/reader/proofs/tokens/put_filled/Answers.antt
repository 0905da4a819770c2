-- `reader::tokens::put_filled` meets its contract.
use Prim.Native.Nat.{◌+◌, ◌-◌}
use mathlib.Core.Path.{◌≡◌, refl, ap, ◌∙◌}
use native.Mathlib.Omega.{arith}
use borrow.Author.Rules.{rules}
use lib.ListN.{length, replicate}
use lib.Seq.{sets}
use Rattle.words.specs.Bytes.{part}
use Rattle.buffer.specs.Put.{put}
use Rattle.std.proofs.lemmas.List.{take_all}
use Rattle.reader.proofs.Written.{filled-then, mid-sets}
use Rattle.reader.proofs.tokens.put_filled.Goals as goal

pub returns : goal.returns
unfolding part
returns c =
    let a = c.args in
    let z : c.fill.new.self ≡ replicate (a.size - length a.src.now) 0 = search rules in
    let one : c.copy_bytes.new.dst ≡ put a.dst.now a.at a.src.now = c.copy_bytes.ensures ∙ ap (put a.dst.now a.at) (take_all (length a.src.now) a.src.now (omega arith)) in
    let m = mid-sets c.copy_bytes.new.dst c.fill.new.self (a.at + length a.src.now) (a.at + a.size - (a.at + length a.src.now)) (omega (arith, c.fill.ensures.len)) (omega arith) in
    filled-then a.dst.now c.copy_bytes.new.dst _ a.at (length a.src.now) a.size a.src.now refl one (m ∙ ap (sets c.copy_bytes.new.dst (a.at + length a.src.now)) z) (omega arith)

-- What a reply does to the record and to both buffers.
use mathlib.Core.Path.{◌≡◌, refl, ap, sym, ◌∙◌}
use mathlib.Core.Bool.{Bool, true, false, not, false≢true}
use mathlib.Core.List.{List, [], ◌∷◌, ◌++◌}
use mathlib.Core.Logic.{◌⊎◌, inl, inr, ⊎_elim}
use Prim.Native.Nat.{ℕ, ◌+◌, ◌≤◌}
use native.Mathlib.Omega.{arith}
use lib.IntN.{ℤ}
use lib.ListN.{length, take, length-append}
use lib.Seq.{sets, sets-eq, length-sets, length-take-le, take_at}
use lib.Dec.{leb}
use borrow.Author.Tests.{leb-true, not-false}
use Rattle.words.specs.Pick.{every}
use Rattle.words.proofs.Pick.{pick-cases, every-each}
use Rattle.replies.specs.Replies.{kind_of, most, waits}
use Rattle.sensible.specs.Sensible.{parts_of, sensible, allowed}
use Rattle.after_reply.specs.After.{answer_of}
use Rattle.reader.specs.Replies.{new_tokens, new_strings, Outcome, kept, added, taken, reply}
use Rattle.replies.specs.declared.Reader.{Reader}
use Rattle.replies.specs.declared.Reading.{Reading}
use Rattle.replies.specs.declared.Reading.TheVariants.{Finished, Taken, Waiting, Senseless, NoRoom}
use Rattle.replies.specs.declared.Node.{Node}
use Rattle.replies.specs.declared.ReplyKind.{ReplyKind}
use Rattle.replies.specs.declared.ReplyKind.TheVariants.{Last, Sibling, Child, Property, Parent, Wait, Other}

-- whether an answer says that the reply was taken
abbrev pub took : Reading → Bool
took Finished = true
took Taken = true
took Waiting = false
took Senseless = false
took NoRoom = false

answer-took : (k : ReplyKind) (depth : ℕ) (node : Node) → waits k ≡ false → allowed k depth node ≡ true → took (answer_of k) ≡ true
answer-took Last depth node w e = refl
answer-took Sibling depth node w e = refl
answer-took Child depth node w e = refl
answer-took Property depth node w e = refl
answer-took Parent depth node w e = refl
answer-took Wait depth node w e = absurd (false≢true (sym w))
answer-took Other depth node w e = e

-- what is written after the used bytes follows them
pub take-sets : (d : List ℕ) (at : ℕ) (bs : List ℕ) → at + length bs ≤ length d → take (at + length bs) (sets d at bs) ≡ take at d ++ bs
take-sets d at bs h =
    let l : length (take at d ++ bs) ≡ at + length bs = length-append (take at d) bs ∙ ap (λ (n : ℕ). n + length bs) (length-take-le at d (omega arith)) in
    rw (sets-eq bs d at h) (take_at (take at d ++ bs) _ (at + length bs) l)

-- a reply that was taken
pub record Took (r : Reader) (k : ReplyKind) (area s st : List ℕ) (o : Outcome) : Type 0 where
  pub sensibly : sensible r k (parts_of k area) (length area) (length s) (length st) ≡ true
  pub goes : waits k ≡ false
  pub structure-room : r.structure + length (new_tokens k (parts_of k area) area (take r.strings st)) ≤ most (length s)
  pub strings-room : r.strings + length (new_strings k (parts_of k area) area (take r.strings st)) ≤ most (length st)
  pub is : o ≡ added r k (new_tokens k (parts_of k area) area (take r.strings st)) (new_strings k (parts_of k area) area (take r.strings st)) s st

-- a reply that was not changes nothing
pub record Same (r : Reader) (s st : List ℕ) (o : Outcome) : Type 0 where
  pub reader : o.reader ≡ r
  pub structure : o.structure ≡ s
  pub strings : o.strings ≡ st

module _ (r : Reader) (z : ℤ) (area s st : List ℕ) where
  abbrev Either : Outcome → Type 0
  Either o = ((took o.answer ≡ false) × Same r s st o) ⊎ ((took o.answer ≡ true) × Took r (kind_of z) area s st o)

  same : (a : Reading) → took a ≡ false → Either (kept a r s st)
  same a e = inl (e, record { reader = refl; structure = refl; strings = refl })

  abbrev used : List ℕ
  used = take r.strings st

  either : Either (reply r z area s st)
  unfolding reply taken sensible
  either =
      let k : ReplyKind = kind_of z in
      pick-cases Either (not (sensible r k (parts_of k area) (length area) (length s) (length st))) _ _ (λ e. same Senseless refl)
      (λ e. pick-cases Either (waits k) _ _ (λ w. same Waiting refl)
      (λ w. pick-cases Either (every (leb (r.structure + length (new_tokens k (parts_of k area) area used)) (most (length s)) ∷ leb (r.strings + length (new_strings k (parts_of k area) area used)) (most (length st)) ∷ [])) _ _
      (λ f. inr (
        answer-took k r.depth r.node w (every-each _ (not-false _ e)).1.1.1.1.1.0,
        record {
          sensibly = not-false _ e;
          goes = w;
          structure-room = leb-true _ _ (every-each _ f).0;
          strings-room = leb-true _ _ (every-each _ f).1.0;
          is = refl;
        },
      ))
      (λ f. same NoRoom refl)))

  pub refused-same : took (reply r z area s st).answer ≡ false → Same r s st (reply r z area s st)
  refused-same e = ⊎_elim (λ w. w.1) (λ w. absurd (false≢true (sym e ∙ w.0))) either

  pub reply-took : took (reply r z area s st).answer ≡ true → Took r (kind_of z) area s st (reply r z area s st)
  reply-took e = ⊎_elim (λ w. absurd (false≢true (sym w.0 ∙ e))) (λ w. w.1) either

-- ---- the used bytes grow by what the reply adds

module _ (r : Reader) (k : ReplyKind) (area s st : List ℕ) (o : Outcome) (t : Took r k area s st o) where
  pub structure-grows : take o.reader.structure o.structure ≡ take r.structure s ++ new_tokens k (parts_of k area) area (take r.strings st)
  structure-grows = rw t.is (take-sets s r.structure (new_tokens k (parts_of k area) area (take r.strings st)) (omega arith))

  pub strings-grow : take o.reader.strings o.strings ≡ take r.strings st ++ new_strings k (parts_of k area) area (take r.strings st)
  strings-grow = rw t.is (take-sets st r.strings (new_strings k (parts_of k area) area (take r.strings st)) (omega arith))

-- the buffers keep their lengths
pub same-lengths : (r : Reader) (z : ℤ) (area s st : List ℕ) → (length (reply r z area s st).structure ≡ length s) × (length (reply r z area s st).strings ≡ length st)
same-lengths r z area s st =
    ⊎_elim (λ w. (ap length w.1.structure, ap length w.1.strings)) (λ w. (rw w.1.is (simp length-sets), rw w.1.is (simp length-sets)))
    (either r z area s st)

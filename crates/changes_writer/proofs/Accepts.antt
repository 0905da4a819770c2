-- What is refused: without a pass over the changes, and for a kind.
use mathlib.Core.Path.{◌≡◌, sym, ◌∙◌}
use mathlib.Core.Bool.{true, false}
use mathlib.Core.List.{List}
use Rattle.std.specs.Prelude.{Err}
use Prim.Native.Nat.{ℕ, ◌/◌, ◌≤◌}
use native.Mathlib.Omega.{arith}
use lib.Dec.{eqb}
use lib.ListN.{length}
use borrow.Author.Tests.{eq-eqb, ne_eqb, eqb-true, leb-true}
use Rattle.words.proofs.Pick.{pick_yes, pick_no, every-each}
use Rattle.node_changes.specs.declared.Tally.{Tally}
use Rattle.node_changes.specs.Changes.{changes_in, all_kinds, tally_of}
use Rattle.node_changes.specs.Lists.{area_bytes}
use Rattle.node_changes.proofs.Changes.{length-changes, kinds-most, all_kinds_lem}
use Rattle.changes_writer.specs.Writer.{change_limit, state_in, is_sound, accepts, refused, updates_left, report, remaining, update_nodes}
use Rattle.changes_writer.proofs.Room.{sum_of}

module _ (scope : ℕ) (ws area : List ℕ) where
  pub refused-unsound : is_sound scope ws area ≡ false → updates_left (Err refused) area ≡ update_nodes scope ws area
  unfolding update_nodes accepts
  refused-unsound e = sym (pick_no _ _ _ (pick_no _ _ _ e))

  -- with the tally of the changes
  module _ (t : Tally) (et : t ≡ tally_of (changes_in ws)) (e : is_sound scope ws area ≡ true) where
    kinds-are : all_kinds (changes_in ws) ≡ eqb (sum_of t) (length ws / 3)
    unfolding tally_of
    kinds-are = all_kinds_lem (changes_in ws) ∙ rw (et, length-changes ws)

    pub refused-kind : (sum_of t ≡ length ws / 3 → ⊥) → updates_left (Err refused) area ≡ update_nodes scope ws area
    unfolding update_nodes accepts
    refused-kind other = sym (pick_no _ _ _ (pick_yes _ _ _ e ∙ kinds-are ∙ ne_eqb _ _ other))

    module _ (same : sum_of t ≡ length ws / 3) where
      pub accepted : report (state_in area) (remaining (state_in area) ws) area ≡ update_nodes scope ws area
      unfolding update_nodes accepts
      accepted = sym (pick_yes _ _ _ (pick_yes _ _ _ e ∙ kinds-are ∙ eq-eqb _ _ same))

      pub area-long : length area ≡ area_bytes
      unfolding is_sound
      area-long = eqb-true _ _ (every-each _ e).1.1.1.1.0

      pub sum-few : sum_of t ≤ change_limit
      unfolding is_sound
      sum-few = omega (arith, leb-true (length (changes_in ws)) change_limit (every-each _ e).1.1.0, length-changes ws)

      pub state-few : state_in area ≤ sum_of t
      unfolding is_sound
      state-few = omega (arith, leb-true (state_in area) (length (changes_in ws)) (every-each _ e).1.0, length-changes ws)

-- the tally fits
pub sum_fits : (ws : List ℕ) (t : Tally) → t ≡ tally_of (changes_in ws) → sum_of t ≤ length ws
unfolding tally_of
sum_fits ws t e = rw e (omega (arith, kinds-most (changes_in ws), length-changes ws))

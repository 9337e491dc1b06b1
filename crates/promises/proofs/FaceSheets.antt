-- What the exported call that writes a block hands over and leaves in the buffer, from its contract. Assumes nothing.
use Rattle.std.specs.Prelude.{⊤, Ok, Err}
use Rattle.bounds.specs.declared.refusal.ListRefusal.{ListRefusal}
use mathlib.Core.Path.{◌≡◌, refl, ap}
use mathlib.Core.List.{List, [], ◌∷◌}
use mathlib.Core.Logic.{◌⊎◌, inl, inr}
use Prim.Native.Nat.{ℕ}
use native.Mathlib.Omega.{arith}
use lib.ListN.{length, get_or}
use Rattle.bounds.specs.declared.refusal.Refusal.{Refusal}
use Rattle.bounds.specs.Refusals.{number_of, stray_test, passed, ListAnswer}
use Rattle.bounds.proofs.Verdicts.{stray_through}
use Rattle.sheet.specs.Writes.{FitUpTo, IsTried, WritesBlock, FillsBuffer}
use Rattle.ledusprig.specs.declared.handed.columns.HandedWriting.{HandedWriting}
use Rattle.ledusprig.specs.Handed.{HandsOver, WritesTheBlock, writing_handed}
use Rattle.promises.specs.Refusals.{stray, size, written_width, retired, written_count}
use Rattle.promises.specs.Face.{NoneHolds, WrittenAll, StrayAtPosition, HandsBlockWritten}
use Rattle.promises.proofs.FaceLaws.{handed_so, hands, unrefused}
use Rattle.promises.proofs.Refusals.{refusals_follow_the_table}

module _ (n number : ℕ) (words before after : List ℕ) where
  -- a word that was let through has no stray bit
  none_at : (w : ℕ) → stray_test n w ≡ passed → NoneHolds (stray n w ∷ [])
  unfolding NoneHolds
  none_at w e = (λ h. let small = stray_through n w e in omega (arith, h, small), tt)

  Tried : HandedWriting → Type 0
  Tried r = WrittenAll n number words after r ⊎ StrayAtPosition n words before after r

  tried : (a : ListAnswer ⊤) → WritesBlock n words before a → IsTried n words a → FillsBuffer n number words before a after → Tried (writing_handed a)
  unfolding IsTried FitUpTo FillsBuffer Tried
  tried (Ok _) z x y = inl (record { refusal = refl; position = refl; none = λ i l. none_at (get_or words i 0) (x i l); block = y })
  tried (Err (ListRefusal.Whole q)) z x y = absurd x
  tried (Err (ListRefusal.At p q)) z x y =
      inr (record {
        inside = x.0;
        lowest = λ i l. none_at (get_or words i 0) (x.1 i l);
        is = handed_so (λ q. Err (ListRefusal.At p q)) (Err (ListRefusal.At p q)) (number_of q) (stray n (get_or words p 0) ∷ []) _ _ (λ q' h. (ap number_of (same q' h), y)) (λ none. none q refl)
            (refusals_follow_the_table.write_position n words before (Err (ListRefusal.At p q)) z (λ q' h. cc) p x.0 (λ j q' l h. let e : p ≡ j = cc in omega (arith, l, e)));
      })
    where
      same : (q' : Refusal) → ◌≡◌ {A = ListAnswer ⊤} (Err (ListRefusal.At p q)) (Err (ListRefusal.At p q')) → q ≡ q'
      same q' h = cc

  pub written_hands : (r : HandedWriting) → HandsOver writing_handed (WritesTheBlock n number words before after) r → HandsBlockWritten n number words before after r
  unfolding HandsBlockWritten WritesTheBlock WritesBlock FillsBuffer Tried
  written_hands = hands (λ q. Err (ListRefusal.Whole q)) (λ r. r.refusal) (λ r. (r.position ≡ 0) × (after ≡ before)) Tried (written_width n ∷ retired n ∷ written_count n (length words) ∷ size before ∷ []) (λ q x. (refl, (refl, x.1))) (λ a x none. tried a x.0 (unrefused none x.0).1 x.1) (λ a x. refusals_follow_the_table.write_block n words before a x.0)

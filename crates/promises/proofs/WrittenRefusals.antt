-- The refusals of a block that is to be written follow the table. Assumes nothing.
use Rattle.std.specs.Prelude.{⊤, Ok, Err}
use Rattle.bounds.specs.declared.refusal.ListRefusal.{ListRefusal}
use mathlib.Core.Path.{◌≡◌, refl, sym, subst}
use mathlib.Core.Bool.{Bool, true, false, not}
use mathlib.Core.List.{List, [], ◌∷◌}
use Prim.Native.Nat.{ℕ, ◌<◌}
use native.Mathlib.Decide.{dec_lt}
use native.Mathlib.Omega.{arith}
use borrow.Author.Tests.{eqb-true, eqb-false}
use lib.Dec.{eqb}
use lib.ListN.{length, get_or}
use Rattle.bounds.specs.declared.refusal.Refusal.{Refusal}
use Rattle.bounds.specs.Refusals.{stray_test, unless, through, refused, passed, Verdict, ListAnswer}
use Rattle.bounds.proofs.Powers.{not_more}
use Rattle.sheet.specs.Writes.{is_retired, content_test, FitUpTo, IsTried, WritesBlock}
use Rattle.promises.specs.Refusals.{FollowsUpTo, Follows, stray, size, written_width, retired, written_count}
use Rattle.promises.proofs.Lines.{Tells, holds, fails, stray_tells, parts, follow, carry, verdict_decided}
use Rattle.promises.proofs.SliceRefusals.{four_tells, many_tells, size_tells}
use Rattle.promises.proofs.WordRefusals.{answer_none}

-- a width that is written no more
retired_tells : (n : ℕ) → Tells (unless Refusal.Retired (not (is_retired n))) Refusal.Retired (n ≡ 8)
unfolding is_retired
retired_tells n = by (eqb n 8) refl
  where
    by : (b : Bool) → eqb n 8 ≡ b → Tells (unless Refusal.Retired (not b)) Refusal.Retired (n ≡ 8)
    by true e = holds refl (eqb-true n 8 e)
    by false e = fails refl (eqb-false n 8 e)

module _ (n : ℕ) (words buffer : List ℕ) where
  pub written_follows : (a : ListAnswer ⊤) → WritesBlock n words buffer a → Follows (λ q. Err (ListRefusal.Whole q)) a (written_width n ∷ retired n ∷ written_count n (length words) ∷ size buffer ∷ [])
  unfolding Follows FollowsUpTo WritesBlock content_test IsTried
  written_follows a x =
      follow Refusal.Width (four_tells n) (parts (parts (parts x)))
      (λ e₁ y₁. follow Refusal.Retired (retired_tells n) y₁
      (λ e₂ y₂. follow Refusal.Count (many_tells n (length words) e₁) y₂
      (λ e₃ y₃. follow Refusal.Size (size_tells buffer) y₃ (λ e t q h. subst (IsTried n words) h t))))

  -- a position that is reached has the line of its word
  module _ (i : ℕ) (inside : i < length words) where
    at_position : (a : ListAnswer ⊤) (v : Verdict) → v ≡ stray_test n (get_or words i 0) → ((q : Refusal) → v ≡ Err q → a ≡ Err (ListRefusal.At i q)) → ((q : Refusal) → a ≡ Err (ListRefusal.At i q) → v ≡ Err q) → Follows (λ q. Err (ListRefusal.At i q)) a (stray n (get_or words i 0) ∷ [])
    unfolding Follows FollowsUpTo
    at_position a v e to from = carry Err (λ q. Err (ListRefusal.At i q)) v a (stray n (get_or words i 0) ∷ []) to from (follow Refusal.Stray (stray_tells n (get_or words i 0)) (verdict_decided e) (λ h. answer_none tt v))

    tried : (a : ListAnswer ⊤) → ((j : ℕ) (q : Refusal) → j < i → a ≡ Err (ListRefusal.At j q) → ⊥) → IsTried n words a → Follows (λ q. Err (ListRefusal.At i q)) a (stray n (get_or words i 0) ∷ [])
    unfolding IsTried FitUpTo
    tried (Ok _) before x = at_position (Ok tt) passed (sym (x i inside)) (λ q h. cc) (λ q h. cc)
    tried (Err (ListRefusal.Whole q)) before x = absurd x
    tried (Err (ListRefusal.At p q)) before x = by (dec_lt p i) (dec_lt i p)
      where
        by : Dec (p < i) → Dec (i < p) → Follows {A = ListAnswer ⊤} (λ q. Err (ListRefusal.At i q)) (Err (ListRefusal.At p q)) (stray n (get_or words i 0) ∷ [])
        by (yes l) d = absurd (before p q l refl)
        by (no f) (yes l) = at_position (Err (ListRefusal.At p q)) passed (sym (x.1 i l)) (λ q' h. cc) (λ q' h. let same : p ≡ i = cc in absurd (omega (arith, same, l)))
        by (no f) (no g) =
            let same : p ≡ i = omega (arith, not_more f, not_more g) in
            at_position (Err (ListRefusal.At p q)) (Err q) (sym (subst (λ (k : ℕ). stray_test n (get_or words k 0) ≡ Err q) same x.2)) (λ q' h. cc) (λ q' h. cc)

    pub written_position_follows : (a : ListAnswer ⊤) → WritesBlock n words buffer a → ((q : Refusal) → a ≡ Err (ListRefusal.Whole q) → ⊥) → ((j : ℕ) (q : Refusal) → j < i → a ≡ Err (ListRefusal.At j q) → ⊥) → Follows (λ q. Err (ListRefusal.At i q)) a (stray n (get_or words i 0) ∷ [])
    unfolding WritesBlock
    written_position_follows a (through h x) f before = tried a before x
    written_position_follows a (refused {q = q} h e) f before = absurd (f q e)

  pub position_inside : (i : ℕ) (q : Refusal) → WritesBlock n words buffer (Err (ListRefusal.At i q)) → i < length words
  unfolding WritesBlock IsTried
  position_inside i q (through h x) = x.0
  position_inside i q (refused h e) = absurd cc

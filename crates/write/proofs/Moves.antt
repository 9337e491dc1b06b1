-- The laws of moves: a word is moved to the word with its value where there is one, and a strict move gives no other. Assumes nothing.
use Rattle.std.specs.Prelude.{Ok}
use mathlib.Core.Path.{◌≡◌, refl, sym, ap, ◌∙◌, subst}
use Prim.Native.Nat.{ℕ, ◌+◌, ◌-◌, ◌*◌, ◌^◌, ◌≤◌, ◌<◌}
use native.Mathlib.Nat.{mul-one}
use native.Mathlib.Omega.{arith}
use lib.IntN.{ℤ, pos, negsuc, nat_abs}
use lib.Pow.{pow_pos}
use Rattle.word.specs.Takum.{Takum, real, NaR, takum}
use Rattle.word.specs.Reads.{signed_size}
use Rattle.bounds.specs.Refusals.{Answer, IsWord, through, refused}
use Rattle.bounds.specs.Widths.{nar_word}
use Rattle.bounds.proofs.Answers as Answers
use Rattle.bounds.proofs.Answers.{GivesAWord}
use Rattle.bounds.proofs.Verdicts.{move_passes, move_through, width_through, answered}
use Rattle.word.proofs.Values.{NaR_word}
use Rattle.word.proofs.Words.{takum_NaR, zeros_appended}
use Rattle.bounds.proofs.Powers.{pow_sum, shl_below}
use Rattle.round.specs.declared.value.Rule.{Rule}
use Rattle.round.specs.Writes.{IsExact, IsWritten}
use Rattle.write.specs.Writes.{is_negative, IsMoved, Moves}
use Rattle.round.proofs.Rounding.{exact_written, rounded_exists}

-- a whole number is its sign and its size
pub rejoined : (z : ℤ) → signed_size (is_negative z) (nat_abs z) ≡ z
unfolding signed_size is_negative
rejoined (pos i) = refl
rejoined (negsuc i) = refl

pub meaning_exact : (n w : ℕ) (z : ℤ) → IsWord n w → takum n w ≡ real z → IsExact n (is_negative z) (nat_abs z) 1 w
meaning_exact n w z i q = record { z = nat_abs z; is = record { word = i; means = q ∙ ap real (sym (rejoined z)) }; same = mul-one (nat_abs z) }

pub exact_meaning : (n w : ℕ) (z : ℤ) → IsExact n (is_negative z) (nat_abs z) 1 w → takum n w ≡ real z
exact_meaning n w z x = x.is.means ∙ ap real (ap (signed_size (is_negative z)) (sym (mul-one x.z) ∙ x.same) ∙ rejoined z)

-- ---- a word with the same value, by either rule
pub moved_to_the_same : (n n' w w' : ℕ) (rule : Rule) (r : Answer ℕ) → IsWord n w → IsWord n' w' → takum n' w' ≡ takum n w → Moves n n' rule w r → r ≡ Ok w'
unfolding Moves IsMoved nar_word
moved_to_the_same n n' w w' rule r i i' same x = by (takum n w) same (answered (move_passes n n' w i i'.least i'.most) x)
  where
    by : (t : Takum) → takum n' w' ≡ t → IsMoved n' rule t r → r ≡ Ok w'
    by (real z) q y = exact_written n' i'.least i'.most rule (is_negative z) (nat_abs z) 1 w' r (omega arith) (meaning_exact n' w' z i' q) y
    by NaR q y = y ∙ ap Ok (sym (NaR_word n' w' i' q))

-- ---- a strict move that is not refused
pub record Kept (n n' w w' : ℕ) : Type 0 where
  pub from : IsWord n w
  pub to : IsWord n' w'
  pub same : takum n' w' ≡ takum n w

pub strict_keeps : (n n' w w' : ℕ) → Moves n n' Rule.Strict w (Ok w') → Kept n n' w w'
unfolding Moves IsMoved IsWritten nar_word GivesAWord Answers.word_of
strict_keeps n n' w w' (refused h q) = absurd (subst GivesAWord q tt)
strict_keeps n n' w w' (through h x) =
    let t = move_through n n' w h in
    let u = width_through n' t.1 in
    by (takum n w) refl t.0 u.0 u.1 x
  where
    by : (t : Takum) → takum n w ≡ t → IsWord n w → 2 ≤ n' → n' ≤ 64 → IsMoved n' Rule.Strict t (Ok w') → Kept n n' w w'
    by (real z) q i lo hi y = record { from = i; to = y.is.word; same = exact_meaning n' w' z y ∙ sym q }
    by NaR q i lo hi y =
        let nar = ap Answers.word_of y in
        record { from = i; to = record { least = lo; most = hi; fits = subst (λ (v : ℕ). v < 2 ^ n') (sym nar) half }; same = takum_NaR n' w' lo hi nar ∙ sym q }
      where
        half : 2 ^ (n' - 1) < 2 ^ n'
        half = omega (arith, pow_sum (n' - 1) 1 n' (omega (arith, lo)), pow_pos (n' - 1))

pub there_and_back : (n n' w w' : ℕ) (rule : Rule) (r : Answer ℕ) → Moves n n' Rule.Strict w (Ok w') → Moves n' n rule w' r → r ≡ Ok w
there_and_back n n' w w' rule r x y = let k = strict_keeps n n' w w' x in moved_to_the_same n' n w' w rule r k.to k.from (sym k.same) y

-- ---- wider: the value stays and no rule refuses
pub wider_keeps : (n k w : ℕ) (rule : Rule) (r : Answer ℕ) → n + k ≤ 64 → IsWord n w → Moves n (n + k) rule w r → r ≡ Ok (w * 2 ^ k)
wider_keeps n k w rule r room i x =
    moved_to_the_same n (n + k) w (w * 2 ^ k) rule r i (record { least = omega (arith, i.least); most = room; fits = shl_below n k (n + k) i.fits refl }) (zeros_appended n k w i.least room i.fits) x

-- ---- rounded: every word of the source is moved to some word
pub rounded_moves : (n n' w : ℕ) → IsWord n w → 2 ≤ n' → n' ≤ 64 → (w' : ℕ) × Moves n n' Rule.Rounded w (Ok w')
unfolding Moves IsMoved IsWritten
rounded_moves n n' w i lo hi = let x = by (takum n w) in (x.0, through (move_passes n n' w i lo hi) x.1)
  where
    by : (t : Takum) → (w' : ℕ) × IsMoved n' Rule.Rounded t (Ok w')
    by (real z) = rounded_exists n' lo hi (is_negative z) (nat_abs z) 1 (omega arith)
    by NaR = (nar_word n', refl)

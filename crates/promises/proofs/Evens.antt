-- At width 16 the words from 0x5A00 to 0x5B00 are the even whole numbers from 512 to 1,024, by one computed test. Assumes nothing.
use mathlib.Core.Path.{◌≡◌, refl, sym, subst}
use mathlib.Core.Bool.{Bool, false, ◌&&◌}
use mathlib.Core.Logic.{⊎_elim}
use Prim.Native.Nat.{ℕ, zero, suc, ◌+◌, ◌-◌, ◌*◌, ◌/◌, ◌%◌, ◌^◌, ◌≤◌, ◌<◌}
use native.Mathlib.Decide.{dec_lt}
use native.Mathlib.Nat.{eq-or-lt_of_le}
use native.Mathlib.Omega.{arith}
use lib.Dec.{T}
use Rattle.bounds.specs.Widths.{IsLimit}
use Rattle.bounds.proofs.Powers.{not_more}
use Rattle.bounds.proofs.Limits.{no_more}
use Rattle.word.specs.Takum.{power, regime_of, characteristic_of, S, D, R, r, p, C, F, c, e, value, meaning, N, padded, takum}
use Rattle.word.proofs.Heads.{both}
use Rattle.nearest.specs.Nearest.{HasValue}
use Rattle.nearest.proofs.Places.{word_of, has_value, value_is}
use Rattle.whole.specs.Limits.{EveryWholeNumberUpToTheLimitHasAWord}
use Rattle.whole.proofs.LimitWords.{every_whole_number_up_to_the_limit_has_a_word}
use Rattle.promises.proofs.Tests.{same, is_word, has, has_is}

-- ---- from 512 to 512 + 2 * k
evens : ℕ → Bool
evens zero = has 16 (512 * 2 ^ 307) 0x5A00
evens (suc k) = has 16 ((512 + 2 * suc k) * 2 ^ 307) (0x5A00 + suc k) && evens k

all_evens : T (evens 256)
unfolding evens same is_word has power regime_of characteristic_of S D R r p C F c e value meaning N padded takum
all_evens = tt

one_of_them : (k j : ℕ) → j ≤ k → T (evens k) → HasValue 16 false ((512 + 2 * j) * 2 ^ 307) (0x5A00 + j)
unfolding evens
one_of_them zero j le t =
    let first : 0 ≡ j = omega arith in
    subst (λ (j : ℕ). HasValue 16 false ((512 + 2 * j) * 2 ^ 307) (0x5A00 + j)) first (has_is 16 (512 * 2 ^ 307) 0x5A00 t)
one_of_them (suc k) j le t =
    let u = both (has 16 ((512 + 2 * suc k) * 2 ^ 307) (0x5A00 + suc k)) (evens k) t in
    ⊎_elim (λ (q : j ≡ suc k). subst (λ (j : ℕ). HasValue 16 false ((512 + 2 * j) * 2 ^ 307) (0x5A00 + j)) (sym q) (has_is 16 ((512 + 2 * suc k) * 2 ^ 307) (0x5A00 + suc k) u.0)) (λ (l : j < suc k). one_of_them k j (omega (arith, l)) u.1) (eq-or-lt_of_le le)

-- with either sign
signed_too : (s : Bool) (j : ℕ) → j ≤ 256 → (w : ℕ) × HasValue 16 s ((512 + 2 * j) * 2 ^ 307) w
signed_too s j le =
    let x = one_of_them 256 j le all_evens in
    let lo : 2 ≤ 16 = omega arith in
    let hi : 16 ≤ 64 = omega arith in
    let below : 0x5A00 + j < 2 ^ (16 - 1) = omega (arith, le) in
    (word_of 16 s (0x5A00 + j), subst (λ (z : ℕ). HasValue 16 s z (word_of 16 s (0x5A00 + j))) (sym (value_is 16 lo hi ((512 + 2 * j) * 2 ^ 307) (0x5A00 + j) (omega arith) below x)) (has_value 16 lo hi s (0x5A00 + j) (omega arith) below))

-- ---- and up to 512, the limit, every number
pub limit_of_16 : IsLimit 16 512
limit_of_16 = record { v = 9; is = no_more 16 3 (omega arith) (omega arith) (omega arith) (omega arith); limit = refl }

pub even_at_16 : (s : Bool) (i : ℕ) → i % 2 ≡ 0 → i ≤ 1024 → (w : ℕ) × HasValue 16 s (i * 2 ^ 307) w
unfolding EveryWholeNumberUpToTheLimitHasAWord
even_at_16 s i even le = by (dec_lt 512 i)
  where
    by : Dec (512 < i) → (w : ℕ) × HasValue 16 s (i * 2 ^ 307) w
    by (yes l) =
        let twice : 512 + 2 * ((i - 512) / 2) ≡ i = omega arith in
        subst (λ (i : ℕ). (w : ℕ) × HasValue 16 s (i * 2 ^ 307) w) twice (signed_too s ((i - 512) / 2) (omega arith))
    by (no f) = every_whole_number_up_to_the_limit_has_a_word 16 512 (omega arith) (omega arith) limit_of_16 i (not_more f) s

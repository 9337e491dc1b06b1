-- The law of jamming: an exact size with more than 128 bits is written as its first 128 bits are, the lowest one set for whatever lies below.
-- Both lie strictly between the same two multiples of twice the last unit, and there every size is written alike. Assumes nothing.
use Rattle.std.specs.Prelude.{Ok, Err}
use Rattle.bounds.specs.Refusals.{Answer}
use mathlib.Core.Path.{◌≡◌, refl, sym, ap, ◌∙◌, subst}
use mathlib.Core.Bool.{Bool, false}
use Prim.Native.Nat.{ℕ, zero, suc, ◌+◌, ◌-◌, ◌*◌, ◌/◌, ◌%◌, ◌^◌, ◌≤◌, ◌<◌}
use native.Mathlib.Nat.{mul-le-mul_right, mul-pos, one-mul, zero-mul, mod-lt, le-div_iff_mul-le, le_trans, le_of_eq, lt_of_le_of_lt, lt_of_lt_of_le, two-pow-succ}
use native.Mathlib.Decide.{dec_lt}
use native.Mathlib.Omega.{arith}
use lib.Dec.{lit<, lit≤}
use lib.IntN.{ℤ, pos, ◌+ℤ◌, +ℤ-neg_ℤ_cancel}
use lib.Pow.{pow_pos, pow_mono, shr_lt, split}
use Rattle.bounds.specs.declared.refusal.Refusal.{Refusal}
use Rattle.word.specs.Takum.{regime_of, characteristic_of, power, S, D, R, r, p, C, F, c, e, value, meaning, N, padded, takum}
use Rattle.word.specs.Reads.{num, den, signed_size}
use Rattle.bounds.proofs.Answers.{word_of}
use Rattle.bounds.proofs.Powers.{pow_sum, not_more}
use Rattle.word.proofs.Units.{unit_some}
use Rattle.round.specs.declared.value.Rule.{Rule}
use Rattle.nearest.specs.declared.size.Rest.{Rest}
use Rattle.std.specs.declared.cmp.Ordering.{Ordering}
use Rattle.nearest.specs.Nearest.{HasValue, Nearest}
use Rattle.round.specs.Writes.{other, IsWritten}
use Rattle.nearest.specs.Offers.{Amounts, IsOffered, IsNearest}
use Rattle.nearest.specs.Parts.{TellsSide, with_sign}
use Rattle.round.specs.Jamming.{Between, jammed}
use Rattle.nearest.proofs.Classes.{class_nearest}
use Rattle.round.proofs.Finer.{coarser_between, no_word_between}
use Rattle.round.proofs.Rounding.{over_nearest, tie_nearest, written_one}
use Rattle.round.proofs.Scales.{plain_offer, coarser}
use Rattle.nearest.proofs.Signs.{signed_nearest}

-- a size between two multiples isn't zero
pub nonzero : (y : ℕ) (k : ℤ) (a b : ℕ) → Between y k a b → 0 < a
nonzero y k zero b x = absurd (omega (arith, x.low, zero-mul (den (k +ℤ pos 307))))
nonzero y k (suc a) b x = omega arith

-- ---- the sizes between y units and y + 1, where y = m * 2^(i + 1) + below: all are m coarse units and under a half of one, or all are over it
module _ (m below i : ℕ) (k : ℤ) (a b : ℕ) (between : Between (m * 2 ^ suc i + below) k a b) where
  unit : ℕ
  unit = num (k +ℤ pos 307) * b

  amount : ℕ
  amount = a * den (k +ℤ pos 307)

  half_unit : 2 ^ suc i * unit ≡ 2 ^ i * unit + 2 ^ i * unit
  half_unit = omega (arith, ap (λ (x : ℕ). x * unit) (two-pow-succ i))

  low : (m * 2 ^ suc i + below) * unit < amount
  unfolding unit amount
  low = between.low

  high : amount < (m * 2 ^ suc i + below + 1) * unit
  unfolding unit amount
  high = between.high

  one_coarse : 1 * (a * den (k +ℤ pos (suc i) +ℤ pos 307)) ≡ a * den (k +ℤ pos (suc i) +ℤ pos 307)
  one_coarse = one-mul (a * den (k +ℤ pos (suc i) +ℤ pos 307))

  under_half : below < 2 ^ i → IsOffered m Rest.UnderHalf (k +ℤ pos (suc i)) a b
  unfolding IsOffered Amounts TellsSide unit amount
  under_half l =
      let above : m * 2 ^ suc i * unit < 1 * amount = omega (arith, low) in
      let under : 2 * amount < (2 * m + 1) * 2 ^ suc i * unit = omega (arith, high, half_unit, mul-le-mul_right unit l) in
      (subst (λ (x : ℕ). m * (num (k +ℤ pos (suc i) +ℤ pos 307) * b) < x) one_coarse (coarser k (suc i) a b Ordering.Greater 1 m above), coarser k (suc i) a b Ordering.Less 2 (2 * m + 1) under)

  over_half : 2 ^ i ≤ below → below < 2 ^ suc i → IsOffered m Rest.OverHalf (k +ℤ pos (suc i)) a b
  unfolding IsOffered Amounts TellsSide unit amount
  over_half l fits =
      let above : (2 * m + 1) * 2 ^ suc i * unit < 2 * amount = omega (arith, low, half_unit, mul-le-mul_right unit l) in
      let under : 1 * amount < (m + 1) * 2 ^ suc i * unit = omega (arith, high, mul-le-mul_right unit fits) in
      (coarser k (suc i) a b Ordering.Greater 2 (2 * m + 1) above, subst (λ (x : ℕ). x < (m + 1) * (num (k +ℤ pos (suc i) +ℤ pos 307) * b)) one_coarse (coarser k (suc i) a b Ordering.Less 1 (m + 1) under))

-- so all have one nearest word
module _ (n : ℕ) (lo : 2 ≤ n) (hi : n ≤ 64) (i y : ℕ) (k : ℤ) (full : 2 ^ (64 + i) ≤ y) (top : y < 2 ^ (65 + i)) where
  m : ℕ
  m = y / 2 ^ suc i

  m_full : 2 ^ 63 ≤ m
  unfolding m
  m_full = (le-div_iff_mul-le (pow_pos (suc i))).1 (le_trans (le_of_eq (pow_sum 63 (suc i) (64 + i) (omega arith))) full)

  m_top : m < 2 ^ 64
  unfolding m
  m_top = shr_lt 64 (suc i) (subst (λ (x : ℕ). y < 2 ^ x) sum top)
    where
      sum : 65 + i ≡ 64 + suc i
      sum = omega arith

  below : ℕ
  below = y % 2 ^ suc i

  fits : below < 2 ^ suc i
  unfolding below
  fits = mod-lt y (pow_pos (suc i))

  parts : (a b : ℕ) → Between y k a b → Between (m * 2 ^ suc i + below) k a b
  unfolding m below
  parts a b x = subst (λ (z : ℕ). Between z k a b) (sym (split y (suc i))) x

  class_word : (rest : Rest) → ((a b : ℕ) → Between y k a b → IsOffered m rest (k +ℤ pos (suc i)) a b) → (w : ℕ) × ((a b : ℕ) → 0 < b → Between y k a b → Nearest n false a b w)
  unfolding IsNearest
  class_word rest offered =
      let t = class_nearest n lo hi (k +ℤ pos (suc i) +ℤ pos 63) m rest m_full m_top in
      (t.0, λ a b some x. t.1 a b some (subst (λ (z : ℤ). IsOffered m rest z a b) (sym (+ℤ-neg_ℤ_cancel (k +ℤ pos (suc i)) (pos 63))) (offered a b x)))

  between_nearest : (w : ℕ) × ((a b : ℕ) → 0 < b → Between y k a b → Nearest n false a b w)
  between_nearest = by (dec_lt below (2 ^ i))
    where
      by : Dec (below < 2 ^ i) → (w : ℕ) × ((a b : ℕ) → 0 < b → Between y k a b → Nearest n false a b w)
      by (yes l) = class_word Rest.UnderHalf (λ a b x. under_half m below i k a b (parts a b x) l)
      by (no f) = class_word Rest.OverHalf (λ a b x. over_half m below i k a b (parts a b x) (not_more f) fits)

  -- and by either rule one answer
  pub between_written : (rule : Rule) (s : Bool) → (r : Answer ℕ) × ((a b : ℕ) → 0 < b → Between y k a b → IsWritten n rule s a b r)
  unfolding IsWritten
  between_written Rule.Rounded s =
      let t = between_nearest in
      (Ok (with_sign n s t.0), λ a b some x. other (nonzero y k a b x) (signed_nearest n lo hi s a b t.0 (t.1 a b some x)))
  between_written Rule.Strict s = (Err Refusal.Inexact, λ a b some x. (refl, λ w q. no_word_between n lo hi s y k a b (le_trans (pow_mono {i = 63} {j = 64 + i} (omega arith)) full) (nonzero y k a b x) some x w q))

-- ---- the exact size and the jammed one lie between the same multiples of twice the unit
module _ (x : ℕ) (k : ℤ) where
  pub exact_between : (a b : ℕ) → Between x k a b → Between (x / 2) (k +ℤ pos 1) a b
  exact_between a b h =
      let unit = num (k +ℤ pos 307) * b in
      coarser_between k 1 a b (x / 2) (lt_of_le_of_lt (mul-le-mul_right unit down) h.low) (lt_of_lt_of_le h.high (mul-le-mul_right unit up))
    where
      down : x / 2 * 2 ^ 1 ≤ x
      down = omega arith

      up : x + 1 ≤ (x / 2 + 1) * 2 ^ 1
      up = omega arith

  pub jammed_between : Between (x / 2) (k +ℤ pos 1) (jammed x * num (k +ℤ pos 307)) (den (k +ℤ pos 307))
  unfolding jammed IsOffered Amounts
  jammed_between =
      let y = k +ℤ pos 307 in
      let unit = num y * den y in
      let some : 0 < unit = mul-pos (unit_some y).0 (unit_some y).1 in
      let is : jammed x * num y * den y ≡ jammed x * unit = plain_offer (jammed x) k in
      coarser_between k 1 (jammed x * num y) (den y) (x / 2) (omega (arith, is, some)) (omega (arith, is, some))

-- every size that is cut to so many bits and jammed is written as it is itself
unfoldable pub Jams : ℕ → Type 0
Jams bits =
    (n : ℕ) → 2 ≤ n → n ≤ 64 → (rule : Rule) (s : Bool) (x : ℕ) (k : ℤ) (a b : ℕ) (r r' : Answer ℕ) → 2 ^ (bits - 1) ≤ x → x < 2 ^ bits → 0 < b → Between x k a b
    → IsWritten n rule s a b r → IsWritten n rule s (jammed x * num (k +ℤ pos 307)) (den (k +ℤ pos 307)) r' → r ≡ r'

-- 66 bits are enough
pub enough_bits_jam : (bits : ℕ) → 66 ≤ bits → Jams bits
unfolding Jams
enough_bits_jam bits enough n lo hi rule s x k a b r r' full top some between exact cut =
    let y = k +ℤ pos 307 in
    let t = between_written n lo hi (bits - 66) (x / 2) (k +ℤ pos 1) half_full half_top rule s in
    written_one n lo hi rule s a b r t.0 some exact (t.1 a b some (exact_between x k a b between))
    ∙ sym (written_one n lo hi rule s (jammed x * num y) (den y) r' t.0 (unit_some y).1 cut (t.1 (jammed x * num y) (den y) (unit_some y).1 (jammed_between x k)))
  where
    half_full : 2 ^ (64 + (bits - 66)) ≤ x / 2
    half_full = (le-div_iff_mul-le (pow_pos 1)).1 (le_trans (le_of_eq (pow_sum (64 + (bits - 66)) 1 (bits - 1) (omega (arith, enough)))) full)

    half_top : x / 2 < 2 ^ (65 + (bits - 66))
    half_top = shr_lt (65 + (bits - 66)) 1 (subst (λ (i : ℕ). x < 2 ^ i) sum top)
      where
        sum : bits ≡ 65 + (bits - 66) + 1
        sum = omega (arith, enough)

-- so the 128 bits of a long value are
pub jamming : (n : ℕ) → 2 ≤ n → n ≤ 64 → (rule : Rule) (s : Bool) (x : ℕ) (k : ℤ) (a b : ℕ) (r r' : Answer ℕ) → 2 ^ 127 ≤ x → x < 2 ^ 128 → 0 < b → Between x k a b → IsWritten n rule s a b r → IsWritten n rule s (jammed x * num (k +ℤ pos 307)) (den (k +ℤ pos 307)) r' → r ≡ r'
unfolding Jams
jamming = enough_bits_jam 128 (lit≤ tt)

-- 65 bits are not: the words 14 and 15 of 5 bits are 2^63 and 2^127, and past their midpoint 2^126 + 2^62 lies 2^126 + 2^62 + 1, which is cut to
-- (2^64 + 1) * 2^62; its lowest bit is set already, and without what lies below it is the midpoint itself
lower : HasValue 5 false (2 ^ (63 + 307)) 14
unfolding regime_of characteristic_of power S D R r p C F c e value meaning N padded takum signed_size
lower = record { word = record { least = lit≤ tt; most = lit≤ tt; fits = lit< tt }; means = refl }

upper : HasValue 5 false (2 ^ (127 + 307)) 15
unfolding regime_of characteristic_of power S D R r p C F c e value meaning N padded takum signed_size
upper = record { word = record { least = lit≤ tt; most = lit≤ tt; fits = lit< tt }; means = refl }

pub sixty_five_bits_dont_jam : Jams 65 → ⊥
unfolding Jams jammed num den IsWritten word_of
sixty_five_bits_dont_jam jams = differ (jams 5 (lit≤ tt) (lit≤ tt) Rule.Rounded false (2 ^ 64 + 1) (pos 62) past 1 (Ok 15) (Ok 14) (lit≤ tt) (lit< tt) (lit< tt) (record { low = lit< tt; high = lit< tt }) (other (lit< tt) rounded_up) (other (lit< tt) rounded_down))
  where
    past : ℕ
    past = (2 ^ 126 + 2 ^ 62 + 1) * 2 ^ 307

    rounded_up : Nearest 5 false past 1 15
    rounded_up = over_nearest 5 (lit≤ tt) (lit≤ tt) 14 (2 ^ (63 + 307)) (2 ^ (127 + 307)) past 1 (lit< tt) (lit< tt) (lit< tt) lower upper (lit< tt) (lit≤ tt)

    rounded_down : Nearest 5 false ((2 ^ 64 + 1) * 2 ^ (62 + 307)) 1 14
    rounded_down = tie_nearest 5 (lit≤ tt) (lit≤ tt) 14 (2 ^ (63 + 307)) (2 ^ (127 + 307)) ((2 ^ 64 + 1) * 2 ^ (62 + 307)) 1 (lit< tt) (lit< tt) (lit< tt) lower upper refl

    differ : ◌≡◌ {A = Answer ℕ} (Ok 15) (Ok 14) → ⊥
    differ q = omega (arith, ap word_of q)

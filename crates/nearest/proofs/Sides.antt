-- On which side of the midpoint between its two neighbours an offered size lies: by the bits that are cut off, or as between powers of two.
-- Assumes nothing.
use mathlib.Core.Path.{◌≡◌, refl, sym, ap, ap₂, ◌∙◌, subst, subst₂}
use mathlib.Core.Bool.{false}
use mathlib.Core.Logic.{◌⊎◌, inl, inr}
use Prim.Native.Nat.{ℕ, zero, suc, ◌+◌, ◌-◌, ◌*◌, ◌/◌, ◌%◌, ◌^◌, ◌≤◌, ◌<◌}
use native.Mathlib.Nat.{le_of_lt, lt_of_not-le, mul_assoc, mul-pos, mod-lt, lt_of_le_of_lt, le_of_suc-le-suc}
use native.Mathlib.Numerals.{add-one}
use native.Mathlib.Decide.{dec_lt}
use native.Mathlib.Omega.{arith}
use lib.IntN.{ℤ, pos, ◌+ℤ◌, ◌-ℤ◌, -ℤ-+ℤ_cancel}
use lib.Pow.{pow_pos, shr-shr, split}
use Rattle.word.specs.Takum as Takum
use Rattle.word.specs.Reads.{num, den}
use Rattle.bounds.proofs.Powers.{pow_sum, shl_below, shl_out}
use Rattle.bounds.proofs.Limits.{exponent_lt}
use Rattle.word.proofs.Cut.{r_head, c_head}
use Rattle.word.proofs.Sizes.{size, size_lt}
use Rattle.word.proofs.Values.{grown, grown_suc, grown_lt}
use Rattle.nearest.specs.declared.size.Rest.{Rest}
use Rattle.std.specs.declared.cmp.Ordering.{Ordering}
use Rattle.nearest.specs.declared.start.Start.{Start}
use Rattle.nearest.specs.Nearest.{HasValue}
use Rattle.nearest.specs.Offers.{IsOffered}
use Rattle.nearest.specs.Parts.{Begins, first_bits, IsRaised, TellsSide, TellsHalf, TellsPowers, chosen_of, ChoosesByCut}
use Rattle.nearest.proofs.Exponents.{raised_inj, unit_law}
use Rattle.word.proofs.Units.{unit_some}
use Rattle.nearest.proofs.Halves.{cancel}
use Rattle.nearest.proofs.Strings.{Binade, binade_of, string_regime}
use Rattle.nearest.proofs.Floors.{cut_fraction, floor_string, cut_lt, fine_side, floor_size_low}
use Rattle.nearest.proofs.Coarse.{head_of, raised_at, raised_is, raised_lt, near_enough, low_power, high_power, regime_kept}
use Rattle.nearest.proofs.Places.{value_is}

-- the size against the midpoint of the words low and low + 1
unfoldable pub TellsMidpoint : ℕ → ℕ → ℕ → ℕ → Rest → Ordering → Type 0
TellsMidpoint n low e m rest side =
    (h : ℤ) (a b z z' : ℕ) → IsRaised h e → 0 < b → IsOffered m rest (h -ℤ pos 63) a b → HasValue n false z low → HasValue n false z' (low + 1) → TellsSide side (2 * a) ((z + z') * b)

pub floor_is : (start : Start) (m : ℕ) → start.r ≤ 7 → first_bits start m ≡ floor_string start.bits (59 - start.r) m
unfolding first_bits floor_string cut_fraction
floor_is start m seven = ap (λ (k : ℕ). start.bits * 2 ^ (59 - start.r) + (m - 2 ^ 63) / 2 ^ k) same
  where
    same : 4 + start.r ≡ 63 - (59 - start.r)
    same = omega (arith, seven)

-- a number with a given raised exponent
pub lowered : (e : ℕ) → IsRaised (pos e -ℤ pos 255) e
unfolding IsRaised
lowered e = -ℤ-+ℤ_cancel (pos e) (pos 255)

pub record Given (n low e m : ℕ) (start : Start) : Type 0 where
  pub lo : 2 ≤ n
  pub hi : n ≤ 64
  pub first : zero < low
  pub room : low + 1 < 2 ^ (n - 1)
  pub full : 2 ^ 63 ≤ m
  pub top : m < 2 ^ 64
  pub is : low ≡ first_bits start m / 2 ^ (64 - n)
  pub begins : (h : ℤ) → IsRaised h e → Begins h start.bits start.r

module _ (n low e m : ℕ) (start : Start) (given : Given n low e m start) where
  pub seven : start.r ≤ 7
  seven = (given.begins (pos e -ℤ pos 255) (lowered e)).regime

  word : low ≡ floor_string start.bits (59 - start.r) m / 2 ^ (64 - n)
  word = given.is ∙ ap (λ (x : ℕ). x / 2 ^ (64 - n)) (floor_is start m seven)

  next_room : suc low < 2 ^ (n - 1)
  next_room = subst (λ (x : ℕ). x < 2 ^ (n - 1)) (add-one low) given.room

  -- the sizes of the two words
  sizes : (z z' : ℕ) → HasValue n false z low → HasValue n false z' (low + 1) → z + z' ≡ grown n low + grown n (suc low)
  sizes z z' x y =
      ap₂ (λ (a b : ℕ). a + b) (value_is n given.lo given.hi z low given.first (omega (arith, next_room)) x)
      (value_is n given.lo given.hi z' (suc low) (omega arith) next_room (subst (HasValue n false z') (add-one low) y))

  pub fine_tells : (rest : Rest) (side : Ordering) → 5 + start.r ≤ n → TellsHalf (m % 2 ^ (64 - (n - start.r - 4))) (2 ^ (63 - (n - start.r - 4))) rest side → TellsMidpoint n low e m rest side
  unfolding TellsMidpoint
  fine_tells rest side fine t = λ h a b z z' is some offered hz hz'.
      let K = binade_of h e start.bits start.r is (given.begins h is) in
      subst (λ (x : ℕ). TellsSide side (2 * a) (x * b)) (sym (sizes z z' hz hz' ∙ ap (λ (x : ℕ). grown n x + grown n (suc x)) word))
      (fine_side h e start.bits (59 - start.r) K.0 K.1 m given.full given.top rest a b some offered n given.lo given.hi (omega (arith, fine, seven, given.hi))
      (subst (λ (x : ℕ). suc x < 2 ^ (n - 1)) word next_room) (subst (λ (x : ℕ). zero < x) word given.first) side
      (subst (λ (x : ℕ). TellsHalf (m % 2 ^ x) (2 ^ (62 - (59 - start.r) + (64 - n))) rest side) (omega (arith, fine, seven, given.hi)) (subst (λ (x : ℕ). TellsHalf (m % 2 ^ (64 - (n - start.r - 4))) (2 ^ x) rest side) (omega (arith, fine, seven, given.hi)) t)))

  -- the same of what is cut off when it stands at the top
  pub fine_cut : (rest : Rest) (w : ℕ) → 5 + start.r ≤ n → ChoosesByCut low (m * 2 ^ (n - start.r - 4) % 2 ^ 64) rest w → (side : Ordering) × TellsMidpoint n low e m rest side × (w ≡ chosen_of low side)
  unfolding ChoosesByCut
  fine_cut rest w fine x =
      let kept = n - start.r - 4 in
      let y = x kept (m % 2 ^ (64 - kept)) (2 ^ (63 - kept)) (shl_out m kept (omega (arith, given.hi))) (sym (pow_sum (63 - kept) kept 63 (omega (arith, given.hi)))) in
      (y.0, fine_tells rest y.0 fine y.1, y.2)

  -- ---- powers of two
  module _ (short : n < 5 + start.r) where
    narrow : n < 12
    narrow = omega (arith, short, seven)

    string : ℕ
    string = floor_string start.bits (59 - start.r) m

    binade : (K : ℕ) × Binade (pos e -ℤ pos 255) e start.bits (59 - start.r) K
    binade = binade_of (pos e -ℤ pos 255) e start.bits start.r (lowered e) (given.begins (pos e -ℤ pos 255) (lowered e))

    -- the word from the string's head, which has the regime of the start
    word_of_head : low ≡ string / 2 ^ 52 / 2 ^ (12 - n)
    unfolding string
    word_of_head = word ∙ ap (λ (k : ℕ). floor_string start.bits (59 - start.r) m / 2 ^ k) same ∙ sym (shr-shr (floor_string start.bits (59 - start.r) m) 52 (12 - n))
      where
        same : 64 - n ≡ 52 + (12 - n)
        same = omega (arith, narrow)

    head_regime : Takum.r 12 (string / 2 ^ 52) ≡ start.r
    unfolding string floor_string
    head_regime =
        sym (r_head 52 (string / 2 ^ 52) (string % 2 ^ 52) (mod-lt string (pow_pos 52))) ∙ ap (Takum.r 64) (split string 52)
        ∙ string_regime (pos e -ℤ pos 255) start.bits (59 - start.r) binade.1.begins binade.1.most (cut_fraction (59 - start.r) m) (cut_lt (pos e -ℤ pos 255) e start.bits (59 - start.r) binade.0 binade.1 m given.full given.top)
        ∙ omega (arith, seven)

    cut : (n < 5) ⊎ (n < 5 + Takum.r 12 (head_of n low))
    cut = by (dec_lt n 5)
      where
        by : Dec (n < 5) → (n < 5) ⊎ (n < 5 + Takum.r 12 (head_of n low))
        by (yes h) = inl h
        by (no f) =
            inr (subst (λ (x : ℕ). n < 5 + x) (sym (ap (λ (x : ℕ). Takum.r 12 (head_of n x)) word_of_head ∙ regime_kept n (string / 2 ^ 52) (le_of_suc-le-suc (lt_of_not-le f)) (le_of_lt narrow) ∙ head_regime)) short)

    low_is : grown n low ≡ 2 ^ (raised_at (head_of n low) + 52)
    low_is = low_power n low given.lo narrow given.first next_room cut

    high_is : grown n (suc low) ≡ 2 ^ (raised_at (head_of n (suc low)) + 52)
    high_is = high_power n low given.lo narrow given.first next_room cut

    -- a raised characteristic of a word is that of its head
    at_head : (v i : ℕ) → IsRaised (Takum.c 64 (v * 2 ^ (64 - n))) i → i ≡ raised_at (head_of n v)
    unfolding head_of
    at_head v i x = raised_inj (Takum.c 12 (head_of n v)) i (raised_at (head_of n v)) (subst (λ (z : ℤ). IsRaised z i) (ap (Takum.c 64) above ∙ c_head 52 (head_of n v) 0 (pow_pos 52)) x) (raised_is (head_of n v))
      where
        above : v * 2 ^ (64 - n) ≡ v * 2 ^ (12 - n) * 2 ^ 52 + 0
        above = omega (arith, ap (λ (x : ℕ). v * x) (pow_sum (12 - n) 52 (64 - n) (omega (arith, narrow))))

    module _ (i j : ℕ) (hi : IsRaised (Takum.c 64 (low * 2 ^ (64 - n))) i) (hj : IsRaised (Takum.c 64 ((low + 1) * 2 ^ (64 - n))) j) where
      i_is : i ≡ raised_at (head_of n low)
      i_is = at_head low i hi

      j_is : j ≡ raised_at (head_of n (suc low))
      j_is = at_head (suc low) j (subst (λ (v : ℕ). IsRaised (Takum.c 64 (v * 2 ^ (64 - n))) j) (add-one low) hj)

      shifted_lt : (x y : ℕ) → 2 ^ (x + 52) < 2 ^ (y + 52) → x < y
      shifted_lt x y l = omega (arith, exponent_lt (x + 52) (y + 52) l)

      pub lower_lt : i < j
      lower_lt = shifted_lt i j (subst (λ (x : ℕ). x < 2 ^ (j + 52)) (low_is ∙ ap (λ (x : ℕ). 2 ^ (x + 52)) (sym i_is)) (subst (λ (x : ℕ). grown n low < x) (high_is ∙ ap (λ (x : ℕ). 2 ^ (x + 52)) (sym j_is)) (grown_lt n low (suc low) given.lo given.hi (omega arith) next_room)))

      pub gap_le : j ≤ i + 64
      gap_le = omega (arith, i_is, j_is, near_enough n low given.lo narrow given.first next_room cut)

      pub upper_small : j < 510
      upper_small = omega (arith, j_is, raised_lt (head_of n (suc low)))

      pub under_upper : e < j
      under_upper =
          shifted_lt e j
          (lt_of_le_of_lt (floor_size_low (pos e -ℤ pos 255) e start.bits (59 - start.r) binade.0 binade.1 m given.full given.top)
          (subst (λ (x : ℕ). size (floor_string start.bits (59 - start.r) m) < x) (sym (grown_suc n (suc low) (omega arith)) ∙ high_is ∙ ap (λ (x : ℕ). 2 ^ (x + 52)) (sym j_is)) (size_lt (floor_string start.bits (59 - start.r) m) (suc low * 2 ^ (64 - n)) beyond (shl_below (n - 1) (64 - n) 63 next_room (omega (arith, given.lo, given.hi))))))
        where
          beyond : floor_string start.bits (59 - start.r) m < suc low * 2 ^ (64 - n)
          beyond = subst (λ (v : ℕ). floor_string start.bits (59 - start.r) m < suc v * 2 ^ (64 - n)) (sym word) (omega (arith, split (floor_string start.bits (59 - start.r) m) (64 - n), mod-lt (floor_string start.bits (59 - start.r) m) (pow_pos (64 - n))))

      pub coarse_tells : (rest : Rest) (side : Ordering) → TellsPowers i j e m rest side → TellsMidpoint n low e m rest side
      unfolding TellsMidpoint TellsPowers IsOffered
      coarse_tells rest side t = λ h a b z z' is some offered hz hz'.
          let x = h -ℤ pos 63 +ℤ pos 307 in
          subst (λ (y : ℕ). TellsSide side (2 * a) (y * b)) (sym (sizes z z' hz hz'))
          (cancel side (den x) (2 * a) ((grown n low + grown n (suc low)) * b) (unit_some x).1
          (subst₂ (TellsSide side) (sym (mul_assoc 2 a (den x))) (sum (grown n low) (grown n (suc low)) b (den x))
          (t (num x * b) (a * den x) (mul-pos (unit_some x).0 some) offered (grown n low * b * den x) (grown n (suc low) * b * den x) (scaled h b i (grown n low) is (low_is ∙ ap (λ (y : ℕ). 2 ^ (y + 52)) (sym i_is))) (scaled h b j (grown n (suc low)) is (high_is ∙ ap (λ (y : ℕ). 2 ^ (y + 52)) (sym j_is))))))
        where
          sum : (y z b d : ℕ) → y * b * d + z * b * d ≡ (y + z) * b * d
          sum y z b d = omega arith

          scaled : (h : ℤ) (b f g : ℕ) → IsRaised h e → g ≡ 2 ^ (f + 52) → g * b * den (h -ℤ pos 63 +ℤ pos 307) * 2 ^ e ≡ 2 ^ (63 + f) * (num (h -ℤ pos 63 +ℤ pos 307) * b)
          scaled h b f g is q =
              ap (λ (y : ℕ). y * b * den (h -ℤ pos 63 +ℤ pos 307) * 2 ^ e) q ∙ regroup (2 ^ (f + 52)) b (den (h -ℤ pos 63 +ℤ pos 307)) (2 ^ e)
              ∙ ap (λ (y : ℕ). y * den (h -ℤ pos 63 +ℤ pos 307) * b) (pow_sum (f + 52) e (f + 52 + e) refl)
              ∙ ap (λ (y : ℕ). y * b) (unit_law h e (63 + f) (f + 52 + e) is (omega arith)) ∙ mul_assoc (2 ^ (63 + f)) (num (h -ℤ pos 63 +ℤ pos 307)) b
            where
              regroup : (g b d e : ℕ) → g * b * d * e ≡ g * e * d * b
              regroup g b d e = omega arith

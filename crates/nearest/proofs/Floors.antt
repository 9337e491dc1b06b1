-- The first bits of an offered size are the last string at or below it, and cut to n bits they are the last word of that width. Where the
-- cut falls in the fraction, that word and the next are as evenly spaced as the significands. Assumes nothing.
use mathlib.Core.Path.{◌≡◌, refl, sym, ap, ap₂, ◌∙◌, subst}
use Prim.Native.Nat.{ℕ, zero, suc, ◌+◌, ◌-◌, ◌*◌, ◌/◌, ◌%◌, ◌^◌, ◌≤◌, ◌<◌}
use mathlib.Core.Logic.{◌⊎◌, inl, inr}
use native.Mathlib.Nat.{add_comm, eq_of_mul-eq-mul_right, mul-lt-mul_of_pos_right, mul_assoc, mul-le-mul_right, le_of_mul-le-mul_right, lt_of_mul-lt-mul_right, le_of_lt, le_of_eq, le_trans, lt_of_lt_of_le, lt_of_le_of_lt, mod-lt, zero-lt-suc, mul-pos, le-add_right, div-mul-le_self, mul-add-div_right}
use native.Mathlib.Numerals.{add-one}
use native.Mathlib.Omega.{arith}
use lib.IntN.{ℤ, pos, ◌+ℤ◌, ◌-ℤ◌}
use lib.Pow.{pow_pos, shr_lt, shr-shr, split}
use Rattle.word.specs.Reads.{num, den}
use Rattle.bounds.proofs.Powers.{pow_sum, shl_below}
use Rattle.word.proofs.Sizes.{size, size_le}
use Rattle.word.proofs.Values.{grown, grown_suc}
use Rattle.nearest.specs.declared.size.Rest.{Rest}
use Rattle.std.specs.declared.cmp.Ordering.{Ordering}
use Rattle.nearest.specs.Offers.{Amounts, IsOffered}
use Rattle.nearest.specs.Parts.{TellsSide, TellsHalf}
use Rattle.nearest.proofs.Exponents.{unit_law}
use Rattle.word.proofs.Units.{unit_some}
use Rattle.nearest.proofs.Halves.{Within, within, past_unit, double, cancel}
use Rattle.nearest.proofs.Strings.{Binade, below_top, size_in_binade}

-- the significand after its leading one, cut to P bits
unfoldable pub cut_fraction : ℕ → ℕ → ℕ
cut_fraction P m = (m - 2 ^ 63) / 2 ^ (63 - P)

unfoldable pub floor_string : ℕ → ℕ → ℕ → ℕ
floor_string bits P m = bits * 2 ^ P + cut_fraction P m

module _ (h : ℤ) (raised bits P K : ℕ) (binade : Binade h raised bits P K) (m : ℕ) (full : 2 ^ 63 ≤ m) (top : m < 2 ^ 64) where
  most : P ≤ 59
  most = binade.most

  whole : 2 ^ P * 2 ^ (63 - P) ≡ 2 ^ 63
  whole = pow_sum P (63 - P) 63 (omega (arith, most))

  pub cut_lt : cut_fraction P m < 2 ^ P
  unfolding cut_fraction
  cut_lt = shr_lt P (63 - P) (subst (λ (x : ℕ). m - 2 ^ 63 < 2 ^ x) same (omega (arith, top)))
    where
      same : 63 ≡ P + (63 - P)
      same = omega (arith, most)

  -- between the cut significand and the next lies m
  cut_low : (2 ^ P + cut_fraction P m) * 2 ^ (63 - P) ≤ m
  unfolding cut_fraction
  cut_low = omega (arith, split (m - 2 ^ 63) (63 - P), whole, full)

  -- the bits that are cut off
  cut_split : (2 ^ P + cut_fraction P m) * 2 ^ (63 - P) + m % 2 ^ (63 - P) ≡ m
  unfolding cut_fraction
  cut_split = ap (λ (y : ℕ). y * 2 ^ (63 - P) + m % 2 ^ (63 - P)) (sym (mul-add-div_right (pow_pos (63 - P)) (2 ^ P) (m - 2 ^ 63)) ∙ ap (λ (y : ℕ). y / 2 ^ (63 - P)) back) ∙ split m (63 - P)
    where
      back : 2 ^ P * 2 ^ (63 - P) + (m - 2 ^ 63) ≡ m
      back = omega (arith, whole, full)

  cut_high : suc m ≤ (2 ^ P + suc (cut_fraction P m)) * 2 ^ (63 - P)
  unfolding cut_fraction
  cut_high = omega (arith, split (m - 2 ^ 63) (63 - P), mod-lt (m - 2 ^ 63) (pow_pos (63 - P)), whole, full)

  pub floor_lt : floor_string bits P m < 2 ^ 63
  unfolding floor_string
  floor_lt = below_top h raised bits P K binade (cut_fraction P m) cut_lt

  size_floor : size (floor_string bits P m) ≡ (2 ^ P + cut_fraction P m) * 2 ^ K
  unfolding floor_string
  size_floor = size_in_binade h raised bits P K binade (cut_fraction P m) (le_of_lt cut_lt) floor_lt

  size_ceiling : suc (floor_string bits P m) < 2 ^ 63 → size (suc (floor_string bits P m)) ≡ (2 ^ P + suc (cut_fraction P m)) * 2 ^ K
  unfolding floor_string
  size_ceiling room = ap size next ∙ size_in_binade h raised bits P K binade (suc (cut_fraction P m)) cut_lt (subst (λ (x : ℕ). x < 2 ^ 63) next room)
    where
      next : suc (bits * 2 ^ P + cut_fraction P m) ≡ bits * 2 ^ P + suc (cut_fraction P m)
      next = omega arith

  -- the floor lies in its own binade
  pub floor_size_low : 2 ^ (raised + 52) ≤ size (floor_string bits P m)
  floor_size_low = le_trans (le_of_eq (sym (pow_sum P K (raised + 52) (add_comm P K ∙ binade.last)))) (le_trans (mul-le-mul_right (2 ^ K) (le-add_right (2 ^ P) (cut_fraction P m))) (le_of_eq (sym size_floor)))

  -- ---- the size offered, in its own units
  module _ (rest : Rest) (a b : ℕ) (some : zero < b) (offered : IsOffered m rest (h -ℤ pos 63) a b) where
    x : ℤ
    x = h -ℤ pos 63 +ℤ pos 307

    unit : ℕ
    unit = num x * b

    unit_is_some : zero < unit
    unfolding unit
    unit_is_some = mul-pos (unit_some x).0 some

    amounts : Amounts m rest (a * den x) unit
    unfolding IsOffered x unit
    amounts = offered

    bounds : Within m unit (a * den x)
    bounds = within m rest unit (a * den x) unit_is_some amounts

    -- what 2^K is in those units
    scaled : (c : ℕ) → c * 2 ^ K * b * den x ≡ c * 2 ^ (63 - P) * unit
    unfolding x unit
    scaled c =
        regroup c (2 ^ K) b (den x) ∙ ap (λ (y : ℕ). c * y * b) (unit_law h raised (63 - P) K binade.is (omega (arith, binade.last, most))) ∙ back c (2 ^ (63 - P)) (num x) b
      where
        regroup : (c k b d : ℕ) → c * k * b * d ≡ c * (k * d) * b
        regroup c k b d = omega arith

        back : (c s n b : ℕ) → c * (s * n) * b ≡ c * s * (n * b)
        back c s n b = omega arith

    pub floor_low : size (floor_string bits P m) * b ≤ a
    floor_low =
        le_of_mul-le-mul_right {k = den x}
        (le_trans (le_of_eq (ap (λ (y : ℕ). y * b * den x) size_floor ∙ scaled (2 ^ P + cut_fraction P m))) (le_trans (mul-le-mul_right unit cut_low) bounds.low)) (unit_some x).1

    pub floor_high : suc (floor_string bits P m) < 2 ^ 63 → a < size (suc (floor_string bits P m)) * b
    floor_high room =
        lt_of_mul-lt-mul_right (den x)
        (lt_of_lt_of_le bounds.high (le_trans (le_of_eq (ap (λ (y : ℕ). y * unit) (add-one m))) (le_trans (mul-le-mul_right unit cut_high) (le_of_eq (sym (ap (λ (y : ℕ). y * b * den x) (size_ceiling room) ∙ scaled (2 ^ P + suc (cut_fraction P m))))))))

    -- the floor is the size itself where nothing lies behind the first bits, and else below it
    pub floor_exact : m % 2 ^ (63 - P) ≡ 0 → rest ≡ Rest.Nothing → size (floor_string bits P m) * b ≡ a
    unfolding Amounts
    floor_exact none nothing =
        eq_of_mul-eq-mul_right (den x) (unit_some x).1 (size (floor_string bits P m) * b) a
        (ap (λ (y : ℕ). y * b * den x) size_floor ∙ scaled (2 ^ P + cut_fraction P m) ∙ ap (λ (y : ℕ). y * unit) (omega (arith, cut_split, none)) ∙ sym (subst (λ (r : Rest). Amounts m r (a * den x) unit) nothing amounts))

    pub floor_finer : (zero < m % 2 ^ (63 - P)) ⊎ (rest ≡ Rest.Nothing → ⊥) → size (floor_string bits P m) * b < a
    floor_finer more = lt_of_mul-lt-mul_right (den x) (lt_of_le_of_lt (le_of_eq (ap (λ (y : ℕ). y * b * den x) size_floor ∙ scaled (2 ^ P + cut_fraction P m))) (by more))
      where
        by : (zero < m % 2 ^ (63 - P)) ⊎ (rest ≡ Rest.Nothing → ⊥) → (2 ^ P + cut_fraction P m) * 2 ^ (63 - P) * unit < a * den x
        by (inl some_bits) = lt_of_lt_of_le (mul-lt-mul_of_pos_right (omega (arith, cut_split, some_bits)) unit_is_some) bounds.low
        by (inr some_rest) = lt_of_le_of_lt (mul-le-mul_right unit cut_low) (past_unit m rest unit (a * den x) unit_is_some amounts some_rest)

    -- ---- at n bits
    module _ (n : ℕ) (lo : 2 ≤ n) (hi : n ≤ 64) where
      pub word_low : zero < floor_string bits P m / 2 ^ (64 - n) → grown n (floor_string bits P m / 2 ^ (64 - n)) * b ≤ a
      word_low s =
          le_trans (mul-le-mul_right b (le_trans (le_of_eq (grown_suc n (floor_string bits P m / 2 ^ (64 - n)) s)) (size_le (floor_string bits P m / 2 ^ (64 - n) * 2 ^ (64 - n)) (floor_string bits P m) (div-mul-le_self (floor_string bits P m) (2 ^ (64 - n))) floor_lt))) floor_low

      pub word_high : suc (floor_string bits P m / 2 ^ (64 - n)) < 2 ^ (n - 1) → a < grown n (suc (floor_string bits P m / 2 ^ (64 - n))) * b
      word_high room =
          lt_of_lt_of_le (floor_high (lt_of_le_of_lt above below))
          (mul-le-mul_right b (le_trans (size_le (suc (floor_string bits P m)) (suc (floor_string bits P m / 2 ^ (64 - n)) * 2 ^ (64 - n)) above below) (le_of_eq (sym (grown_suc n (suc (floor_string bits P m / 2 ^ (64 - n))) (zero-lt-suc _))))))
        where
          above : suc (floor_string bits P m) ≤ suc (floor_string bits P m / 2 ^ (64 - n)) * 2 ^ (64 - n)
          above = omega (arith, split (floor_string bits P m) (64 - n), mod-lt (floor_string bits P m) (pow_pos (64 - n)))

          below : suc (floor_string bits P m / 2 ^ (64 - n)) * 2 ^ (64 - n) < 2 ^ 63
          below = shl_below (n - 1) (64 - n) 63 room (omega (arith, lo, hi))

      -- where the cut falls in the fraction
      module _ (fine : 64 - n ≤ P) where
        -- the bits of m that are cut off
        cut : ℕ
        cut = 63 - P + (64 - n)

        Q : ℕ
        Q = 2 ^ (P - (64 - n)) + (m - 2 ^ 63) / 2 ^ cut

        halves : 2 ^ (P - (64 - n)) * 2 ^ (64 - n) ≡ 2 ^ P
        halves = pow_sum (P - (64 - n)) (64 - n) P (omega arith)

        kept : cut_fraction P m / 2 ^ (64 - n) ≡ (m - 2 ^ 63) / 2 ^ cut
        unfolding cut_fraction cut
        kept = shr-shr (m - 2 ^ 63) (63 - P) (64 - n)

        kept_lt : (m - 2 ^ 63) / 2 ^ cut < 2 ^ (P - (64 - n))
        kept_lt = subst (λ (y : ℕ). y < 2 ^ (P - (64 - n))) kept (shr_lt (P - (64 - n)) (64 - n) (lt_of_lt_of_le cut_lt (le_of_eq (sym halves ∙ pow_sum (P - (64 - n)) (64 - n) (P - (64 - n) + (64 - n)) refl))))

        word_is : floor_string bits P m / 2 ^ (64 - n) ≡ bits * 2 ^ (P - (64 - n)) + (m - 2 ^ 63) / 2 ^ cut
        unfolding floor_string
        word_is =
            ap (λ (y : ℕ). (y + cut_fraction P m) / 2 ^ (64 - n)) (ap (λ (y : ℕ). bits * y) (sym halves) ∙ sym (mul_assoc bits (2 ^ (P - (64 - n))) (2 ^ (64 - n))))
            ∙ mul-add-div_right (pow_pos (64 - n)) (bits * 2 ^ (P - (64 - n))) (cut_fraction P m) ∙ ap (λ (y : ℕ). bits * 2 ^ (P - (64 - n)) + y) kept

        -- the words at the top of 64 bits are strings of the binade
        raised_word : (c : ℕ) → (bits * 2 ^ (P - (64 - n)) + c) * 2 ^ (64 - n) ≡ bits * 2 ^ P + c * 2 ^ (64 - n)
        raised_word c = omega (arith, ap (λ (y : ℕ). bits * y) halves)

        size_of : (c : ℕ) → c ≤ 2 ^ (P - (64 - n)) → (bits * 2 ^ (P - (64 - n)) + c) * 2 ^ (64 - n) < 2 ^ 63 → size ((bits * 2 ^ (P - (64 - n)) + c) * 2 ^ (64 - n)) ≡ (2 ^ (P - (64 - n)) + c) * 2 ^ (64 - n) * 2 ^ K
        size_of c l room =
            ap size (raised_word c)
            ∙ size_in_binade h raised bits P K binade (c * 2 ^ (64 - n)) (le_trans (mul-le-mul_right (2 ^ (64 - n)) l) (le_of_eq halves)) (subst (λ (y : ℕ). y < 2 ^ 63) (raised_word c) room)
            ∙ ap (λ (y : ℕ). y * 2 ^ K) (omega (arith, halves))

        one_more : 2 ^ (P - (64 - n)) * 2 ^ cut ≡ 2 ^ 63
        unfolding cut
        one_more = pow_sum (P - (64 - n)) cut 63 (omega (arith, most, fine))

        -- the significand is Q coarse units and the bits that are cut off
        parts : m ≡ Q * 2 ^ cut + m % 2 ^ cut
        unfolding Q
        parts = sym (split m cut) ∙ ap (λ (y : ℕ). y * 2 ^ cut + m % 2 ^ cut) (ap (λ (y : ℕ). y / 2 ^ cut) whole_m ∙ mul-add-div_right (pow_pos cut) (2 ^ (P - (64 - n))) (m - 2 ^ 63))
          where
            whole_m : m ≡ 2 ^ (P - (64 - n)) * 2 ^ cut + (m - 2 ^ 63)
            whole_m = omega (arith, one_more, full)

        -- both neighbours
        module _ (room : suc (floor_string bits P m / 2 ^ (64 - n)) < 2 ^ (n - 1)) (first : zero < floor_string bits P m / 2 ^ (64 - n)) where
          at_low : grown n (floor_string bits P m / 2 ^ (64 - n)) ≡ Q * 2 ^ (64 - n) * 2 ^ K
          unfolding Q
          at_low =
              grown_suc n (floor_string bits P m / 2 ^ (64 - n)) first ∙ ap (λ (y : ℕ). size (y * 2 ^ (64 - n))) word_is
              ∙ size_of ((m - 2 ^ 63) / 2 ^ cut) (le_of_lt kept_lt) (subst (λ (y : ℕ). y * 2 ^ (64 - n) < 2 ^ 63) word_is (shl_below (n - 1) (64 - n) 63 (omega (arith, room)) (omega (arith, lo, hi))))

          at_high : grown n (suc (floor_string bits P m / 2 ^ (64 - n))) ≡ suc Q * 2 ^ (64 - n) * 2 ^ K
          unfolding Q
          at_high =
              grown_suc n (suc (floor_string bits P m / 2 ^ (64 - n))) (zero-lt-suc _) ∙ ap (λ (y : ℕ). size (y * 2 ^ (64 - n))) next
              ∙ size_of (suc ((m - 2 ^ 63) / 2 ^ cut)) kept_lt (subst (λ (y : ℕ). y * 2 ^ (64 - n) < 2 ^ 63) next (shl_below (n - 1) (64 - n) 63 room (omega (arith, lo, hi))))
              ∙ ap (λ (y : ℕ). y * 2 ^ (64 - n) * 2 ^ K) (omega arith)
            where
              next : suc (floor_string bits P m / 2 ^ (64 - n)) ≡ bits * 2 ^ (P - (64 - n)) + suc ((m - 2 ^ 63) / 2 ^ cut)
              next = ap suc word_is ∙ omega arith

          -- the lower one is the size itself where nothing is cut off, and else below it
          low_amount : grown n (floor_string bits P m / 2 ^ (64 - n)) * b * den x ≡ Q * 2 ^ cut * unit
          unfolding cut
          low_amount =
              ap (λ (y : ℕ). y * b * den x) at_low ∙ scaled (Q * 2 ^ (64 - n)) ∙ ap (λ (y : ℕ). y * unit) (mul_assoc Q (2 ^ (64 - n)) (2 ^ (63 - P)) ∙ ap (λ (y : ℕ). Q * y) (pow_sum (64 - n) (63 - P) cut (add_comm (64 - n) (63 - P))))

          pub fine_exact : m % 2 ^ (63 - P + (64 - n)) ≡ 0 → rest ≡ Rest.Nothing → grown n (floor_string bits P m / 2 ^ (64 - n)) * b ≡ a
          unfolding Amounts cut
          fine_exact none nothing =
              eq_of_mul-eq-mul_right (den x) (unit_some x).1 _ a (low_amount ∙ ap (λ (y : ℕ). y * unit) (omega (arith, parts, none)) ∙ sym (subst (λ (r : Rest). Amounts m r (a * den x) unit) nothing amounts))

          pub fine_finer : (zero < m % 2 ^ (63 - P + (64 - n))) ⊎ (rest ≡ Rest.Nothing → ⊥) → grown n (floor_string bits P m / 2 ^ (64 - n)) * b < a
          unfolding cut
          fine_finer more = lt_of_mul-lt-mul_right (den x) (lt_of_le_of_lt (le_of_eq low_amount) (by more))
            where
              by : (zero < m % 2 ^ (63 - P + (64 - n))) ⊎ (rest ≡ Rest.Nothing → ⊥) → Q * 2 ^ cut * unit < a * den x
              by (inl some_bits) = lt_of_lt_of_le (mul-lt-mul_of_pos_right (omega (arith, parts, some_bits)) unit_is_some) bounds.low
              by (inr some_rest) = lt_of_le_of_lt (mul-le-mul_right unit (omega (arith, parts))) (past_unit m rest unit (a * den x) unit_is_some amounts some_rest)

          -- the bits that are cut off against their half tell the size against the midpoint
          pub fine_side : (side : Ordering) → TellsHalf (m % 2 ^ (63 - P + (64 - n))) (2 ^ (62 - P + (64 - n))) rest side → TellsSide side (2 * a) ((grown n (floor_string bits P m / 2 ^ (64 - n)) + grown n (suc (floor_string bits P m / 2 ^ (64 - n)))) * b)
          unfolding TellsHalf cut Q
          fine_side side t =
              cancel side (den x) (2 * a) ((grown n (floor_string bits P m / 2 ^ (64 - n)) + grown n (suc (floor_string bits P m / 2 ^ (64 - n)))) * b) (unit_some x).1
              (subst (λ (y : ℕ). TellsSide side y ((grown n (floor_string bits P m / 2 ^ (64 - n)) + grown n (suc (floor_string bits P m / 2 ^ (64 - n)))) * b * den x)) (sym (mul_assoc 2 a (den x)))
              (subst (TellsSide side (2 * (a * den x))) (sym sum) (double side (a * den x) ((Q * 2 ^ cut + 2 ^ (62 - P + (64 - n))) * unit) (t (Q * 2 ^ cut) unit (a * den x) unit_is_some (subst (λ (y : ℕ). Amounts y rest (a * den x) unit) parts amounts)))))
            where
              spread : (q d k b e : ℕ) → (q * d * k + suc q * d * k) * b * e ≡ (q + suc q) * d * k * b * e
              spread q d k b e = omega arith

              joined : (q d s c h w : ℕ) → d * s ≡ c → h * 2 ≡ c → (q + suc q) * d * s * w ≡ (q * c + h) * w + (q * c + h) * w
              joined q d s c h w p r = ap (λ (y : ℕ). y * w) (mul_assoc (q + suc q) d s ∙ ap (λ (y : ℕ). (q + suc q) * y) p) ∙ omega (arith, ap (λ (y : ℕ). y * w) r)

              sum : (grown n (floor_string bits P m / 2 ^ (64 - n)) + grown n (suc (floor_string bits P m / 2 ^ (64 - n)))) * b * den x ≡ (Q * 2 ^ cut + 2 ^ (62 - P + (64 - n))) * unit + (Q * 2 ^ cut + 2 ^ (62 - P + (64 - n))) * unit
              sum =
                  ap₂ (λ (y z : ℕ). (y + z) * b * den x) at_low at_high ∙ spread Q (2 ^ (64 - n)) (2 ^ K) b (den x) ∙ scaled ((Q + suc Q) * 2 ^ (64 - n))
                  ∙ joined Q (2 ^ (64 - n)) (2 ^ (63 - P)) (2 ^ cut) (2 ^ (62 - P + (64 - n))) unit (pow_sum (64 - n) (63 - P) cut (add_comm (64 - n) (63 - P))) (pow_sum (62 - P + (64 - n)) 1 cut (omega (arith, most)))

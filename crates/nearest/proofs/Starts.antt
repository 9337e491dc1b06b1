-- How the strings of a characteristic begin: by computed tests over every regime r, every one of its characteristics and every head that
-- goes on from there. Assumes nothing.
use mathlib.Core.Path.{◌≡◌, refl, sym, ap, ◌∙◌, subst}
use mathlib.Core.Bool.{Bool, ◌&&◌}
use Prim.Native.Nat.{ℕ, ◌+◌, ◌-◌, ◌*◌, ◌/◌, ◌%◌, ◌^◌, ◌≤◌, ◌<◌}
use native.Mathlib.Nat.{mod-lt, le_of_suc-le-suc, le_trans, lt_of_le_of_lt, add-le-add, mul-le-mul, mul-le-mul_right, two-pow-succ, add-sub_cancel, add-mul, le-add_right, lt_of_mul-lt-mul_right}
use native.Mathlib.Omega.{arith}
use lib.Dec.{T, eqb, eqb→eq, lit<}
use lib.IntN.{ℤ, pos, negsuc}
use lib.Signed.{mag}
use lib.Pow.{pow_pos, pow_mono, shl_exact, shr_lt, split}
use Rattle.word.specs.Takum as Takum
use Rattle.word.specs.Takum.{regime_of, characteristic_of, S, D, R, r, p, C, F, c}
use Rattle.word.proofs.Heads.{below, at_each, both}
use Rattle.word.proofs.Integers.{same_integer, same_integer_is}
use Rattle.bounds.proofs.Powers.{Log, pow_sum, shr_none}
use Rattle.bounds.proofs.Limits.{exponent_lt, log}
use Rattle.word.proofs.Cut.{S_head, r_head, c_head}
use Rattle.nearest.specs.declared.start.Start.{Start}
use Rattle.nearest.specs.Parts.{Begins}

-- the bits for the characteristics 2^ρ - 1 + i and -2^ρ - i, i below 2^ρ
pub upper : ℕ → ℕ → ℕ
upper ρ i = (7 + ρ) * 2 ^ ρ + (2 ^ ρ + i)

pub lower : ℕ → ℕ → ℕ
lower ρ i = (9 - ρ) * 2 ^ ρ - 1 - (2 ^ ρ + i)

-- the head that goes on with f
head_of : (ℕ → ℕ → ℕ) → ℕ → ℕ → ℕ → ℕ
head_of bits ρ i f = bits ρ i * 2 ^ (7 - ρ) + f

test : (ℕ → ℕ → ℕ) → (ℕ → ℕ → ℤ) → ℕ → ℕ → ℕ → Bool
test bits char ρ i f = eqb (S 12 (head_of bits ρ i f)) 0 && (eqb (r 12 (head_of bits ρ i f)) ρ && same_integer (c 12 (head_of bits ρ i f)) (char ρ i))

all : (ℕ → ℕ → ℕ) → (ℕ → ℕ → ℤ) → Bool
all bits char = below (λ (ρ : ℕ). below (λ (i : ℕ). below (λ (f : ℕ). test bits char ρ i f) (2 ^ (7 - ρ))) (2 ^ ρ)) 8

upper_char : ℕ → ℕ → ℤ
upper_char ρ i = pos (2 ^ ρ + i - 1)

lower_char : ℕ → ℕ → ℤ
lower_char ρ i = negsuc (2 ^ ρ + i - 1)

upper_all : T (all upper upper_char)
unfolding all test head_of upper upper_char regime_of characteristic_of S D R r p C F c
upper_all = tt

lower_all : T (all lower lower_char)
unfolding all test head_of lower lower_char regime_of characteristic_of S D R r p C F c
lower_all = tt

module _ (bits : ℕ → ℕ → ℕ) (char : ℕ → ℕ → ℤ) (ok : T (all bits char)) (ρ i : ℕ) (seven : ρ ≤ 7) (inside : i < 2 ^ ρ) where
  record At (f : ℕ) : Type 0 where
    sign : S 12 (head_of bits ρ i f) ≡ 0
    regime : r 12 (head_of bits ρ i f) ≡ ρ
    characteristic : c 12 (head_of bits ρ i f) ≡ char ρ i

  at : (f : ℕ) → f < 2 ^ (7 - ρ) → At f
  unfolding all test
  at f h =
      let t = at_each (λ (f : ℕ). test bits char ρ i f) (2 ^ (7 - ρ)) (at_each (λ (i : ℕ). below (λ (f : ℕ). test bits char ρ i f) (2 ^ (7 - ρ))) (2 ^ ρ) (at_each (λ (ρ : ℕ). below (λ (i : ℕ). below (λ (f : ℕ). test bits char ρ i f) (2 ^ (7 - ρ))) (2 ^ ρ)) 8 ok ρ (omega arith)) i inside) f h in
      let u = both (eqb (S 12 (head_of bits ρ i f)) 0) (eqb (r 12 (head_of bits ρ i f)) ρ && same_integer (c 12 (head_of bits ρ i f)) (char ρ i)) t in
      let v = both (eqb (r 12 (head_of bits ρ i f)) ρ) (same_integer (c 12 (head_of bits ρ i f)) (char ρ i)) u.1 in
      record {
        sign = eqb→eq (S 12 (head_of bits ρ i f)) 0 u.0;
        regime = eqb→eq (r 12 (head_of bits ρ i f)) ρ v.0;
        characteristic = same_integer_is (c 12 (head_of bits ρ i f)) (char ρ i) v.1;
      }

  -- a string of 64 bits is its head and 52 bits more
  string : (f : ℕ) → bits ρ i * 2 ^ (59 - ρ) + f ≡ head_of bits ρ i (f / 2 ^ 52) * 2 ^ 52 + f % 2 ^ 52
  unfolding head_of
  string f = omega (arith, split f 52, ap (λ (x : ℕ). bits ρ i * x) (pow_sum (7 - ρ) 52 (59 - ρ) (omega arith)))

  begins : Begins (char ρ i) (bits ρ i) ρ
  begins =
      record {
        regime = seven;
        sign = λ f h. ap (S 64) (string f) ∙ S_head 52 (G f) (f % 2 ^ 52) (tail f) ∙ (at (f / 2 ^ 52) (head_lt f h)).sign;
        has_regime = λ f h. ap (Takum.r 64) (string f) ∙ r_head 52 (G f) (f % 2 ^ 52) (tail f) ∙ (at (f / 2 ^ 52) (head_lt f h)).regime;
        has_characteristic = λ f h. ap (Takum.c 64) (string f) ∙ c_head 52 (G f) (f % 2 ^ 52) (tail f) ∙ (at (f / 2 ^ 52) (head_lt f h)).characteristic;
      }
    where
      G : ℕ → ℕ
      G f = head_of bits ρ i (f / 2 ^ 52)

      tail : (f : ℕ) → f % 2 ^ 52 < 2 ^ 52
      tail f = mod-lt f (pow_pos 52)

      head_lt : (f : ℕ) → f < 2 ^ (59 - ρ) → f / 2 ^ 52 < 2 ^ (7 - ρ)
      head_lt f h = shr_lt (7 - ρ) 52 (subst (λ (k : ℕ). f < 2 ^ k) same h)
        where
          same : 59 - ρ ≡ 7 - ρ + 52
          same = omega (arith, seven)

-- the size of a characteristic from 1 to 255, ρ being its logarithm
module _ (ρ size : ℕ) (log : Log ρ size) (most : size ≤ 255) where
  pub regime_small : ρ ≤ 7
  regime_small = le_of_suc-le-suc (exponent_lt ρ 8 (omega (arith, log.low)))

  rest : ℕ
  rest = size - 2 ^ ρ

  rest_lt : rest < 2 ^ ρ
  unfolding rest
  rest_lt = omega (arith, log.low, log.high, two-pow-succ ρ)

  whole : 2 ^ ρ + rest ≡ size
  unfolding rest
  whole = omega (arith, log.low)

  pub upper_begins : Begins (pos (size - 1)) ((7 + ρ) * 2 ^ ρ + size) ρ
  unfolding upper upper_char
  upper_begins = subst (λ (x : ℕ). Begins (pos (x - 1)) ((7 + ρ) * 2 ^ ρ + x) ρ) whole (begins upper upper_char upper_all ρ rest regime_small rest_lt)

  pub lower_begins : Begins (negsuc (size - 1)) ((9 - ρ) * 2 ^ ρ - 1 - size) ρ
  unfolding lower lower_char
  lower_begins = subst (λ (x : ℕ). Begins (negsuc (x - 1)) ((9 - ρ) * 2 ^ ρ - 1 - x) ρ) whole (begins lower lower_char lower_all ρ rest regime_small rest_lt)

  -- what is computed on the way stays small
  power_small : 2 ^ ρ ≤ 128
  power_small = pow_mono {i = ρ} {j = 7} regime_small

  pub shifted_upper : (7 + ρ) * 2 ^ ρ % 2 ^ 64 ≡ (7 + ρ) * 2 ^ ρ
  shifted_upper = shl_exact {a = 7 + ρ} 4 ρ 64 (omega (arith, regime_small)) (omega (arith, regime_small))

  room_lower : 1 + size ≤ (9 - ρ) * 2 ^ ρ
  room_lower = le_trans (omega (arith, log.high, two-pow-succ ρ)) (mul-le-mul_right {m = 2} {n = 9 - ρ} (2 ^ ρ) (omega (arith, regime_small)))

  -- the two sides together are all bits
  sides : (9 - ρ) * 2 ^ ρ + (7 + ρ) * 2 ^ ρ ≡ 2 ^ (4 + ρ)
  sides = sym (add-mul (9 - ρ) (7 + ρ) (2 ^ ρ)) ∙ ap (λ (x : ℕ). x * 2 ^ ρ) sixteen ∙ pow_sum 4 ρ (4 + ρ) refl
    where
      sixteen : 9 - ρ + (7 + ρ) ≡ 16
      sixteen = omega (arith, regime_small)

  pub upper_lt : (7 + ρ) * 2 ^ ρ + size < 2 ^ (4 + ρ)
  upper_lt = omega (arith, sides, room_lower)

  pub upper_turned : 2 ^ (4 + ρ) - 1 - ((7 + ρ) * 2 ^ ρ + size) ≡ (9 - ρ) * 2 ^ ρ - 1 - size
  upper_turned = omega (arith, sides, room_lower)

  pub upper_small : (7 + ρ) * 2 ^ ρ + size < 4096
  upper_small = lt_of_le_of_lt (add-le-add (mul-le-mul {n₁ = 7 + ρ} {n₂ = 14} (omega (arith, regime_small)) power_small) most) (lit< tt)

-- a start leaves room for its sign
pub start_lt : (h : ℤ) (bits r : ℕ) → Begins h bits r → bits < 2 ^ (4 + r)
unfolding S
start_lt h bits r begins =
    lt_of_mul-lt-mul_right (2 ^ (59 - r))
    (subst (λ (x : ℕ). bits * 2 ^ (59 - r) < x) (sym (pow_sum (4 + r) (59 - r) 63 (omega (arith, begins.regime)))) (lt_of_le_of_lt (le-add_right (bits * 2 ^ (59 - r)) 0) (shr_none 63 (bits * 2 ^ (59 - r) + 0) (begins.sign 0 (pow_pos (59 - r))))))

-- every characteristic has its start
pub start_exists : (h : ℤ) → mag h ≤ 254 → (start : Start) × Begins h start.bits start.r
start_exists h b = let t = numbers h b in
    (record { bits = t.0; r = t.1; seven = t.2.regime; room = start_lt h t.0 t.1 t.2 }, t.2)
  where
    numbers : (h : ℤ) → mag h ≤ 254 → (bits : ℕ) × (r : ℕ) × Begins h bits r
    numbers (pos i) b =
        let t = log (i + 1) (omega arith) in
        let bits = (7 + t.0) * 2 ^ t.0 + (i + 1) in
        (bits, t.0, subst (λ (x : ℕ). Begins (pos x) bits t.0) (add-sub_cancel i 1) (upper_begins t.0 (i + 1) (record { low = t.1; high = t.2 }) (omega (arith, b))))
    numbers (negsuc i) b =
        let t = log (i + 1) (omega arith) in
        let bits = (9 - t.0) * 2 ^ t.0 - 1 - (i + 1) in
        (bits, t.0, subst (λ (x : ℕ). Begins (negsuc x) bits t.0) (add-sub_cancel i 1) (lower_begins t.0 (i + 1) (record { low = t.1; high = t.2 }) (omega (arith, b))))

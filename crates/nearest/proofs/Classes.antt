-- One word for a whole class of sizes: all that are m units and the same kind of rest have the same nearest positive word. The hub finds it;
-- here it is only said that there is one, and that every class holds a size. Assumes nothing.
use mathlib.Core.Path.{◌≡◌, refl, sym, subst₂}
use Prim.Native.Nat.{ℕ, zero, suc, ◌+◌, ◌-◌, ◌*◌, ◌/◌, ◌%◌, ◌^◌, ◌≤◌, ◌<◌}
use native.Mathlib.Nat.{lt_of_not-le, mul-pos, mul_assoc, zero-lt-suc}
use native.Mathlib.Decide.{dec_lt, dec_le}
use native.Mathlib.Omega.{arith}
use lib.IntN.{ℤ, pos, negsuc, ◌+ℤ◌}
use lib.Signed.{mag}
use Rattle.word.specs.Takum.{c}
use Rattle.bounds.proofs.Powers.{not_more}
use Rattle.word.specs.Reads.{num, den}
use Rattle.word.proofs.Units.{unit_some}
use Rattle.word.proofs.Numbers.{characteristic_of_string}
use Rattle.nearest.specs.declared.size.Rest.{Rest}
use Rattle.nearest.specs.declared.start.Start.{Start}
use Rattle.nearest.specs.Offers.{Amounts, IsOffered, IsNearest}
use Rattle.nearest.specs.Parts.{Begins, first_bits, IsRaised, chosen_of}
use Rattle.nearest.proofs.Exponents.{raise}
use Rattle.nearest.proofs.Halves.{powers_side, cut_chooses}
use Rattle.nearest.proofs.Starts.{start_exists}
use Rattle.nearest.proofs.Sides.{lower_lt, gap_le, under_upper}
use Rattle.nearest.proofs.Hub.{past_last, before_first, below_end, at_zero, at_end, given, by_powers, by_cut}

-- ---- every class holds a size
-- quarters of the last unit
quarters : Rest → ℕ
quarters Rest.Nothing = 0
quarters Rest.UnderHalf = 1
quarters Rest.Half = 2
quarters Rest.OverHalf = 3

amounts : (m : ℕ) (rest : Rest) (u : ℕ) → zero < u → Amounts m rest ((4 * m + quarters rest) * u) (4 * u)
unfolding Amounts quarters
amounts m Rest.Nothing u some = omega arith
amounts m Rest.UnderHalf u some = (omega (arith, some), omega (arith, some))
amounts m Rest.Half u some = omega arith
amounts m Rest.OverHalf u some = (omega (arith, some), omega (arith, some))

pub some_size : (m : ℕ) (rest : Rest) (k : ℤ) → (a b : ℕ) × (0 < b) × IsOffered m rest k a b
unfolding IsOffered
some_size m rest k = (
  (4 * m + quarters rest) * N,
  4 * D,
  mul-pos (zero-lt-suc 3) (unit_some x).1,
  subst₂ (Amounts m rest) (sym (mul_assoc (4 * m + quarters rest) N D)) (aside N D) (amounts m rest (N * D) (mul-pos (unit_some x).0 (unit_some x).1)),
)
  where
    x : ℤ
    x = k +ℤ pos 307

    N : ℕ
    N = num x

    D : ℕ
    D = den x

    aside : (N D : ℕ) → 4 * (N * D) ≡ N * (4 * D)
    aside N D = omega arith

-- ---- and has a nearest word
module _ (n : ℕ) (lo : 2 ≤ n) (hi : n ≤ 64) (m : ℕ) (rest : Rest) (full : 2 ^ 63 ≤ m) (top : m < 2 ^ 64) where
  -- ---- inside the range
  module _ (h : ℤ) (e : ℕ) (start : Start) (is : IsRaised h e) (begins : Begins h start.bits start.r) (v : ℕ) (v_is : v ≡ first_bits start m / 2 ^ (64 - n)) where
    between : zero < v → suc v < 2 ^ (n - 1) → Dec (n < 5 + start.r) → (w : ℕ) × IsNearest n h m rest w
    unfolding IsRaised
    between first room (yes short) =
        let g = given n lo hi h e m rest start is begins full top v v_is first room in
        let i = raise (c 64 (v * 2 ^ (64 - n))) (characteristic_of_string 64 (v * 2 ^ (64 - n))) in
        let j = raise (c 64 ((v + 1) * 2 ^ (64 - n))) (characteristic_of_string 64 ((v + 1) * 2 ^ (64 - n))) in
        let t = powers_side i.0 j.0 e m rest full top (lower_lt n v e m start g short i.0 j.0 i.1 j.1) (gap_le n v e m start g short i.0 j.0 i.1 j.1) (under_upper n v e m start g short i.0 j.0 i.1 j.1) in
        (chosen_of v t.0, by_powers n lo hi h e m rest start is begins full top v v_is first room i.0 j.0 short i.1 j.1 (chosen_of v t.0) t.0 t.1 refl)
    between first room (no f) =
        let x = cut_chooses v (m * 2 ^ (n - start.r - 4) % 2 ^ 64) rest in
        (x.0, by_cut n lo hi h e m rest start is begins full top v v_is first room (not_more f) x.0 x.1)

    by_first_bits : Dec (v ≤ 0) → Dec (suc v < 2 ^ (n - 1)) → (w : ℕ) × IsNearest n h m rest w
    by_first_bits (yes q) d = (1, at_zero n lo hi h e m rest start is begins full top v v_is (omega (arith, q)))
    by_first_bits (no f) (yes room) = between (lt_of_not-le f) room (dec_lt n (5 + start.r))
    by_first_bits (no f) (no g) = (v, at_end n lo hi h e m rest start is begins full top v v_is (omega (arith, not_more g, below_end n lo hi h e m rest start is begins full top v v_is)))

  inside : (h : ℤ) → mag h ≤ 254 → (w : ℕ) × IsNearest n h m rest w
  unfolding IsRaised
  inside h near =
      let e = raise h near in
      let s = start_exists h near in
      let v = first_bits s.0 m / 2 ^ (64 - n) in
      by_first_bits h e.0 s.0 e.1 s.1 v refl (dec_le v 0) (dec_lt (suc v) (2 ^ (n - 1)))

  -- ---- past the ends
  found : (h : ℤ) → (w : ℕ) × IsNearest n h m rest w
  found (pos i) = by (dec_lt 254 i)
    where
      by : Dec (254 < i) → (w : ℕ) × IsNearest n (pos i) m rest w
      by (yes far) = (2 ^ (n - 1) - 1, past_last n lo hi i m rest far full)
      by (no f) = inside (pos i) (not_more f)
  found (negsuc i) = by (dec_lt 254 i)
    where
      by : Dec (254 < i) → (w : ℕ) × IsNearest n (negsuc i) m rest w
      by (yes far) = (1, before_first n lo hi i m rest far full top)
      by (no f) = inside (negsuc i) (not_more f)

pub class_nearest : (n : ℕ) → 2 ≤ n → n ≤ 64 → (h : ℤ) (m : ℕ) (rest : Rest) → 2 ^ 63 ≤ m → m < 2 ^ 64 → (w : ℕ) × IsNearest n h m rest w
class_nearest n lo hi h m rest full top = found n lo hi m rest full top h

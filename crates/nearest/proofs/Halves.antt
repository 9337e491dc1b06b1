-- An exact size (m + rest) units, rest being below one unit, against a half and against the midpoint of two powers of two. Assumes nothing.
use mathlib.Core.Path.{◌≡◌, refl, sym, ap, ◌∙◌, subst}
use Prim.Native.Nat.{ℕ, zero, ◌+◌, ◌-◌, ◌*◌, ◌^◌, ◌≤◌, ◌<◌}
use native.Mathlib.Nat.{mul-le-mul_right, mul-lt-mul_of_pos_right, mul_right_comm, lt_of_mul-lt-mul_right, eq_of_mul-eq-mul_right, one-mul, mod-lt, le_antisymm}
use native.Mathlib.Decide.{dec_lt}
use native.Mathlib.Omega.{arith}
use lib.Dec.{lit≤}
use lib.Pow.{pow_pos, pow-add, pow_mono}
use Rattle.bounds.proofs.Powers.{pow_sum, not_more}
use Rattle.nearest.specs.declared.size.Rest.{Rest}
use Rattle.std.specs.declared.cmp.Ordering.{Ordering}
use Rattle.std.specs.Ordering.{MatchOrdering, nat_cmp, ordering_then}
use Rattle.std.proofs.lemmas.Cmp.{ranked}
use Rattle.nearest.specs.Offers.{Amounts}
use Rattle.nearest.specs.Parts.{TellsSide, TellsHalf, TellsPowers, chosen_of, margin_of, ChoosesByCut}

-- the size lies from m units up to m + 1
pub record Within (m unit a : ℕ) : Type 0 where
  pub low : m * unit ≤ a
  pub high : a < (m + 1) * unit

pub within : (m : ℕ) (rest : Rest) (unit a : ℕ) → zero < unit → Amounts m rest a unit → Within m unit a
unfolding Amounts
within m Rest.Nothing unit a h x = record { low = omega (arith, x); high = omega (arith, x, h) }
within m Rest.UnderHalf unit a h x = record { low = omega (arith, x.0); high = omega (arith, x.1) }
within m Rest.Half unit a h x = record { low = omega (arith, x); high = omega (arith, x, h) }
within m Rest.OverHalf unit a h x = record { low = omega (arith, x.0); high = x.1 }

neither : (x y : ℕ) → ¬ (x < y) → ¬ (y < x) → y ≡ x
neither x y f g = le_antisymm (not_more f) (not_more g)

-- with any rest it is more than m units
pub past_unit : (m : ℕ) (rest : Rest) (unit a : ℕ) → zero < unit → Amounts m rest a unit → (rest ≡ Rest.Nothing → ⊥) → m * unit < a
unfolding Amounts
past_unit m Rest.Nothing unit a some x f = absurd (f refl)
past_unit m Rest.UnderHalf unit a some x f = x.0
past_unit m Rest.Half unit a some x f = omega (arith, x, some)
past_unit m Rest.OverHalf unit a some x f = omega (arith, x.0, some)

-- ---- against a half
pub half_below : (beyond half : ℕ) (rest : Rest) → beyond < half → TellsHalf beyond half rest Ordering.Less
unfolding TellsHalf TellsSide
half_below beyond half rest l = λ base unit a h x. let w = within (base + beyond) rest unit a h x in omega (arith, w.high, mul-le-mul_right unit l)

pub half_above : (beyond half : ℕ) (rest : Rest) → half < beyond → TellsHalf beyond half rest Ordering.Greater
unfolding TellsHalf TellsSide
half_above beyond half rest l = λ base unit a h x. let w = within (base + beyond) rest unit a h x in omega (arith, w.low, mul-le-mul_right unit l, h)

pub half_midway : (beyond half : ℕ) → beyond ≡ half → TellsHalf beyond half Rest.Nothing Ordering.Equal
unfolding TellsHalf TellsSide Amounts
half_midway beyond half q = λ base unit a h x. x ∙ ap (λ (y : ℕ). (base + y) * unit) q

-- with any rest the size is past the half
module _ (beyond half : ℕ) (q : beyond ≡ half) where
  scaled : (base unit : ℕ) → (base + beyond) * unit ≡ (base + half) * unit
  scaled base unit = ap (λ (y : ℕ). (base + y) * unit) q

  pub past_under_half : TellsHalf beyond half Rest.UnderHalf Ordering.Greater
  unfolding TellsHalf TellsSide Amounts
  past_under_half = λ base unit a h x. omega (arith, x.0, scaled base unit)

  pub past_half : TellsHalf beyond half Rest.Half Ordering.Greater
  unfolding TellsHalf TellsSide Amounts
  past_half = λ base unit a h x. omega (arith, x, scaled base unit, h)

  pub past_over_half : TellsHalf beyond half Rest.OverHalf Ordering.Greater
  unfolding TellsHalf TellsSide Amounts
  past_over_half = λ base unit a h x. omega (arith, x.0, scaled base unit, h)

-- the order of the two decides, and where they are equal, the rest
abbrev pub some_side : Rest → Ordering
some_side Rest.Nothing = Ordering.Equal
some_side Rest.UnderHalf = Ordering.Greater
some_side Rest.Half = Ordering.Greater
some_side Rest.OverHalf = Ordering.Greater

at_half : (beyond half : ℕ) (rest : Rest) → beyond ≡ half → TellsHalf beyond half rest (some_side rest)
at_half beyond half Rest.Nothing q = half_midway beyond half q
at_half beyond half Rest.UnderHalf q = past_under_half beyond half q
at_half beyond half Rest.Half q = past_half beyond half q
at_half beyond half Rest.OverHalf q = past_over_half beyond half q

pub half_then : (beyond half : ℕ) (rest : Rest) (o : Ordering) → MatchOrdering o (beyond < half) (beyond ≡ half) (half < beyond) → TellsHalf beyond half rest (ordering_then o (some_side rest))
half_then beyond half rest Ordering.Less l = half_below beyond half rest l
half_then beyond half rest Ordering.Equal q = at_half beyond half rest q
half_then beyond half rest Ordering.Greater l = half_above beyond half rest l

pub half_side : (beyond half : ℕ) (rest : Rest) → (side : Ordering) × TellsHalf beyond half rest side
half_side beyond half rest = let o = nat_cmp beyond half in
    (ordering_then o (some_side rest), half_then beyond half rest o (ranked beyond half o refl))

-- ---- what the bits cut off choose, which stand shifted to the top of 64 bits
Chosen : ℕ → ℕ → ℕ → Rest → ℕ → Type 0
Chosen low beyond half rest w = (side : Ordering) × TellsHalf beyond half rest side × (w ≡ chosen_of low side)

pub margin_le : (low : ℕ) (rest : Rest) → margin_of low rest ≤ 1
margin_le low Rest.Nothing = omega (arith, mod-lt low (lit≤ {m = 1} {n = 2} tt))
margin_le low Rest.UnderHalf = lit≤ tt
margin_le low Rest.Half = lit≤ tt
margin_le low Rest.OverHalf = lit≤ tt

-- the order of shifted numbers is that of the numbers
shifted_lt : (t x y : ℕ) → x < y → x * 2 ^ t < y * 2 ^ t
shifted_lt t x y h = mul-lt-mul_of_pos_right h (pow_pos t)

module _ (low t beyond half : ℕ) (top : 2 ^ 63 ≡ half * 2 ^ t) where
  up : (rest : Rest) → 2 ^ 63 - margin_of low rest < beyond * 2 ^ t → Dec (half < beyond) → Dec (beyond < half) → Chosen low beyond half rest (low + 1)
  unfolding Chosen
  up rest l (yes h) d = (Ordering.Greater, half_above beyond half rest h, refl)
  up rest l (no f) (yes h) = absurd (omega (arith, l, top, shifted_lt t beyond half h, margin_le low rest))
  up Rest.Nothing l (no f) (no g) = let q = neither half beyond f g in
      (Ordering.Equal, half_midway beyond half q, omega (arith, l, top, ap (λ (x : ℕ). x * 2 ^ t) q, mod-lt low (lit≤ {m = 1} {n = 2} tt)))
  up Rest.UnderHalf l (no f) (no g) = (Ordering.Greater, past_under_half beyond half (neither half beyond f g), refl)
  up Rest.Half l (no f) (no g) = (Ordering.Greater, past_half beyond half (neither half beyond f g), refl)
  up Rest.OverHalf l (no f) (no g) = (Ordering.Greater, past_over_half beyond half (neither half beyond f g), refl)

  down : (rest : Rest) → beyond * 2 ^ t ≤ 2 ^ 63 - margin_of low rest → Dec (beyond < half) → Dec (half < beyond) → Chosen low beyond half rest low
  unfolding Chosen
  down rest l (yes h) d = (Ordering.Less, half_below beyond half rest h, refl)
  down rest l (no f) (yes h) = absurd (omega (arith, l, top, shifted_lt t half beyond h))
  down Rest.Nothing l (no f) (no g) = let q = neither half beyond g f in
      (Ordering.Equal, half_midway beyond half q, omega (arith, l, top, ap (λ (x : ℕ). x * 2 ^ t) q))
  down Rest.UnderHalf l (no f) (no g) = absurd (omega (arith, l, top, ap (λ (x : ℕ). x * 2 ^ t) (neither half beyond g f)))
  down Rest.Half l (no f) (no g) = absurd (omega (arith, l, top, ap (λ (x : ℕ). x * 2 ^ t) (neither half beyond g f)))
  down Rest.OverHalf l (no f) (no g) = absurd (omega (arith, l, top, ap (λ (x : ℕ). x * 2 ^ t) (neither half beyond g f)))

pub cut_up : (low cut : ℕ) (rest : Rest) → 2 ^ 63 - margin_of low rest < cut → ChoosesByCut low cut rest (low + 1)
unfolding ChoosesByCut Chosen
cut_up low cut rest l = λ t beyond half q top. up low t beyond half top rest (subst (λ (x : ℕ). 2 ^ 63 - margin_of low rest < x) q l) (dec_lt half beyond) (dec_lt beyond half)

pub cut_down : (low cut : ℕ) (rest : Rest) → cut ≤ 2 ^ 63 - margin_of low rest → ChoosesByCut low cut rest low
unfolding ChoosesByCut Chosen
cut_down low cut rest l = λ t beyond half q top. down low t beyond half top rest (subst (λ (x : ℕ). x ≤ 2 ^ 63 - margin_of low rest) q l) (dec_lt beyond half) (dec_lt half beyond)

pub cut_chooses : (low cut : ℕ) (rest : Rest) → (w : ℕ) × ChoosesByCut low cut rest w
cut_chooses low cut rest = by (dec_lt (2 ^ 63 - margin_of low rest) cut)
  where
    by : Dec (2 ^ 63 - margin_of low rest < cut) → (w : ℕ) × ChoosesByCut low cut rest w
    by (yes h) = (low + 1, cut_up low cut rest h)
    by (no f) = (low, cut_down low cut rest (not_more f))

-- ---- against the midpoint of two powers of two
pub double : (s : Ordering) (a x : ℕ) → TellsSide s a x → TellsSide s (2 * a) (x + x)
unfolding TellsSide
double Ordering.Less a x h = omega (arith, h)
double Ordering.Equal a x h = omega (arith, h)
double Ordering.Greater a x h = omega (arith, h)

-- both sides may be divided by the same number
pub cancel : (s : Ordering) (d x y : ℕ) → zero < d → TellsSide s (x * d) (y * d) → TellsSide s x y
unfolding TellsSide
cancel Ordering.Less d x y h t = lt_of_mul-lt-mul_right d t
cancel Ordering.Equal d x y h t = eq_of_mul-eq-mul_right d h x y t
cancel Ordering.Greater d x y h t = lt_of_mul-lt-mul_right d t

-- a power of two that is given times 2^e
lowered : (e f k unit y : ℕ) → f ≡ k + e → y * 2 ^ e ≡ 2 ^ f * unit → y ≡ 2 ^ k * unit
lowered e f k unit y q h = eq_of_mul-eq-mul_right (2 ^ e) (pow_pos e) y (2 ^ k * unit) (h ∙ ap (λ (x : ℕ). 2 ^ x * unit) q ∙ ap (λ (x : ℕ). x * unit) (pow-add 2 k e) ∙ mul_right_comm (2 ^ k) (2 ^ e) unit)

module _ (i j e m : ℕ) (rest : Rest) (top : m < 2 ^ 64) where
  -- two binades or more under the higher one
  pub far_under : e + 1 < j → TellsPowers i j e m rest Ordering.Less
  unfolding TellsPowers TellsSide
  far_under l = λ unit a h x y z hy hz.
      let w = within m rest unit a h x in
      let z_is : z ≡ 2 ^ (63 + j - e) * unit = lowered e (63 + j) (63 + j - e) unit z (omega (arith, l)) hz in
      omega (arith, w.high, z_is, mul-le-mul_right unit top, mul-le-mul_right unit (pow_mono {i = 65} {j = 63 + j - e} (omega (arith, l))), h)

  module _ (last : e + 1 ≡ j) (gap : ℕ) (apart : i + gap ≡ j) (narrow : gap ≤ 64) where
    y_is : (unit y : ℕ) → y * 2 ^ e ≡ 2 ^ (63 + i) * unit → y ≡ 2 ^ (64 - gap) * unit
    y_is unit y hy = lowered e (63 + i) (64 - gap) unit y (omega arith) hy

    z_is : (unit z : ℕ) → z * 2 ^ e ≡ 2 ^ (63 + j) * unit → z ≡ 2 ^ 64 * unit
    z_is unit z hz = lowered e (63 + j) 64 unit z (omega arith) hz

    pub near : (s : Ordering) → gap < 64 → 2 ^ 63 ≤ m → TellsHalf (m - 2 ^ 63) (2 ^ (63 - gap)) rest s → TellsPowers i j e m rest s
    unfolding TellsPowers TellsHalf
    near s g full t = λ unit a h x y z hy hz.
        subst (TellsSide s (2 * a)) (sum unit y z (y_is unit y hy) (z_is unit z hz)) (double s a ((2 ^ 63 + 2 ^ (63 - gap)) * unit) (t (2 ^ 63) unit a h (subst (λ (k : ℕ). Amounts k rest a unit) split x)))
      where
        split : m ≡ 2 ^ 63 + (m - 2 ^ 63)
        split = omega (arith, full)

        sum : (unit y z : ℕ) → y ≡ 2 ^ (64 - gap) * unit → z ≡ 2 ^ 64 * unit → (2 ^ 63 + 2 ^ (63 - gap)) * unit + (2 ^ 63 + 2 ^ (63 - gap)) * unit ≡ y + z
        sum unit y z p q = omega (arith, p, q, ap (λ (x : ℕ). x * unit) (pow_sum (63 - gap) 1 (64 - gap) (omega (arith, g))))

    -- 64 binades apart
    module _ (wide : gap ≡ 64) where
      one : (unit y : ℕ) → y * 2 ^ e ≡ 2 ^ (63 + i) * unit → y ≡ unit
      one unit y hy = y_is unit y hy ∙ ap (λ (k : ℕ). 2 ^ (64 - k) * unit) wide ∙ one-mul unit

      pub wide_over : 2 ^ 63 < m → TellsPowers i j e m rest Ordering.Greater
      unfolding TellsPowers TellsSide
      wide_over l = λ unit a h x y z hy hz. let w = within m rest unit a h x in omega (arith, w.low, one unit y hy, z_is unit z hz, mul-le-mul_right unit l, h)

-- 64 binades apart and m = 2^63: the midpoint lies half a unit on, and the rest decides
abbrev pub rest_side : Rest → Ordering
rest_side Rest.Nothing = Ordering.Less
rest_side Rest.UnderHalf = Ordering.Less
rest_side Rest.Half = Ordering.Equal
rest_side Rest.OverHalf = Ordering.Greater

module _ (i j e : ℕ) (last : e + 1 ≡ j) (apart : i + 64 ≡ j) where
  ends : (unit y z : ℕ) → y * 2 ^ e ≡ 2 ^ (63 + i) * unit → z * 2 ^ e ≡ 2 ^ (63 + j) * unit → y + z ≡ (2 * 2 ^ 63 + 1) * unit
  ends unit y z hy hz = omega (arith, lowered e (63 + i) 0 unit y (omega arith) hy, lowered e (63 + j) 64 unit z (omega arith) hz)

  decided : (rest : Rest) (unit a : ℕ) → zero < unit → Amounts (2 ^ 63) rest a unit → TellsSide (rest_side rest) (2 * a) ((2 * 2 ^ 63 + 1) * unit)
  unfolding Amounts TellsSide
  decided Rest.Nothing unit a h x = omega (arith, x, h)
  decided Rest.UnderHalf unit a h x = x.1
  decided Rest.Half unit a h x = x
  decided Rest.OverHalf unit a h x = x.0

  pub rest_decides : (m : ℕ) → m ≡ 2 ^ 63 → (rest : Rest) → TellsPowers i j e m rest (rest_side rest)
  unfolding TellsPowers
  rest_decides m q rest = λ unit a h x y z hy hz. subst (TellsSide (rest_side rest) (2 * a)) (sym (ends unit y z hy hz)) (decided rest unit a h (subst (λ (k : ℕ). Amounts k rest a unit) q x))

-- one of these decides
module _ (i j e m : ℕ) (rest : Rest) (full : 2 ^ 63 ≤ m) (top : m < 2 ^ 64) where
  pub wide_then : e + 1 ≡ j → i + 64 ≡ j → (o : Ordering) → MatchOrdering o (m < 2 ^ 63) (m ≡ 2 ^ 63) (2 ^ 63 < m) → TellsPowers i j e m rest (ordering_then o (rest_side rest))
  wide_then last apart Ordering.Less l = absurd (omega (arith, l, full))
  wide_then last apart Ordering.Equal q = rest_decides i j e last apart m q rest
  wide_then last apart Ordering.Greater l = wide_over i j e m rest top last 64 apart (omega arith) refl l

  pub powers_side : i < j → j ≤ i + 64 → e < j → (side : Ordering) × TellsPowers i j e m rest side
  powers_side up narrow under = by (dec_lt (e + 1) j) (dec_lt (j - i) 64)
    where
      by : Dec (e + 1 < j) → Dec (j - i < 64) → (side : Ordering) × TellsPowers i j e m rest side
      by (yes h) d = (Ordering.Less, far_under i j e m rest top h)
      by (no f) (yes h) =
          let t = half_side (m - 2 ^ 63) (2 ^ (63 - (j - i))) rest in
          (t.0, near i j e m rest top (omega (arith, under, not_more f)) (j - i) (omega (arith, up)) (omega (arith, h)) t.0 h full t.1)
      by (no f) (no g) = let o = nat_cmp m (2 ^ 63) in
          (ordering_then o (rest_side rest), wide_then (omega (arith, under, not_more f)) (omega (arith, narrow, up, not_more g)) o (ranked m (2 ^ 63) o refl))

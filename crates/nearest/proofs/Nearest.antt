-- The nearest of an increasing row of sizes, on a tie the even place: there is one, there is only one, and the place below the size and the
-- place above it decide it by comparing twice the size with the sum of theirs. For any increasing row. Assumes nothing.
use mathlib.Core.Path.{◌≡◌, refl, sym, ap, ap₂, ◌∙◌, subst}
use mathlib.Core.Logic.{◌⊎◌, inl, inr, ⊎_elim}
use Prim.Native.Nat.{ℕ, zero, suc, ◌+◌, ◌-◌, ◌*◌, ◌%◌, ◌≤◌, ◌<◌}
use native.Mathlib.Nat.{add-mul, mul_assoc, mul_right_comm, mul-le-mul_left, mul-le-mul_right, le_trans, eq_of_mul-eq-mul_right, le_of_eq, le_of_lt, eq-or-lt_of_le, lt_of_not-le, le_of_suc-le-suc, mul-lt-mul_of_pos_right, le_antisymm, zero-lt-suc, add-zero}
use native.Mathlib.Numerals.{add-one}
use native.Mathlib.Decide.{dec_lt, dec_le}
use native.Mathlib.Omega.{arith}
use Rattle.nearest.specs.Nearest.{distance}

-- of the places 1 to B - 1, whose sizes are g, none is nearer to a / b than v, nor equally near unless v is even
pub record NearestPlace (g : ℕ → ℕ) (B a b v : ℕ) : Type 0 where
  pub first : zero < v
  pub last : v < B
  pub nearest : (u : ℕ) → zero < u → u < B → distance a (g v * b) ≤ distance a (g u * b)
  pub even : (u : ℕ) → zero < u → u < B → distance a (g v * b) ≡ distance a (g u * b) → (u ≡ v) ⊎ (v % 2 ≡ 0)

pub distance_below : (a x : ℕ) → x ≤ a → distance a x ≡ a - x
unfolding distance
distance_below a x h = omega (arith, h)

pub distance_above : (a x : ℕ) → a ≤ x → distance a x ≡ x - a
unfolding distance
distance_above a x h = omega (arith, h)

-- of two numbers one is at most the other
pub either_side : (a x : ℕ) → (x ≤ a) ⊎ (a ≤ x)
either_side a x = by (dec_le x a)
  where
    by : Dec (x ≤ a) → (x ≤ a) ⊎ (a ≤ x)
    by (yes h) = inl h
    by (no f) = inr (le_of_lt (lt_of_not-le f))

-- where another place lies
pub data Beside (v u : ℕ) : Type 0 where
  before : u < v → Beside v u
  at : u ≡ v → Beside v u
  after : v < u → Beside v u

pub beside : (v u : ℕ) → Beside v u
beside v u = by (dec_lt u v)
  where
    by : Dec (u < v) → Beside v u
    by (yes h) = before h
    by (no f) = ⊎_elim (λ (q : v ≡ u). at (sym q)) after (eq-or-lt_of_le (le_of_suc-le-suc (lt_of_not-le f)))

-- what lies strictly between two equally distant numbers is nearer
between_two : (a x y z : ℕ) → x < y → y < z → distance a x ≡ distance a z → distance a x ≤ distance a y → ⊥
between_two a x y z h k q l = by (dec_le a x) (dec_le a y)
  where
    later : {c d : ℕ} → ¬ (c ≤ d) → d ≤ c
    later f = le_of_lt (lt_of_not-le f)

    by : Dec (a ≤ x) → Dec (a ≤ y) → ⊥
    by (yes p) (yes r) = omega (arith, q, h, k, p, distance_above a x p, distance_above a z (omega (arith, p, h, k)))
    by (yes p) (no f) = omega (arith, h, p, lt_of_not-le f)
    by (no f) (yes r) = omega (arith, q, l, k, r, distance_above a y r, distance_above a z (omega (arith, r, k)))
    by (no f) (no e) = omega (arith, l, h, lt_of_not-le f, lt_of_not-le e, distance_below a x (later f), distance_below a y (later e))

module _ (g : ℕ → ℕ) (B a b : ℕ) (up : (v u : ℕ) → zero < v → v < u → u < B → g v < g u) (some : zero < b) where
  -- sizes times b strictly increase too
  lower : (v u : ℕ) → zero < v → v < u → u < B → g v * b < g u * b
  lower v u h l r = mul-lt-mul_of_pos_right (up v u h l r) some

  -- the next place is the least of those after
  next : (v u : ℕ) → v < u → u < B → g (suc v) * b ≤ g u * b
  next v u l r = ⊎_elim (λ (q : suc v ≡ u). le_of_eq (ap (λ (x : ℕ). g x * b) q)) (λ (q : suc v < u). le_of_lt (lower (suc v) u (zero-lt-suc v) q r)) (eq-or-lt_of_le l)

  -- a place that is strictly nearer than every other
  alone : (v : ℕ) → zero < v → v < B → ((u : ℕ) → zero < u → u < B → u < v → distance a (g v * b) < distance a (g u * b)) → ((u : ℕ) → u < B → v < u → distance a (g v * b) < distance a (g u * b)) → NearestPlace g B a b v
  alone v h l below above =
      record {
        first = h;
        last = l;
        nearest = λ u p r. near u p r (beside v u);
        even = λ u p r q. same u p r q (beside v u);
      }
    where
      near : (u : ℕ) → zero < u → u < B → Beside v u → distance a (g v * b) ≤ distance a (g u * b)
      near u p r (before k) = le_of_lt (below u p r k)
      near u p r (at k) = le_of_eq (ap (λ (x : ℕ). distance a (g x * b)) (sym k))
      near u p r (after k) = le_of_lt (above u r k)

      same : (u : ℕ) → zero < u → u < B → distance a (g v * b) ≡ distance a (g u * b) → Beside v u → (u ≡ v) ⊎ (v % 2 ≡ 0)
      same u p r q (before k) = absurd (omega (arith, below u p r k, q))
      same u p r q (at k) = inl k
      same u p r q (after k) = absurd (omega (arith, above u r k, q))

  -- a size at or below the first place's, at or above the last one's
  pub at_first : 1 < B → a ≤ g 1 * b → NearestPlace g B a b 1
  unfolding distance
  at_first h k = alone 1 (zero-lt-suc 0) h (λ u p r l. absurd (omega (arith, p, l))) (λ u r l. omega (arith, k, lower 1 u (zero-lt-suc 0) l r))

  pub at_last : (v : ℕ) → zero < v → suc v ≡ B → g v * b ≤ a → NearestPlace g B a b v
  unfolding distance
  at_last v h q k = alone v h (omega (arith, q)) (λ u p r l. omega (arith, k, lower u v p l (omega (arith, q)))) (λ u r l. absurd (omega (arith, q, r, l)))

  -- between two places
  module _ (v : ℕ) (first : zero < v) (room : suc v < B) (low : g v * b ≤ a) (high : a ≤ g (suc v) * b) where
    pub nearer_below : 2 * a < g v * b + g (suc v) * b → NearestPlace g B a b v
    unfolding distance
    nearer_below m =
        alone v first (omega arith) (λ u p r l. omega (arith, m, low, high, lower u v p l (omega (arith, room)))) (λ u r l. omega (arith, m, low, high, next v u l r))

    up_to : (u : ℕ) → zero < u → u < suc v → g u * b ≤ g v * b
    up_to u p l = ⊎_elim (λ (q : u ≡ v). le_of_eq (ap (λ (x : ℕ). g x * b) q)) (λ (q : u < v). le_of_lt (lower u v p q (omega (arith, room)))) (eq-or-lt_of_le (le_of_suc-le-suc l))

    pub nearer_above : g v * b + g (suc v) * b < 2 * a → NearestPlace g B a b (suc v)
    unfolding distance
    nearer_above m =
        alone (suc v) (zero-lt-suc v) room (λ u p r l. omega (arith, m, low, high, up_to u p l)) (λ u r l. omega (arith, m, low, high, lower (suc v) u (zero-lt-suc v) l r))

    -- half way, either of the two that is even
    halves : 2 * a ≡ g v * b + g (suc v) * b → (w : ℕ) → zero < w → w < B → distance a (g w * b) ≡ a - g v * b → w % 2 ≡ 0 → NearestPlace g B a b w
    halves m w p r d e = record { first = p; last = r; nearest = λ u p' r'. near u p' r' (dec_lt u (suc v)); even = λ u p' r' q. inr e }
      where
        near : (u : ℕ) → zero < u → u < B → Dec (u < suc v) → distance a (g w * b) ≤ distance a (g u * b)
        near u p' r' (yes l) = omega (arith, d, distance_below a (g u * b) (omega (arith, low, up_to u p' l)), up_to u p' l)
        near u p' r' (no f) =
            omega (arith, d, m, low, distance_above a (g u * b) (omega (arith, high, next v u (le_of_suc-le-suc (lt_of_not-le f)) r')), next v u (le_of_suc-le-suc (lt_of_not-le f)) r')

    pub midway : 2 * a ≡ g v * b + g (suc v) * b → NearestPlace g B a b (v + v % 2)
    midway m = by (v % 2) refl
      where
        even : v % 2 ≡ 0 → NearestPlace g B a b (v + 0)
        even q = subst (NearestPlace g B a b) (sym (add-zero v)) (halves m v first (omega (arith, room)) (distance_below a (g v * b) low) q)

        odd : v % 2 ≡ 1 → NearestPlace g B a b (v + 1)
        odd q = subst (NearestPlace g B a b) (sym (add-one v)) (halves m (suc v) (zero-lt-suc v) room (distance_above a (g (suc v) * b) high ∙ omega (arith, m, low, high)) (omega (arith, q)))

        by : (r : ℕ) → v % 2 ≡ r → NearestPlace g B a b (v + r)
        by zero q = even q
        by (suc zero) q = odd q
        by (suc (suc r)) q = absurd (omega (arith, q))

  -- two nearest places are the same
  closer : (v w : ℕ) → v < w → NearestPlace g B a b v → NearestPlace g B a b w → ⊥
  closer v w l x y = by (beside w (suc v))
    where
      same : distance a (g v * b) ≡ distance a (g w * b)
      same = le_antisymm (x.nearest w y.first y.last) (y.nearest v x.first x.last)

      wide : g v * b < g w * b
      wide = lower v w x.first l y.last

      both : (v ≡ w → ⊥) → (v % 2 ≡ 0) × (w % 2 ≡ 0)
      both f = (⊎_elim (λ (q : w ≡ v). absurd (f (sym q))) (λ q. q) (x.even w y.first y.last same), ⊎_elim (λ (q : v ≡ w). absurd (f q)) (λ q. q) (y.even v x.first x.last (sym same)))

      by : Beside w (suc v) → ⊥
      by (before k) = between_two a (g v * b) (g (suc v) * b) (g w * b) (lower v (suc v) x.first (omega arith) (omega (arith, k, y.last))) (lower (suc v) w (zero-lt-suc v) k y.last) same (x.nearest (suc v) (zero-lt-suc v) (omega (arith, k, y.last)))
      by (at k) = omega (arith, k, both (λ (q : v ≡ w). omega (arith, q, l)))
      by (after k) = omega (arith, k, l)

  pub place_one : (v w : ℕ) → NearestPlace g B a b v → NearestPlace g B a b w → v ≡ w
  place_one v w x y = by (beside v w)
    where
      by : Beside v w → v ≡ w
      by (before k) = absurd (closer w v k y x)
      by (at k) = sym k
      by (after k) = absurd (closer v w k x y)

  -- ---- there is a nearest place
  -- the last place at or below the size, if there is one
  pub data Floor : Type 0 where
    under : a ≤ g 1 * b → Floor
    over : (v : ℕ) → zero < v → suc v ≡ B → g v * b ≤ a → Floor
    inside : (v : ℕ) → zero < v → suc v < B → g v * b ≤ a → a ≤ g (suc v) * b → Floor

  -- going up from a place at or below the size, with so many places left
  climb : (left v : ℕ) → zero < v → v + suc left ≡ B → g v * b ≤ a → Floor
  climb zero v p q h = over v p (omega (arith, q)) h
  climb (suc left) v p q h = by (dec_le a (g (suc v) * b)) (λ k. climb left (suc v) (zero-lt-suc v) (omega (arith, q)) k)
    where
      by : Dec (a ≤ g (suc v) * b) → (g (suc v) * b ≤ a → Floor) → Floor
      by (yes r) on = inside v p (omega (arith, q)) h r
      by (no f) on = on (le_of_lt (lt_of_not-le f))

  floor : 1 < B → Floor
  floor h = by (dec_le a (g 1 * b))
    where
      by : Dec (a ≤ g 1 * b) → Floor
      by (yes r) = under r
      by (no f) = climb (B - 2) 1 (zero-lt-suc 0) (omega (arith, h)) (le_of_lt (lt_of_not-le f))

  pub place_exists : 1 < B → (v : ℕ) × NearestPlace g B a b v
  place_exists h = by (floor h)
    where
      side : (v : ℕ) → zero < v → suc v < B → g v * b ≤ a → a ≤ g (suc v) * b → Beside (g v * b + g (suc v) * b) (2 * a) → (v : ℕ) × NearestPlace g B a b v
      side v p r l k (before m) = (v, nearer_below v p r l k m)
      side v p r l k (at m) = (v + v % 2, midway v p r l k m)
      side v p r l k (after m) = (suc v, nearer_above v p r l k m)

      by : Floor → (v : ℕ) × NearestPlace g B a b v
      by (under k) = (1, at_first h k)
      by (over v p q k) = (v, at_last v p q k)
      by (inside v p r l k) = side v p r l k (beside (g v * b + g (suc v) * b) (2 * a))

-- ---- a size that is not smaller has a nearest place that is not before
pub half_up : (a x y : ℕ) → x < y → distance a y ≤ distance a x → x + y ≤ 2 * a
half_up a x y h l = by (dec_le a x) (dec_le a y)
  where
    by : Dec (a ≤ x) → Dec (a ≤ y) → x + y ≤ 2 * a
    by (yes p) d = absurd (omega (arith, l, h, p, distance_above a x p, distance_above a y (omega (arith, p, h))))
    by (no f) (yes r) = omega (arith, l, r, lt_of_not-le f, distance_above a y r, distance_below a x (le_of_lt (lt_of_not-le f)))
    by (no f) (no e) = omega (arith, h, lt_of_not-le f, lt_of_not-le e)

pub half_down : (a x y : ℕ) → x < y → distance a x ≤ distance a y → 2 * a ≤ x + y
half_down a x y h l = by (dec_le a x) (dec_le a y)
  where
    by : Dec (a ≤ x) → Dec (a ≤ y) → 2 * a ≤ x + y
    by (yes p) d = omega (arith, h, p)
    by (no f) (yes r) = omega (arith, l, r, lt_of_not-le f, distance_above a y r, distance_below a x (le_of_lt (lt_of_not-le f)))
    by (no f) (no e) = absurd (omega (arith, l, h, lt_of_not-le f, lt_of_not-le e, distance_below a x (le_of_lt (lt_of_not-le f)), distance_below a y (le_of_lt (lt_of_not-le e))))

pub midway_same : (a x y : ℕ) → x < y → 2 * a ≡ x + y → distance a x ≡ distance a y
midway_same a x y h q = distance_below a x (omega (arith, h, q)) ∙ omega (arith, h, q) ∙ sym (distance_above a y (omega (arith, h, q)))

module _ (g : ℕ → ℕ) (B a b a' b' : ℕ) (up : (v u : ℕ) → zero < v → v < u → u < B → g v < g u) (some : zero < b) (some' : zero < b') (at_most : a * b' ≤ a' * b) where
  pub place_order : (v v' : ℕ) → NearestPlace g B a b v → NearestPlace g B a' b' v' → v ≤ v'
  place_order v v' x y = by (dec_le v v')
    where
      back : v' < v → ⊥
      back h = parity (x.even v' y.first y.last (sym far)) (y.even v x.first x.last near)
        where
          p : ℕ
          p = g v'

          q : ℕ
          q = g v

          rise : p < q
          rise = up v' v y.first h x.last

          low : p * b + q * b ≤ 2 * a
          low = half_up a (p * b) (q * b) (mul-lt-mul_of_pos_right rise some) (x.nearest v' y.first y.last)

          high : 2 * a' ≤ p * b' + q * b'
          high = half_down a' (p * b') (q * b') (mul-lt-mul_of_pos_right rise some') (y.nearest v x.first x.last)

          spread : (p * b + q * b) * b' ≡ (p * b' + q * b') * b
          spread = add-mul (p * b) (q * b) b' ∙ ap₂ (λ (i j : ℕ). i + j) (mul_right_comm p b b') (mul_right_comm q b b') ∙ sym (add-mul (p * b') (q * b') b)

          up_to : (p * b + q * b) * b' ≤ 2 * a * b'
          up_to = mul-le-mul_right b' low

          down_to : 2 * a' * b ≤ (p * b' + q * b') * b
          down_to = mul-le-mul_right b high

          middle : 2 * a * b' ≤ 2 * a' * b
          middle = le_trans (le_of_eq (mul_assoc 2 a b')) (le_trans (mul-le-mul_left 2 at_most) (le_of_eq (sym (mul_assoc 2 a' b))))

          tie : 2 * a ≡ p * b + q * b
          tie = eq_of_mul-eq-mul_right b' some' (2 * a) (p * b + q * b) (le_antisymm (le_trans middle (le_trans down_to (le_of_eq (sym spread)))) up_to)

          tie' : 2 * a' ≡ p * b' + q * b'
          tie' = eq_of_mul-eq-mul_right b some (2 * a') (p * b' + q * b') (le_antisymm down_to (le_trans (le_of_eq (sym spread)) (le_trans up_to middle)))

          far : distance a (p * b) ≡ distance a (q * b)
          far = midway_same a (p * b) (q * b) (mul-lt-mul_of_pos_right rise some) tie

          near : distance a' (p * b') ≡ distance a' (q * b')
          near = midway_same a' (p * b') (q * b') (mul-lt-mul_of_pos_right rise some') tie'

          between : suc v' < v → ⊥
          between l =
              between_two a (p * b) (g (suc v') * b) (q * b) (mul-lt-mul_of_pos_right (up v' (suc v') y.first (le_of_eq refl) (omega (arith, l, x.last))) some) (mul-lt-mul_of_pos_right (up (suc v') v (zero-lt-suc v') l x.last) some) far
              (le_trans (le_of_eq far) (x.nearest (suc v') (zero-lt-suc v') (omega (arith, l, x.last))))

          parity : (v' ≡ v) ⊎ (v % 2 ≡ 0) → (v ≡ v') ⊎ (v' % 2 ≡ 0) → ⊥
          parity (inl e) d = omega (arith, e, h)
          parity (inr e) (inl d) = omega (arith, d, h)
          parity (inr e) (inr d) = between (omega (arith, e, d, h))

      by : Dec (v ≤ v') → v ≤ v'
      by (yes h) = h
      by (no f) = absurd (back (lt_of_not-le f))

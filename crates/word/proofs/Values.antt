-- The order of words is the order of their values, two words have two values, and negation negates the value. A word that isn't NaR's is a sign
-- beside a place v, and its value is the same sign beside a size that strictly increases with v. Assumes nothing.
use mathlib.Core.Path.{◌≡◌, refl, sym, ap, ap₂, ◌∙◌, subst}
use mathlib.Core.Bool.{Bool, true, false, cond, true≢false}
use mathlib.Core.Logic.{⊎_elim}
use Prim.Native.Nat.{ℕ, zero, suc, ◌+◌, ◌-◌, ◌*◌, ◌^◌, ◌≤◌, ◌<◌}
use native.Mathlib.Nat.{zero-lt-suc, lt_of_lt_of_le, le_of_eq, le_of_lt, eq-or-lt_of_le, mul-lt-mul_of_pos_right, zero-add, le_refl, le_antisymm, lt_of_le_of_lt, mod-lt}
use native.Mathlib.Decide.{dec_lt}
use native.Mathlib.Omega.{arith}
use borrow.Author.Tests.{lt-ltb, le-ltb, ltb-true, ltb-false}
use lib.Dec.{ltb, leb-suc-zero, leb-suc-suc, lit<}
use lib.IntN.{ℤ, pos, negsuc, neg_ℤ, nat_abs, neg_ℤ-neg_ℤ, pos-ne-negsuc}
use lib.Pow.{pow_pos}
use lib.Signed.{lt_z, mag}
use Rattle.word.specs.Takum.{Takum, real, NaR, takum}
use Rattle.word.specs.Reads.{signed_size}
use Rattle.word.specs.Orders.{signed, order, negated, opposite}
use Rattle.bounds.specs.Refusals.{IsWord}
use Rattle.bounds.proofs.Powers.{not_more, shl_below, twice}
use Rattle.word.proofs.Sizes.{size, size_lt, size_above, size_below}
use Rattle.word.proofs.Signed.{signed_low, signed_high, negated_zero, negated_other, order_below, order_above, order_equal}
use Rattle.word.proofs.Words.{Lies, at_zero, above, at_NaR, under, lies, takum_zero, takum_positive, takum_NaR, takum_negative}

value_of : Takum → ℤ → ℤ
value_of (real z) other = z
value_of NaR other = other

pub real_inj : {a b : ℤ} → real a ≡ real b → a ≡ b
unfolding value_of
real_inj {a} h = ap (λ (t : Takum). value_of t a) h

HasValue : Takum → Type 0
HasValue (real z) = Unit {0}
HasValue NaR = ⊥

pub not_NaR : (z : ℤ) → real z ≡ NaR → ⊥
unfolding HasValue
not_NaR z h = subst HasValue h tt

-- ---- sign and place
-- the size of the v-th word above zero
pub grown : ℕ → ℕ → ℕ
grown n zero = 0
grown n (suc v) = size (suc v * 2 ^ (64 - n))

pub record Form (n w : ℕ) : Type 0 where
  pub negative : Bool
  pub v : ℕ
  pub bound : v < 2 ^ (n - 1)
  pub word : signed n w ≡ signed_size negative v
  pub means : takum n w ≡ real (signed_size negative (grown n v))

pub grown_suc : (n v : ℕ) → zero < v → grown n v ≡ size (v * 2 ^ (64 - n))
unfolding grown
grown_suc n zero h = absurd (omega (arith, h))
grown_suc n (suc v) h = refl

pub form : (n w : ℕ) → IsWord n w → (w ≡ 2 ^ (n - 1) → ⊥) → Form n w
unfolding signed_size grown
form n w i f = by (lies n w)
  where
    next : suc (2 ^ n - 1 - w) ≡ 2 ^ n - w
    next = omega (arith, i.fits)

    by : Lies n w → Form n w
    by (at_zero q) = record { negative = false; v = 0; bound = pow_pos (n - 1); word = ap (signed n) q ∙ signed_low n 0 (pow_pos (n - 1)); means = ap (takum n) q ∙ takum_zero n }
    by (above h b) =
        record { negative = false; v = w; bound = b; word = signed_low n w b; means = takum_positive n w i.least i.most h b ∙ ap (λ (x : ℕ). real (pos x)) (sym (grown_suc n w h)) }
    by (at_NaR q) = absurd (f q)
    by (under b) =
        record {
          negative = true;
          v = 2 ^ n - w;
          bound = omega (arith, b, twice n i.least);
          word = signed_high n w (le_of_lt b) i.fits ∙ ap (λ (x : ℕ). neg_ℤ (pos x)) next;
          means = takum_negative n w i.least i.most b i.fits ∙ ap (λ (x : ℕ). real (neg_ℤ (pos x))) (sym (grown_suc n (2 ^ n - w) (omega (arith, i.fits))));
        }

-- sizes strictly increase
pub grown_lt : (n a b : ℕ) → 2 ≤ n → n ≤ 64 → a < b → b < 2 ^ (n - 1) → grown n a < grown n b
unfolding grown
grown_lt n zero zero lo hi h hb = absurd (omega (arith, h))
grown_lt n (suc a) zero lo hi h hb = absurd (omega (arith, h))
grown_lt n zero (suc b) lo hi h hb = lt_of_lt_of_le (lit< tt) (size_above (suc b * 2 ^ (64 - n)) (shl_below (n - 1) (64 - n) 63 hb (omega (arith, lo, hi))))
grown_lt n (suc a) (suc b) lo hi h hb =
    size_lt (suc a * 2 ^ (64 - n)) (suc b * 2 ^ (64 - n)) (mul-lt-mul_of_pos_right h (pow_pos (64 - n))) (shl_below (n - 1) (64 - n) 63 hb (omega (arith, lo, hi)))

-- ---- any function that strictly increases from 0 keeps the order of numbers with a sign
negative_lt : (a b : ℕ) → lt_z (neg_ℤ (pos a)) (neg_ℤ (pos b)) ≡ ltb b a
negative_lt zero zero = refl
negative_lt zero (suc b) = sym (leb-suc-zero (suc b))
negative_lt (suc a) zero = sym (lt-ltb 0 (suc a) (zero-lt-suc a))
negative_lt (suc a) (suc b) = sym (leb-suc-suc (suc b) a)

positive_negative : (a b : ℕ) → lt_z (pos a) (neg_ℤ (pos b)) ≡ false
positive_negative a zero = leb-suc-zero a
positive_negative a (suc b) = refl

negative_positive : (a b : ℕ) → lt_z (neg_ℤ (pos a)) (pos b) ≡ ltb 0 (a + b)
negative_positive zero b = ap (ltb 0) (sym (zero-add b))
negative_positive (suc a) b = sym (lt-ltb 0 (suc a + b) (omega arith))

module _ (g : ℕ → ℕ) (B : ℕ) (start : g 0 ≡ 0) (up : (a b : ℕ) → a < b → b < B → g a < g b) where
  keeps : (a b : ℕ) → a < B → b < B → ltb a b ≡ ltb (g a) (g b)
  keeps a b ha hb = by (dec_lt a b)
    where
      not_less : ¬ (a < b) → g b ≤ g a
      not_less f = ⊎_elim (λ (q : b ≡ a). le_of_eq (ap g q)) (λ (q : b < a). le_of_lt (up b a q ha)) (eq-or-lt_of_le (not_more f))

      by : Dec (a < b) → ltb a b ≡ ltb (g a) (g b)
      by (yes h) = lt-ltb a b h ∙ sym (lt-ltb (g a) (g b) (up a b h hb))
      by (no f) = le-ltb a b (not_more f) ∙ sym (le-ltb (g a) (g b) (not_less f))

  keeps_zero : (a b : ℕ) → a < B → b < B → ltb 0 (a + b) ≡ ltb 0 (g a + g b)
  keeps_zero zero b ha hb = ap (ltb 0) (zero-add b) ∙ keeps 0 b ha hb ∙ ap (λ (x : ℕ). ltb x (g b)) start ∙ ap (ltb 0) (sym (ap (λ (x : ℕ). x + g b) start ∙ zero-add (g b)))
  keeps_zero (suc a) b ha hb = lt-ltb 0 (suc a + b) (omega arith) ∙ sym (lt-ltb 0 (g (suc a) + g b) (omega (arith, up 0 (suc a) (zero-lt-suc a) ha)))

  lt_kept : (s t : Bool) (a b : ℕ) → a < B → b < B → lt_z (signed_size s a) (signed_size t b) ≡ lt_z (signed_size s (g a)) (signed_size t (g b))
  unfolding signed_size
  lt_kept false false a b ha hb = keeps a b ha hb
  lt_kept false true a b ha hb = positive_negative a b ∙ sym (positive_negative (g a) (g b))
  lt_kept true false a b ha hb = negative_positive a b ∙ keeps_zero a b ha hb ∙ sym (negative_positive (g a) (g b))
  lt_kept true true a b ha hb = negative_lt a b ∙ keeps b a hb ha ∙ sym (negative_lt (g a) (g b))

  pub order_kept : (s t : Bool) (a b : ℕ) → a < B → b < B → order (signed_size s a) (signed_size t b) ≡ order (signed_size s (g a)) (signed_size t (g b))
  unfolding order
  order_kept s t a b ha hb = ap₂ (λ (x y : Bool). cond x (negsuc 0) (cond y (pos 1) (pos 0))) (lt_kept s t a b ha hb) (lt_kept t s b a hb ha)

-- ---- NaR
pub NaR_word : (n w : ℕ) → IsWord n w → takum n w ≡ NaR → w ≡ 2 ^ (n - 1)
NaR_word n w i h = by (lies n w)
  where
    by : Lies n w → w ≡ 2 ^ (n - 1)
    by (at_zero q) = absurd (not_NaR (pos 0) (sym (takum_zero n) ∙ ap (takum n) (sym q) ∙ h))
    by (above p b) = absurd (not_NaR _ (sym (takum_positive n w i.least i.most p b) ∙ h))
    by (at_NaR q) = q
    by (under b) = absurd (not_NaR _ (sym (takum_negative n w i.least i.most b i.fits) ∙ h))

NaR_signed : (n w : ℕ) → IsWord n w → w ≡ 2 ^ (n - 1) → signed n w ≡ neg_ℤ (pos (2 ^ (n - 1)))
NaR_signed n w i q = signed_high n w (le_of_eq (sym q)) i.fits ∙ ap (λ (x : ℕ). neg_ℤ (pos x)) half
  where
    half : suc (2 ^ n - 1 - w) ≡ 2 ^ (n - 1)
    half = omega (arith, q, twice n i.least, pow_pos (n - 1))

below_all : (B : ℕ) (s : Bool) (v : ℕ) → v < B → lt_z (neg_ℤ (pos B)) (signed_size s v) ≡ true
unfolding signed_size
below_all B false v h = negative_positive B v ∙ lt-ltb 0 (B + v) (omega (arith, h))
below_all B true v h = negative_lt B v ∙ lt-ltb v B h

-- ---- numbers with a sign by their order
pub order_same : (z : ℤ) → order z z ≡ pos 0
order_same (pos a) = order_equal (pos a) (pos a) (le-ltb a a (le_refl a)) (le-ltb a a (le_refl a))
order_same (negsuc a) = order_equal (negsuc a) (negsuc a) (le-ltb a a (le_refl a)) (le-ltb a a (le_refl a))

equal : (a b : ℕ) → ltb a b ≡ false → ltb b a ≡ false → a ≡ b
equal a b h g = le_antisymm (ltb-false b a g) (ltb-false a b h)

unordered : (a b : ℤ) → lt_z a b ≡ false → lt_z b a ≡ false → a ≡ b
unordered (pos a) (pos b) h g = ap pos (equal a b h g)
unordered (pos a) (negsuc b) h g = absurd (true≢false g)
unordered (negsuc a) (pos b) h g = absurd (true≢false h)
unordered (negsuc a) (negsuc b) h g = ap negsuc (sym (equal b a h g))

one_way : (a b : ℤ) → lt_z a b ≡ true → lt_z b a ≡ false
one_way (pos a) (pos b) h = le-ltb b a (le_of_lt (ltb-true a b h))
one_way (pos a) (negsuc b) h = absurd (true≢false (sym h))
one_way (negsuc a) (pos b) h = refl
one_way (negsuc a) (negsuc b) h = le-ltb a b (le_of_lt (ltb-true b a h))

pub order_zero : (a b : ℤ) → order a b ≡ pos 0 → a ≡ b
unfolding order
order_zero a b h = unordered a b (first (lt_z a b) (lt_z b a) h) (second (lt_z a b) (lt_z b a) h)
  where
    first : (x y : Bool) → cond x (negsuc 0) (cond y (pos 1) (pos 0)) ≡ pos 0 → x ≡ false
    first true y q = absurd (pos-ne-negsuc 0 0 (sym q))
    first false y q = refl

    second : (x y : Bool) → cond x (negsuc 0) (cond y (pos 1) (pos 0)) ≡ pos 0 → y ≡ false
    second true y q = absurd (pos-ne-negsuc 0 0 (sym q))
    second false true q = absurd (omega (arith, ap nat_abs q))
    second false false q = refl

-- two numbers that are exchanged are in the opposite order
pub order_exchanged : (u v : ℤ) → order v u ≡ neg_ℤ (order u v)
unfolding order
order_exchanged u v = by (lt_z u v) (lt_z v u) (one_way u v)
  where
    by : (x y : Bool) → (x ≡ true → y ≡ false) → cond y (negsuc 0) (cond x (pos 1) (pos 0)) ≡ neg_ℤ (cond x (negsuc 0) (cond y (pos 1) (pos 0)))
    by true true f = absurd (true≢false (f refl))
    by true false f = refl
    by false true f = refl
    by false false f = refl

-- and so are negated ones
less_negated : (u v : ℤ) → lt_z (neg_ℤ u) (neg_ℤ v) ≡ lt_z v u
less_negated (pos a) (pos b) = negative_lt a b
less_negated (pos a) (negsuc j) = negative_positive a (suc j) ∙ lt-ltb 0 (a + suc j) (omega arith)
less_negated (negsuc i) (pos b) = positive_negative (suc i) b
less_negated (negsuc i) (negsuc j) = sym (negative_lt (suc j) (suc i))

pub order_negated : (u v : ℤ) → order (neg_ℤ u) (neg_ℤ v) ≡ neg_ℤ (order u v)
unfolding order
order_negated u v = ap₂ (λ (x y : Bool). cond x (negsuc 0) (cond y (pos 1) (pos 0))) (less_negated u v) (less_negated v u) ∙ order_exchanged u v

signed_inj : (n x y : ℕ) → IsWord n x → IsWord n y → signed n x ≡ signed n y → x ≡ y
signed_inj n x y ix iy h = by (dec_lt x (2 ^ (n - 1))) (dec_lt y (2 ^ (n - 1)))
  where
    by : Dec (x < 2 ^ (n - 1)) → Dec (y < 2 ^ (n - 1)) → x ≡ y
    by (yes p) (yes q) = ap nat_abs (sym (signed_low n x p) ∙ h ∙ signed_low n y q)
    by (yes p) (no q) = absurd (pos-ne-negsuc x (2 ^ n - 1 - y) (sym (signed_low n x p) ∙ h ∙ signed_high n y (not_more q) iy.fits))
    by (no p) (yes q) = absurd (pos-ne-negsuc y (2 ^ n - 1 - x) (sym (signed_low n y q) ∙ sym h ∙ signed_high n x (not_more p) ix.fits))
    by (no p) (no q) = omega (arith, ap mag (sym (signed_high n x (not_more p) ix.fits) ∙ h ∙ signed_high n y (not_more q) iy.fits), ix.fits, iy.fits)

-- zero has no sign
pub no_sign : (s : Bool) → signed_size s 0 ≡ pos 0
unfolding signed_size
no_sign false = refl
no_sign true = refl

pub absolute : (s : Bool) (v : ℕ) → nat_abs (signed_size s v) ≡ v
unfolding signed_size
absolute false v = refl
absolute true zero = refl
absolute true (suc v) = refl

-- ---- the laws
-- the order of words is the order of their values
module _ (n x y : ℕ) (ix : IsWord n x) (iy : IsWord n y) where
  -- a word with a value isn't NaR's
  real_word : (w : ℕ) (z : ℤ) → IsWord n w → takum n w ≡ real z → w ≡ 2 ^ (n - 1) → ⊥
  real_word w z i h q = not_NaR z (sym h ∙ takum_NaR n w i.least i.most q)

  pub order_of_values : (a b : ℤ) → takum n x ≡ real a → takum n y ≡ real b → order (signed n x) (signed n y) ≡ order a b
  unfolding grown
  order_of_values a b ha hb =
      ap₂ order fx.word fy.word
      ∙ order_kept (grown n) (2 ^ (n - 1)) refl (λ (u v : ℕ). grown_lt n u v ix.least ix.most) fx.negative fy.negative fx.v fy.v fx.bound fy.bound
      ∙ ap₂ order (real_inj (sym fx.means ∙ ha)) (real_inj (sym fy.means ∙ hb))
    where
      fx : Form n x
      fx = form n x ix (real_word x a ix ha)

      fy : Form n y
      fy = form n y iy (real_word y b iy hb)

  -- NaR is below every value
  NaR_lt : (b : ℤ) → takum n x ≡ NaR → takum n y ≡ real b → lt_z (signed n x) (signed n y) ≡ true
  NaR_lt b h hb = ap₂ lt_z least fy.word ∙ by fy.negative
    where
      fy : Form n y
      fy = form n y iy (real_word y b iy hb)

      least : signed n x ≡ neg_ℤ (pos (2 ^ (n - 1)))
      least = NaR_signed n x ix (NaR_word n x ix h)

      by : (s : Bool) → lt_z (neg_ℤ (pos (2 ^ (n - 1)))) (signed_size s fy.v) ≡ true
      by s = below_all (2 ^ (n - 1)) s fy.v fy.bound

  pub NaR_below : (b : ℤ) → takum n x ≡ NaR → takum n y ≡ real b → order (signed n x) (signed n y) ≡ negsuc 0
  NaR_below b h hb = order_below (signed n x) (signed n y) (NaR_lt b h hb)

  -- two words have two meanings
  pub words_differ : takum n x ≡ takum n y → x ≡ y
  words_differ h = by (takum n x) refl
    where
      by : (t : Takum) → takum n x ≡ t → x ≡ y
      by (real z) q = signed_inj n x y ix iy (order_zero (signed n x) (signed n y) (order_of_values z z q (sym h ∙ q) ∙ order_same z))
      by NaR q = NaR_word n x ix q ∙ sym (NaR_word n y iy (sym h ∙ q))

-- every value is above NaR
pub above_NaR : (n x y : ℕ) → IsWord n x → IsWord n y → (a : ℤ) → takum n x ≡ real a → takum n y ≡ NaR → order (signed n x) (signed n y) ≡ pos 1
above_NaR n x y ix iy a ha h = let below = NaR_lt n y x iy ix a h ha in order_above (signed n x) (signed n y) (one_way (signed n y) (signed n x) below) below

-- negation negates the value and keeps zero and NaR
pub negated_word : (n w : ℕ) → IsWord n w → IsWord n (negated n w)
unfolding negated
negated_word n w i = record { least = i.least; most = i.most; fits = mod-lt (2 ^ n - w) (pow_pos n) }

pub negated_twice : (n w : ℕ) → IsWord n w → negated n (negated n w) ≡ w
negated_twice n w i = by (lies n w)
  where
    other : zero < w → negated n (negated n w) ≡ w
    other h =
        ap (negated n) (negated_other n w h i.fits) ∙ negated_other n (2 ^ n - w) (omega (arith, i.fits)) (omega (arith, h, pow_pos n)) ∙ omega (arith, i.fits)

    by : Lies n w → negated n (negated n w) ≡ w
    by (at_zero q) = ap (λ (x : ℕ). negated n (negated n x)) q ∙ ap (negated n) (negated_zero n) ∙ negated_zero n ∙ sym q
    by (above h b) = other h
    by (at_NaR q) = other (omega (arith, q, pow_pos (n - 1)))
    by (under b) = other (omega (arith, b))

pub negation_negates : (n w : ℕ) → IsWord n w → takum n (negated n w) ≡ opposite (takum n w)
unfolding opposite
negation_negates n w i = by (lies n w)
  where
    back : 2 ^ n - (2 ^ n - w) ≡ w
    back = omega (arith, i.fits)

    by : Lies n w → takum n (negated n w) ≡ opposite (takum n w)
    by (at_zero q) = ap (λ (x : ℕ). takum n (negated n x)) q ∙ ap (takum n) (negated_zero n) ∙ takum_zero n ∙ sym (ap opposite (ap (takum n) q ∙ takum_zero n))
    by (above h b) =
        ap (takum n) (negated_other n w h i.fits) ∙ takum_negative n (2 ^ n - w) i.least i.most (omega (arith, b, twice n i.least)) (omega (arith, h, pow_pos n))
        ∙ ap (λ (x : ℕ). real (neg_ℤ (pos (size (x * 2 ^ (64 - n)))))) back ∙ sym (ap opposite (takum_positive n w i.least i.most h b))
    by (at_NaR q) =
        ap (takum n) (negated_other n w (omega (arith, q, pow_pos (n - 1))) i.fits) ∙ takum_NaR n (2 ^ n - w) i.least i.most (omega (arith, q, twice n i.least))
        ∙ sym (ap opposite (takum_NaR n w i.least i.most q))
    by (under b) =
        ap (takum n) (negated_other n w (omega (arith, b)) i.fits) ∙ takum_positive n (2 ^ n - w) i.least i.most (omega (arith, i.fits)) (omega (arith, b, twice n i.least))
        ∙ ap real (sym (neg_ℤ-neg_ℤ (pos (size ((2 ^ n - w) * 2 ^ (64 - n)))))) ∙ sym (ap opposite (takum_negative n w i.least i.most b i.fits))

-- every value is below 2^255 in size
pub value_below : (n w : ℕ) (z : ℤ) → IsWord n w → takum n w ≡ real z → nat_abs z < 2 ^ (255 + 307)
unfolding grown
value_below n w z i h = subst (λ (y : ℤ). nat_abs y < 2 ^ (255 + 307)) (real_inj (sym f.means ∙ h)) (lt_of_le_of_lt (le_of_eq (absolute f.negative (grown n f.v))) (by f.v f.bound))
  where
    f : Form n w
    f = form n w i (λ (q : w ≡ 2 ^ (n - 1)). not_NaR z (sym h ∙ takum_NaR n w i.least i.most q))

    by : (v : ℕ) → v < 2 ^ (n - 1) → grown n v < 2 ^ (255 + 307)
    by zero b = lit< tt
    by (suc v) b = size_below (suc v * 2 ^ (64 - n)) (shl_below (n - 1) (64 - n) 63 b (omega (arith, i.least, i.most)))

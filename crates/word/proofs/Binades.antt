-- A size has one exponent and one significand of a given length: m 2^k = m' 2^k' with m and m' both from 2^p up to 2^(p + 1) leaves m = m' and
-- k = k'. So a reading is determined by what it means. Assumes nothing.
use mathlib.Core.Path.{◌≡◌, refl, sym, ap, ap₂, ◌∙◌, subst}
use mathlib.Core.Bool.{Bool, true, false}
use Prim.Native.Nat.{ℕ, zero, suc, ◌+◌, ◌*◌, ◌^◌, ◌≤◌, ◌<◌}
use native.Mathlib.Nat.{mul_assoc, mul_comm, zero-mul, le_of_eq, lt_of_lt_of_le, lt_irrefl, le_trans, mul-le-mul_right, mul-lt-mul_of_pos_right, eq_of_mul-eq-mul_right, mul-pos, le_antisymm, zero-lt-suc}
use native.Mathlib.Omega.{arith}
use lib.IntN.{ℤ, pos, negsuc, nat_abs, ◌+ℤ◌, ◌-ℤ◌, +ℤ-neg_ℤ_cancel, -ℤ-+ℤ_cancel, pos-ne-negsuc}
use lib.Pow.{pow_pos, pow-add, pow_mono}
use Rattle.word.specs.declared.reading.Kind.{Kind}
use Rattle.word.specs.declared.reading.Reading.{Reading}
use Rattle.word.specs.Takum.{Takum, real, NaR, takum, fraction_bits, own_fraction_bits}
use Rattle.word.specs.Reads.{num, den, IsSize, signed_size, IsNumber, IsKind, IsReading, Reads}
use Rattle.bounds.specs.Refusals.{Answer}
use Rattle.bounds.proofs.Powers.{not_more}
use Rattle.bounds.proofs.Verdicts.{value_of_one}
use Rattle.word.proofs.Values.{real_inj, not_NaR}

-- 2^k as 2^up / 2^down
up : ℤ → ℕ
up (pos k) = k
up (negsuc k) = 0

down : ℤ → ℕ
down (pos k) = 0
down (negsuc k) = suc k

num_up : (k : ℤ) → num k ≡ 2 ^ up k
unfolding num up
num_up (pos k) = refl
num_up (negsuc k) = refl

den_down : (k : ℤ) → den k ≡ 2 ^ down k
unfolding den down
den_down (pos k) = refl
den_down (negsuc k) = refl

balanced : (x y : ℤ) → up x + down y ≡ up y + down x → x ≡ y
unfolding up down
balanced (pos a) (pos b) h = ap pos (omega (arith, h))
balanced (pos a) (negsuc b) h = absurd (omega (arith, h))
balanced (negsuc a) (pos b) h = absurd (omega (arith, h))
balanced (negsuc a) (negsuc b) h = ap negsuc (omega (arith, h))

-- ---- two significands of one length
-- a larger exponent gives a larger size
not_less : (p m m' a b : ℕ) → m < 2 ^ (p + 1) → 2 ^ p ≤ m' → m * 2 ^ a ≡ m' * 2 ^ b → a < b → ⊥
not_less p m m' a b high low' h l =
    lt_irrefl (m * 2 ^ a)
    (lt_of_lt_of_le (mul-lt-mul_of_pos_right high (pow_pos a))
    (le_trans (le_of_eq (sym (pow-add 2 (p + 1) a))) (le_trans (pow_mono {i = p + 1 + a} {j = p + b} (omega (arith, l))) (le_trans (le_of_eq (pow-add 2 p b)) (le_trans (mul-le-mul_right (2 ^ b) low') (le_of_eq (sym h)))))))

-- both sizes times both denominators
crossed : (m v : ℕ) (x y : ℤ) → m * num x ≡ v * den x → m * 2 ^ (up x + down y) ≡ v * (den x * den y)
crossed m v x y h =
    ap (λ (z : ℕ). m * z) (pow-add 2 (up x) (down y) ∙ ap₂ (λ (a b : ℕ). a * b) (sym (num_up x)) (sym (den_down y))) ∙ sym (mul_assoc m (num x) (den y))
    ∙ ap (λ (z : ℕ). z * den y) h ∙ mul_assoc v (den x) (den y)

module _ (p m m' : ℕ) (low : 2 ^ p ≤ m) (high : m < 2 ^ (p + 1)) (low' : 2 ^ p ≤ m') (high' : m' < 2 ^ (p + 1)) where
  same_exponent : (a b : ℕ) → m * 2 ^ a ≡ m' * 2 ^ b → a ≡ b
  same_exponent a b h = le_antisymm (not_more (λ (l : b < a). not_less p m' m b a high' low (sym h) l)) (not_more (λ (l : a < b). not_less p m m' a b high low' h l))

  pub size_one : (k k' : ℤ) (v : ℕ) → IsSize m k v → IsSize m' k' v → (k ≡ k') × (m ≡ m')
  unfolding IsSize
  size_one k k' v h h' = (shifted, eq_of_mul-eq-mul_right (2 ^ a) (pow_pos a) m m' (even ∙ ap (λ (z : ℕ). m' * 2 ^ z) (sym same)))
    where
      x : ℤ
      x = k +ℤ pos 307

      y : ℤ
      y = k' +ℤ pos 307

      a : ℕ
      a = up x + down y

      b : ℕ
      b = up y + down x

      even : m * 2 ^ a ≡ m' * 2 ^ b
      even = crossed m v x y h ∙ ap (λ (z : ℕ). v * z) (mul_comm (den x) (den y)) ∙ sym (crossed m' v y x h')

      same : a ≡ b
      same = same_exponent a b even

      shifted : k ≡ k'
      shifted = sym (+ℤ-neg_ℤ_cancel k (pos 307)) ∙ ap (λ (z : ℤ). z -ℤ pos 307) (balanced x y same) ∙ +ℤ-neg_ℤ_cancel k' (pos 307)

-- ---- a size that isn't zero
size_not_zero : (m : ℕ) (k : ℤ) (v : ℕ) → zero < m → IsSize m k v → zero < v
unfolding IsSize
size_not_zero m k zero h q = absurd (lt_irrefl 0 (subst (λ (x : ℕ). zero < x) (q ∙ zero-mul (den (k +ℤ pos 307))) (mul-pos h (subst (λ (x : ℕ). zero < x) (sym (num_up (k +ℤ pos 307))) (pow_pos (up (k +ℤ pos 307)))))))
size_not_zero m k (suc v) h q = zero-lt-suc v

-- a size with its sign gives back both
pub signed_one : (s t : Bool) (v w : ℕ) → zero < v → signed_size s v ≡ signed_size t w → (s ≡ t) × (v ≡ w)
unfolding signed_size
signed_one false false v w h q = (refl, ap nat_abs q)
signed_one false true v zero h q = absurd (lt_irrefl 0 (subst (λ (x : ℕ). zero < x) (ap nat_abs q) h))
signed_one false true v (suc w) h q = absurd (pos-ne-negsuc v w q)
signed_one true false zero w h q = absurd (lt_irrefl 0 h)
signed_one true false (suc v) w h q = absurd (pos-ne-negsuc w v (sym q))
signed_one true true zero w h q = absurd (lt_irrefl 0 h)
signed_one true true (suc v) zero h q = absurd (pos-ne-negsuc 0 v (sym q))
signed_one true true (suc v) (suc w) h q = (refl, ap nat_abs q)

pub value_one : (m : ℕ) (k : ℤ) (v w : ℕ) → IsSize m k v → IsSize m k w → v ≡ w
unfolding IsSize
value_one m k v w h g = eq_of_mul-eq-mul_right (den (k +ℤ pos 307)) (subst (λ (x : ℕ). zero < x) (sym (den_down (k +ℤ pos 307))) (pow_pos (down (k +ℤ pos 307)))) v w (sym h ∙ g)

-- ---- readings
module _ (t : Takum) (k : ℕ) where
  pub number_not_zero : (s : Bool) (h : ℤ) (m p : ℕ) → IsNumber t k s h m p → t ≡ real (pos 0) → ⊥
  unfolding signed_size
  number_not_zero s h m p i q =
      lt_irrefl 0 (subst (λ (x : ℕ). zero < x) (signed_one s false i.v 0 some (real_inj (sym i.means ∙ q))).1 some)
    where
      some : zero < i.v
      some = size_not_zero m (h -ℤ pos p) i.v (lt_of_lt_of_le (pow_pos p) i.low) i.size

  pub number_not_NaR : (s : Bool) (h : ℤ) (m p : ℕ) → IsNumber t k s h m p → t ≡ NaR → ⊥
  number_not_NaR s h m p i q = not_NaR (signed_size s i.v) (sym i.means ∙ q)

  numbers_one : (s s' : Bool) (h h' : ℤ) (m m' p p' : ℕ) → IsNumber t k s h m p → IsNumber t k s' h' m' p' → Kind.Number s h m p ≡ Kind.Number s' h' m' p'
  numbers_one s s' h h' m m' p p' i i' = λ j. Kind.Number (sign.0 j) (exponent j) (parts.1 j) (count j)
    where
      sign : (s ≡ s') × (i.v ≡ i'.v)
      sign = signed_one s s' i.v i'.v (size_not_zero m (h -ℤ pos p) i.v (lt_of_lt_of_le (pow_pos p) i.low) i.size) (real_inj (sym i.means ∙ i'.means))

      count : p ≡ p'
      count = i.count ∙ sym i'.count

      parts : (h -ℤ pos p ≡ h' -ℤ pos p) × (m ≡ m')
      parts =
          size_one p m m' i.low i.high (subst (λ (x : ℕ). 2 ^ x ≤ m') (sym count) i'.low) (subst (λ (x : ℕ). m' < 2 ^ (x + 1)) (sym count) i'.high) (h -ℤ pos p) (h' -ℤ pos p) i'.v
          (subst (λ (v : ℕ). IsSize m (h -ℤ pos p) v) sign.1 i.size)
          (subst (λ (x : ℕ). IsSize m' (h' -ℤ pos x) i'.v) (sym count) i'.size)

      exponent : h ≡ h'
      exponent = sym (-ℤ-+ℤ_cancel h (pos p)) ∙ ap (λ (z : ℤ). z +ℤ pos p) parts.0 ∙ -ℤ-+ℤ_cancel h' (pos p)

  -- two kinds of one meaning are the same
  pub kind_one : (a b : Kind) → IsKind t k a → IsKind t k b → a ≡ b
  unfolding IsKind
  kind_one Kind.Zero Kind.Zero x y = refl
  kind_one Kind.Zero Kind.Nar x y = absurd (not_NaR (pos 0) (sym x ∙ y))
  kind_one Kind.Zero (Kind.Number s h m p) x y = absurd (number_not_zero s h m p y x)
  kind_one Kind.Nar Kind.Zero x y = absurd (not_NaR (pos 0) (sym y ∙ x))
  kind_one Kind.Nar Kind.Nar x y = refl
  kind_one Kind.Nar (Kind.Number s h m p) x y = absurd (number_not_NaR s h m p y x)
  kind_one (Kind.Number s h m p) Kind.Zero x y = absurd (number_not_zero s h m p x y)
  kind_one (Kind.Number s h m p) Kind.Nar x y = absurd (number_not_NaR s h m p x y)
  kind_one (Kind.Number s h m p) (Kind.Number s' h' m' p') x y = numbers_one s s' h h' m m' p p' x y

  -- two readings of one meaning, equally fine, are the same
  pub reading_one : (o : ℕ) (a b : Reading) → IsReading t k o a → IsReading t k o b → a ≡ b
  reading_one o a b x y = λ j. record { kind = kind_one a.kind b.kind x.what y.what j; own = (x.fine ∙ sym y.fine) j }

-- what reading answers is one thing
pub reads_one : (n w : ℕ) (a b : Answer Reading) → Reads n w a → Reads n w b → a ≡ b
unfolding Reads
reads_one n w = value_of_one (IsReading (takum n w) (fraction_bits n w) (own_fraction_bits n w)) (reading_one (takum n w) (fraction_bits n w) (own_fraction_bits n w))

-- a reading has one meaning
pub meaning_one : (t u : Takum) (k l : ℕ) (a : Kind) → IsKind t k a → IsKind u l a → t ≡ u
unfolding IsKind
meaning_one t u k l Kind.Zero x y = x ∙ sym y
meaning_one t u k l Kind.Nar x y = x ∙ sym y
meaning_one t u k l (Kind.Number s h m p) x y = x.means ∙ ap (λ (v : ℕ). real (signed_size s v)) (value_one m (h -ℤ pos p) x.v y.v x.size y.size) ∙ sym y.means

-- The kit's comparison of rounded and of exact values is the order of the whole numbers that they were made of. Assumes nothing.
use mathlib.Core.Path.{◌≡◌, sym, ap, ◌∙◌, subst, subst₂}
use mathlib.Core.Bool.{Bool, true, false, cond, ◌&&◌, ◌||◌, false≢true}
use Prim.Native.Nat.{ℕ, zero, suc, ◌+◌, ◌*◌, ◌^◌, ◌<◌}
use native.Mathlib.Nat.{mul_assoc, mul_comm, mul_right_comm, mul-pos, mul-le-mul_right, mul-lt-mul_of_pos_right, lt_of_mul-lt-mul_right, le_of_lt, le_trans, le-suc, zero-lt-suc}
use native.Mathlib.Omega.{arith}
use borrow.Author.Tests.{lt-ltb, ltb-true}
use lib.Dec.{T, ltb, eqb, lt→ltb, eqb→eq}
use lib.IntN.{ℤ, pos, negsuc, nat_abs}
use lib.Pow.{pow_pos}
use lib.Signed.{lt_z}
use lib.Ieee.{Float, nan, inf, fin, Format, binary64, prec, low, up, down, odd, units, round, neg, below, lt, le}
use lib.Ieee.Exact.{HasValue}
use lib.Ieee.Fits.{down_pos, eq→eqb, round_is}
use lib.Ieee.Order.{round_mono}
use lib.Ieee.Positive.{first_pos}
use lib.Ieee.Scale.{overflow}
use Rattle.write.specs.Writes.{is_negative}
use Rattle.binary64.proofs.Signs.{round_negated}

-- ---- what is rounded without a sign is an infinity or a number without one
data Plain : Float → Type 0 where
  plain_inf : Plain (inf false)
  plain_fin : {m : ℕ} {e : ℤ} → Plain (fin false m e)

odd_plain : (d q k l : ℕ) → Plain (odd d false q k l)
unfolding odd
odd_plain d zero k l = plain_fin
odd_plain d (suc q) k l = plain_fin

units_plain : (f : Format) (q k : ℕ) → Plain (units f false q k)
unfolding units
units_plain f q k = by (ltb (q * 2 ^ k) (overflow f))
  where
    by : (b : Bool) → Plain (cond b (odd (suc (prec f)) false q k (low f)) (inf false))
    by true = odd_plain (suc (prec f)) q k (low f)
    by false = plain_inf

round_plain : (f : Format) (a c : ℕ) → Plain (round f false a c)
round_plain f a c = subst Plain (sym (round_is f false a c)) (units_plain f _ _)

-- ---- the comparison of such values with their signs changed
either : (a b : Bool) → (T a → T b) → (c : Bool) → T (c || a) → T (c || b)
either a b f true t = tt
either a b f false t = f t

turned : (a b : ℕ) → T (ltb a b || (eqb a b && true)) → T (ltb a b || (eqb b a && true))
turned a b t = either (eqb a b && true) (eqb b a && true) (λ u. both (eqb b a) (eq→eqb (sym (eqb→eq a b (left (eqb a b) u))))) (ltb a b) t
  where
    left : (x : Bool) → T (x && true) → T x
    left true u = tt
    left false u = u

    both : (x : Bool) → T x → T (x && true)
    both true u = tt
    both false u = u

le_negated : (x y : Float) → Plain x → Plain y → T (le x y) → T (le (neg y) (neg x))
unfolding le neg
le_negated (inf false) (inf false) plain_inf plain_inf t = tt
le_negated (inf false) (fin false n d) plain_inf plain_fin t = absurd t
le_negated (fin false m e) (inf false) plain_fin plain_inf t = tt
le_negated (fin false m e) (fin false n d) plain_fin plain_fin t = turned (m * up e * down d) (n * up d * down e) t
le_negated nan y a _ t = elim a [ ]
le_negated (inf false) nan _ b t = elim b [ ]
le_negated (inf false) (inf true) _ b t = elim b [ ]
le_negated (inf false) (fin true n d) _ b t = elim b [ ]
le_negated (inf true) y a _ t = elim a [ ]
le_negated (fin false m e) nan _ b t = elim b [ ]
le_negated (fin false m e) (inf true) _ b t = elim b [ ]
le_negated (fin false m e) (fin true n d) _ b t = elim b [ ]
le_negated (fin true m e) y a _ t = elim a [ ]

sum_or_zero : (a b : ℕ) → T (ltb 0 (a + b) || (eqb a b && eqb a 0))
sum_or_zero zero zero = tt
sum_or_zero zero (suc b) = rw (lt-ltb 0 (0 + suc b) (omega arith)) tt
sum_or_zero (suc a) b = rw (lt-ltb 0 (suc a + b) (omega arith)) tt

le_across : (x y : Float) → Plain x → Plain y → T (le (neg x) y)
unfolding le neg
le_across (inf false) (inf false) plain_inf plain_inf = tt
le_across (inf false) (fin false n d) plain_inf plain_fin = tt
le_across (fin false m e) (inf false) plain_fin plain_inf = tt
le_across (fin false m e) (fin false n d) plain_fin plain_fin = sum_or_zero (m * up e * down d) (n * up d * down e)
le_across nan y a _ = elim a [ ]
le_across (inf false) nan _ b = elim b [ ]
le_across (inf false) (inf true) _ b = elim b [ ]
le_across (inf false) (fin true n d) _ b = elim b [ ]
le_across (inf true) y a _ = elim a [ ]
le_across (fin false m e) nan _ b = elim b [ ]
le_across (fin false m e) (inf true) _ b = elim b [ ]
le_across (fin false m e) (fin true n d) _ b = elim b [ ]
le_across (fin true m e) y a _ = elim a [ ]

-- ---- rounded values
pub rounded_order : (a b : ℤ) → lt_z a b ≡ true → T (le (round binary64 (is_negative a) (nat_abs a) (2 ^ 307)) (round binary64 (is_negative b) (nat_abs b) (2 ^ 307)))
unfolding is_negative
rounded_order (pos i) (pos k) h = round_mono binary64 i (2 ^ 307) k (2 ^ 307) (pow_pos 307) (pow_pos 307) (mul-le-mul_right (2 ^ 307) (le_of_lt (ltb-true i k h)))
rounded_order (pos i) (negsuc k) h = absurd (false≢true h)
rounded_order (negsuc i) (pos k) h =
    subst (λ (x : Float). T (le x (round binary64 false k (2 ^ 307)))) (round_negated binary64 (suc i) (2 ^ 307)) (le_across (round binary64 false (suc i) (2 ^ 307)) (round binary64 false k (2 ^ 307)) (round_plain binary64 (suc i) (2 ^ 307)) (round_plain binary64 k (2 ^ 307)))
rounded_order (negsuc i) (negsuc k) h =
    subst₂ (λ (x y : Float). T (le x y)) (round_negated binary64 (suc i) (2 ^ 307)) (round_negated binary64 (suc k) (2 ^ 307))
    (le_negated (round binary64 false (suc k) (2 ^ 307)) (round binary64 false (suc i) (2 ^ 307)) (round_plain binary64 (suc k) (2 ^ 307)) (round_plain binary64 (suc i) (2 ^ 307))
    (round_mono binary64 (suc k) (2 ^ 307) (suc i) (2 ^ 307) (pow_pos 307) (pow_pos 307) (mul-le-mul_right (2 ^ 307) (le_trans (ltb-true k i h) (le-suc i)))))

-- ---- two exact values
-- A / E and B / E are i / c and k / c
grows : (A B c E i k : ℕ) → 0 < E → A * c ≡ i * E → B * c ≡ k * E → i < k → A < B
grows A B c E i k some p q h = lt_of_mul-lt-mul_right c (subst₂ (λ (x y : ℕ). x < y) (sym p) (sym q) (mul-lt-mul_of_pos_right h some))

pub exact_order : (x y : Float) (a b : ℤ) (c : ℕ) → HasValue x (is_negative a) (nat_abs a) c → HasValue y (is_negative b) (nat_abs b) c → lt_z a b ≡ true → T (lt x y)
unfolding is_negative lt
exact_order nan y a b c p q h = absurd p
exact_order (inf s) y a b c p q h = absurd p
exact_order (fin s m e) nan a b c p q h = absurd q
exact_order (fin s m e) (inf t) a b c p q h = absurd q
exact_order (fin s m e) (fin t n d) a b c p q h = subst₂ (λ (s t : Bool). T (below s A t B)) (sym p.0) (sym q.0) (by a b p.1 q.1 h)
  where
    A : ℕ
    A = m * up e * down d

    B : ℕ
    B = n * up d * down e

    E : ℕ
    E = down e * down d

    some : 0 < E
    some = mul-pos (down_pos e) (down_pos d)

    first : (i : ℕ) → m * up e * c ≡ i * down e → A * c ≡ i * E
    first i p = mul_right_comm (m * up e) (down d) c ∙ ap (λ (z : ℕ). z * down d) p ∙ mul_assoc i (down e) (down d)

    second : (k : ℕ) → n * up d * c ≡ k * down d → B * c ≡ k * E
    second k q = mul_right_comm (n * up d) (down e) c ∙ ap (λ (z : ℕ). z * down e) q ∙ mul_assoc k (down d) (down e) ∙ ap (λ (z : ℕ). k * z) (mul_comm (down d) (down e))

    by : (a b : ℤ) → m * up e * c ≡ nat_abs a * down e → n * up d * c ≡ nat_abs b * down d → lt_z a b ≡ true → T (below (is_negative a) A (is_negative b) B)
    by (pos i) (pos k) p q h = lt→ltb A B (grows A B c E i k some (first i p) (second k q) (ltb-true i k h))
    by (pos i) (negsuc k) p q h = absurd (false≢true h)
    by (negsuc i) (pos k) p q h = lt→ltb 0 (A + B) (omega (arith, first_pos A c (subst (λ (z : ℕ). 0 < z) (sym (first (suc i) p)) (mul-pos (zero-lt-suc i) some))))
    by (negsuc i) (negsuc k) p q h = lt→ltb B A (grows B A c E (suc k) (suc i) some (second (suc k) q) (first (suc i) p) (omega (arith, ltb-true k i h)))

-- A positive word is the nearest to a / b where neither of the words beside it is nearer, and its size tells which way it went: tests that are computed,
-- and what follows from them. Assumes nothing.
use Rattle.std.specs.Prelude.{Ok, Err}
use mathlib.Core.Path.{◌≡◌, refl, sym, ap, ◌∙◌, subst, subst₂}
use mathlib.Core.Bool.{Bool, true, false, ◌&&◌, ◌||◌}
use mathlib.Core.Logic.{◌⊎◌, inl, inr, ⊎_elim}
use Prim.Native.Nat.{ℕ, suc, ◌+◌, ◌-◌, ◌*◌, ◌%◌, ◌^◌, ◌≤◌, ◌<◌}
use native.Mathlib.Nat.{zero-lt-suc, le_of_eq, lt_of_le_of_lt, lt_of_lt_of_le, mul-le-mul_right, mul-lt-mul_of_pos_right}
use native.Mathlib.Omega.{arith}
use lib.Dec.{T, eqb, leb, ltb, eqb→eq, leb→le, ltb→lt}
use lib.IntN.{nat_abs}
use Rattle.bounds.specs.declared.saying.Saying.{Saying}
use Rattle.bounds.specs.declared.saying.Saying.TheVariants.{Exact, Below, Above, PastTheEnd}
use Rattle.bounds.specs.Refusals.{width_test, IsWord, Decided, through, Answer}
use Rattle.bounds.specs.Sayings.{opposite_saying, AndSays, written}
use Rattle.bounds.proofs.Answers.{word_said}
use Rattle.bounds.proofs.Verdicts.{width_fits, move_passes}
use Rattle.word.specs.Takum.{Takum, real, NaR, takum}
use Rattle.word.specs.Orders.{negated}
use Rattle.word.specs.Reads.{signed_size}
use Rattle.word.proofs.Heads.{both}
use Rattle.word.proofs.Values.{grown, negated_twice}
use Rattle.nearest.specs.Nearest.{HasValue, distance, Nearest}
use Rattle.nearest.specs.Sayings.{Says}
use Rattle.nearest.proofs.Nearest.{NearestPlace, Beside, before, at, after, beside}
use Rattle.nearest.proofs.Places.{word_of, has_value, increasing, not_decreasing, to_word}
use Rattle.nearest.proofs.Sayings.{exactly, above_inside, below_inside, beyond_said, short_said, says_negated}
use Rattle.round.specs.declared.value.Rule.{Rule}
use Rattle.round.specs.Writes.{other, IsWritten}
use Rattle.write.specs.Writes.{is_negative, IsMoved, Moves}
use Rattle.write.specs.Sayings.{SaysMoved, MovesAndSays}
use Rattle.round.proofs.Rounding.{nearest_negated}
use Rattle.round.proofs.Signs.{nearest_positive}
use Rattle.promises.proofs.Tests.{size_of, either, is_word, word_is}

-- ---- the nearest: twice the number is compared with the sums of the word's size and those beside it; the odd word has to win
unfoldable pub size_at : ℕ → ℕ → ℕ
size_at n v = size_of (takum n v)

unfoldable pub is_positive : ℕ → ℕ → Bool
is_positive n v = (leb 2 n && leb n 64) && (ltb 0 v && ltb v (2 ^ (n - 1)))

unfoldable pub past_half : ℕ → ℕ → ℕ → ℕ → Bool
past_half n a b v = leb v 1 || leb (size_at n (v - 1) * b + size_at n v * b + v % 2) (2 * a)

unfoldable pub before_half : ℕ → ℕ → ℕ → ℕ → Bool
before_half n a b v = leb (2 ^ (n - 1)) (suc v) || leb (2 * a + v % 2) (size_at n v * b + size_at n (suc v) * b)

-- the number isn't zero, and v is the rounded word
unfoldable pub is_rounded : ℕ → ℕ → ℕ → ℕ → Bool
is_rounded n a b v = (is_positive n v && ltb 0 a) && (past_half n a b v && before_half n a b v)

-- ---- which way it went
unfoldable pub went : ℕ → ℕ → ℕ → ℕ → Saying → Bool
went n a b v Exact = eqb (size_at n v * b) a
went n a b v Below = ltb (size_at n v * b) a && ltb (suc v) (2 ^ (n - 1))
went n a b v Above = ltb a (size_at n v * b) && ltb 1 v
went n a b v PastTheEnd = (ltb (size_at n v * b) a && eqb (suc v) (2 ^ (n - 1))) || (ltb a (size_at n v * b) && eqb v 1)

unfoldable pub size_settled : ℕ → ℕ → ℕ → ℕ → Saying → Bool
size_settled n a b v q = is_rounded n a b v && went n a b v q

-- ---- with either sign: a negative value has the negated word, of which the opposite is said
unfoldable pub settled : ℕ → Bool → ℕ → ℕ → ℕ → Saying → Bool
settled n false a b w q = size_settled n a b w q
settled n true a b w q = is_word n w && size_settled n a b (negated n w) (opposite_saying q)

-- ---- what follows
size_is : (n v : ℕ) → 2 ≤ n → n ≤ 64 → 0 < v → v < 2 ^ (n - 1) → size_at n v ≡ grown n v
unfolding size_at size_of word_of signed_size
size_is n v lo hi first last = ap size_of (has_value n lo hi false v first last).means

pub record Positive (n v : ℕ) : Type 0 where
  pub lo : 2 ≤ n
  pub hi : n ≤ 64
  pub first : 0 < v
  pub last : v < 2 ^ (n - 1)

pub positive_is : (n v : ℕ) → T (is_positive n v) → Positive n v
unfolding is_positive
positive_is n v t =
    let u = both (leb 2 n && leb n 64) (ltb 0 v && ltb v (2 ^ (n - 1))) t in
    let w = both (leb 2 n) (leb n 64) u.0 in
    let x = both (ltb 0 v) (ltb v (2 ^ (n - 1))) u.1 in
    record { lo = leb→le 2 n w.0; hi = leb→le n 64 w.1; first = ltb→lt 0 v x.0; last = ltb→lt v (2 ^ (n - 1)) x.1 }

pub size_has : (n v : ℕ) → Positive n v → HasValue n false (size_at n v) v
unfolding word_of
size_has n v i = subst (λ (z : ℕ). HasValue n false z v) (sym (size_is n v i.lo i.hi i.first i.last)) (has_value n i.lo i.hi false v i.first i.last)

-- a test that is passed over where there is no word on that side
where_there_is : (c d x y : ℕ) → T (leb c d || leb x y) → d < c → x ≤ y
where_there_is c d x y t h = ⊎_elim (λ (s : T (leb c d)). absurd (never (leb→le c d s))) (leb→le x y) (either (leb c d) (leb x y) t)
  where
    never : c ≤ d → ⊥
    never l = omega (arith, h, l)

-- of two numbers the one that twice a is on the side of is the nearer to it, and equally near only if nothing is left over
nearer_up : (a x y c : ℕ) → x < y → x + y + c ≤ 2 * a → (distance a y ≤ distance a x) × (distance a y ≡ distance a x → c ≡ 0)
unfolding distance
nearer_up a x y c h l = (omega (arith, h, l), λ q. omega (arith, h, l, q))

nearer_down : (a x y c : ℕ) → x < y → 2 * a + c ≤ x + y → (distance a x ≤ distance a y) × (distance a x ≡ distance a y → c ≡ 0)
unfolding distance
nearer_down a x y c h l = (omega (arith, h, l), λ q. omega (arith, h, l, q))

module _ (n : ℕ) (lo : 2 ≤ n) (hi : n ≤ 64) where
  module _ (a b v : ℕ) (some : 0 < b) (first : 0 < v) (last : v < 2 ^ (n - 1)) where
    -- so no other word is nearer either
    settles : (1 < v → grown n (v - 1) * b + grown n v * b + v % 2 ≤ 2 * a) → (suc v < 2 ^ (n - 1) → 2 * a + v % 2 ≤ grown n v * b + grown n (suc v) * b) → NearestPlace (grown n) (2 ^ (n - 1)) a b v
    settles under over = record { first = first; last = last; nearest = λ u p l. near u p l (beside v u); even = λ u p l q. same u p l q (beside v u) }
      where
        lower : (u : ℕ) → 0 < u → u < v → (distance a (grown n v * b) ≤ distance a (grown n u * b)) × (distance a (grown n v * b) ≡ distance a (grown n u * b) → v % 2 ≡ 0)
        lower u p l =
            let less : grown n u * b ≤ grown n (v - 1) * b = mul-le-mul_right b (not_decreasing n lo hi u (v - 1) p (omega (arith, l)) (omega (arith, last))) in
            nearer_up a (grown n u * b) (grown n v * b) (v % 2) (mul-lt-mul_of_pos_right (increasing n lo hi u v p l last) some) (omega (arith, less, under (omega (arith, p, l))))

        upper : (u : ℕ) → u < 2 ^ (n - 1) → v < u → (distance a (grown n v * b) ≤ distance a (grown n u * b)) × (distance a (grown n v * b) ≡ distance a (grown n u * b) → v % 2 ≡ 0)
        upper u r l =
            let less : grown n (suc v) * b ≤ grown n u * b = mul-le-mul_right b (not_decreasing n lo hi (suc v) u (omega arith) l r) in
            nearer_down a (grown n v * b) (grown n u * b) (v % 2) (mul-lt-mul_of_pos_right (increasing n lo hi v u first l r) some) (omega (arith, less, over (omega (arith, l, r))))

        near : (u : ℕ) → 0 < u → u < 2 ^ (n - 1) → Beside v u → distance a (grown n v * b) ≤ distance a (grown n u * b)
        near u p r (before l) = (lower u p l).0
        near u p r (at q) = le_of_eq (ap (λ (x : ℕ). distance a (grown n x * b)) (sym q))
        near u p r (after l) = (upper u r l).0

        same : (u : ℕ) → 0 < u → u < 2 ^ (n - 1) → distance a (grown n v * b) ≡ distance a (grown n u * b) → Beside v u → (u ≡ v) ⊎ (v % 2 ≡ 0)
        same u p r q (before l) = inr ((lower u p l).1 q)
        same u p r q (at e) = inl e
        same u p r q (after l) = inr ((upper u r l).1 q)

    -- as the tests tell
    is_past : T (past_half n a b v) → 1 < v → grown n (v - 1) * b + grown n v * b + v % 2 ≤ 2 * a
    unfolding past_half
    is_past t h = subst₂ (λ (x y : ℕ). x * b + y * b + v % 2 ≤ 2 * a) (size_is n (v - 1) lo hi (omega (arith, h)) (omega (arith, last))) (size_is n v lo hi first last) (where_there_is v 1 _ _ t h)

    is_before : T (before_half n a b v) → suc v < 2 ^ (n - 1) → 2 * a + v % 2 ≤ grown n v * b + grown n (suc v) * b
    unfolding before_half
    is_before t h = subst₂ (λ (x y : ℕ). 2 * a + v % 2 ≤ x * b + y * b) (size_is n v lo hi first last) (size_is n (suc v) lo hi (omega arith) h) (where_there_is (2 ^ (n - 1)) (suc v) _ _ t h)

    -- ---- which way it went, of the nearest word
    module _ (nonzero : 0 < a) (near : Nearest n false a b v) where
      same : grown n v * b ≡ size_at n v * b
      same = ap (λ (x : ℕ). x * b) (sym (size_is n v lo hi first last))

      under : T (ltb (size_at n v * b) a) → grown n v * b < a
      under t = lt_of_le_of_lt (le_of_eq same) (ltb→lt (size_at n v * b) a t)

      over : T (ltb a (size_at n v * b)) → a < grown n v * b
      over t = lt_of_lt_of_le (ltb→lt a (size_at n v * b) t) (le_of_eq (sym same))

      went_is : (q : Saying) → T (went n a b v q) → Says n false a b v q
      unfolding went
      went_is Exact t = exactly n lo hi a b v first last (same ∙ eqb→eq (size_at n v * b) a t)
      went_is Below t = let u = both (ltb (size_at n v * b) a) (ltb (suc v) (2 ^ (n - 1))) t in
          below_inside n lo hi a b v first last some near (under u.0) (λ q. omega (arith, q, ltb→lt (suc v) (2 ^ (n - 1)) u.1))
      went_is Above t = let u = both (ltb a (size_at n v * b)) (ltb 1 v) t in
          above_inside n lo hi a b v first last some near (over u.0) (λ q. omega (arith, q, ltb→lt 1 v u.1))
      went_is PastTheEnd t =
          ⊎_elim (λ t. let u = both (ltb (size_at n v * b) a) (eqb (suc v) (2 ^ (n - 1))) t in beyond_said n lo hi a b v (omega (arith, eqb→eq (suc v) (2 ^ (n - 1)) u.1)) (under u.0))
          (λ t. let u = both (ltb a (size_at n v * b)) (eqb v 1) t in short_said n lo hi a b v (eqb→eq v 1 u.1) nonzero (over u.0))
          (either (ltb (size_at n v * b) a && eqb (suc v) (2 ^ (n - 1))) (ltb a (size_at n v * b) && eqb v 1) t)

pub rounded_is : (n a b v : ℕ) → 0 < b → T (is_rounded n a b v) → (0 < a) × Nearest n false a b v
unfolding is_rounded word_of
rounded_is n a b v some t =
    let u = both (is_positive n v && ltb 0 a) (past_half n a b v && before_half n a b v) t in
    let x = both (is_positive n v) (ltb 0 a) u.0 in
    let y = both (past_half n a b v) (before_half n a b v) u.1 in
    let i = positive_is n v x.0 in
    (ltb→lt 0 a x.1, to_word n i.lo i.hi false a b v (settles n i.lo i.hi a b v some i.first i.last (is_past n i.lo i.hi a b v some i.first i.last y.0) (is_before n i.lo i.hi a b v some i.first i.last y.1)))

opposite_twice : (q : Saying) → opposite_saying (opposite_saying q) ≡ q
opposite_twice Exact = refl
opposite_twice Below = refl
opposite_twice Above = refl
opposite_twice PastTheEnd = refl

size_settled_is : (n a b v : ℕ) (q : Saying) → 0 < b → T (size_settled n a b v q) → (0 < a) × Nearest n false a b v × Says n false a b v q
unfolding size_settled
size_settled_is n a b v q some t =
    let u = both (is_rounded n a b v) (went n a b v q) t in
    let x = rounded_is n a b v some u.0 in
    let i = x.1.is.word in
    let p = nearest_positive n i.least i.most a b v x.1 in
    (x.0, x.1, went_is n i.least i.most a b v some p.0 p.1 x.0 x.1 q u.1)

settled_is : (n : ℕ) (s : Bool) (a b w : ℕ) (q : Saying) → 0 < b → T (settled n s a b w q) → (0 < a) × Nearest n s a b w × Says n s a b w q
unfolding settled
settled_is n false a b w q some t = size_settled_is n a b w q some t
settled_is n true a b w q some t =
    let u = both (is_word n w) (size_settled n a b (negated n w) (opposite_saying q)) t in
    let i = word_is n w u.0 in
    let x = size_settled_is n a b (negated n w) (opposite_saying q) some u.1 in (
      x.0,
      subst (Nearest n true a b) (negated_twice n w i) (nearest_negated n i.least i.most false a b (negated n w) x.1),
      subst₂ (Says n true a b) (negated_twice n w i) (opposite_twice q) (says_negated n false a b (negated n w) (opposite_saying q) x.1.is.word x.2),
    )

-- so this is answered, and this is said
pub answered_so : (n : ℕ) (s : Bool) (a b w : ℕ) (q : Saying) → 0 < b → T (settled n s a b w q) → AndSays (λ (r : Answer ℕ). Decided (width_test n) (λ p. r ≡ Err p) (IsWritten n Rule.Rounded s a b r)) (Says n s a b) (written w q)
unfolding IsWritten
answered_so n s a b w q some t =
    let x = settled_is n s a b w q some t in
    let i = x.1.is.word in
    word_said w q (through (width_fits n i.least i.most) (other x.0 x.1)) x.2

-- ---- a word that is moved: what it means is written
unfoldable pub meaning_settled : ℕ → Takum → ℕ → Saying → Bool
meaning_settled n (real z) w q = settled n (is_negative z) (nat_abs z) 1 w q
meaning_settled n NaR w q = false

unfoldable pub move_settled : ℕ → ℕ → ℕ → ℕ → Saying → Bool
move_settled n w n' w' q = is_word n w && meaning_settled n' (takum n w) w' q

pub moved_so : (n w n' w' : ℕ) (q : Saying) → T (move_settled n w n' w' q) → MovesAndSays n n' Rule.Rounded w (written w' q)
unfolding move_settled meaning_settled MovesAndSays Moves IsMoved SaysMoved IsWritten
moved_so n w n' w' q t =
    let u = both (is_word n w) (meaning_settled n' (takum n w) w' q) t in
    let x = by (takum n w) u.1 in
    word_said w' q (through (move_passes n n' w (word_is n w u.0) x.0.least x.0.most) x.1) x.2
  where
    by : (t : Takum) → T (meaning_settled n' t w' q) → IsWord n' w' × IsMoved n' Rule.Rounded t (Ok w') × SaysMoved n' t w' q
    by (real z) t = let x = settled_is n' (is_negative z) (nat_abs z) 1 w' q (zero-lt-suc 0) t in (x.1.is.word, other x.0 x.1, x.2)
    by NaR t = absurd t

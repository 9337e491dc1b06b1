-- `read` meets its contract: zero and NaR by their words, every other word by the number of its padded string. Assumes nothing.
use mathlib.Core.Path.{◌≡◌, refl, sym, ap, ap₂, ◌∙◌, subst₂}
use Prim.Native.Nat.{ℕ, ◌+◌, ◌*◌, ◌-◌, ◌/◌, ◌%◌, ◌^◌, ◌≤◌, max}
use native.Mathlib.Nat.{mul_assoc, mul-mod_left}
use native.Mathlib.Omega.{arith}
use lib.IntN.{pos, ◌-ℤ◌}
use lib.Pow.{shl-shr}
use Rattle.bounds.specs.Refusals.{IsWord, through}
use Rattle.word.specs.Reads.{IsKind, IsReading, Reads}
use Rattle.word.specs.declared.reading.Reading.{Reading}
use Rattle.bounds.proofs.Powers.{pow_sum}
use Rattle.word.specs.Takum.{Takum, real, value, r, p, N, padded, takum, fraction_bits, or_zero, own_fraction_bits}
use Rattle.bounds.proofs.Verdicts.{handed_on}
use Rattle.bounds.proofs.Goods.{good_refused, word_good, word_refused}
use Rattle.word.proofs.Words.{takum_zero, takum_NaR, takum_number}
use Rattle.word.proofs.Own.{or_zero_lem, zero_has_none, NaR_has_none, number_has}
use Rattle.word.proofs.Top as top
use Rattle.word.proofs.reading.read.Goals as goal

-- the word at the top of 64 bits: its string, of m bits, stands there too, with zeros behind it
module _ (n w : ℕ) (i : IsWord n w) (x : ℕ) (at_top : x ≡ w * 2 ^ (64 - n)) (m : ℕ) (long : m ≡ N n) where
  behind : x ≡ padded n w * 2 ^ (64 - m)
  unfolding N padded
  behind = at_top ∙ ap (λ (y : ℕ). w * y) (sym (pow_sum (max n 12 - n) (64 - m) (64 - n) (omega (arith, i.most, long)))) ∙ sym (mul_assoc w (2 ^ (max n 12 - n)) (2 ^ (64 - m)))

  zeros : x % 2 ^ (64 - m) ≡ 0
  zeros = ap (λ (y : ℕ). y % 2 ^ (64 - m)) behind ∙ mul-mod_left (padded n w) (2 ^ (64 - m))

  string : x / 2 ^ (64 - m) ≡ padded n w
  string = ap (λ (y : ℕ). y / 2 ^ (64 - m)) behind ∙ shl-shr (padded n w) (64 - m)

  longer : 12 ≤ m
  unfolding N
  longer = omega (arith, long)

  most : m ≤ 64
  unfolding N
  most = omega (arith, long, i.most)

  -- so its number is the word's, and what is left of the word is its own
  of_string : (w ≡ 0 → ⊥) → (w ≡ 2 ^ (n - 1) → ⊥) → (a : Reading) → IsKind (real (value m (x / 2 ^ (64 - m)))) (p m (x / 2 ^ (64 - m))) a.kind → a.own ≡ or_zero (pos n -ℤ pos (r 64 x) -ℤ pos 5)
      → IsReading (takum n w) (fraction_bits n w) (own_fraction_bits n w) a
  unfolding fraction_bits top.string
  of_string f g a h own =
      record {
        what = subst₂ (λ (t : Takum) (k : ℕ). IsKind t k a.kind) (ap₂ (λ (m x : ℕ). real (value m x)) long string ∙ sym (takum_number n w i.least i.most i.fits f g)) (ap₂ p long string) h;
        fine = own ∙ or_zero_lem n (r 64 x) ∙ ap (λ (k : ℕ). n - (k + 5)) (top.regime_at_top m x longer most zeros ∙ ap₂ r long string) ∙ sym (number_has n w i f g);
      }

pub returns-in_err-good : goal.returns-in_err-good
unfolding Reads
returns-in_err-good c = handed_on _ _ c.from_residual.ensures.1 (rw (good_refused _ _ c.in_err-good.ensures) refl)

pub returns-in_err-test_word : goal.returns-in_err-test_word
unfolding Reads
returns-in_err-test_word c = handed_on _ _ c.from_residual-in_err-test_word.ensures.1 (word_refused _ _ _ _ c.in_ok-good.ensures c.in_err-test_word.ensures)

pub returns-then-word-eq0 : goal.returns-then-word-eq0
unfolding Reads IsKind
returns-then-word-eq0 c = let t = word_good _ _ _ c.in_ok-good.ensures c.in_ok-test_word.ensures in
    rw (← t.2) (through t.1 (_, refl, record { what = ap (takum _) c.if-word-eq0.true ∙ takum_zero _; fine = sym (zero_has_none _ _ c.if-word-eq0.true) }))

pub returns-then-string : goal.returns-then-string
unfolding Reads IsKind
returns-then-string c = let t = word_good _ _ _ c.in_ok-good.ensures c.in_ok-test_word.ensures in
    let i = t.0 in
    let NaR = top.NaR_at_top _ _ i (sym c.string-string.ensures ∙ c.if-string.true) in
    rw (← t.2) (through t.1 (_, refl, record { what = takum_NaR _ _ i.least i.most NaR; fine = sym (NaR_has_none _ _ NaR) }))

pub number-requires : goal.number-requires
unfolding N
number-requires c = let i = (word_good _ _ _ c.in_ok-good.ensures c.in_ok-test_word.ensures).0 in
    let l = c.max-length.ensures in
    let x = c.string-string.ensures ∙ top.shifted_is _ _ i in
    (longer _ _ i _ x _ l, most _ _ i _ x _ l, zeros _ _ i _ x _ l)

pub returns : goal.returns
unfolding Reads N
returns c = let t = word_good _ _ _ c.in_ok-good.ensures c.in_ok-test_word.ensures in
    let i = t.0 in
    rw (← t.2) (through t.1 (_, refl, of_string _ _ i _ (c.string-string.ensures ∙ top.shifted_is _ _ i) _ c.max-length.ensures c.if-word-eq0.false (λ q. c.if-string.false (c.string-string.ensures ∙ top.at_top_NaR _ _ i q)) _ c.number.ensures c.own_bits.ensures))

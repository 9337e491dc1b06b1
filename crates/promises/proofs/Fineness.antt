-- How fine a reading is: what the bits before the fraction leave of the word, before and after zeros are appended. Assumes nothing.
use Rattle.std.specs.Prelude.{Ok}
use mathlib.Core.Path.{◌≡◌, refl, sym, ap, ◌∙◌, subst}
use mathlib.Core.Logic.{⊎_elim}
use Prim.Native.Nat.{ℕ, ◌+◌, ◌-◌, ◌*◌, ◌^◌, ◌≤◌, ◌<◌}
use native.Mathlib.Nat.{zero-mul}
use native.Mathlib.Omega.{arith}
use lib.IntN.{pos}
use lib.Pow.{pow_pos}
use Rattle.bounds.specs.Refusals.{Answer, IsWord}
use Rattle.bounds.proofs.Powers.{pow_sum, shl_below}
use Rattle.word.specs.declared.reading.Reading.{Reading}
use Rattle.word.specs.Takum as Takum
use Rattle.word.specs.Takum.{real, r, N, padded, takum, fraction_bits, own_fraction_bits}
use Rattle.word.specs.Reads.{IsNumber, IsKind, Reads}
use Rattle.word.proofs.Binades.{number_not_zero, number_not_NaR}
use Rattle.word.proofs.Own.{zero_has_none, NaR_has_none, number_has, same_regime}
use Rattle.word.proofs.Values.{NaR_word, words_differ}
use Rattle.word.proofs.Words.{Lies, at_zero, above, at_NaR, under, lies, takum_zero, takum_NaR, zeros_appended}
use Rattle.write.specs.Writes.{Moves}
use Rattle.write.proofs.Moves.{strict_keeps}
use Rattle.round.specs.declared.value.Rule.{Rule}
use Rattle.promises.specs.Demands.{ReadingIsTheDefinition}
use Rattle.promises.specs.Writing.{WiderNeverChangesNorRefuses}
use Rattle.promises.specs.Fineness as promise
use Rattle.promises.specs.Fineness.{IsNumberOf, bits_before, Widened}
use Rattle.promises.proofs.Demands.{reading_is_the_definition, reads_as}
use Rattle.promises.proofs.Writing.{wider_never_changes_nor_refuses}

pub a_reading_has_the_words_own_fraction_bits : promise.AReadingHasTheWordsOwnFractionBits
unfolding promise.AReadingHasTheWordsOwnFractionBits ReadingIsTheDefinition
a_reading_has_the_words_own_fraction_bits n w a i x = let (r, same, is) = reading_is_the_definition n w a i x in (r, same, is.fine)

own_is : (n w : ℕ) (a : Reading) → IsWord n w → Reads n w (Ok a) → a.own ≡ own_fraction_bits n w
own_is n w a i x = (reads_as n w a i x).fine

zero_word : (n w : ℕ) → IsWord n w → takum n w ≡ real (pos 0) → w ≡ 0
zero_word n w i z = words_differ n w 0 i (record { least = i.least; most = i.most; fits = pow_pos n }) (z ∙ sym (takum_zero n))

pub zero_and_NaR_have_none : promise.ZeroAndNaRHaveNone
unfolding promise.ZeroAndNaRHaveNone
zero_and_NaR_have_none n w a i x t = own_is n w a i x ∙ ⊎_elim (λ z. zero_has_none n w (zero_word n w i z)) (λ z. NaR_has_none n w (NaR_word n w i z)) t

-- ---- a number
module _ (n w p : ℕ) (a : Reading) (i : IsWord n w) (x : Reads n w (Ok a)) (k : IsNumberOf p a) where
  number : IsNumber (takum n w) (fraction_bits n w) k.negative k.h k.m p
  unfolding IsKind
  number = subst (IsKind (takum n w) (fraction_bits n w)) k.is (reads_as n w a i x).what

  not_special : (w ≡ 0 → ⊥) × (w ≡ 2 ^ (n - 1) → ⊥)
  not_special = (λ q. number_not_zero _ _ _ _ _ _ number (ap (takum n) q ∙ takum_zero n), λ q. number_not_NaR _ _ _ _ _ _ number (takum_NaR n w i.least i.most q))

  left : a.own ≡ n - bits_before n w
  unfolding bits_before
  left = own_is n w a i x ∙ number_has n w i not_special.0 not_special.1

  count : p ≡ N n - r (N n) (padded n w) - 5
  unfolding fraction_bits Takum.p
  count = number.count

pub a_number_has_what_is_left : promise.ANumberHasWhatIsLeft
unfolding promise.ANumberHasWhatIsLeft
a_number_has_what_is_left n w p a i x k = (λ h. omega (arith, left n w p a i x k, h), λ h. omega (arith, left n w p a i x k, h))

pub from_width_12_the_count_is_p : promise.FromWidth12TheCountIsP
unfolding promise.FromWidth12TheCountIsP bits_before N
from_width_12_the_count_is_p n w p a i x k long = omega (arith, left n w p a i x k, count n w p a i x k, long)

pub the_count_never_exceeds_p : promise.TheCountNeverExceedsP
unfolding promise.TheCountNeverExceedsP bits_before N
the_count_never_exceeds_p n w p a i x k = omega (arith, left n w p a i x k, count n w p a i x k)

-- ---- a word to which zeros are appended
module _ (n k w w' : ℕ) (a a' : Reading) (x : Widened n k w w' a a') where
  -- either move keeps the value, and both are words
  kept : IsWord n w × IsWord (n + k) w' × (takum (n + k) w' ≡ takum n w)
  unfolding WiderNeverChangesNorRefuses
  kept = ⊎_elim wider narrower x.moved
    where
      word_inj : {v w : ℕ} → ◌≡◌ {A = Answer ℕ} (Ok v) (Ok w) → v ≡ w
      word_inj q = cc

      wider : (IsWord n w × (rule : Rule) × Moves n (n + k) rule w (Ok w')) → IsWord n w × IsWord (n + k) w' × (takum (n + k) w' ≡ takum n w)
      wider (i, rule, y) =
          let t = wider_never_changes_nor_refuses n k w rule (Ok w') x.room i y in
          let appended = word_inj t.0 in
          (i, record { least = omega (arith, i.least); most = x.room; fits = subst (λ (v : ℕ). v < 2 ^ (n + k)) (sym appended) (shl_below n k (n + k) i.fits refl) }, ap (takum (n + k)) appended ∙ t.1)

      narrower : Moves (n + k) n Rule.Strict w' (Ok w) → IsWord n w × IsWord (n + k) w' × (takum (n + k) w' ≡ takum n w)
      narrower y = let t = strict_keeps (n + k) n w' w y in (t.to, t.from, sym t.same)

  word : IsWord n w
  word = kept.0

  wide : IsWord (n + k) w'
  wide = kept.1

  same_value : takum (n + k) w' ≡ takum n w
  same_value = kept.2

  appended : w' ≡ w * 2 ^ k
  appended =
      words_differ (n + k) w' (w * 2 ^ k) wide (record { least = wide.least; most = wide.most; fits = shl_below n k (n + k) word.fits refl }) (same_value ∙ sym (zeros_appended n k w word.least x.room word.fits))

  same_before : bits_before (n + k) w' ≡ bits_before n w
  unfolding bits_before
  same_before = ap (λ (v : ℕ). r (N (n + k)) (padded (n + k) v) + 5) appended ∙ ap (λ (i : ℕ). i + 5) (same_regime n k w)

  first : a.own ≡ own_fraction_bits n w
  first = own_is n w a word x.narrow

  last : a'.own ≡ own_fraction_bits (n + k) w'
  last = own_is (n + k) w' a' wide x.wide

  -- the count of a number, before and after
  module _ (f : w ≡ 0 → ⊥) (g : w ≡ 2 ^ (n - 1) → ⊥) where
    own_before : a.own ≡ n - bits_before n w
    unfolding bits_before
    own_before = first ∙ number_has n w word f g

    own_after : a'.own ≡ n + k - bits_before n w
    unfolding bits_before
    own_after = last ∙ number_has (n + k) w' wide (λ q. f (zero_word n w word (sym same_value ∙ ap (takum (n + k)) q ∙ takum_zero (n + k)))) (λ q. g (NaR_word n w word (sym same_value ∙ takum_NaR (n + k) w' wide.least wide.most q))) ∙ ap (λ (i : ℕ). n + k - i) same_before

  -- between what it was and that with all that was appended: zero and NaR have none, before and after
  between : (a.own ≤ a'.own) × (a'.own ≤ a.own + k)
  between = by (lies n w)
    where
      none : a.own ≡ 0 → a'.own ≡ 0 → (a.own ≤ a'.own) × (a'.own ≤ a.own + k)
      none p q = (omega (arith, p), omega (arith, q))

      some : (w ≡ 0 → ⊥) → (w ≡ 2 ^ (n - 1) → ⊥) → (a.own ≤ a'.own) × (a'.own ≤ a.own + k)
      some f g = (omega (arith, own_before f g, own_after f g), omega (arith, own_before f g, own_after f g))

      by : Lies n w → (a.own ≤ a'.own) × (a'.own ≤ a.own + k)
      by (at_zero q) = none (first ∙ zero_has_none n w q) (last ∙ zero_has_none (n + k) w' (appended ∙ ap (λ (v : ℕ). v * 2 ^ k) q ∙ zero-mul (2 ^ k)))
      by (above h b) = some (λ q. omega (arith, h, q)) (λ q. omega (arith, b, q))
      by (at_NaR q) = none (first ∙ NaR_has_none n w q) (last ∙ NaR_has_none (n + k) w' (appended ∙ ap (λ (v : ℕ). v * 2 ^ k) q ∙ pow_sum (n - 1) k (n + k - 1) (omega (arith, word.least))))
      by (under b) = some (λ q. omega (arith, b, q)) (λ q. omega (arith, b, q))

pub a_wider_word_says_the_same : promise.AWiderWordSaysTheSame
unfolding promise.AWiderWordSaysTheSame
a_wider_word_says_the_same n k w w' a a' x = (same_value n k w w' a a' x, same_before n k w w' a a' x, (between n k w w' a a' x).0, (between n k w w' a a' x).1)

pub a_wider_number_has_what_was_appended : promise.AWiderNumberHasWhatWasAppended
unfolding promise.AWiderNumberHasWhatWasAppended
a_wider_number_has_what_was_appended n k w w' p a a' x is h =
    let s = not_special n w p a (word n k w w' a a' x) x.narrow is in
    omega (arith, h, own_before n k w w' a a' x s.0 s.1, own_after n k w w' a a' x s.0 s.1)

pub a_number_that_was_cut_has_less : promise.ANumberThatWasCutHasLess
unfolding promise.ANumberThatWasCutHasLess
a_number_that_was_cut_has_less n k w w' p a a' x is h =
    let s = not_special n w p a (word n k w w' a a' x) x.narrow is in
    let first = own_before n k w w' a a' x s.0 s.1 in
    let last = own_after n k w w' a a' x s.0 s.1 in
    (omega (arith, h, first), λ g. omega (arith, g, last), λ g. omega (arith, g, last), λ some. omega (arith, h, some, last))

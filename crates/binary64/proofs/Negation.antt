-- The negated word is taken out as the negated number, and zero as positive zero. Assumes nothing.
use mathlib.Core.Path.{◌≡◌, refl, sym, ap, ◌∙◌, subst}
use mathlib.Core.Bool.{false}
use Prim.Native.Nat.{ℕ, zero, suc, ◌^◌}
use lib.IntN.{ℤ, pos, negsuc, neg_ℤ, nat_abs}
use lib.Pow.{pow_pos}
use lib.Ieee.{Float, fin, binary64, round, neg}
use Rattle.word.specs.Orders.{negated, opposite}
use Rattle.bounds.specs.Refusals.{through}
use Rattle.word.specs.Takum.{Takum, real}
use Rattle.word.proofs.Values.{real_inj, words_differ, negated_word, negation_negates}
use Rattle.bounds.proofs.Verdicts.{word_passes}
use Rattle.word.proofs.Words.{takum_zero}
use Rattle.write.specs.Writes.{is_negative}
use Rattle.binary64.specs.declared.taking.Binary64.{Binary64}
use Rattle.binary64.specs.Takes.{IsTakenBinary64, TakesBinary64}
use Rattle.binary64.proofs.Signs.{round_negated, neg_neg}
use Rattle.binary64.proofs.Taken.{taken}

rounded_opposite : (z : ℤ) → (z ≡ pos 0 → ⊥) → round binary64 (is_negative (neg_ℤ z)) (nat_abs (neg_ℤ z)) (2 ^ 307) ≡ neg (round binary64 (is_negative z) (nat_abs z) (2 ^ 307))
unfolding is_negative
rounded_opposite (pos zero) f = absurd (f refl)
rounded_opposite (pos (suc i)) f = sym (round_negated binary64 (suc i) (2 ^ 307))
rounded_opposite (negsuc i) f = sym (ap neg (sym (round_negated binary64 (suc i) (2 ^ 307))) ∙ neg_neg (round binary64 false (suc i) (2 ^ 307)))

pub negated_taken : (n w : ℕ) (x : Float) → (w ≡ 0 → ⊥) → TakesBinary64 n w (Binary64.Number x) → TakesBinary64 n (negated n w) (Binary64.Number (neg x))
unfolding opposite TakesBinary64 IsTakenBinary64
negated_taken n w x f p =
    let t = taken n w x p in
    let some : t.z ≡ pos 0 → ⊥ = λ e. f (words_differ n w 0 t.word (record { least = t.word.least; most = t.word.most; fits = pow_pos n }) (t.means ∙ ap real e ∙ sym (takum_zero n))) in
    through (word_passes n (negated n w) (negated_word n w t.word))
    (subst (λ (u : Takum). IsTakenBinary64 u (Binary64.Number (neg x))) (sym (negation_negates n w t.word ∙ ap opposite t.means)) (ap Binary64.Number (ap neg t.is ∙ sym (rounded_opposite t.z some))))

pub zero_taken_positive : (n : ℕ) (x : Float) → TakesBinary64 n 0 (Binary64.Number x) → x ≡ fin false 0 (pos 0)
unfolding is_negative round
zero_taken_positive n x p =
    let t = taken n 0 x p in
    t.is ∙ ap (λ (z : ℤ). round binary64 (is_negative z) (nat_abs z) (2 ^ 307)) (real_inj (sym t.means ∙ takum_zero n))

-- `number` meets its contract: the string's fields stand at the top of t, and its size is there in steps of 2^-63. Assumes nothing.
use mathlib.Core.Path.{◌≡◌, sym, ap, ap₂, ◌∙◌, subst}
use mathlib.Core.Bool.{cond}
use Prim.Native.Nat.{ℕ, ◌+◌, ◌-◌, ◌*◌, ◌/◌, ◌%◌, ◌^◌, ◌≤◌, ◌<◌}
use native.Mathlib.Omega.{arith}
use borrow.Author.Rules.{sfits_of}
use lib.Dec.{eqb}
use lib.IntN.{ℤ, pos, neg_ℤ, ◌+ℤ◌}
use lib.Pow.{shr_lt}
use lib.Signed.{mag}
use mir.Facts.{to_z_pos, to_z-of_z}
use mir.Syntax.{w32}
use mir.Val.{SFits, to_z, of_z}
use Rattle.word.specs.Reads.{IsKind}
use Rattle.word.specs.Takum as Takum
use Rattle.word.specs.Takum.{S, F}
use Rattle.word.proofs.Cut.{regime_le}
use Rattle.word.proofs.Numbers.{characteristic_of_string, exponent_of_string, same_number, above_one, number_of_string}
use Rattle.word.proofs.Signed.{add_mag}
use Rattle.word.proofs.Top as top
use Rattle.word.proofs.reading.number.Goals as goal

regime_small : (c : goal.After-regime_of) → c.regime_of.result ≤ 7
regime_small c = subst (λ (x : ℕ). x ≤ 7) (sym c.regime_of.ensures) (regime_le _ _)

-- a characteristic is the same as the machine holds it
held : (c : ℤ) → mag c ≤ 254 → to_z w32 (of_z w32 c) ≡ c
held c small = to_z-of_z {w = w32} {z = c} (record { sfits = omega (arith, small) })

-- the string at the top of t, and its fraction bit count
module _ (n t : ℕ) where
  abbrev T : ℕ
  T = t / 2 ^ (64 - n)

  abbrev P : ℕ
  P = Takum.p n T

  -- its characteristic, and its exponent, which fits the machine with its carry
  small : (c : ℤ) → c ≡ Takum.c n T → mag c ≤ 254
  small c e = subst (λ (z : ℤ). mag z ≤ 254) (sym e) (characteristic_of_string _ _)

  sum_fits : (z : ℤ) → z ≡ Takum.e n T → (x : ℕ) → x ≤ 1 → SFits w32 (z +ℤ to_z w32 x)
  sum_fits z e x low =
      subst (λ (y : ℤ). SFits w32 (z +ℤ y)) (sym (to_z_pos w32 {n = x} (omega (arith, low))))
      (record { sfits = omega (arith, add_mag z (pos x), ap mag e, exponent_of_string n T, low) })

module _ (n t : ℕ) (long : 12 ≤ n) (most : n ≤ 64) (behind : t % 2 ^ (64 - n) ≡ 0) where
  fits : t < 2 ^ 64 → T n t < 2 ^ n
  fits h = let all : 64 ≡ n + (64 - n) = omega (arith, most) in
      shr_lt n (64 - n) (subst (λ (k : ℕ). t < 2 ^ k) all h)

  few : P n t ≤ 63
  unfolding Takum.p
  few = omega (arith, most)

  count_is : (r : ℕ) → r ≡ Takum.r 64 t → n - r - 5 ≡ P n t
  unfolding Takum.p top.string
  count_is r e = ap (λ (x : ℕ). n - x - 5) (e ∙ top.regime_at_top n t long most behind)

  sign_is : t / 2 ^ 63 ≡ S n (T n t)
  unfolding top.string S
  sign_is = top.sign_at_top n t long most behind

  -- what the size has above 1, in steps of 2^-63, and its carry
  above_is : (f above : ℕ) → f ≡ F 64 t * 2 ^ (64 - Takum.p 64 t) → above ≡ cond (eqb (t / 2 ^ 63) 1) (2 ^ 63 - f / 2 ^ 1) (f / 2 ^ 1) → above ≡ above_one n (T n t) * 2 ^ (63 - P n t)
  unfolding top.string above_one
  above_is f above e h =
      h ∙ ap₂ (λ (x y : ℕ). cond (eqb x 1) (2 ^ 63 - y) y) sign_is (ap (λ (x : ℕ). x / 2 ^ 1) e ∙ top.fraction_at_top n t long most behind)
      ∙ top.above_at_top (P n t) few (eqb (S n (T n t)) 1) (F n (T n t))

  carry_is : (above : ℕ) → above ≡ above_one n (T n t) * 2 ^ (63 - P n t) → above / 2 ^ 63 ≡ above_one n (T n t) / 2 ^ P n t
  carry_is above h = ap (λ (x : ℕ). x / 2 ^ 63) h ∙ top.carry_at_top (P n t) few (above_one n (T n t))

  characteristic_is : (c : ℤ) → c ≡ Takum.c 64 t → c ≡ Takum.c n (T n t)
  unfolding top.string
  characteristic_is c e = e ∙ top.characteristic_at_top n t long most behind

  exponent_is : (c : ℤ) → c ≡ Takum.c n (T n t) → (x : ℤ) → SFits w32 x → x ≡ cond (eqb (t / 2 ^ 63) 1) (neg_ℤ (to_z w32 (of_z w32 c) +ℤ pos 1)) (to_z w32 (of_z w32 c)) → to_z w32 (of_z w32 x) ≡ Takum.e n (T n t)
  unfolding Takum.e
  exponent_is c e x f h = to_z-of_z {w = w32} {z = x} f ∙ h ∙ ap₂ (λ (y : ℕ) (z : ℤ). cond (eqb y 1) (neg_ℤ (z +ℤ pos 1)) z) sign_is (held c (small n t c e) ∙ e)

pub overflow_sub-p : goal.overflow_sub-p
overflow_sub-p c = omega (arith, regime_small c)

pub overflow_sub-p-2 : goal.overflow_sub-p-2
overflow_sub-p-2 c = omega (arith, regime_small c, c.requires.0)

pub exponent-requires : goal.exponent-requires
exponent-requires c = let n = c.args.n in
    let t = c.args.t in
    let x = c.cut-fields.result.c in
    let low = small n t x (characteristic_is n t c.requires.0 c.requires.1 c.requires.2 x c.cut-fields.ensures.characteristic) in
    subst (λ (z : ℤ). mag z ≤ 254) (sym (held x low)) low

-- the exponent, and what is carried into it
module _ (c : goal.After-exponent) where
  e_is : to_z w32 (of_z w32 c.exponent.result) ≡ Takum.e c.args.n (T c.args.n c.args.t)
  e_is =
      let n = c.args.n in
      let t = c.args.t in
      exponent_is n t c.requires.0 c.requires.1 c.requires.2 _ (characteristic_is n t c.requires.0 c.requires.1 c.requires.2 _ c.cut-fields.ensures.characteristic) _ (sfits_of c.exponent.type_inv) c.exponent.ensures

  h_fits : (x : ℕ) → x ≤ 1 → SFits w32 (to_z w32 (of_z w32 c.exponent.result) +ℤ to_z w32 x)
  h_fits = sum_fits c.args.n c.args.t _ e_is

pub overflow_add-h : goal.overflow_add-h
overflow_add-h c = h_fits c _ (omega (arith, c.above_one-above.type_inv))

pub returns : goal.returns
unfolding IsKind
returns c =
    let n = c.args.n in
    let t = c.args.t in
    let long = c.requires.0 in
    let most = c.requires.1 in
    let behind = c.requires.2 in
    let above = above_is n t long most behind _ _ c.cut-fields.ensures.fraction c.above_one-above.ensures in
    let carry : to_z w32 (c.above_one-above.result / 2 ^ 63) ≡ pos (c.above_one-above.result / 2 ^ 63) = to_z_pos w32 {n = c.above_one-above.result / 2 ^ 63} (omega (arith, c.above_one-above.type_inv)) in
    let count = count_is n t long most behind _ c.regime_of.ensures in
    same_number _ _ (ap (λ (y : ℕ). eqb y 1) (sign_is n t long most behind))
    (to_z-of_z {w = w32} (h_fits c.before _ (omega (arith, c.above_one-above.type_inv))) ∙ ap₂ (λ (y z : ℤ). y +ℤ z) (e_is c.before) (carry ∙ ap pos (carry_is n t long most behind _ above)))
    (ap₂ (λ (y k : ℕ). (2 ^ 63 + y) / 2 ^ (63 - k)) (c.low_bits.ensures ∙ ap (λ (y : ℕ). y % 2 ^ 63) above) count ∙ top.size_at_top (P n t) (few n t long most behind) (above_one n (T n t))) count
    (number_of_string n (T n t) long most (fits n t long most behind c.ranges.t.fits))

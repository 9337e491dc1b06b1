-- `take_binary64` meets its contract: the refusals, zero and NaR, and the size of any other word with its exponent raised. Assumes nothing.
use mathlib.Core.Path.{◌≡◌, refl, sym, ap₂, subst}
use Prim.Native.Nat.{ℕ, ◌+◌, ◌*◌, ◌^◌, ◌≤◌}
use native.Mathlib.Nat.{le_trans}
use native.Mathlib.Omega.{arith}
use borrow.Author.Differences.{ints}
use lib.Dec.{T, lit≤}
use lib.IntN.{pos, nat_abs, ◌+ℤ◌}
use lib.Pow.{pow_pos}
use lib.Signed.{mag}
use lib.Ieee.{Float, binary64, fits}
use lib.Ieee.Exact.{HasValue}
use lib.Ieee.Nearest.{closest}
use mir.Syntax.{w32}
use mir.Val.{to_z, of_z}
use Rattle.sizes.specs.declared.size.Size.{Size}
use Rattle.bounds.specs.Refusals.{passed, word_test, through, refused}
use Rattle.word.specs.Takum.{Takum, takum}
use Rattle.word.specs.Reads.{IsNumber}
use Rattle.sizes.specs.Sizes.{IsWordSize, ReadsSize}
use Rattle.bounds.proofs.Verdicts.{word_through, err_tells}
use Rattle.sizes.proofs.Normal.{exponent_small}
use Rattle.write.proofs.Told.{told}
use Rattle.binary64.specs.declared.taking.Binary64.{Binary64}
use Rattle.binary64.specs.Takes.{IsTakenBinary64, TakesBinary64}
use Rattle.binary64.proofs.Closest.{closest_range}
use Rattle.binary64.proofs.Leading.{rounded_once}
use Rattle.binary64.proofs.Raised.{raise_less}
use Rattle.binary64.proofs.Taken.{zero_taken, number_taken}
use Rattle.binary64.proofs.taking.take_binary64.Goals as goal

-- a number, its size, and its exponent as the machine raises it
module _ (n w : ℕ) (size : Size) (word : (word_test n w ≡ passed) × IsNumber (takum n w) 63 size.negative size.h size.m 63) where
  small : mag size.h ≤ 254
  small = exponent_small n w (word_through n w word.0) size word.1

  up : (j : ℕ) × (size.h +ℤ pos 971 ≡ pos (j + 11)) × (size.h +ℤ pos 1023 ≡ pos (j + 63)) × (704 ≤ j) × (j ≤ 1215)
  up = raise_less size.h (le_trans small (lit≤ tt))

  raised : nat_abs (to_z w32 (of_z w32 (to_z w32 (of_z w32 size.h) +ℤ pos 971))) ≡ up.0 + 11
  raised = grind (arith, ints, small, up.1, up.4)

  taken : (x : Float) → T (fits binary64 x) → HasValue x size.negative (closest size.m (2 ^ 11) * 2 ^ (up.0 + 11)) (2 ^ 1023) → TakesBinary64 n w (Binary64.Number x)
  unfolding TakesBinary64
  taken x f h =
      let number = word.1 in
      through word.0
      (subst (λ (x : Float). IsTakenBinary64 (takum n w) (Binary64.Number x)) (sym (rounded_once size.negative size.m up.0 number.low number.high (omega (arith, up.4)) x f h)) (number_taken number up.0 up.2))

pub overflow_add-j : goal.overflow_add-j
unfolding IsWordSize
overflow_add-j c =
    let n = c.args.width.bits in
    let w = c.args.word in
    let few : mag c.in-Ok-Number.size.h ≤ 254 = small n w c.in-Ok-Number.size (told n w c.in-Ok-Number.ensures c.in-Ok-Number.field-0-is) in
    grind (arith, ints)

pub overflow_cast-j : goal.overflow_cast-j
unfolding IsWordSize
overflow_cast-j c =
    let n = c.args.width.bits in
    let w = c.args.word in
    let few : mag c.in-Ok-Number.size.h ≤ 254 = small n w c.in-Ok-Number.size (told n w c.in-Ok-Number.ensures c.in-Ok-Number.field-0-is) in
    grind (arith, ints)

pub to_53_digits-requires : goal.to_53_digits-requires
unfolding IsWordSize
to_53_digits-requires c = (told _ _ c.in-Ok-Number.ensures c.in-Ok-Number.field-0-is).1.low

pub number-requires : goal.number-requires
unfolding IsWordSize
number-requires c =
    let n = c.args.width.bits in
    let w = c.args.word in
    let size = c.in-Ok-Number.size in
    let word = told n w c.in-Ok-Number.ensures c.in-Ok-Number.field-0-is in
    let range = subst (λ (q : ℕ). (2 ^ 52 ≤ q) × (q ≤ 2 ^ 53)) (sym c.to_53_digits.ensures) (closest_range size.m (2 ^ 11) (pow_pos 11) word.1.low word.1.high) in
    (range.1, omega (arith, raised n w size word, (up n w size word).3), omega (arith, raised n w size word, (up n w size word).4))

pub returns-in-Ok-Zero : goal.returns-in-Ok-Zero
unfolding TakesBinary64 IsWordSize
returns-in-Ok-Zero c = let x = told _ _ c.in-Ok-Zero.ensures c.in-Ok-Zero.field-0-is in
    through x.0 (zero_taken _ x.1)

pub returns-in-Ok-Nar : goal.returns-in-Ok-Nar
unfolding TakesBinary64 IsWordSize IsTakenBinary64
returns-in-Ok-Nar c = let x = told _ _ c.in-Ok-Nar.ensures c.in-Ok-Nar.field-0-is in
    through x.0 (subst (λ (t : Takum). IsTakenBinary64 t Binary64.Nar) (sym x.1) refl)

pub returns-in-Ok-Number : goal.returns-in-Ok-Number
unfolding IsWordSize
returns-in-Ok-Number c =
    let n = c.args.width.bits in
    let w = c.args.word in
    let size = c.in-Ok-Number.size in
    let word = told n w c.in-Ok-Number.ensures c.in-Ok-Number.field-0-is in
    taken n w size word c.number.result (subst T (sym c.number.type_inv) tt)
    (subst (λ (a : ℕ). HasValue c.number.result size.negative a (2 ^ 1023)) (ap₂ (λ (q j : ℕ). q * 2 ^ j) c.to_53_digits.ensures (raised n w size word)) c.number.ensures)

pub returns-in-Err : goal.returns-in-Err
unfolding TakesBinary64 ReadsSize
returns-in-Err c = refused (err_tells _ c.in-Err.ensures) refl

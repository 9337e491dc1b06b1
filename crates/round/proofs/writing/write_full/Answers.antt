-- `write_full` meets its contract: the first 64 bits, and what lies below them. Assumes nothing.
use mathlib.Core.Path.{◌≡◌, sym, subst}
use Prim.Native.Nat.{ℕ, ◌+◌, ◌-◌, ◌*◌, ◌%◌, ◌^◌, ◌≤◌, ◌<◌}
use native.Mathlib.Nat.{mul-pos, mod-lt}
use native.Mathlib.Omega.{arith}
use borrow.Author.Differences.{ints}
use borrow.Author.Rules.{rules}
use lib.Count.{count_leading_zeros}
use lib.IntN.{ℤ, pos, ◌+ℤ◌, ◌-ℤ◌}
use lib.Pow.{pow_pos}
use mir.Val.{SFits, to_z, of_z}
use mir.Syntax.{w32, w64}
use Rattle.std.specs.Prelude.{Ok}
use Rattle.bounds.proofs.Answers.{decided_said}
use Rattle.bounds.proofs.Verdicts.{handed_on}
use Rattle.word.specs.Reads.{num, den}
use Rattle.word.proofs.Units.{unit_some}
use Rattle.nearest.specs.declared.size.Rest.{Rest}
use Rattle.nearest.specs.Offers.{IsOffered}
use Rattle.nearest.specs.Sayings.{FindsAndSays}
use Rattle.round.specs.declared.value.LongValue.{LongValue}
use Rattle.round.specs.Offers.{top_bits}
use Rattle.round.specs.Writes.{WritesShort}
use Rattle.round.specs.Sayings.{WritesShortAndSays, WritesLongAndSays}
use Rattle.round.proofs.Rules.{found_refused, settles}
use Rattle.round.proofs.Long.{few_zeros, high_shifted, top_full, long_offer, some_rest, finer_offer}
use Rattle.round.proofs.writing.write_full.Goals as goal

-- what the machine holds of a long value
Fits : LongValue → Type 0
Fits v = (v.high < 2 ^ 64) × (v.low < 2 ^ 64) × SFits w32 v.k

module _ (v : LongValue) (some_high : 0 < v.high) (fits : Fits v) where
  abbrev zeros : ℕ
  zeros = count_leading_zeros 64 v.high

  few : zeros ≤ 63
  unfolding Fits
  few = few_zeros v.high v.low some_high fits.0 fits.1

  abbrev h : ℤ
  h = v.k +ℤ pos (127 - zeros)

  abbrev below : ℕ
  below = v.low * 2 ^ zeros % 2 ^ 64

  below_lt : below < 2 ^ 64
  below_lt = mod-lt _ (pow_pos 64)

  abbrev X : ℕ
  X = v.high * 2 ^ 64 + v.low

  some : 0 < X
  some = omega (arith, some_high)

  -- the value, as its bits are offered
  offered : (m : ℕ) → m ≡ top_bits v.high v.low zeros → IsOffered (m * 2 ^ 64 + below) Rest.Nothing (h -ℤ pos 127) (X * num (v.k +ℤ pos 307)) (den (v.k +ℤ pos 307))
  unfolding Fits
  offered m q =
      subst (λ (m : ℕ). IsOffered (m * 2 ^ 64 + below) Rest.Nothing (h -ℤ pos 127) (X * num (v.k +ℤ pos 307)) (den (v.k +ℤ pos 307))) (sym q)
      (long_offer v.high v.low some_high fits.0 fits.1 v.k)

  full : (m : ℕ) → m ≡ top_bits v.high v.low zeros → 2 ^ 63 ≤ m
  unfolding Fits
  full m q = subst (λ (m : ℕ). 2 ^ 63 ≤ m) (sym q) (top_full v.high v.low some_high fits.0 fits.1)

pub top_bits-m-requires : goal.top_bits-m-requires
unfolding Fits
top_bits-m-requires c = let v = c.args.value in
    let fits : Fits v = (search rules, search rules, search rules) in
    (few v c.requires fits, high_shifted v.high v.low c.requires fits.0 fits.1)

pub returns-in_err-found : goal.returns-in_err-found
unfolding WritesLongAndSays WritesShortAndSays WritesShort
returns-in_err-found c = decided_said _ _ (handed_on _ _ c.from_residual.ensures.1 (found_refused _ _ _ _ _ _ c.in_err-found.ensures))

pub returns : goal.returns
unfolding WritesLongAndSays WritesShortAndSays WritesShort Fits
returns c = let v = c.args.value in
    let n = c.args.width.bits in
    let some_high = c.requires in
    let fits : Fits v = (search rules, search rules, search rules) in
    let held : to_z w64 (of_z w64 (to_z w64 (of_z w64 (to_z w32 (of_z w32 c.args.value.k))) +ℤ to_z w64 (127 - count_leading_zeros 64 c.args.value.high))) ≡ c.args.value.k +ℤ pos (127 - count_leading_zeros 64 c.args.value.high) = grind (arith, ints, fits.2) in
    let m = c.top_bits-m.result in
    let b = below v some_high fits in
    let t = some_rest b in
    subst (WritesLongAndSays n c.args.rule v) (sym c.by_rule.ensures)
    (settles n c.args.rule v.negative (h v some_high fits) m b c.in_ok-found.found (full v some_high fits m c.top_bits-m.ensures) c.top_bits-m.type_inv
    (subst (λ (z : ℤ). FindsAndSays n v.negative z m b (Ok c.in_ok-found.found)) held c.in_ok-found.ensures)
    t.0 t.1 _ _ (mul-pos (some v some_high fits) (unit_some _).0) (unit_some _).1
    (finer_offer m b t.0 (h v some_high fits) _ _ (unit_some _).1 (below_lt v some_high fits) t.1 (offered v some_high fits m c.top_bits-m.ensures)))

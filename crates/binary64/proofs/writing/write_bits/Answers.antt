-- `write_bits` meets its contract: the fields that it cuts out are those of the value. Assumes nothing.
use Rattle.std.specs.Prelude.{Ok}
use mathlib.Core.Path.{◌≡◌, refl, sym, ap, ◌∙◌, subst}
use mathlib.Core.Bool.{Bool, cond}
use Prim.Native.Nat.{ℕ, ◌+◌, ◌/◌, ◌^◌, ◌<◌}
use native.Mathlib.Omega.{arith}
use borrow.Author.Differences.{ints}
use borrow.Author.Tests.{ne_eqb}
use lib.Bits.{mask_lt}
use lib.IntN.{ℤ, pos, ◌-ℤ◌}
use mir.Syntax.{w32}
use mir.Val.{to_z, of_z}
use lib.Ieee.{binary64, of_bits}
use Rattle.bounds.specs.declared.answer.Written.{Written}
use Rattle.bounds.specs.declared.saying.Saying.TheVariants.{Exact}
use Rattle.bounds.specs.Refusals.{through}
use Rattle.bounds.specs.Sayings.{exactly}
use Rattle.bounds.specs.Widths.{nar_word, GivesWord}
use Rattle.bounds.proofs.Answers.{word_said, decided_said}
use Rattle.bounds.proofs.Verdicts.{handed_on}
use Rattle.write.specs.Writes.{Writes}
use Rattle.write.specs.Sayings.{WritesAndSays}
use Rattle.binary64.specs.Writes.{WritesBinary64}
use Rattle.binary64.specs.Sayings.{WritesBinary64AndSays}
use Rattle.binary64.proofs.Decisions.{decided_as, given, not_given}
use Rattle.binary64.proofs.Patterns.{sign_bit, field, digits, lead, pattern_unbounded}
use Rattle.binary64.proofs.Written.{unbounded_written, unbounded_said, written_with_lead, written_without_lead, said_with_lead, said_without_lead}
use Rattle.binary64.proofs.writing.write_bits.Goals as goal

-- the fields of a number with a leading digit, as the machine holds them
module _ (b : ℕ) where
  one : (field b ≡ 0 → ⊥) → lead (field b) ≡ 1
  one some = ap (λ (t : Bool). cond t 0 1) (ne_eqb (field b) 0 some)

  field_fits : field b < 2 ^ 11
  field_fits = mask_lt (b / 2 ^ 52) 11

  exponent : to_z w32 (of_z w32 (to_z w32 (field b) -ℤ pos 1075)) ≡ pos (field b) -ℤ pos 1075
  exponent = grind (arith, ints, field_fits)

pub returns-in_err-nar : goal.returns-in_err-nar
unfolding WritesBinary64AndSays WritesBinary64 GivesWord
returns-in_err-nar c = decided_said _ _ (handed_on _ _ c.from_residual.ensures.1 (not_given nar_word _ c.in_err-nar.ensures))

pub returns-then-exponent-eq2047 : goal.returns-then-exponent-eq2047
unfolding WritesBinary64AndSays WritesBinary64 GivesWord
returns-then-exponent-eq2047 c =
    let n = c.args.width.bits in
    let x = of_bits binary64 c.args.bits in
    let unbounded = pattern_unbounded _ (omega arith) in
    let t = given nar_word n c.in_ok-nar.ensures in
    subst (λ (a : Written). WritesBinary64AndSays n c.args.rule x (Ok a)) (sym (c.exactly.ensures ∙ ap exactly t.1))
    (word_said (nar_word n) Exact (through t.0 (unbounded_written n c.args.rule (Ok (nar_word n)) x unbounded refl)) (unbounded_said n (nar_word n) x unbounded))

pub returns-then-exponent-eq0 : goal.returns-then-exponent-eq0
unfolding WritesBinary64AndSays WritesBinary64 WritesAndSays Writes
returns-then-exponent-eq0 c =
    let b = c.args.bits in
    let bounded : field b ≡ 2047 → ⊥ = λ q. omega (arith, q) in
    let none : field b ≡ 0 = omega arith in
    record {
      answers = decided_as (λ q h. h) (written_without_lead _ _ _ b bounded none) c.write.ensures.answers;
      says = λ w q is. said_without_lead _ w q b bounded none (c.write.ensures.says w q is);
    }

pub returns : goal.returns
unfolding WritesBinary64AndSays WritesBinary64 WritesAndSays Writes
returns c =
    let b = c.args.bits in
    let x = subst (λ (z : ℤ). WritesAndSays c.args.width.bits c.args.rule (record { negative = sign_bit b; m = digits b + 2 ^ 52; k = z }) c.write-2.result) (exponent b) c.write-2.ensures in
    let bounded : field b ≡ 2047 → ⊥ = λ q. omega (arith, q) in
    let led = one b (λ q. omega (arith, q)) in
    record {
      answers = decided_as (λ q h. h) (written_with_lead _ _ _ b bounded led) x.answers;
      says = λ w q is. said_with_lead _ w q b bounded led (x.says w q is);
    }

-- `Amount::take` meets its contract: what stands above the fraction's bits and the fraction are the size, counted in 2^-64. Assumes nothing.
use Rattle.std.specs.Prelude.{Ok}
use mathlib.Core.Path.{◌≡◌, sym, ap, ◌∙◌, subst}
use mathlib.Core.Bool.{Bool, true}
use Prim.Native.Nat.{ℕ, ◌+◌, ◌-◌, ◌*◌, ◌/◌, ◌%◌, ◌^◌, ◌≤◌, ◌<◌}
use native.Mathlib.Nat.{lt_of_le_of_lt, add-zero}
use native.Mathlib.Omega.{arith}
use borrow.Author.Rules.{rules, sfits_of}
use borrow.Author.Tests.{eq-eqb, ne_eqb}
use lib.Dec.{eqb}
use lib.IntN.{pos, ◌-ℤ◌}
use lib.Pow.{pow_pos, shr_lt, shr_le, shl-shr, shr-shr, split}
use mir.Facts.{to_z-of_z}
use mir.Syntax.{w64}
use Rattle.word.specs.Reads.{signed_size}
use Rattle.whole.specs.declared.taking.Amount.{Amount}
use Rattle.whole.specs.declared.taking.Taking.{Taking}
use Rattle.whole.specs.Parts.{NearestSize, by_rule, TakesSize, TakesByEitherRule, WholeWhereLarge}
use Rattle.whole.proofs.NearestWholes.{a_nearest, itself}
use Rattle.whole.proofs.Takings.{takes_rounded, stays_below}
use Rattle.whole.proofs.taking.Amount.take.Goals as goal

-- the bits above the fraction
module _ (m k : ℕ) (most : k ≤ 63) where
  above : m / 2 ^ 1 / 2 ^ (63 - k) ≡ m * 2 ^ k / 2 ^ 64
  above =
      let short : 1 + (63 - k) ≡ 64 - k = omega (arith, most) in
      let long : k + (64 - k) ≡ 64 = omega (arith, most) in
      shr-shr m 1 (63 - k) ∙ ap (λ (j : ℕ). m / 2 ^ j) short ∙ ap (λ (x : ℕ). x / 2 ^ (64 - k)) (sym (shl-shr m k)) ∙ shr-shr (m * 2 ^ k) k (64 - k)
      ∙ ap (λ (j : ℕ). m * 2 ^ k / 2 ^ j) long

  together : m / 2 ^ 1 / 2 ^ (63 - k) * 2 ^ 64 + m * 2 ^ k % 2 ^ 64 ≡ m * 2 ^ k
  together = ap (λ (x : ℕ). x * 2 ^ 64 + m * 2 ^ k % 2 ^ 64) above ∙ split (m * 2 ^ k) 64

few : (m j : ℕ) → m < 2 ^ 64 → m / 2 ^ 1 / 2 ^ j < 2 ^ 63
few m j h = lt_of_le_of_lt (shr_le (m / 2 ^ 1) j) (shr_lt 63 1 h)

-- what is answered from a half up to 2^63, by the rule that was told
module _ (rule : Taking) (a : Amount) (fits : a.m < 2 ^ 64) (large : WholeWhereLarge (pos a.k -ℤ pos 1) a.m) (most : a.k ≤ 63) where
  abbrev size : ℕ
  size = a.m * 2 ^ a.k

  abbrev whole : ℕ
  whole = a.m / 2 ^ 1 / 2 ^ (63 - a.k)

  below : (i : ℕ) → NearestSize (2 ^ 64) size i → i < 2 ^ 63
  below i x = stays_below rule a.negative a.m a.full a.k most fits large i x

  takes : (told : Taking) (i : ℕ) → rule ≡ told → NearestSize (2 ^ 64) size i → TakesSize rule a.negative (pos a.k -ℤ pos 1) a.m (by_rule told (eqb (size % 2 ^ 64) 0) (signed_size a.negative i))
  takes told i is x =
      subst (λ (r : Taking). TakesSize rule a.negative (pos a.k -ℤ pos 1) a.m (by_rule r (eqb (a.m * 2 ^ a.k % 2 ^ 64) 0) (signed_size a.negative i))) is
      (takes_rounded rule a.negative a.m a.full a.k most i (below i x) x)

  -- as the bits above the fraction and the fraction have it
  rounded : (i : ℕ) → NearestSize (2 ^ 64) (whole * 2 ^ 64 + size % 2 ^ 64) i → NearestSize (2 ^ 64) size i
  rounded i x = subst (λ (a : ℕ). NearestSize (2 ^ 64) a i) (together a.m a.k most) x

  all_whole : size % 2 ^ 64 ≡ 0 → NearestSize (2 ^ 64) size whole
  all_whole none = rounded whole (subst (λ (f : ℕ). NearestSize (2 ^ 64) (whole * 2 ^ 64 + f) whole) (sym none) (subst (λ (a : ℕ). NearestSize (2 ^ 64) a whole) (sym (add-zero (whole * 2 ^ 64))) (itself (2 ^ 64) (pow_pos 64) whole)))

pub returns-then-self-gt63 : goal.returns-then-self-gt63
unfolding TakesByEitherRule
returns-then-self-gt63 c = c.take_far.ensures c.args.rule

pub with_sign-requires : goal.with_sign-requires
with_sign-requires c =
    let a = c.args.self in
    let fits : c.args.self.m < 2 ^ 64 = search rules in
    below c.args.rule a fits c.requires c.if-self-gt63.false c.nearest.result (rounded c.args.rule a fits c.requires c.if-self-gt63.false c.nearest.result c.nearest.ensures)

pub returns-then-fraction-eq0 : goal.returns-then-fraction-eq0
unfolding by_rule
returns-then-fraction-eq0 c =
    let a = c.args.self in
    let fits : c.args.self.m < 2 ^ 64 = search rules in
    let i = a.m / 2 ^ 1 / 2 ^ (63 - a.k) in
    let x = c.with_sign-then-fraction-eq0 in
    let none : c.args.self.m * 2 ^ c.args.self.k % 2 ^ 64 ≡ 0 = omega arith in
    let exact : eqb (c.args.self.m * 2 ^ c.args.self.k % 2 ^ 64) 0 ≡ true = eq-eqb _ _ none in
    subst (TakesSize _ _ _ _)
    (ap (λ (b : Bool). by_rule Taking.Strict b (signed_size a.negative i)) exact ∙ ap Ok (sym (to_z-of_z {w = w64} {z = x.result} (sfits_of x.type_inv) ∙ x.ensures)))
    (takes c.args.rule a fits c.requires c.if-self-gt63.false Taking.Strict i c.in-Strict.is (all_whole c.args.rule a fits c.requires c.if-self-gt63.false none))

pub returns-in-Nearest : goal.returns-in-Nearest
unfolding by_rule
returns-in-Nearest c =
    let a = c.args.self in
    let fits : c.args.self.m < 2 ^ 64 = search rules in
    let i = c.nearest.result in
    subst (TakesSize _ _ _ _) (ap Ok (sym (to_z-of_z {w = w64} {z = c.with_sign.result} (sfits_of c.with_sign.type_inv) ∙ c.with_sign.ensures)))
    (takes c.args.rule a fits c.requires c.if-self-gt63.false Taking.Nearest i c.in-Nearest.is (rounded c.args.rule a fits c.requires c.if-self-gt63.false i c.nearest.ensures))

pub returns-else-fraction-eq0 : goal.returns-else-fraction-eq0
unfolding by_rule
returns-else-fraction-eq0 c =
    let a = c.args.self in
    let fits : c.args.self.m < 2 ^ 64 = search rules in
    let i = a_nearest (2 ^ 64) (pow_pos 64) (a.m * 2 ^ a.k) in
    subst (TakesSize _ _ _ _) (ap (λ (b : Bool). by_rule Taking.Strict b (signed_size a.negative i.0)) (ne_eqb _ _ (λ q. omega (arith, q)))) (takes c.args.rule a fits c.requires c.if-self-gt63.false Taking.Strict i.0 c.in-Strict.is i.1)

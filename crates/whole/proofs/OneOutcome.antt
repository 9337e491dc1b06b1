-- Two outcomes that the contract of a call allows are equal. Assumes nothing.
use Rattle.std.specs.Prelude.{Ok, Err}
use mathlib.Core.Path.{◌≡◌, sym, ap, ◌∙◌, subst}
use Prim.Native.Nat.{ℕ, ◌*◌, ◌^◌, ◌≤◌, ◌<◌}
use native.Mathlib.Nat.{zero-lt-suc, le_antisymm}
use lib.IntN.{ℤ, nat_abs}
use Rattle.bounds.specs.declared.answer.Written.{Written}
use Rattle.bounds.specs.declared.width.Width.{Width}
use Rattle.bounds.specs.Refusals.{Answer, ◌then◌, Decided, through, refused}
use Rattle.word.specs.Takum.{Takum, real, NaR, takum}
use Rattle.bounds.proofs.Answers.{said_one}
use Rattle.bounds.proofs.Powers.{not_more}
use Rattle.bounds.proofs.Verdicts.{width_through, answered, refused_as, decided_one}
use Rattle.round.specs.declared.value.Rule.{Rule}
use Rattle.write.specs.Writes.{is_negative}
use Rattle.round.proofs.OneOutcome.{written_says_one}
use Rattle.round.proofs.Rounding.{written_one}
use Rattle.whole.specs.declared.taking.Taking.{Taking}
use Rattle.whole.specs.Wholes.{over_test, inexact_test, IsTakenWhole, WritesWhole, TakesWhole}
use Rattle.whole.specs.Sayings.{WritesWholeAndSays}
use Rattle.whole.specs.Shortest.{IsShortest, GivesShortest}
use Rattle.whole.proofs.NearestWholes.{one_nearest_whole}

pub writes_whole_one : (n : ℕ) (rule : Rule) (x : ℤ) (a b : Answer ℕ) → WritesWhole n rule x a → WritesWhole n rule x b → a ≡ b
unfolding WritesWhole
writes_whole_one n rule x a b (through h y) z =
    let t = width_through n h in
    written_one n t.0 t.1 rule (is_negative x) (nat_abs x * 2 ^ 307) 1 a b (zero-lt-suc 0) y (answered h z)
writes_whole_one n rule x a b (refused h y) z = y ∙ sym (refused_as _ h z)

pub writes_whole_and_says_one : (n : ℕ) (rule : Rule) (x : ℤ) (a b : Answer Written) → WritesWholeAndSays n rule x a → WritesWholeAndSays n rule x b → a ≡ b
unfolding WritesWholeAndSays WritesWhole
writes_whole_and_says_one n rule x a b y z = said_one (writes_whole_one n rule x) (λ w s t. written_says_one n rule (is_negative x) (nat_abs x * 2 ^ 307) 1 w s t) a b y z

pub taken_one : (rule : Taking) (t : Takum) (a b : Answer ℤ) → IsTakenWhole rule t a → IsTakenWhole rule t b → a ≡ b
unfolding IsTakenWhole
taken_one rule NaR a b p q = p ∙ sym q
taken_one rule (real z) a b (x, near, p) (y, other, q) =
    decided_one Err (λ w. w ≡ Ok x) (λ v w r s. r ∙ sym s) a b p
    (subst (λ (x : ℤ). Decided (over_test x then inexact_test rule z x) (λ r. b ≡ Err r) (b ≡ Ok x)) (one_nearest_whole z y x other near) q)

pub takes_whole_one : (n : ℕ) (rule : Taking) (w : ℕ) (a b : Answer ℤ) → TakesWhole n rule w a → TakesWhole n rule w b → a ≡ b
unfolding TakesWhole
takes_whole_one n rule w = decided_one Err (IsTakenWhole rule (takum n w)) (taken_one rule (takum n w))

-- ---- the shortest width: of two least ones neither is less
not_longer : (x : ℤ) (n k : ℕ) → IsShortest x n → IsShortest x k → n ≤ k
not_longer x n k y z = not_more (λ (l : k < n). y.none_shorter k z.least l z.has)

pub one_shortest : (x : ℤ) (n k : ℕ) → IsShortest x n → IsShortest x k → n ≡ k
one_shortest x n k y z = le_antisymm (not_longer x n k y z) (not_longer x k n z y)

pub gives_shortest_one : (x : ℤ) (a b : Answer Width) → GivesShortest x a → GivesShortest x b → a ≡ b
unfolding GivesShortest
gives_shortest_one x (Ok n) (Ok k) y z = ap (λ (bits : ℕ). Ok (record { bits = bits })) (one_shortest x n.bits k.bits y z)
gives_shortest_one x (Ok n) (Err q) y z = absurd (z.1 n.bits y.least y.most y.has)
gives_shortest_one x (Err q) (Ok n) y z = absurd (y.1 n.bits z.least z.most z.has)
gives_shortest_one x (Err q) (Err p) y z = ap Err (y.0 ∙ sym z.0)

-- `move_word` meets its contract: the word's size is written at the other width, with its sign. Assumes nothing.
use mathlib.Core.Path.{◌≡◌, refl, sym, ap, ◌∙◌, subst}
use mathlib.Core.Bool.{false}
use Prim.Native.Nat.{ℕ}
use Rattle.std.specs.Prelude.{Ok, Err}
use Rattle.std.proofs.lemmas.Result.{err_from_is_err_and}
use Rattle.bounds.specs.declared.answer.Written.{Written}
use Rattle.bounds.specs.declared.saying.Saying.TheVariants.{Exact}
use Rattle.bounds.specs.Refusals.{Answer, Verdict, passed, width_test, stray_test, word_test, ◌then◌, through}
use Rattle.bounds.specs.Sayings.{plain, exactly}
use Rattle.bounds.specs.Widths.{nar_word}
use Rattle.bounds.proofs.Answers.{word_said, decided_said}
use Rattle.bounds.proofs.Goods.{good_through, good_refused}
use Rattle.bounds.proofs.Verdicts.{told_move, width_through, answered, handed_on, err_tells}
use Rattle.sizes.specs.declared.size.Size.{Size}
use Rattle.sizes.specs.Sizes.{IsWordSize, ReadsSize}
use Rattle.word.specs.Reads.{IsNumber}
use Rattle.word.specs.Takum.{Takum, takum}
use Rattle.nearest.proofs.Sayings.{size_exact}
use Rattle.round.specs.declared.value.Rule.{Rule}
use Rattle.round.specs.Writes.{WritesShort}
use Rattle.round.specs.Sayings.{WritesShortAndSays, WritesSizeAndSays}
use Rattle.round.proofs.Rules.{zero_value, zero_written}
use Rattle.write.specs.Writes.{is_negative, IsMoved, Moves}
use Rattle.write.specs.Sayings.{SaysMoved, MovesAndSays}
use Rattle.write.proofs.Told.{told}
use Rattle.write.proofs.Meanings.{number_moved, number_said}
use Rattle.write.proofs.moving.move_word.Goals as goal

-- both widths and the word, in the order of the paper
tested : (n n' w : ℕ) → width_test n' ≡ passed → {v : Verdict} → word_test n w ≡ v → width_test n then width_test n' then stray_test n w ≡ v
tested n n' w target q = told_move n n' w {a = passed} (sym target) refl refl q

-- what is written for a number's size, a word or a refusal, is what the number is moved to
number : (n n' : ℕ) (rule : Rule) (w : ℕ) (size : Size) → width_test n' ≡ passed → (word_test n w ≡ passed) × IsNumber (takum n w) 63 size.negative size.h size.m 63 → (r : Answer Written) → WritesSizeAndSays n' rule size r → MovesAndSays n n' rule w r
unfolding MovesAndSays Moves WritesSizeAndSays WritesShortAndSays WritesShort
number n n' rule w size target x r y =
    record {
      answers = through (tested n n' w target x.0) (number_moved n' rule (plain r) _ 63 size.negative size.h size.m 63 x.1 (answered target y.answers));
      says = λ v q is. number_said n' v q _ 63 size.negative size.h size.m 63 x.1 (y.says v q is);
    }

pub returns-in_err-good : goal.returns-in_err-good
unfolding MovesAndSays Moves
returns-in_err-good c = decided_said _ _ (handed_on _ _ c.from_residual.ensures.1 (told_move _ _ _ {a = Err _} (sym (good_refused _ _ c.in_err-good.ensures)) refl refl refl))

pub returns-in_err-read_size : goal.returns-in_err-read_size
unfolding MovesAndSays Moves ReadsSize
returns-in_err-read_size c =
    let target = (good_through _ _ c.in_ok-good.ensures).0 in
    decided_said _ _ (handed_on _ _ c.from_residual-in_err-read_size.ensures.1 (tested c.args.from.bits c.args.to.bits c.args.word target (err_tells _ c.in_err-read_size.ensures)))

pub returns-in-Zero : goal.returns-in-Zero
unfolding MovesAndSays Moves IsWordSize IsMoved SaysMoved is_negative
returns-in-Zero c =
    let n = c.args.from.bits in
    let n' = c.args.to.bits in
    let w = c.args.word in
    let target = (good_through _ _ c.in_ok-good.ensures).0 in
    let x = told n w c.in_ok-read_size.ensures c.in-Zero.is in
    let t = width_through n' target in
    subst (λ (a : Written). MovesAndSays n n' c.args.rule w (Ok a)) (sym c.exactly-written.ensures)
    (word_said 0 Exact (through (tested n n' w target x.0) (subst (λ (t : Takum). IsMoved n' c.args.rule t (Ok 0)) (sym x.1) (zero_written n' t.0 t.1 c.args.rule false 0 1 refl)))
    (subst (λ (t : Takum). SaysMoved n' t 0 Exact) (sym x.1) (size_exact n' t.0 t.1 false 0 0 1 0 (zero_value n' t.0 t.1 false) refl)))

pub returns-in-Nar : goal.returns-in-Nar
unfolding MovesAndSays Moves IsWordSize IsMoved SaysMoved
returns-in-Nar c =
    let n = c.args.from.bits in
    let n' = c.args.to.bits in
    let w = c.args.word in
    let target = good_through _ _ c.in_ok-good.ensures in
    let x = told n w c.in_ok-read_size.ensures c.in-Nar.is in
    subst (λ (a : Written). MovesAndSays n n' c.args.rule w (Ok a)) (sym (c.exactly-written-in-Nar.ensures ∙ ap exactly (c.nar.ensures ∙ ap nar_word target.1)))
    (word_said (nar_word n') Exact (through (tested n n' w target.0 x.0) (subst (λ (t : Takum). IsMoved n' c.args.rule t (Ok (nar_word n'))) (sym x.1) refl)) (subst (λ (t : Takum). SaysMoved n' t (nar_word n') Exact) (sym x.1) refl))

pub returns-in_ok-written-in-Number : goal.returns-in_ok-written-in-Number
unfolding IsWordSize
returns-in_ok-written-in-Number c =
    let n = c.args.from.bits in
    let w = c.args.word in
    let x : (word_test n w ≡ passed) × IsNumber (takum n w) 63 c.in-Number.size.negative c.in-Number.size.h c.in-Number.size.m 63 = told n w c.in_ok-read_size.ensures c.in-Number.is in
    number n _ c.args.rule w c.in-Number.size (good_through _ _ c.in_ok-good.ensures).0 x _ c.in_ok-written-in-Number.ensures

pub returns-in_err-written-in-Number : goal.returns-in_err-written-in-Number
unfolding IsWordSize
returns-in_err-written-in-Number c =
    let n = c.args.from.bits in
    let n' = c.args.to.bits in
    let w = c.args.word in
    let x : (word_test n w ≡ passed) × IsNumber (takum n w) 63 c.in-Number.size.negative c.in-Number.size.h c.in-Number.size.m 63 = told n w c.in_ok-read_size.ensures c.in-Number.is in
    let p = err_from_is_err_and _ c.from_residual-in_err-written-in-Number.ensures.1 in
    subst (MovesAndSays n n' c.args.rule w) (sym (p.1 ∙ ap Err p.2)) (number n n' c.args.rule w c.in-Number.size (good_through _ _ c.in_ok-good.ensures).0 x (Err _) c.in_err-written-in-Number.ensures)

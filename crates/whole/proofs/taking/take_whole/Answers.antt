-- `take_whole` meets its contract: the refusals, zero and NaR, and the whole number nearest to any other. Assumes nothing.
use Rattle.std.specs.Prelude.{Ok, Err}
use mathlib.Core.Path.{refl, sym, subst}
use lib.IntN.{pos}
use Rattle.bounds.specs.declared.refusal.Refusal.{Refusal}
use Rattle.bounds.specs.Refusals.{through}
use Rattle.word.specs.Takum.{Takum}
use Rattle.word.specs.Reads.{signed_size}
use Rattle.sizes.specs.Sizes.{IsWordSize, ReadsSize}
use Rattle.bounds.proofs.Verdicts.{word_through, handed_on, err_tells}
use Rattle.sizes.proofs.Normal.{exponent_small}
use Rattle.write.specs.Writes.{is_negative}
use Rattle.write.proofs.Told.{told}
use Rattle.whole.specs.Wholes.{over_test, IsTakenWhole, TakesWhole}
use Rattle.whole.specs.Parts.{TakesSize}
use Rattle.whole.proofs.LimitLarge.{whole_where_large}
use Rattle.whole.proofs.WholeValues.{value_of, taken_as_itself}
use Rattle.whole.proofs.taking.take_whole.Goals as goal

pub take_number-requires : goal.take_number-requires
unfolding IsWordSize
take_number-requires c = let x = told _ _ c.in_ok-read_size.ensures c.in-Number.is in
    (x.1.low, exponent_small _ _ (word_through _ _ x.0) _ x.1, whole_where_large _ _ _ _ _ (word_through _ _ x.0) x.1)

pub returns-in_err-read_size : goal.returns-in_err-read_size
unfolding TakesWhole ReadsSize
returns-in_err-read_size c = handed_on _ _ c.from_residual.ensures.1 (err_tells _ c.in_err-read_size.ensures)

pub returns-in-Zero : goal.returns-in-Zero
unfolding TakesWhole IsWordSize value_of signed_size is_negative over_test
returns-in-Zero c = let rule = c.args.rule in
    let x = told _ _ c.in_ok-read_size.ensures c.in-Zero.is in
    through x.0 (subst (λ (t : Takum). IsTakenWhole rule t (Ok (pos 0))) (sym x.1) (taken_as_itself rule (pos 0) refl))

pub returns-in-Nar : goal.returns-in-Nar
unfolding TakesWhole IsWordSize IsTakenWhole
returns-in-Nar c = let x = told _ _ c.in_ok-read_size.ensures c.in-Nar.is in
    through x.0 (subst (λ (t : Takum). IsTakenWhole c.args.rule t (Err Refusal.Nar)) (sym x.1) refl)

pub returns-in-Number : goal.returns-in-Number
unfolding TakesWhole TakesSize IsWordSize
returns-in-Number c = let x = told _ _ c.in_ok-read_size.ensures c.in-Number.is in
    through x.0 (c.take_number.ensures _ x.1.v x.1.means x.1.size)

-- `write_block` meets its contract: the content is tested as a whole, then its words are tried, and only then is anything written. Assumes nothing.
use Rattle.std.proofs.Common.{◌≡◌, Err, sym, refl, ap, ◌∙◌, subst}
use Rattle.std.specs.Prelude.{⊤}
use Rattle.std.proofs.lemmas.Result.{err_from_is_err_and}
use Rattle.bounds.specs.declared.refusal.ListRefusal.{ListRefusal}
use Rattle.bounds.specs.Refusals.{ListAnswer, through, refused}
use Rattle.sheet.specs.Writes.{IsTried, WritesBlock, FillsBuffer}
use Rattle.sheet.proofs.Contents.{fitting, stray_refused, none_stray}
use Rattle.sheet.proofs.Sizes.{width_of_words}
use Rattle.sheet.proofs.writing.write_block.Goals as goal

pub returns-in_err-test_content : goal.returns-in_err-test_content
unfolding WritesBlock FillsBuffer
returns-in_err-test_content c =
    let p = err_from_is_err_and c.from_residual.result c.from_residual.ensures.1 in
    let whole : c.from_residual.result ≡ Err (ListRefusal.Whole c.in_err-test_content.field-0.0) = p.1 ∙ ap Err p.2 in
    record {
      writes_block = refused (sym c.in_err-test_content.ensures) whole;
      fills_buffer = subst (λ (r : ListAnswer ⊤). FillsBuffer c.args.width.bits c.args.number c.args.words.now c.args.buffer.now r c.args.buffer.now) (sym whole) refl;
    }

pub invariant_of-first_stray : goal.invariant_of-first_stray
invariant_of-first_stray c =
    let t = width_of_words _ (fitting _ _ _ (sym c.in_ok-test_content.ensures)).wide in
    record { least = t.0; most = t.1 }

pub returns-in-Some : goal.returns-in-Some
unfolding WritesBlock FillsBuffer
returns-in-Some c = record { writes_block = through (sym c.in_ok-test_content.ensures) (stray_refused _ _ _ c.in-Some.ensures); fills_buffer = refl }

pub put_block-requires : goal.put_block-requires
put_block-requires c = record { passes = sym c.in_ok-test_content.ensures; fit_up_to = none_stray _ _ c.in_default.ensures }

pub returns : goal.returns
unfolding WritesBlock FillsBuffer IsTried
returns c = record { writes_block = through (sym c.in_ok-test_content.ensures) (none_stray _ _ c.in_default.ensures); fills_buffer = c.put_block.ensures }

-- `read_block` meets its contract: what the tests refuse leaves the results as they were, and of what they let through the words are unpacked. Assumes nothing.
use Rattle.std.proofs.Common.{◌≡◌, ℕ, List, length, sym, refl, ap, ◌∙◌, subst}
use Rattle.bounds.specs.Refusals.{passed, through, refused}
use Rattle.bounds.proofs.Verdicts.{handed_on}
use Rattle.sheet.specs.Reads.{block_test, block_read, ReadsBlock, FillsResults}
use Rattle.sheet.proofs.Whole.{are_the_block, other_size}
use Rattle.sheet.proofs.Passing.{passes, read_as}
use Rattle.sheet.proofs.Sizes.{unpackable, filled}
use Rattle.sheet.proofs.block.read_block.Goals as goal

pub returns-in_err-bytes : goal.returns-in_err-bytes
unfolding ReadsBlock FillsResults
returns-in_err-bytes c =
    let h = other_size c.args.block.now (length c.args.results.now) _ c.in_err-bytes.ensures in
    record { reads_block = handed_on _ _ c.from_residual.ensures.1 h; fills_results = refused h refl }

pub returns-in_err-test : goal.returns-in_err-test
unfolding ReadsBlock FillsResults
returns-in_err-test c =
    let h = ap (λ (l : List ℕ). block_test l (length c.args.results.now)) (sym (are_the_block _ _ c.in_ok-bytes.ensures)) ∙ sym c.in_err-test.ensures in
    record { reads_block = handed_on _ _ c.from_residual-in_err-test.ensures.1 h; fills_results = refused h refl }

pub unpack-requires : goal.unpack-requires
unpack-requires c = unpackable _ c.word_bytes.ensures.0 c.count-count.ensures.0 _ (passes _ _ (sym c.in_ok-test.ensures))

pub returns : goal.returns
unfolding ReadsBlock FillsResults
returns c =
    let same = are_the_block _ _ c.in_ok-bytes.ensures in
    let h : block_test c.in_ok-bytes.bytes.all.now (length c.args.results.now) ≡ passed = sym c.in_ok-test.ensures in
    record {
      reads_block = subst (λ (l : List ℕ). ReadsBlock l (length c.args.results.now) (block_read c.width.result c.number.result c.count-count.result)) same (through h (read_as _ c.width.ensures.0 c.number.ensures c.count-count.ensures.0));
      fills_results = subst (λ (l : List ℕ). FillsResults l c.args.results.now c.unpack.new.results) same (through h (filled _ c.word_bytes.ensures.0 c.count-count.ensures.0 _ _ c.unpack.ensures));
    }

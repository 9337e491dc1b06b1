-- `first_stray` meets its contract. Assumes nothing.
use Rattle.std.proofs.Common.{◌≡◌, ltb, rules}
use Rattle.std.specs.List.{position}
use borrow.Author.Tests.{tests}
use Rattle.std.proofs.lemmas.Iterator.{YieldsList-from_slice}
use Rattle.std.proofs.lemmas.Iterator.Search.{position_from_yields_List}
use Rattle.sheet.proofs.Contents.{first_stray_is}
use Rattle.sheet.proofs.writing.first_stray.Goals as goal

mirrored : (c : goal.After-position) → c.position.result ≡ position (λ w. ltb (c.ones-most.result) w) c.args.words.now
mirrored c = position_from_yields_List (λ w. ltb (c.ones-most.result) w) _ _ _ c.position.ensures.ran (YieldsList-from_slice c.args.words.now cc) (λ x b q k. search (rules, tests))

pub returns : goal.returns
returns c = first_stray_is _ _ _ c.ones-most.ensures _ (mirrored c)

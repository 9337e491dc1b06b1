-- `put` meets its contract: the low bytes of the number are all that it has. Assumes nothing.
use Rattle.std.proofs.Common.{◌≡◌, take, length, ap, ◌∙◌, rules}
use Rattle.sheet.specs.Layout.{number}
use Rattle.sheet.proofs.LittleEndian.{low_bytes, eight_bytes}
use Rattle.sheet.proofs.Puts.{puts_part}
use Rattle.sheet.proofs.numbers.put.Given as given
use Rattle.sheet.proofs.numbers.put.Goals as goal

-- the bytes that are put
are : (g : given.Over) (c : goal.After-slice_known-2-1 g) → c.copy_from_slice.new.self ≡ take g.row.N c.to_le_bytes.result
are g c = search rules

pub returns : goal.returns
returns g c = puts_part _ _ _ _ _ c.requires.1 (ap length (are g c) ∙ search rules) (ap number (are g c) ∙ low_bytes g.row.N c.args.x c.to_le_bytes.result (search rules) (ap number c.to_le_bytes.ensures ∙ eight_bytes c.args.x (search rules)) c.requires.2)

-- `put_own` meets its contract. Assumes nothing.
use Rattle.std.proofs.Common.{◌≡◌, ℕ, refl, ◌∙◌, subst, arith, length-append, MatchResult, Ok, Err, of_calls}
use Rattle.std.proofs.lemmas.Result.{MatchResult-weaker}
use Rattle.bounds.specs.Refusals.{Answer}
use Rattle.word.specs.declared.reading.Reading.{Reading}
use Rattle.listing.specs.Text.{IsDecimal, IsOwnText, own_of, space}
use Rattle.listing.proofs.Placed.{joined_adds}
use Rattle.listing.proofs.lines.put_own.Goals as goal

own_told : (a : Answer Reading) (k : ℕ) → MatchResult a (λ r. k ≡ r.own) (λ _. k ≡ 0) → k ≡ own_of a
unfolding own_of
own_told (Ok r) k e = e
own_told (Err q) k e = e

pub returns : goal.returns
unfolding IsOwnText space
returns c =
    let d = c.put_decimal.ensures in
    let own = own_told c.read.result c.map_or-own.result (MatchResult-weaker c.read.result c.map_or-own.ensures (λ x h. search of_calls) (λ _ h. h)) in
    record { text = _; is = (_, _, c.read.ensures, subst (λ (k : ℕ). IsDecimal k d.text) (c.from.ensures ∙ own) d.is, refl); short = simp length-append (omega (arith, d.short)); adds = joined_adds c.put_byte.ensures d.adds }

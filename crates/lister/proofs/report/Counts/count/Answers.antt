-- `count` meets its contract. Assumes nothing.
use Rattle.std.proofs.Common.{◌≡◌, ℕ, ◌+◌, ◌%◌, ◌^◌, Option, Some, None, MatchOption, ap, of_calls}
use Rattle.std.specs.Prelude.{slice_index, slice_set}
use Rattle.bounds.specs.declared.refusal.Refusal.{Refusal}
use Rattle.bounds.specs.Refusals.{number_of}
use Rattle.lister.specs.Counts.{number_or_0, with_one_more}
use Rattle.lister.proofs.report.Counts.count.Goals as goal

number_told : (P : Refusal → Type 0) (o : Option Refusal) (k : ℕ) → MatchOption o (k ≡ 0) P → ((q : Refusal) → P q → k ≡ number_of q) → k ≡ number_or_0 o
unfolding number_or_0
number_told P None k h f = h
number_told P (Some q) k h f = f q h

pub returns : goal.returns
unfolding with_one_more
returns c =
    let number = number_told _ c.args.refused c.map_or-number.result c.map_or-number.ensures (λ q h. search of_calls) in
    ap (λ (n : ℕ). slice_set c.args.self.now.by_number n ((slice_index c.args.self.now.by_number n + 1) % 2 ^ 64)) number

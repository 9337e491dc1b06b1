-- What comparing and negating words answer (paper 01).
use Rattle.std.specs.declared.cmp.Ordering.{Ordering}
use Rattle.std.specs.declared.cmp.Ordering.TheVariants.{Less, Equal, Greater}
use Rattle.std.specs.Ordering.{int_cmp}
use Rattle.std.specs.Prelude.{◌≡◌, ℕ, ℤ, pos, negsuc, Ok, Err}
use Rattle.bounds.specs.Refusals.{Answer, width_test, stray_test, word_test, ◌then◌, Decided}
use Rattle.word.specs.Orders.{signed, negated}

-- the paper's number for an order: -1 below, 0 equal, 1 above
abbrev pub order_number : Ordering → ℤ
order_number Less = negsuc 0
order_number Equal = pos 0
order_number Greater = pos 1

-- ---- what the calls answer
unfoldable pub Compares : ℕ → ℕ → ℕ → Answer Ordering → Type 0
Compares n x y a = Decided (width_test n then stray_test n x then stray_test n y) (λ q. a ≡ Err q) (a ≡ Ok (int_cmp (signed n x) (signed n y)))

unfoldable pub Negates : ℕ → ℕ → Answer ℕ → Type 0
Negates n w a = Decided (word_test n w) (λ q. a ≡ Err q) (a ≡ Ok (negated n w))

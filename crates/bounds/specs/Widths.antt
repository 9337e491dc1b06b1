-- What belongs to a width n: its end words, its NaR word and its exact-count limit (paper 01).
use Rattle.std.specs.Prelude.{◌≡◌, ℕ, ◌+◌, ◌-◌, ◌*◌, ◌%◌, ◌^◌, ◌≤◌, ◌<◌, Ok, Err}
use Rattle.bounds.specs.declared.good.GoodWidth.{GoodWidth}
use Rattle.bounds.specs.declared.width.Width.{Width}
use Rattle.bounds.specs.Refusals.{Answer, width_test, Decided}

unfoldable pub largest : ℕ → ℕ
largest n = 2 ^ (n - 1) - 1

unfoldable pub smallest : ℕ → ℕ
smallest n = 1

unfoldable pub nar_word : ℕ → ℕ
nar_word n = 2 ^ (n - 1)

-- as many ones as the width has bits
abbrev pub ones : ℕ → ℕ
ones n = 2 ^ n - 1

-- a word at the top of 64 bits, with zeros behind it; a bit at or above the width is lost
abbrev pub at_top : ℕ → ℕ → ℕ
at_top n w = w * 2 ^ (64 - n) % 2 ^ 64

-- v >= 1 and v + floor(log2 v) <= n - 4, L being floor(log2 v)
pub record Within (n v : ℕ) : Type 0 where
  pub L : ℕ
  pub log_low : 2 ^ L ≤ v
  pub log_high : v < 2 ^ (L + 1)
  pub bound : v + L + 4 ≤ n

-- v is the greatest such number; where there is none, v is 0
pub data Greatest (n : ℕ) : ℕ → Type 0 where
  greatest : {v : ℕ} → Within n v → ((u : ℕ) → Within n u → u ≤ v) → Greatest n v
  none : ((u : ℕ) → Within n u → ⊥) → Greatest n 0

-- the exact-count limit is 2^v
pub record IsLimit (n l : ℕ) : Type 0 where
  pub v : ℕ
  pub is : Greatest n v
  pub limit : l ≡ 2 ^ v

-- ---- what the calls answer
unfoldable pub Makes : ℕ → Answer Width → Type 0
Makes n a = Decided (width_test n) (λ q. a ≡ Err q) (a ≡ Ok (record { bits = n }))

unfoldable pub IsGood : ℕ → Answer GoodWidth → Type 0
IsGood n a = Decided (width_test n) (λ q. a ≡ Err q) ((width : GoodWidth) × (a ≡ Ok width) × (width.bits ≡ n))

-- the way back
abbrev pub HasBitsOf : GoodWidth → Width → Type 0
HasBitsOf good width = width.bits ≡ good.bits

-- the word f n of the width n
unfoldable pub GivesWord : (ℕ → ℕ) → ℕ → Answer ℕ → Type 0
GivesWord f n a = Decided (width_test n) (λ q. a ≡ Err q) (a ≡ Ok (f n))

unfoldable pub GivesLimit : ℕ → Answer ℕ → Type 0
GivesLimit n a = Decided (width_test n) (λ q. a ≡ Err q) ((l : ℕ) × (a ≡ Ok l) × IsLimit n l)

-- How long the shortest word of a whole number is: document 004, Proposition 4, in the paper's letters, as it is printed and with the correction of
-- paper 02, Wish 9. No public contract cites it; crate promises states that it is what `shortest_width` answers.
use Rattle.std.specs.Prelude.{◌≡◌, Bool, cond, ◌&&◌, ℕ, ◌+◌, ◌-◌, ◌%◌, ◌^◌, ◌≤◌, ◌<◌, eqb, ℤ, pos, ◌-ℤ◌}

-- k is floor(log2 a)
pub record IsLog (a k : ℕ) : Type 0 where
  pub low : 2 ^ k ≤ a
  pub high : a < 2 ^ (k + 1)

-- i is max (2^i | a), i being one of a range: the greatest one there for which 2^i divides a
pub record IsMax (Range : ℕ → Type 0) (a i : ℕ) : Type 0 where
  pub in_range : Range i
  pub divides : a % 2 ^ i ≡ 0
  pub greatest : (j : ℕ) → Range j → a % 2 ^ j ≡ 0 → j ≤ i

-- the ranges: all of N0, and {0, ..., b}
unfoldable pub N0 : ℕ → Type 0
N0 i = Unit {0}

unfoldable pub UpTo : ℕ → ℕ → Type 0
UpTo b i = i ≤ b

-- The letters of a number m without its sign, m not being 0. In v - 2^log nothing is cut off: 2^log is at most v.
pub record Letters (m : ℕ) : Type 0 where
  -- v := 1 + floor(log2 m), how many bits m has
  pub top : ℕ
  pub v : ℕ
  pub top_is : IsLog m top
  pub v_is : v ≡ 1 + top
  -- w, how many zeros its binary representation ends in
  pub w : ℕ
  pub w_is : IsMax N0 m w
  -- floor(log2 v)
  pub log : ℕ
  pub log_is : IsLog v log
  -- what the two reductions take off: the zeros that the characteristic bits end in, and those that the regime bits end in
  pub first : ℕ
  pub first_is : IsMax (UpTo log) (v - 2 ^ log) first
  pub last : ℕ
  pub last_is : IsMax (UpTo 3) log last

-- (condition) * a, which is a where the condition holds, and else 0
abbrev pub when : Bool → ℕ → ℕ
when condition a = cond condition a 0

-- the two conditions. w = v - 1: the number is a power of two
abbrev pub power_of_two : ℕ → ℕ → Bool
power_of_two v w = eqb (w + 1) v

-- v is in 2^N0, one of 2^0, 2^1 and so on: it is 2^floor(log2 v), by (47)
abbrev pub bits_are_power_of_two : ℕ → ℕ → Bool
bits_are_power_of_two v log = eqb v (2 ^ log)

module _ {m : ℕ} (t : Letters m) where
  -- (11) up to its first reduction. floor(4 + v + log2 v - w) is 4 + v + floor(log2 v) - w, all but the logarithm being whole.
  unfoldable pub reduced_once : ℤ
  reduced_once = pos (4 + t.v + t.log) -ℤ pos t.w -ℤ pos (when (power_of_two t.v t.w) t.first)

  -- (11) as it is printed
  unfoldable pub printed_length : ℤ
  printed_length = reduced_once -ℤ pos (when (bits_are_power_of_two t.v t.log) t.last)

  -- and corrected: the last reduction is made only where w = v - 1
  unfoldable pub corrected_length : ℤ
  corrected_length = reduced_once -ℤ pos (when (power_of_two t.v t.w && bits_are_power_of_two t.v t.log) t.last)

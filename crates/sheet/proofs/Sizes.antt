-- The bytes that a block's words have: 1, 2, 4 or 8, all of them within the block. Assumes nothing.
use Rattle.std.proofs.Common.{◌≡◌, ℕ, ◌+◌, ◌*◌, ◌/◌, ◌<◌, ◌≤◌, List, ◌++◌, length, drop, sym, refl, ◌∙◌, subst, ap₂, subst₂, arith, lit<, lit≤}
use Rattle.sheet.specs.Layout.{IsWordBytes, one, two, four, eight, packed, width, count, word_bytes, words, end}
use Rattle.sheet.proofs.Passing.{Passes}
use Rattle.sheet.proofs.Tests.{OneOfFour, each_width}

pub sized : (n : ℕ) → OneOfFour n → IsWordBytes (n / 8)
sized = each_width (λ n. IsWordBytes (n / 8)) one two four eight

-- where 8 bits are shut out, a word has more than one byte
pub more_than_one : (n : ℕ) → OneOfFour n → (n ≡ 8 → ⊥) → 1 < n / 8
more_than_one = each_width (λ n. (n ≡ 8 → ⊥) → 1 < n / 8) (λ f. absurd (f refl)) (λ f. lit< tt) (λ f. lit< tt) (λ f. lit< tt)

pub whole_bytes : (n : ℕ) → OneOfFour n → 8 * (n / 8) ≡ n
whole_bytes = each_width (λ n. 8 * (n / 8) ≡ n) refl refl refl refl

pub width_of_words : (n : ℕ) → OneOfFour n → (2 ≤ n) × (n ≤ 64)
width_of_words = each_width (λ n. (2 ≤ n) × (n ≤ 64)) (lit≤ tt, lit≤ tt) (lit≤ tt, lit≤ tt) (lit≤ tt, lit≤ tt) (lit≤ tt, lit≤ tt)

module _ (block : List ℕ) {s n : ℕ} (hs : s ≡ word_bytes block) (hn : n ≡ count block) where
  -- what unpacking asks of its size and count
  pub unpackable : (places : ℕ) → Passes block places → IsWordBytes s × (8 + s * n ≤ length block) × (n ≤ places)
  unfolding word_bytes end
  unpackable places p =
      let inside : 8 + s * n ≤ 504 = subst₂ (λ (x y : ℕ). 8 + x * y ≤ 504) (sym hs) (sym hn) p.inside in
      (subst IsWordBytes (sym hs) (sized (width block) p.wide), omega (arith, p.bytes), subst (λ (x : ℕ). x ≤ places) (sym hn) p.room)

  pub filled : (before after : List ℕ) → after ≡ packed s n (drop 8 block) ++ drop n before → after ≡ words block ++ drop (count block) before
  unfolding words
  filled before after h = h ∙ ap₂ (λ (x y : ℕ). packed x y (drop 8 block) ++ drop y before) hs hn

-- The lines of a block's words, one after another: those that stand and those still to come. Assumes nothing.
use mathlib.Core.Path.{refl, sym, subst}
use mathlib.Core.List.{List, [], ◌++◌, append_assoc, append-nil}
use Prim.Native.Nat.{ℕ, ◌+◌, ◌≤◌, ◌<◌}
use native.Mathlib.Numerals.{add-one}
use lib.ListN.{length, get_or, drop, drop_of_length-le}
use lib.Seq.{drop-cons}
use Rattle.listing.specs.Text.{IsLine, AreLines}

module _ (number n : ℕ) (ws : List ℕ) where
  -- the text t stands for the words before i: with the lines of the others it is the lines of all
  abbrev pub SoFar : ℕ → List ℕ → Type 0
  SoFar i t = (u : List ℕ) → AreLines number n i (drop i ws) u → AreLines number n 0 ws (t ++ u)

  pub none_yet : SoFar 0 []
  none_yet u x = x

  pub one_more : (i : ℕ) (t l : List ℕ) → i < length ws → SoFar i t → IsLine number i n (get_or ws i 0) l → SoFar (i + 1) (t ++ l)
  unfolding AreLines
  one_more i t l h f x u y =
      subst (AreLines number n 0 ws) (sym (append_assoc t l u))
      (f (l ++ u) (subst (λ (vs : List ℕ). AreLines number n i vs (l ++ u)) (sym (drop-cons ws i 0 h)) (l, u, x, subst (λ (k : ℕ). AreLines number n k (drop k ws) u) (add-one i) y, refl)))

  pub all_of_them : (i : ℕ) (t : List ℕ) → length ws ≤ i → SoFar i t → AreLines number n 0 ws t
  unfolding AreLines
  all_of_them i t h f = subst (AreLines number n 0 ws) (append-nil t) (f [] (subst (λ (vs : List ℕ). AreLines number n i vs []) (sym (drop_of_length-le ws h)) refl))

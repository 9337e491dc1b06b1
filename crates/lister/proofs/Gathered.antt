-- The texts of a run's blocks, one after another: those that stand and those still to come. Assumes nothing.
use Rattle.std.proofs.Common.{◌≡◌, ℕ, ◌+◌, ◌<◌, List, [], ◌++◌, length, take, drop, sym, subst, append_assoc, append-nil, add-one}
use Rattle.listing.specs.Listing.{ListsBlock}
use Rattle.lister.specs.Runs.{ListsBlocks, none, some}

module _ (bytes : List ℕ) (place : ℕ) where
  -- the text t stands for the bytes before the rest: with the text of the rest, from the place `here` on, it is the text of all
  abbrev pub SoFar : List ℕ → ℕ → List ℕ → Type 0
  SoFar rest here t = (u : List ℕ) → ListsBlocks rest here u → ListsBlocks bytes place (t ++ u)

  pub none_yet : SoFar bytes place []
  none_yet u x = x

  pub one_more : (rest : List ℕ) (here : ℕ) (t l : List ℕ) → 0 < length rest → SoFar rest here t → ListsBlock (take 512 rest) here l → SoFar (drop 512 rest) (here + 1) (t ++ l)
  one_more rest here t l h f x u y = subst (ListsBlocks bytes place) (sym (append_assoc t l u)) (f (l ++ u) (some l h x (subst (λ (k : ℕ). ListsBlocks (drop 512 rest) k u) (add-one here) y)))

  pub all_of_them : (rest : List ℕ) (here : ℕ) (t : List ℕ) → rest ≡ [] → SoFar rest here t → ListsBlocks bytes place t
  all_of_them rest here t h f = subst (ListsBlocks bytes place) (append-nil t) (f [] (subst (λ (bs : List ℕ). ListsBlocks bs here []) (sym h) none))

-- What the listing of a run is at its edges: no bytes, a short last piece, and pieces of whole blocks one after another. Assumes nothing.
use Rattle.std.proofs.Common.{◌≡◌, ℕ, zero, suc, ◌+◌, ◌*◌, ◌<◌, ◌≤◌, List, [], ◌++◌, length, drop, sym, refl, ap, ◌∙◌, subst, append_assoc, append-nil, arith, length-append, length-drop, drop_of_length-le, take_all}
use lib.Seq.{take-append-le, drop-append-le}
use Rattle.bounds.specs.declared.refusal.Refusal.{Refusal}
use Rattle.bounds.proofs.Verdicts.{refused_as}
use Rattle.sheet.proofs.Passing.{other_size}
use Rattle.listing.specs.Listing.{most, ListsBlock}
use Rattle.lister.specs.Runs.{ListsBlocks, none, some}
use Rattle.listing.specs.Text.{IsRefusedLine}

-- empty input prints nothing
pub nothing_listed : {i : ℕ} {t : List ℕ} → ListsBlocks [] i t → t ≡ []
nothing_listed none = refl
nothing_listed (some t h x r) = absurd (omega arith)

-- a short piece is refused 7
short_block : (block : List ℕ) (i : ℕ) (t : List ℕ) → length block < 512 → ListsBlock block i t → IsRefusedLine i Refusal.Size t
unfolding ListsBlock
short_block block i t h x = refused_as Refusal.Size (sym (other_size block most (λ (q : length block ≡ 512). omega arith))) x

pub short_listed : {bytes : List ℕ} {i : ℕ} {t : List ℕ} → 0 < length bytes → length bytes < 512 → ListsBlocks bytes i t → IsRefusedLine i Refusal.Size t
short_listed h l none = absurd (omega arith)
short_listed {bytes = bytes} {i = i} h l (some {u = u} t k x r) =
    let few : length bytes ≤ 512 = omega arith in
    let nothing = nothing_listed (subst (λ (bs : List ℕ). ListsBlocks bs (suc i) u) (drop_of_length-le bytes few) r) in
    let first = short_block bytes i t l (subst (λ (bs : List ℕ). ListsBlock bs i t) (take_all 512 bytes few) x) in
    subst (IsRefusedLine i Refusal.Size) (sym (append-nil t) ∙ ap (λ (v : List ℕ). t ++ v) (sym nothing)) first

-- whole blocks, and then others: the listing of each part from its own place is, put together, the listing of both
pub pieces_joined : (k : ℕ) {a b t u : List ℕ} {i : ℕ} → length a ≡ 512 * k → ListsBlocks a i t → ListsBlocks b (i + k) u → ListsBlocks (a ++ b) i (t ++ u)
pieces_joined k {b = b} {u = u} {i = i} e none y = let q : i + k ≡ i = omega arith in subst (λ (j : ℕ). ListsBlocks b j u) q y
pieces_joined zero e (some t h x r) y = absurd (omega arith)
pieces_joined (suc k) {a = a} {b = b} {u = v} {i = i} e (some {u = u} t h x r) y =
    let whole : 512 ≤ length a = omega arith in
    let left : length (drop 512 a) ≡ 512 * k = omega (arith, length-drop 512 a) in
    let next : i + suc k ≡ suc i + k = omega arith in
    let any : 0 < length (a ++ b) = omega (arith, length-append a b) in
    let rest = pieces_joined k left r (subst (λ (j : ℕ). ListsBlocks b j v) next y) in
    subst (ListsBlocks (a ++ b) i) (sym (append_assoc t u v))
    (some t any (subst (λ (bs : List ℕ). ListsBlock bs i t) (sym (take-append-le 512 a b whole)) x) (subst (λ (bs : List ℕ). ListsBlocks bs (suc i) (u ++ v)) (sym (drop-append-le 512 a b whole)) rest))

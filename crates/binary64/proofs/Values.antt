-- A number that has the value of a fraction has that of every equal fraction; what equals itself is no NaN. Assumes nothing.
use mathlib.Core.Path.{◌≡◌, sym, ap, ◌∙◌}
use mathlib.Core.Bool.{Bool, false, not, true≢false}
use Prim.Native.Nat.{ℕ, ◌*◌, ◌<◌}
use native.Mathlib.Nat.{mul_right_comm, eq_of_mul-eq-mul_right}
use lib.Dec.{T}
use lib.Ieee.{Float, nan, inf, fin, up, down, ne, is_nan}
use lib.Ieee.Compare.{nan_differs}
use lib.Ieee.Exact.{HasValue}

pub value_same : (x : Float) (s : Bool) (a c a' c' : ℕ) → 0 < c → a * c' ≡ a' * c → HasValue x s a c → HasValue x s a' c'
value_same nan s a c a' c' some q h = h
value_same (inf t) s a c a' c' some q h = h
value_same (fin t m e) s a c a' c' some q h = (
  h.0,
  eq_of_mul-eq-mul_right c some (m * up e * c') (a' * down e)
      (mul_right_comm (m * up e) c' c ∙ ap (λ (z : ℕ). z * c') h.1 ∙ mul_right_comm a (down e) c' ∙ ap (λ (z : ℕ). z * down e) q ∙ mul_right_comm a' c (down e)),
)

pub equals_itself : (x : Float) → ne x x ≡ false → T (not (is_nan x))
unfolding is_nan
equals_itself nan h = absurd (true≢false (sym nan_differs ∙ h))
equals_itself (inf t) h = tt
equals_itself (fin t m e) h = tt

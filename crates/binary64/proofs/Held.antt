-- A value that a format holds is known by its sign and its size: its bits turn on them alone. Assumes nothing.
use mathlib.Core.Path.{◌≡◌, sym, ap, ◌∙◌}
use mathlib.Core.Bool.{Bool, cond}
use Prim.Native.Nat.{ℕ, ◌+◌, ◌-◌, ◌*◌, ◌/◌, ◌^◌, ◌<◌}
use native.Mathlib.Nat.{mul_right_comm}
use lib.Dec.{T}
use lib.Ieee.{Float, nan, inf, fin, Format, prec, low, up, down, size, fits, hid, top, of_bits, to_bits}
use lib.Ieee.Bits.{of_bits-to_bits}
use lib.Ieee.Exact.{HasValue}
use lib.Ieee.Fits.{down_pos}
use lib.Ieee.Nearest.{div_same}

-- n is the size in units of the format's smallest value
abbrev pattern : Format → Bool → ℕ → ℕ
pattern f s n = cond s (top f) 0 + (size n - prec f) * hid f + n / 2 ^ (size n - prec f)

bits_by_size : (f : Format) (x : Float) (s : Bool) (a c : ℕ) → 0 < c → HasValue x s a c → to_bits f x ≡ pattern f s (a * 2 ^ low f / c)
unfolding to_bits
bits_by_size f nan s a c some h = absurd h
bits_by_size f (inf t) s a c some h = absurd h
bits_by_size f (fin t m e) s a c some h =
    ap (λ (u : Bool). pattern f u (m * up e * 2 ^ low f / down e)) h.0
    ∙ ap (pattern f s)
    (div_same (m * up e * 2 ^ low f) (down e) (a * 2 ^ low f) c (down_pos e) some
    (mul_right_comm (m * up e) (2 ^ low f) c ∙ ap (λ (z : ℕ). z * 2 ^ low f) h.1 ∙ mul_right_comm a (down e) (2 ^ low f)))

pub value_one : (f : Format) (x y : Float) (s : Bool) (a c : ℕ) → 0 < c → T (fits f x) → T (fits f y) → HasValue x s a c → HasValue y s a c → x ≡ y
value_one f x y s a c some p q h k =
    sym (of_bits-to_bits f x p) ∙ ap (of_bits f) (bits_by_size f x s a c some h ∙ sym (bits_by_size f y s a c some k)) ∙ of_bits-to_bits f y q

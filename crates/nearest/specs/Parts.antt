-- What the parts of `nearest` answer: how strings begin, on which side of a midpoint a size lies, and which word is chosen so. All serve private
-- functions.
use Rattle.std.specs.Prelude.{◌≡◌, Option, Some, None, Bool, true, false, cond, eqb, ◌⊎◌, ℕ, suc, ◌+◌, ◌-◌, ◌*◌, ◌/◌, ◌%◌, ◌^◌, ◌≤◌, ◌<◌, ℤ, pos, ◌+ℤ◌}
use Rattle.std.specs.Int.Signed.{mag}
use Rattle.std.specs.declared.cmp.Ordering.{Ordering}
use Rattle.std.specs.declared.cmp.Ordering.TheVariants.{Less, Equal, Greater}
use Rattle.bounds.specs.declared.answer.Written.{Written}
use Rattle.bounds.specs.declared.saying.Saying.{Saying}
use Rattle.bounds.specs.declared.saying.Saying.TheVariants.{Exact, Below, Above}
use Rattle.bounds.specs.Sayings.{opposite_saying}
use Rattle.word.specs.Orders.{negated}
use Rattle.word.specs.Takum as Takum
use Rattle.nearest.specs.declared.size.Rest.{Rest}
use Rattle.nearest.specs.declared.start.Characteristic.{Characteristic}
use Rattle.nearest.specs.declared.start.Start.{Start}
use Rattle.nearest.specs.Offers.{Amounts, IsNearest}
use Rattle.nearest.specs.Sayings.{SaysOffered}

-- whether h is a characteristic, from -255 to 254
abbrev pub IsCharacteristic : ℤ → Option Characteristic → Type 0
IsCharacteristic h (Some c) = c.c ≡ h
IsCharacteristic h None = 254 < mag h

-- every string of 64 bits that begins with sign 0 and these bits has this regime and the characteristic c
pub record Begins (c : ℤ) (bits r : ℕ) : Type 0 where
  pub regime : r ≤ 7
  pub sign : (f : ℕ) → f < 2 ^ (59 - r) → Takum.S 64 (bits * 2 ^ (59 - r) + f) ≡ 0
  pub has_regime : (f : ℕ) → f < 2 ^ (59 - r) → Takum.r 64 (bits * 2 ^ (59 - r) + f) ≡ r
  pub has_characteristic : (f : ℕ) → f < 2 ^ (59 - r) → Takum.c 64 (bits * 2 ^ (59 - r) + f) ≡ c

-- the start of the characteristic size - 1, its regime being floor(log2 size)
pub record StartsAbove (size : ℕ) (start : Start) : Type 0 where
  pub low : 2 ^ start.r ≤ size
  pub high : size < 2 ^ suc start.r
  pub bits : start.bits ≡ (7 + start.r) * 2 ^ start.r + size

-- the start with every bit turned
pub record IsTurned (start turned : Start) : Type 0 where
  pub bits : turned.bits ≡ 2 ^ (4 + start.r) - 1 - start.bits
  pub r : turned.r ≡ start.r

-- the first 64 bits of the string of a size with significand m
unfoldable pub first_bits : Start → ℕ → ℕ
first_bits start m = start.bits * 2 ^ (59 - start.r) + (m - 2 ^ 63) / 2 ^ (4 + start.r)

-- a side tells how x compares with y
unfoldable pub TellsSide : Ordering → ℕ → ℕ → Type 0
TellsSide Less x y = x < y
TellsSide Equal x y = x ≡ y
TellsSide Greater x y = y < x

-- beyond + rest against half, whatever both are added to
unfoldable pub TellsHalf : ℕ → ℕ → Rest → Ordering → Type 0
TellsHalf beyond half rest side = (base unit a : ℕ) → 0 < unit → Amounts (base + beyond) rest a unit → TellsSide side a ((base + half) * unit)

-- low or low + 1 as the side tells, halfway the one whose lowest bit is 0
abbrev pub chosen_of : ℕ → Ordering → ℕ
chosen_of low Less = low
chosen_of low Equal = low + low % 2
chosen_of low Greater = low + 1

-- how far the bits that are cut off may stay under a half for low + 1 to be chosen, in units too small to matter
abbrev pub margin_of : ℕ → Rest → ℕ
margin_of low Rest.Nothing = low % 2
margin_of low Rest.UnderHalf = 1
margin_of low Rest.Half = 1
margin_of low Rest.OverHalf = 1

-- what is chosen by the bits cut off: they are `beyond`, shifted to the top of 64 bits, and a half stands there as 2^63
unfoldable pub ChoosesByCut : ℕ → ℕ → Rest → ℕ → Type 0
ChoosesByCut low cut rest w = (t beyond half : ℕ) → cut ≡ beyond * 2 ^ t → 2 ^ 63 ≡ half * 2 ^ t → (side : Ordering) × TellsHalf beyond half rest side × (w ≡ chosen_of low side)

-- an exponent from -255 to 254 (`mag` of it is at most 254) raised by 255, so that it isn't negative
unfoldable pub IsRaised : ℤ → ℕ → Type 0
IsRaised h e = h +ℤ pos 255 ≡ pos e

-- (m + rest) 2^(e - 63) against the midpoint of 2^i and 2^j: where the size is a, those two are y and z, in the same unit
unfoldable pub TellsPowers : ℕ → ℕ → ℕ → ℕ → Rest → Ordering → Type 0
TellsPowers i j e m rest side = (unit a : ℕ) → 0 < unit → Amounts m rest a unit → (y z : ℕ) → y * 2 ^ e ≡ 2 ^ (63 + i) * unit → z * 2 ^ e ≡ 2 ^ (63 + j) * unit → TellsSide side (2 * a) (y + z)

abbrev pub is_none : Rest → Bool
is_none Rest.Nothing = true
is_none Rest.UnderHalf = false
is_none Rest.Half = false
is_none Rest.OverHalf = false

-- whether a size ends with its first 64 bits, `bits`, and these with the word low: nothing is cut off, neither of the string nor of the significand, whose
-- lowest 4 + r bits the string leaves out, and there is no rest
unfoldable pub TellsEnd : ℕ → ℕ → ℕ → ℕ → ℕ → Rest → Bool → Type 0
TellsEnd n low bits r m rest true = (bits ≡ low * 2 ^ (64 - n)) × (m % 2 ^ (4 + r) ≡ 0) × (rest ≡ Rest.Nothing)
TellsEnd n low bits r m rest false = (bits ≡ low * 2 ^ (64 - n) → ⊥) ⊎ ((0 < m % 2 ^ (4 + r)) ⊎ (rest ≡ Rest.Nothing → ⊥))

-- whether nothing is cut off of a fraction
unfoldable pub TellsNothing : ℕ → Rest → Bool → Type 0
TellsNothing cut rest true = (cut ≡ 0) × (rest ≡ Rest.Nothing)
TellsNothing cut rest false = (0 < cut) ⊎ (rest ≡ Rest.Nothing → ⊥)

-- the nearest positive word, low being the last one that is not above the size, and what is said of it where the size is exactly low or isn't
abbrev pub beside : ℕ → ℕ → Bool → Written
beside low word exact = record { word = word; saying = cond exact Exact (cond (eqb word low) Below Above) }

-- the nearest positive word, and what is said of it beside every exact size that is so offered
pub record IsNear (n : ℕ) (h : ℤ) (m : ℕ) (rest : Rest) (near : Written) : Type 0 where
  pub is : IsNearest n h m rest near.word
  pub lies : SaysOffered n false h m rest near.word near.saying

-- the word with the sign, and what is said of it then
unfoldable pub with_sign : ℕ → Bool → ℕ → ℕ
with_sign n negative w = cond negative (negated n w) w

abbrev pub signed_saying : Bool → Saying → Saying
signed_saying negative s = cond negative (opposite_saying s) s

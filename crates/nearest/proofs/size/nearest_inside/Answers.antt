-- `nearest_inside` meets its contract: the cut of the first bits is the word at or below, and the side of the midpoint decides. Assumes nothing.
use mathlib.Core.Bool.{Bool, true, false}
use mathlib.Core.Path.{◌≡◌, sym, ap, ◌∙◌, subst}
use Prim.Native.Nat.{ℕ, zero, ◌+◌, ◌-◌, ◌*◌, ◌/◌, ◌%◌, ◌^◌, ◌≤◌, ◌<◌}
use Rattle.std.proofs.Common.{rules}
use native.Mathlib.Omega.{arith}
use native.Mathlib.Nat.{lt_of_lt_of_le}
use lib.Pow.{pow_mono}
use lib.IntN.{ℤ}
use lib.Signed.{mag}
use Rattle.bounds.specs.Widths.{largest}
use Rattle.word.specs.Takum as Takum
use Rattle.bounds.specs.declared.saying.Saying.{Saying}
use Rattle.nearest.specs.declared.size.Rest.{Rest}
use Rattle.std.specs.declared.cmp.Ordering.{Ordering}
use Rattle.nearest.specs.declared.start.Start.{Start}
use Rattle.nearest.proofs.Hub as Hub
use Rattle.nearest.proofs.Hub.{two_shifts, below_end, at_zero, at_end, by_powers, by_cut}
use Rattle.nearest.proofs.Sayings.{LowTells, by_end, by_nothing, said_short, said_beyond, said_largest, said_beside}
use Rattle.nearest.proofs.Sides.{Given, lower_lt, gap_le, upper_small, under_upper}
use Rattle.nearest.proofs.Exponents.{raise, raised_inj}
use Rattle.nearest.specs.Parts.{Begins, first_bits, IsRaised, TellsPowers, ChoosesByCut, TellsEnd, TellsNothing, chosen_of, beside, IsNear}
use Rattle.nearest.proofs.size.nearest_inside.Goals as goal
use Rattle.nearest.proofs.size.nearest_inside.Goals.{After-first_bits-bits, Else-low-largest}

-- what is known of the first bits
record Cut (n : ℕ) (h : ℤ) (m : ℕ) (start : Start) (bits : ℕ) : Type 0 where
  lo : 2 ≤ n
  hi : n ≤ 64
  full : 2 ^ 63 ≤ m
  near : mag h ≤ 254
  top : m < 2 ^ 64
  begins : Begins h start.bits start.r
  bits_is : bits ≡ first_bits start m

-- an exponent as it was raised
raised_result : (h : ℤ) (near : mag h ≤ 254) (e : ℕ) → IsRaised h e → e ≡ (raise h near).0
unfolding IsRaised
raised_result h near e is = raised_inj h e (raise h near).0 is (raise h near).1

-- the word at or below, cut from the bits
abbrev low : ℕ → ℕ → ℕ
low n bits = bits / 2 ^ (64 - n)

module _ (n : ℕ) (h : ℤ) (m : ℕ) (start : Start) (bits : ℕ) (k : Cut n h m start bits) (rest : Rest) where
  abbrev e : ℕ
  e = (raise h k.near).0

  raised_is : IsRaised h e
  unfolding IsRaised
  raised_is = (raise h k.near).1

  is : low n bits ≡ first_bits start m / 2 ^ (64 - n)
  is = ap (λ (x : ℕ). x / 2 ^ (64 - n)) k.bits_is

  ends : low n bits < 2 ^ (n - 1)
  ends = below_end n k.lo k.hi h e m rest start raised_is k.begins k.full k.top (low n bits) is

  -- not at the last word
  room : (low n bits ≡ 2 ^ (n - 1) - 1 → ⊥) → low n bits + 1 < 2 ^ (n - 1)
  room f = omega (arith, f, ends)

  -- below the first word
  short : low n bits ≡ 0 → IsNear n h m rest (record { word = 1; saying = Saying.PastTheEnd })
  short q =
      record {
        is = at_zero n k.lo k.hi h e m rest start raised_is k.begins k.full k.top (low n bits) is q;
        lies = said_short n k.lo k.hi h e m rest start raised_is k.begins k.full k.top (low n bits) is q;
      }

  -- what the test of the end tells of low
  told : zero < low n bits → (b : Bool) → TellsEnd n (low n bits) bits start.r m rest b → LowTells n k.lo k.hi h e m rest start raised_is k.begins k.full k.top (low n bits) is b
  told first b t =
      by_end n k.lo k.hi h e m rest start raised_is k.begins k.full k.top (low n bits) is first b (subst (λ (F : ℕ). TellsEnd n (low n bits) F start.r m rest b) k.bits_is t)

  -- at the largest word
  at_largest : zero < low n bits → low n bits ≡ 2 ^ (n - 1) - 1 → TellsEnd n (low n bits) bits start.r m rest true → IsNear n h m rest (beside (low n bits) (low n bits) true)
  at_largest first q t =
      record {
        is = at_end n k.lo k.hi h e m rest start raised_is k.begins k.full k.top (low n bits) is q;
        lies = said_largest n k.lo k.hi h e m rest start raised_is k.begins k.full k.top (low n bits) is q (told first true t);
      }

  beyond : zero < low n bits → low n bits ≡ 2 ^ (n - 1) - 1 → TellsEnd n (low n bits) bits start.r m rest false → IsNear n h m rest (record { word = low n bits; saying = Saying.PastTheEnd })
  beyond first q t =
      record {
        is = at_end n k.lo k.hi h e m rest start raised_is k.begins k.full k.top (low n bits) is q;
        lies = said_beyond n k.lo k.hi h e m rest start raised_is k.begins k.full k.top (low n bits) is q (told first false t);
      }

  -- between two words
  module _ (first : zero < low n bits) (inner : low n bits + 1 < 2 ^ (n - 1)) where
    -- the cut with what its two neighbours need
    given : Given n (low n bits) e m start
    given = Hub.given n k.lo k.hi h e m rest start raised_is k.begins k.full k.top (low n bits) is first (omega (arith, inner))

    -- where it falls in the regime or the characteristic
    coarse : (i j : ℕ) → n < 5 + start.r → IsRaised (Takum.c 64 (low n bits * 2 ^ (64 - n))) i → IsRaised (Takum.c 64 ((low n bits + 1) * 2 ^ (64 - n))) j → (f : ℕ) → f ≡ e → (side : Ordering) → TellsPowers i j f m rest side → (w : ℕ) → w ≡ chosen_of (low n bits) side → (exact : Bool) → TellsEnd n (low n bits) bits start.r m rest exact → IsNear n h m rest (beside (low n bits) w exact)
    coarse i j short i_is j_is f same side t w q exact x = let near = by_powers n k.lo k.hi h e m rest start raised_is k.begins k.full k.top (low n bits) is first (omega (arith, inner)) i j short i_is j_is w side (subst (λ (f : ℕ). TellsPowers i j f m rest side) same t) q in
        record { is = near; lies = said_beside n k.lo k.hi h e m rest start raised_is k.begins k.full k.top (low n bits) is first (omega (arith, inner)) w near exact (told first exact x) }

    -- where it falls in the fraction
    fine : 5 + start.r ≤ n → (cut : ℕ) → cut ≡ m * 2 ^ (n - start.r - 4) % 2 ^ 64 → (w : ℕ) → ChoosesByCut (low n bits) cut rest w → (exact : Bool) → TellsNothing cut rest exact → IsNear n h m rest (beside (low n bits) w exact)
    fine l cut same w t exact x = let near = by_cut n k.lo k.hi h e m rest start raised_is k.begins k.full k.top (low n bits) is first (omega (arith, inner)) l w (subst (λ (cut : ℕ). ChoosesByCut (low n bits) cut rest w) same t) in
        record {
          is = near;
          lies =
              said_beside n k.lo k.hi h e m rest start raised_is k.begins k.full k.top (low n bits) is first (omega (arith, inner)) w near exact
              (by_nothing n k.lo k.hi h e m rest start raised_is k.begins k.full k.top (low n bits) is first (omega (arith, inner)) l exact (subst (λ (cut : ℕ). TellsNothing cut rest exact) same x));
        }

-- low + 1 is no longer than the words are
next_lt : (n v j : ℕ) → n ≤ 64 → v + 1 < 2 ^ (n - 1) → 63 ≤ j → v + 1 < 2 ^ j
next_lt n v j hi room most = lt_of_lt_of_le room (pow_mono {i = n - 1} {j = j} (omega (arith, hi, most)))

-- what is known once the first bits are there, and that low isn't the last word
known : (c : After-first_bits-bits) → Cut c.args.width.bits c.args.h.c c.args.amount.m c.start-start.result c.first_bits-bits.result
known c =
    record {
      lo = c.args.width.least;
      hi = c.args.width.most;
      full = c.args.amount.normal;
      near = c.args.h.inside;
      top = search rules;
      begins = c.start-start.ensures;
      bits_is = c.first_bits-bits.ensures;
    }

inside : (c : Else-low-largest) → Cut c.args.width.bits c.args.h.c c.args.amount.m c.start-start.result c.first_bits-bits.result → low c.args.width.bits c.first_bits-bits.result + 1 < 2 ^ (c.args.width.bits - 1)
unfolding largest
inside c k = room c.args.width.bits c.args.h.c c.args.amount.m c.start-start.result c.first_bits-bits.result k c.args.amount.rest (λ q. c.if-low-largest.false (q ∙ sym c.largest.ensures))

pub returns-then-low-eq0 : goal.returns-then-low-eq0
returns-then-low-eq0 c =
    let k = known (goal.at.returns-then-low-eq0 c).After-first_bits-bits in
    subst (IsNear _ _ _ _) (sym c.end_word.ensures) (short c.args.width.bits c.args.h.c c.args.amount.m c.start-start.result c.first_bits-bits.result k c.args.amount.rest c.if-low-eq0.true)

pub ends_at-requires : goal.ends_at-requires
ends_at-requires c =
    let k = known (goal.at.ends_at-requires c).After-first_bits-bits in
    ends c.args.width.bits c.args.h.c c.args.amount.m c.start-start.result c.first_bits-bits.result k c.args.amount.rest

pub returns-then-ends_at : goal.returns-then-ends_at
unfolding largest
returns-then-ends_at c =
    let k = known (goal.at.returns-then-ends_at c).After-first_bits-bits in
    let first : zero < low c.args.width.bits c.first_bits-bits.result = omega arith in
    subst (IsNear _ _ _ _) (sym c.beside.ensures)
    (at_largest c.args.width.bits c.args.h.c c.args.amount.m c.start-start.result c.first_bits-bits.result k c.args.amount.rest first (c.if-low-largest.true ∙ c.largest.ensures) (subst (TellsEnd c.args.width.bits (low c.args.width.bits c.first_bits-bits.result) c.first_bits-bits.result c.start-start.result.r c.args.amount.m c.args.amount.rest) c.if-ends_at.true c.ends_at.ensures))

pub returns-then-low-largest : goal.returns-then-low-largest
unfolding largest
returns-then-low-largest c =
    let k = known (goal.at.returns-then-low-largest c).After-first_bits-bits in
    let first : zero < low c.args.width.bits c.first_bits-bits.result = omega arith in
    subst (IsNear _ _ _ _) (sym c.end_word-then-low-largest.ensures)
    (beyond c.args.width.bits c.args.h.c c.args.amount.m c.start-start.result c.first_bits-bits.result k c.args.amount.rest first (c.if-low-largest.true ∙ c.largest.ensures) (subst (TellsEnd c.args.width.bits (low c.args.width.bits c.first_bits-bits.result) c.first_bits-bits.result c.start-start.result.r c.args.amount.m c.args.amount.rest) c.if-ends_at.false c.ends_at.ensures))

pub exponent-requires : goal.exponent-requires
exponent-requires c =
    let k = known (goal.at.exponent-requires c).After-first_bits-bits in
    let first : zero < low c.args.width.bits c.first_bits-bits.result = omega arith in
    (first, ends c.args.width.bits c.args.h.c c.args.amount.m c.start-start.result c.first_bits-bits.result k c.args.amount.rest)

pub overflow_add-low : goal.overflow_add-low
overflow_add-low c =
    let k = known (goal.at.overflow_add-low c).After-first_bits-bits in
    let inner = inside (goal.at.overflow_add-low c).Else-low-largest k in
    record { fits = next_lt c.args.width.bits _ 64 k.hi inner (omega arith) }

pub exponent-requires-then-n-start : goal.exponent-requires-then-n-start
exponent-requires-then-n-start c =
    let k = known (goal.at.exponent-requires-then-n-start c).After-first_bits-bits in
    let inner = inside (goal.at.exponent-requires-then-n-start c).Else-low-largest k in
    (omega arith, inner)

pub side_of_powers-side-requires : goal.side_of_powers-side-requires
side_of_powers-side-requires c =
    let k = known (goal.at.side_of_powers-side-requires c).After-first_bits-bits in
    let first : zero < low c.args.width.bits c.first_bits-bits.result = omega arith in
    let inner = inside (goal.at.side_of_powers-side-requires c).Else-low-largest k in
    let g = given c.args.width.bits c.args.h.c c.args.amount.m c.start-start.result c.first_bits-bits.result k c.args.amount.rest first inner in
    let short = c.if-n-start.true in
    let i = c.exponent.ensures in
    let j = c.exponent-then-n-start.ensures in
    (lower_lt _ _ _ _ _ g short _ _ i j, gap_le _ _ _ _ _ g short _ _ i j, subst (λ (e : ℕ). e < c.exponent-then-n-start.result) (sym (raised_result c.args.h.c k.near _ c.raised.ensures)) (under_upper _ _ _ _ _ g short _ _ i j), upper_small _ _ _ _ _ g short _ _ i j)

pub chosen-word-requires : goal.chosen-word-requires
chosen-word-requires c =
    let k = known (goal.at.chosen-word-requires c).After-first_bits-bits in
    let inner = inside (goal.at.chosen-word-requires c).Else-low-largest k in
    next_lt c.args.width.bits _ 63 k.hi inner (omega arith)

pub ends_at-requires-then-n-start : goal.ends_at-requires-then-n-start
ends_at-requires-then-n-start c =
    let k = known (goal.at.ends_at-requires-then-n-start c).After-first_bits-bits in
    ends c.args.width.bits c.args.h.c c.args.amount.m c.start-start.result c.first_bits-bits.result k c.args.amount.rest

pub returns-then-n-start : goal.returns-then-n-start
returns-then-n-start c =
    let k = known (goal.at.returns-then-n-start c).After-first_bits-bits in
    let first : zero < low c.args.width.bits c.first_bits-bits.result = omega arith in
    let inner = inside (goal.at.returns-then-n-start c).Else-low-largest k in
    subst (IsNear _ _ _ _) (sym c.beside-then-n-start.ensures)
    (coarse c.args.width.bits c.args.h.c c.args.amount.m c.start-start.result c.first_bits-bits.result k c.args.amount.rest first inner _ _ c.if-n-start.true c.exponent.ensures c.exponent-then-n-start.ensures _ (raised_result c.args.h.c k.near _ c.raised.ensures) _ c.side_of_powers-side.ensures _ c.chosen-word.ensures _ c.ends_at-then-n-start.ensures)

pub chosen-requires : goal.chosen-requires
chosen-requires c =
    let k = known (goal.at.chosen-requires c).After-first_bits-bits in
    let inner = inside (goal.at.chosen-requires c).Else-low-largest k in
    next_lt c.args.width.bits _ 63 k.hi inner (omega arith)

pub returns : goal.returns
returns c =
    let k = known (goal.at.returns c).After-first_bits-bits in
    let first : zero < low c.args.width.bits c.first_bits-bits.result = omega arith in
    let inner = inside (goal.at.returns c).Else-low-largest k in
    let kept = c.args.width.bits - c.start-start.result.r in
    let shifts = two_shifts c.args.amount.m (kept - 5) (kept - 4) (omega (arith, k.hi)) (omega (arith, c.if-n-start.false)) in
    subst (IsNear _ _ _ _) (sym c.beside-2.ensures) (fine c.args.width.bits c.args.h.c c.args.amount.m c.start-start.result c.first_bits-bits.result k c.args.amount.rest first inner c.if-n-start.false _ shifts _ c.chosen.ensures _ c.is_nothing.ensures)

-- The invariant of the loop of `fill_with_digits`: the digits from place i on stand, and the rest of the number gives those in front of them.
use Rattle.std.proofs.Common.{◌≡◌, ◌++◌, ◌-◌, ◌/◌, ◌^◌, length, take}
use Rattle.io.specs.Digits.{last_digits}
use Rattle.listing.proofs.text.fill_with_digits.Given as goal

abbrev pub invariant-loop-i : goal.invariant-loop-i
invariant-loop-i l =
    (l.places ≡ take l.i l.initial.places ++ last_digits l.base (length l.initial.places - l.i) l.n) × (l.rest ≡ l.n / l.base ^ (length l.initial.places - l.i))

-- The run that a read makes whole: it lies in the buffer, and the place after it is that of the next block. Assumes nothing.
use Rattle.std.proofs.Common.{◌≡◌, ℕ, zero, suc, ◌+◌, ◌-◌, ◌*◌, ◌/◌, ◌%◌, ◌<◌, ◌≤◌, List, length, drop, ap, ◌∙◌, arith, length-drop, length-take-le, ne_eqb}
use Rattle.lister.specs.Arrived.{whole_blocks, until, arrived}
use Rattle.lister.specs.Runs.{blocks}

-- where bytes came, the run ends with the last whole block
some_came : (end got : ℕ) → until end (suc got) ≡ whole_blocks end
unfolding until
some_came end got = rw (ne_eqb (suc got) 0 (λ e. absurd (omega arith)))

pub within : (have got : ℕ) → have + got ≤ 8192 → (whole_blocks have ≤ until (have + got) got) × (until (have + got) got ≤ 8192)
unfolding until
within have zero h = (omega arith, omega arith)
within have (suc got) h = let e = some_came (have + suc got) got in
    (omega (arith, e), omega (arith, e))

pub run_length : (total got : ℕ) (buffer : List ℕ) → length buffer ≡ 8192 → total % 8192 + got ≤ 8192 → length (arrived total got buffer) ≡ until (total % 8192 + got) got - whole_blocks (total % 8192)
unfolding arrived
run_length total got buffer l h =
    let start = whole_blocks (total % 8192) in
    let end = until (total % 8192 + got) got in
    let few : end - start ≤ length (drop start buffer) = omega (arith, l, length-drop start buffer, (within (total % 8192) got h).1) in
    length-take-le (end - start) (drop start buffer) few

-- whole blocks, counted
counted : (n have : ℕ) → blocks (whole_blocks n - whole_blocks have) ≡ n / 512 - have / 512
counted n have = let a : whole_blocks n ≡ 512 * (n / 512) = omega arith in
    let b : whole_blocks have ≡ 512 * (have / 512) = omega arith in
    rw (a, b) (difference (n / 512) (have / 512))
  where
    difference : (a b : ℕ) → blocks (512 * a - 512 * b) ≡ a - b
    difference a b = omega arith

-- 16 blocks for each round of the buffer, and those of the rest
rounds : (total got : ℕ) → (total + got) / 512 ≡ 16 * (total / 8192) + (total % 8192 + got) / 512
rounds total got = omega arith

-- the place after the last run, a piece of a block having counted, and after any other
pub place_at_the_end : (total got : ℕ) → got ≡ 0 → total / 512 + blocks (until (total % 8192 + got) got - whole_blocks (total % 8192)) ≡ blocks total
unfolding until
place_at_the_end total zero h = omega arith
place_at_the_end total (suc got) h = absurd (omega arith)

pub place_after : (total got : ℕ) → 0 < got → total / 512 + blocks (until (total % 8192 + got) got - whole_blocks (total % 8192)) ≡ (total + got) / 512
place_after total zero h = absurd (omega arith)
place_after total (suc got) h =
    let have = total % 8192 in
    let n = have + suc got in
    let run = ap (λ (e : ℕ). blocks (e - whole_blocks have)) (some_came n got) ∙ counted n have in
    let more : have / 512 ≤ n / 512 = omega arith in
    let before : total / 512 ≡ 16 * (total / 8192) + have / 512 = omega arith in
    omega (arith, run, more, before, rounds total (suc got))

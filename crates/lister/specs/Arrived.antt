-- What the lister lists after a read. Byte number n of the input stands at place n % 8192 of a buffer of 16 blocks, which is filled round and round.
use Rattle.std.specs.Prelude.{ℕ, ◌+◌, ◌-◌, ◌%◌, cond, List, take, drop, ◌==◌}

-- of n bytes of blocks, those of the whole ones
abbrev pub whole_blocks : ℕ → ℕ
whole_blocks n = n - n % 512

-- up to where blocks can be listed, if the bytes end at `end`: the whole ones; but all where no byte came, since the input has ended then
unfoldable pub until : ℕ → ℕ → ℕ
until end got = cond (got == 0) end (whole_blocks end)

-- what is listed once `got` bytes came behind the `total` before: from the block on that was not whole before
unfoldable pub arrived : ℕ → ℕ → List ℕ → List ℕ
arrived total got buffer = take (until (total % 8192 + got) got - whole_blocks (total % 8192)) (drop (whole_blocks (total % 8192)) buffer)

-- A sheet block: 512 bytes, numbers little-endian (paper 01).
use Rattle.std.specs.Prelude.{ℕ, zero, suc, ◌+◌, ◌*◌, ◌/◌, ◌<◌, List, [], ◌∷◌, take, drop, slice_index}
use Rattle.std.proofs.Math.Seq.{slice}

-- what every list of bytes has
unfoldable pub AreBytes : List ℕ → Type 0
AreBytes bytes = (j : ℕ) → slice_index bytes j < 256

-- the number that bytes are, little-endian
unfoldable pub number : List ℕ → ℕ
number [] = 0
number (b ∷ bytes) = b + 256 * number bytes

-- the number in the k bytes from byte i on
unfoldable pub number_at : ℕ → ℕ → List ℕ → ℕ
number_at k i bytes = number (take k (drop i bytes))

-- n numbers of k bytes each, packed
unfoldable pub packed : ℕ → ℕ → List ℕ → List ℕ
packed k zero bytes = []
packed k (suc n) bytes = number (take k bytes) ∷ packed k n (drop k bytes)

-- the bytes that a word of width 8, 16, 32 or 64 has; only private functions' contracts cite it
pub data IsWordBytes : ℕ → Type 0 where
  one : IsWordBytes 1
  two : IsWordBytes 2
  four : IsWordBytes 4
  eight : IsWordBytes 8

module _ (block : List ℕ) where
  -- Byte 0: 0x54.
  unfoldable pub mark : ℕ
  mark = slice_index block 0

  -- Byte 1: width.
  unfoldable pub width : ℕ
  width = slice_index block 1

  -- Bytes 2 to 3: the count of words.
  unfoldable pub count : ℕ
  count = number_at 2 2 block

  -- Bytes 4 to 7: block number.
  unfoldable pub block_number : ℕ
  block_number = number_at 4 4 block

  -- Bytes 8 to 503: words, packed from byte 8, the rest zero.
  -- the bytes that a word has
  unfoldable pub word_bytes : ℕ
  word_bytes = width / 8

  unfoldable pub words : List ℕ
  words = packed word_bytes count (drop 8 block)

  -- the first byte after them, and the rest
  unfoldable pub end : ℕ
  end = 8 + word_bytes * count

  unfoldable pub unused : List ℕ
  unused = slice end 504 block

  -- Bytes 504 to 507: A. Bytes 508 to 511: B.
  unfoldable pub A : ℕ
  A = number_at 4 504 block

  unfoldable pub B : ℕ
  B = number_at 4 508 block

  -- Bytes 0 to 503 as 126 numbers of 32 bits.
  unfoldable pub numbers : List ℕ
  numbers = packed 4 126 block

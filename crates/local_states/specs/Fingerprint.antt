-- A key's fingerprint: its numbers mixed into one.
use Rattle.std.specs.Prelude.{ℕ, ◌+◌, ◌*◌, ◌/◌, ◌%◌, ◌^◌, bit_xor, List, fold}

-- the sum of a number and a word, and one, spread over 64 bits
abbrev pub spread : ℕ → ℕ → ℕ
spread print word = ((((print + word) % (2 ^ 64)) + 1) % (2 ^ 64) * 0x9E37_79B9_7F4A_7C15) % (2 ^ 64)

-- the fingerprint with one word more: its upper bits are mixed into the lower ones
unfoldable pub with_word : ℕ → ℕ → ℕ
with_word print word = bit_xor (spread print word) (spread print word / 2 ^ 29)

-- with these words more
abbrev pub mixed : ℕ → List ℕ → ℕ
mixed print words = fold with_word print words

-- Parity of a 64-bit word (document 01, "Parity, lanes, levels"; the standard's 2.1, item 19).
-- Odd: a byte and its parity bit together hold an odd count of ones. Which byte is byte 0, and the weights, are house rules.
use Rattle.std.specs.Prelude.{ℕ, ◌+◌, ◌-◌, ◌/◌, ◌%◌, ◌^◌, ◌≡◌}
use Rattle.numeric.specs.Bits.{sum_below, bit_at, ones_below, from_bits}
use Rattle.bus.specs.declared.parity.Checked.{Checked}

-- byte k of a word; byte 0 is the most significant
unfoldable pub byte_at : ℕ → ℕ → ℕ
byte_at k word = word / 256 ^ (7 - k) % 256

-- the bit that makes a byte's count of ones odd
unfoldable pub parity_bit : ℕ → ℕ
parity_bit byte = 1 - ones_below 8 byte % 2

-- the eight parity bits; byte 0's has weight 1, byte 7's has weight 128
unfoldable pub parity_of : ℕ → ℕ
parity_of word = from_bits 8 (λ k. parity_bit (byte_at k word))

-- 1 where the count of ones of a byte and its parity bit is not odd
unfoldable pub wrong_bit : ℕ → ℕ → ℕ
wrong_bit byte bit = 1 - (ones_below 8 byte + bit) % 2

-- whether byte k of a word is wrong beside a set of parity bits, as 1 or 0
unfoldable pub wrong_at : ℕ → ℕ → ℕ → ℕ
wrong_at word set k = wrong_bit (byte_at k word) (bit_at k set)

-- the set of wrong bytes, in the same weights
unfoldable pub wrong_of : ℕ → ℕ → ℕ
wrong_of word set = from_bits 8 (wrong_at word set)

-- the set of wrong bytes, and how many bytes are wrong
unfoldable pub check_of : ℕ → ℕ → Checked
check_of word set = record { wrong = wrong_of word set; count = sum_below 8 (wrong_at word set) }

-- byte 0 of the word has one 1 and the others none: beside no parity bit the other seven are wrong
unfoldable pub SevenWrong : Type 0
SevenWrong = check_of 0x0100_0000_0000_0000 0 ≡ record { wrong = 254; count = 7 }

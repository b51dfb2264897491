-- Laws of parity: a word beside its own parity bits has no wrong byte, and one bit the other way, in the word or in the set,
-- changes the answer in that byte's bit alone.
use Prim.Native.Nat.{ℕ, ◌+◌, ◌-◌, ◌*◌, ◌/◌, ◌%◌, ◌^◌, ◌≤◌, ◌<◌}
use mathlib.Core.Path.{◌≡◌, refl, sym, ap, ap₂, ◌∙◌}
use native.Mathlib.Nat.{lt_of_lt_of_le}
use native.Mathlib.Omega.{arith}
use lib.Pow.{pow_mono, shl_exact, shr-shr, field, mod-mod-pow}
use lib.Count.{ones, ones_step}
use Rattle.numeric.specs.Bits.{sum_below, bit_at, ones_below, from_bits, flipped}
use Rattle.bus.specs.Parity.{byte_at, parity_bit, parity_of, wrong_bit, wrong_at, wrong_of, check_of, SevenWrong}
use Rattle.bus.proofs.ByteLaws.{pow_bytes}
use Rattle.numeric.proofs.BitsLaws.{ones_count, from_step, from_none, from_lt, sum_same, sum_zero, sum_but, bit_of_zero, bit_from, ones_from, bit_flip, bit_other, from_flip}

-- a byte and its parity bit together have an odd count of ones
pub parity_odd : (byte : ℕ) → (ones_below 8 byte + parity_bit byte) % 2 ≡ 1
unfolding parity_bit
parity_odd byte = omega arith

pub wrong_lt : (byte bit : ℕ) → wrong_bit byte bit < 2
unfolding wrong_bit
wrong_lt byte bit = omega arith

pub wrong_at_lt : (word set k : ℕ) → wrong_at word set k < 2
unfolding wrong_at
wrong_at_lt word set k = wrong_lt (byte_at k word) (bit_at k set)

-- the parity bits are the bytes that are wrong beside the empty set
bit_of_wrong : (word k : ℕ) → parity_bit (byte_at k word) ≡ wrong_at word 0 k
unfolding parity_bit wrong_at wrong_bit
bit_of_wrong word k = omega (arith, bit_of_zero k)

pub parity_of_wrong : (word : ℕ) → parity_of word ≡ wrong_of word 0
unfolding parity_of wrong_of from_bits
parity_of_wrong word = sum_same 8 _ _ (λ k l. ap (λ (b : ℕ). b * 2 ^ k) (bit_of_wrong word k))

-- how many bytes are wrong: the ones of their set
count_of_ones : (word set : ℕ) → sum_below 8 (wrong_at word set) ≡ ones_below 8 (wrong_of word set)
unfolding wrong_of
count_of_ones word set = sym (ones_from 8 (wrong_at word set) (wrong_at_lt word set))

-- ---- what the code computes

-- the ones of a byte with its parity bit put beside it
ones_beside : (byte bit : ℕ) → byte < 256 → bit < 2 → ones (2 * byte + bit) ≡ ones_below 8 byte + bit
ones_beside byte bit l b =
    let half : (2 * byte + bit) / 2 ≡ byte = omega arith in
    omega (arith, ones_step (2 * byte + bit), ap ones half, ones_count 8 byte l)

pub wrong_of_ones : (byte bit : ℕ) → byte < 256 → bit < 2 → (ones (2 * byte + bit) + 1) % 2 ≡ wrong_bit byte bit
unfolding wrong_bit
wrong_of_ones byte bit l b = omega (arith, ones_beside byte bit l b)

pub wrong_fits : (word set k : ℕ) → k ≤ 8 → from_bits k (wrong_at word set) < 256
wrong_fits word set k l = lt_of_lt_of_le (from_lt k (wrong_at word set) (wrong_at_lt word set)) (pow_mono l)

-- the set of the wrong bytes before k, with what is found of byte k
module _ (word set k : ℕ) {wrong byte bit found : ℕ} (l : k < 8) (before : wrong ≡ from_bits k (wrong_at word set)) (at_byte : byte ≡ byte_at k word)
    (at_bit : bit ≡ bit_at k set) (judged : found ≡ wrong_bit byte bit) where
  found_is : found ≡ wrong_at word set k
  unfolding wrong_at
  found_is = judged ∙ ap₂ wrong_bit at_byte at_bit

  pub wrong_step : wrong + found * 2 ^ k % 2 ^ 32 ≡ from_bits (k + 1) (wrong_at word set)
  wrong_step =
      rw (before, found_is)
      (ap (λ (y : ℕ). from_bits k (wrong_at word set) + y) (shl_exact 1 k 32 (wrong_at_lt word set k) (omega arith))
      ∙ sym (from_step k (wrong_at word set)))

  pub wrong_step_fits : wrong + found * 2 ^ k % 2 ^ 32 < 256
  wrong_step_fits = rw wrong_step (wrong_fits word set (k + 1) (omega arith))

pub check_of_ones : (word set wrong : ℕ) → wrong ≡ wrong_of word set → record { wrong = wrong; count = ones wrong } ≡ check_of word set
unfolding wrong_of check_of
check_of_ones word set wrong e =
    rw (e, ones_count 8 (wrong_of word set) (wrong_fits word set 8 (omega arith)), count_of_ones word set)

-- ---- the word's own parity

parity_lt : (byte : ℕ) → parity_bit byte < 2
unfolding parity_bit
parity_lt byte = omega arith

own_right : (word k : ℕ) → k < 8 → wrong_at word (parity_of word) k ≡ 0
unfolding wrong_at wrong_bit parity_of
own_right word k l =
    omega
    (arith, bit_from 8 k (λ j. parity_bit (byte_at j word)) (λ j. parity_lt (byte_at j word)) l, parity_odd (byte_at k word))

-- a word beside its own parity bits: no byte is wrong
pub check_own : (word : ℕ) → check_of word (parity_of word) ≡ record { wrong = 0; count = 0 }
unfolding check_of wrong_of
check_own word =
    rw (from_none 8 (wrong_at word (parity_of word)) (own_right word), sum_zero 8 (wrong_at word (parity_of word)) (own_right word))

-- ---- one bit the other way: in the answer exactly the bit of its byte changes

-- a bit more or less in a byte's ones, or in its parity bit, turns right into wrong and wrong into right
wrong_turns : (word set word' set' k : ℕ)
    → (ones_below 8 (byte_at k word') + bit_at k set' + ones_below 8 (byte_at k word) + bit_at k set) % 2 ≡ 1
    → wrong_at word' set' k + wrong_at word set k ≡ 1
unfolding wrong_at wrong_bit
wrong_turns word set word' set' k o = omega arith

-- bit i of the set
pub flip_set : (word set i : ℕ) → i < 8 → wrong_of word (flipped i set) ≡ flipped i (wrong_of word set)
unfolding wrong_of wrong_at
flip_set word set i l =
    from_flip 8 i (wrong_at word set) (wrong_at word (flipped i set)) (wrong_at_lt word set) l stays
    (wrong_turns word set word (flipped i set) i (omega (arith, bit_flip i set)))
  where
    stays : (k : ℕ) → k < 8 → (k ≡ i → ⊥) → wrong_at word (flipped i set) k ≡ wrong_at word set k
    stays k m d = ap (wrong_bit (byte_at k word)) (bit_other i k set d)

-- the bits of a byte are the word's
bit_low : (x j : ℕ) → j < 8 → bit_at j (x % 256) ≡ bit_at j x
unfolding bit_at
bit_low x j l =
    let e : 8 ≡ (8 - j) + j = omega arith in
    let d : 8 - j ≡ (7 - j) + 1 = omega arith in
    ap (λ (y : ℕ). x % 2 ^ y / 2 ^ j % 2) e ∙ ap (λ (y : ℕ). y % 2) (field x (8 - j) j) ∙ ap (λ (y : ℕ). x / 2 ^ j % 2 ^ y % 2) d
    ∙ mod-mod-pow (x / 2 ^ j) (7 - j) 1

-- bit j of byte k is bit 8 (7 - k) + j of the word
bit_of_byte : (word k j : ℕ) → j < 8 → bit_at j (byte_at k word) ≡ bit_at (8 * (7 - k) + j) word
unfolding byte_at bit_at
bit_of_byte word k j l = bit_low (word / 256 ^ (7 - k)) j l ∙ shifted
  where
    shifted : bit_at j (word / 256 ^ (7 - k)) ≡ bit_at (8 * (7 - k) + j) word
    shifted =
        ap (λ (y : ℕ). bit_at j (word / y)) (pow_bytes (7 - k)) ∙ ap (λ (y : ℕ). y % 2) (shr-shr word (8 * (7 - k)) j)

bit_of_byte_other : (word i k j : ℕ) → j < 8 → (8 * (7 - k) + j ≡ i → ⊥) → bit_at j (byte_at k (flipped i word)) ≡ bit_at j (byte_at k word)
bit_of_byte_other word i k j l d =
    bit_of_byte (flipped i word) k j l ∙ bit_other i (8 * (7 - k) + j) word d ∙ sym (bit_of_byte word k j l)

-- the ones of the bytes without bit i stay
ones_other : (word i k : ℕ) → (7 - k ≡ i / 8 → ⊥) → ones_below 8 (byte_at k (flipped i word)) ≡ ones_below 8 (byte_at k word)
unfolding ones_below
ones_other word i k d =
    sum_same 8 _ _ (λ j l. bit_of_byte_other word i k j l (λ (e : 8 * (7 - k) + j ≡ i). d (omega arith)))

-- and those of its byte are one more or one less
ones_own : (word i k : ℕ) → 7 - k ≡ i / 8 → (ones_below 8 (byte_at k (flipped i word)) + ones_below 8 (byte_at k word)) % 2 ≡ 1
unfolding ones_below
ones_own word i k e =
    let place : 8 * (7 - k) + i % 8 ≡ i = omega arith in
    let at : (w : ℕ) → bit_at (i % 8) (byte_at k w) ≡ bit_at i w =
    λ w. bit_of_byte w k (i % 8) (omega arith) ∙ ap (λ (p : ℕ). bit_at p w) place in
    let but : sum_below 8 (λ j. bit_at j (byte_at k (flipped i word))) + bit_at (i % 8) (byte_at k word)
    ≡ sum_below 8 (λ j. bit_at j (byte_at k word)) + bit_at (i % 8) (byte_at k (flipped i word)) =
    sum_but 8 (i % 8) _ _ (omega arith) (λ j l d. bit_of_byte_other word i k j l (λ (q : 8 * (7 - k) + j ≡ i). d (omega arith))) in
    omega (arith, at (flipped i word), at word, bit_flip i word)

-- bit i of the word, which is in byte 7 - i / 8
pub flip_word : (word set i : ℕ) → i < 64 → wrong_of (flipped i word) set ≡ flipped (7 - i / 8) (wrong_of word set)
unfolding wrong_of wrong_at wrong_bit
flip_word word set i l =
    from_flip 8 (7 - i / 8) (wrong_at word set) (wrong_at (flipped i word) set) (wrong_at_lt word set) (omega arith) stays
    (wrong_turns word set (flipped i word) set (7 - i / 8) (omega (arith, ones_own word i (7 - i / 8) (omega arith))))
  where
    stays : (k : ℕ) → k < 8 → (k ≡ 7 - i / 8 → ⊥) → wrong_at (flipped i word) set k ≡ wrong_at word set k
    stays k m d = ap (λ (n : ℕ). 1 - (n + bit_at k set) % 2) (ones_other word i k (λ (e : 7 - k ≡ i / 8). d (omega arith)))

pub seven_wrong : SevenWrong
unfolding SevenWrong check_of wrong_of wrong_at wrong_bit byte_at from_bits ones_below bit_at sum_below
seven_wrong = refl

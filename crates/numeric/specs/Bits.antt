-- A number as its bits and as a set of small numbers: i is in the set x when the bit of weight 2 ^ i of x is 1.
use Rattle.std.specs.Prelude.{ℕ, zero, suc, ◌+◌, ◌-◌, ◌*◌, ◌/◌, ◌%◌, ◌^◌, Bool, cond, eqb}

-- f 0 + f 1 + .. + f (n - 1)
unfoldable pub sum_below : ℕ → (ℕ → ℕ) → ℕ
sum_below zero f = 0
sum_below (suc n) f = sum_below n f + f n

-- the bit of weight 2 ^ i
unfoldable pub bit_at : ℕ → ℕ → ℕ
bit_at i x = x / 2 ^ i % 2

-- whether i is in the set
unfoldable pub contains : ℕ → ℕ → Bool
contains set i = eqb (bit_at i set) 1

-- how many of the n lowest bits are ones
unfoldable pub ones_below : ℕ → ℕ → ℕ
ones_below n x = sum_below n (λ i. bit_at i x)

-- the number with the bits f 0 to f (n - 1), f i of weight 2 ^ i
unfoldable pub from_bits : ℕ → (ℕ → ℕ) → ℕ
from_bits n f = sum_below n (λ i. f i * 2 ^ i)

-- x with the bit of weight 2 ^ i the other way
unfoldable pub flipped : ℕ → ℕ → ℕ
flipped i x = cond (eqb (bit_at i x) 0) (x + 2 ^ i) (x - 2 ^ i)

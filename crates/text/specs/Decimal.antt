-- A number as decimal text, and the number that such a text means.
use Rattle.std.specs.Prelude.{ℕ, zero, suc, ◌+◌, ◌-◌, ◌*◌, ◌/◌, ◌%◌, ◌^◌, ◌≤◌, ◌<◌, ◌≡◌, cond, List, [], ◌∷◌, ◌++◌, ltb, length, get_or}

-- the last f digits of n at most, most significant first; 48 is the byte of the digit 0
unfoldable pub digits_in : ℕ → ℕ → List ℕ
digits_in zero n = []
digits_in (suc f) n = cond (ltb n 10) ((48 + n) ∷ []) (digits_in f (n / 10) ++ ((48 + n % 10) ∷ []))

-- n in decimal. A number of 64 bits has at most 20 digits
unfoldable pub decimal : ℕ → List ℕ
decimal n = digits_in 20 n

-- what the digits s mean behind digits that mean v
unfoldable pub meaning_after : ℕ → List ℕ → ℕ
meaning_after v [] = v
meaning_after v (d ∷ s) = meaning_after (10 * v + (d - 48)) s

-- the number that the digits s mean
unfoldable pub meaning : List ℕ → ℕ
meaning s = meaning_after 0 s

-- each byte of s is a digit
unfoldable pub Digits : List ℕ → Type 0
Digits [] = Unit {0}
Digits (d ∷ s) = ((48 ≤ d) × (d ≤ 57)) × Digits s

-- what holds of the decimal text of a 64-bit number
pub record Spelling (n : ℕ) : Type 0 where
  -- it means the number, and each byte is a digit
  pub means : meaning (decimal n) ≡ n
  pub digits : Digits (decimal n)
  -- no digit 0 stands in front, but for the number 0 itself
  pub first : 0 < n → 48 < get_or (decimal n) 0 0
  pub naught : n ≡ 0 → decimal n ≡ 48 ∷ []
  -- at least one digit, at most 20, and at most 10 for a 32-bit number
  pub some : 0 < length (decimal n)
  pub most : length (decimal n) ≤ 20
  pub short : n < 2 ^ 32 → length (decimal n) ≤ 10

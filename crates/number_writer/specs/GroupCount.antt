-- How many groups a number takes, by the rule that is shown to a class (document 02, T-06), how many bytes several numbers take, and what is claimed of the rule.
use Rattle.std.specs.Prelude.{ℕ, zero, suc, ◌+◌, ◌*◌, ◌/◌, ◌%◌, ◌^◌, ◌≤◌, ◌<◌, ◌≡◌, cond, List, [], ◌∷◌, ◌++◌, ltb, eqb, length, drop}
use Rattle.number.specs.Number.{spell, spell_all, filled}

-- the least k with n < 2^k, of the `more` from k on, or the one after them
unfoldable pub least_from : ℕ → ℕ → ℕ → ℕ
least_from zero k n = k
least_from (suc more) k n = cond (ltb n (2 ^ k)) k (least_from more (k + 1) n)

-- the significant bits of a 64-bit number: the least k with n < 2^k
unfoldable pub significant_bits : ℕ → ℕ
significant_bits n = least_from 64 0 n

-- "significant bits divided by seven, rounded up; one group for zero"
unfoldable pub group_count : ℕ → ℕ
group_count n = cond (eqb n 0) 1 ((significant_bits n + 6) / 7)

-- the bytes of several numbers: a byte for each group
unfoldable pub size_of : List ℕ → ℕ
size_of [] = 0
size_of (n ∷ ns) = group_count n + size_of ns

-- the number that groups mean: seven bits of each, low group first
unfoldable pub meaning : List ℕ → ℕ
meaning [] = 0
meaning (g ∷ gs) = g % 128 + 128 * meaning gs

-- so many groups hold n: some list of that many means n
unfoldable pub Holds : ℕ → ℕ → Type 0
Holds count n = (gs : List ℕ) × (length gs ≡ count) × (meaning gs ≡ n)

-- What is claimed of a number.
pub record Counted (n : ℕ) : Type 0 where
  -- significant bits are the least k with n < 2^k
  pub bits : n < 2 ^ significant_bits n
  pub least : (k : ℕ) → n < 2 ^ k → significant_bits n ≤ k
  -- "the writer, given room, writes exactly that many bytes": of the contract of `write_numbers`, what it answers for the number, and what it leaves in a space with
  -- room for so many bytes, and in a smaller one
  pub answer : length (spell_all (n ∷ [])) ≡ group_count n
  pub written : (space : List ℕ) → group_count n ≤ length space → filled (spell_all (n ∷ [])) space ≡ spell n ++ drop (group_count n) space
  pub no_room : (space : List ℕ) → length space < group_count n → filled (spell_all (n ∷ [])) space ≡ space
  -- so many groups hold the number: those that the writer puts
  pub exactly : length (spell n) ≡ group_count n
  pub means : meaning (spell n) ≡ n
  -- "and that fewer groups couldn't hold one above zero"
  pub fewer : 0 < n → (count : ℕ) → count < group_count n → Holds count n → ⊥

-- "for every 64-bit number"
unfoldable pub CountsGroups : Type 0
CountsGroups = (n : ℕ) → n ≤ 0xFFFF_FFFF_FFFF_FFFF → Counted n

-- the bytes of several numbers are as many as those that are written for them, one number after the other
unfoldable pub SizesAll : Type 0
SizesAll = (ns : List ℕ) → length (spell_all ns) ≡ size_of ns

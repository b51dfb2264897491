-- What the call for a block's holders answers and leaves through the C interface, from the directory's bytes d and the block's number b.
use Rattle.std.specs.Prelude.{ℕ, ◌≡◌, cond, List, eqb}
use Rattle.order.specs.Refusal.{accepted}
use Rattle.crossing.specs.Capped.{capped}
use Rattle.layout.specs.Directory.{decoded}
use Rattle.holders.specs.Holders.{HoldersAnswer, holders_answer}

-- the number of the block in a byte: 255 is no block, and is refused as those above it would be
unfoldable pub asked : List ℕ → ℕ → HoldersAnswer
asked d b = holders_answer (decoded d) (capped 255 b)

unfoldable pub holders_returned : List ℕ → ℕ → ℕ
holders_returned d b = (asked d b).refusal

-- a refused call leaves the number s
unfoldable pub set_left : List ℕ → ℕ → ℕ → ℕ
set_left d b s = cond (eqb (holders_returned d b) accepted) (asked d b).set s

-- and the number n
unfoldable pub count_left : List ℕ → ℕ → ℕ → ℕ
count_left d b n = cond (eqb (holders_returned d b) accepted) (asked d b).count n

-- set and count are those of the block that was asked for, and so is the refusal; a refused call leaves both numbers
pub record Says (d : List ℕ) (b s n : ℕ) : Type 0 where
  pub returned : holders_returned d b ≡ (holders_answer (decoded d) b).refusal
  pub set : holders_returned d b ≡ accepted → set_left d b s ≡ (holders_answer (decoded d) b).set
  pub count : holders_returned d b ≡ accepted → count_left d b n ≡ (holders_answer (decoded d) b).count
  pub stays : (holders_returned d b ≡ accepted → ⊥) → (set_left d b s ≡ s) × (count_left d b n ≡ n)

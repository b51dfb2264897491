-- A number as a narrower type takes it.
use Rattle.std.specs.Prelude.{ℕ, ◌≤◌, ◌<◌, ◌≡◌, cond, leb}

-- any above the most that the type holds counts as that
unfoldable pub capped : ℕ → ℕ → ℕ
capped most n = cond (leb n most) n most

-- a number that the type holds stays, and a test for numbers up to x, which is below the most, passes what it would have passed
pub record Caps (most : ℕ) : Type 0 where
  pub keeps : (n : ℕ) → n ≤ most → capped most n ≡ n
  pub tested : (x n : ℕ) → x < most → leb (capped most n) x ≡ leb n x

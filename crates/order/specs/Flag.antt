-- A flag as a number.
use Rattle.std.specs.Prelude.{ℕ, Bool, true, false}

-- 0 or 1
unfoldable pub flag : Bool → ℕ
flag false = 0
flag true = 1

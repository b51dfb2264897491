-- A range as the papers write it: "first to last", both counted.
use Rattle.std.specs.Prelude.{ℕ, Bool, ◌&&◌, leb}

unfoldable pub within : ℕ → ℕ → ℕ → Bool
within first last n = leb first n && leb n last

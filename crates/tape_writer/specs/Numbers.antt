-- The numbers that a record is spelled as, in an array of seven.
use Rattle.std.specs.Prelude.{ℕ, List, ◌++◌, take, replicate}

-- seven numbers, with 0 behind those that there are
unfoldable pub padded : List ℕ → List ℕ
padded ns = take 7 (ns ++ replicate 7 0)

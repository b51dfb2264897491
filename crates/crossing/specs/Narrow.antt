-- How a type that holds the numbers up to `most` takes a number.
use Rattle.std.specs.Prelude.{ℕ, ◌+◌, ◌<◌, ◌≤◌, ◌≡◌, Result, Ok, Err}
use Rattle.std.specs.Result.{OkIff, result_unwrap_or}
use Rattle.std.proofs.Common.{arith}
use Rattle.std.proofs.Math.Nat.{lt_of_not-le}
use borrow.Author.Tests.{le-leb, lt-leb}
use Rattle.crossing.specs.Capped.{capped}

-- the number itself where the type holds it, and else the most
pub taken : {E : Type 0} (most n : ℕ) (r : Result ℕ E) → OkIff r (n < most + 1) n → result_unwrap_or r most ≡ capped most n
unfolding capped
taken most n (Ok x) h = rw (le-leb n most (omega arith)) h.1
taken most n (Err e) h = rw (lt-leb n most (lt_of_not-le (λ (below : n ≤ most). h (omega arith))))

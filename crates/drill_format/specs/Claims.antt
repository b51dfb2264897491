-- What holds of the drill of every tape.
use Rattle.std.specs.Prelude.{ℕ, ◌+◌, ◌*◌, ◌≤◌, ◌≡◌, cond, List, [], ◌∷◌, map, leb, length}
use Rattle.order.specs.Refusal.{accepted}
use Rattle.coherence.specs.Answer.{Answer}
use Rattle.coherence.specs.PlainMemory.{plain_replies}
use Rattle.coherence.specs.Demand3.{orders_in, orders_given, reply, loads, stores, Each}
use Rattle.tape_format.specs.Record.{kind_of}
use Rattle.reading.specs.Reading.{Started, read_all}
use Rattle.drill_format.specs.Drill.{zero_store, calls_in, answers_in}

-- how many records are of the kinds 0 to 2
unfoldable pub accesses : List Started → ℕ
accesses [] = 0
accesses (s ∷ ss) = cond (leb (kind_of s.item) 2) 1 0 + accesses ss

-- the order count that the line of an answer shows
unfoldable pub shown : Answer → ℕ
shown r = length (orders_in r)

unfoldable pub sum : List ℕ → ℕ
sum [] = 0
sum (n ∷ ns) = n + sum ns

pub record Claims (tape : List ℕ) : Type 0 where
  -- the number of calls in the total is the number of records of the kinds 0 to 2, and each has its answer and so its line
  pub calls : length (calls_in tape) ≡ accesses (read_all tape).records
  pub answered : length (answers_in tape) ≡ length (calls_in tape)
  -- no call of a tape is refused: the ranges of the tape's fields are those of the machine
  pub accepts : Each (λ r. r.refusal ≡ accepted) (answers_in tape)
  -- each load prints what a plain memory of zeros holds
  pub plain : map reply (answers_in tape) ≡ plain_replies zero_store (calls_in tape)
  -- the number of orders in the total is the sum of those in the lines, and by demand 3 at most the loads and three times the stores
  pub total : orders_given (answers_in tape) ≡ sum (map shown (answers_in tape))
  pub bill : orders_given (answers_in tape) ≤ loads (calls_in tape) + 3 * stores (calls_in tape)

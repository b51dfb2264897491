-- A call's answer as numbers: the value, how many orders, and the four places of the answer's list.
use Rattle.std.specs.Prelude.{ℕ, zero, suc, List, [], ◌∷◌, ◌++◌, cond, length, get_or, drop, leb}
use Rattle.order.specs.declared.Order.{Order}
use Rattle.order.specs.Command.{command_number}
use Rattle.order.specs.Flag.{flag}
use Rattle.coherence.specs.Answer.{Answer}
use Rattle.coherence.specs.Calls.{no_order}

-- the numbers of an answer
abbrev pub answer_size : ℕ
answer_size = 18

-- "unit, command, block, retried or not"
unfoldable pub order_numbers : Order → List ℕ
order_numbers o = o.unit ∷ command_number o.command ∷ o.block ∷ flag o.retried ∷ []

-- the numbers of the first n orders
unfoldable pub orders_numbers : ℕ → List Order → List ℕ
orders_numbers zero os = []
orders_numbers (suc n) os = orders_numbers n os ++ order_numbers (get_or os n no_order)

unfoldable pub answer_numbers : Answer → List ℕ
answer_numbers a = (a.value ∷ a.orders.count ∷ []) ++ orders_numbers 4 a.orders.list

-- the numbers put into the first places of a lent space; it stays if it is too small, or if the answer counts more orders than its list has places
unfoldable pub answer_put : Answer → List ℕ → List ℕ
answer_put a o =
    cond (leb answer_size (length o)) (cond (leb a.orders.count 4) (answer_numbers a ++ drop answer_size o) o) o

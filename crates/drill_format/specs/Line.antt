-- The lines that a drill prints (document 01, "Drill", with its example). Each ends with a newline.
use Rattle.std.specs.Prelude.{ℕ, List, [], ◌++◌, ◌∷◌, length}
use Rattle.coherence.specs.declared.Call.{Call}
use Rattle.coherence.specs.declared.Call.TheVariants.{Load, Store, Flush}
use Rattle.coherence.specs.Answer.{Answer}
use Rattle.coherence.specs.Demand3.{orders_in}
use Rattle.text.specs.Space.{ascii}
use Rattle.text.specs.Decimal.{decimal}

-- a number in a line, after a space
unfoldable pub field : ℕ → List ℕ
field n = ascii " " ++ decimal n

-- "Fields: access, unit, address (flush: block), value (not for flush)". A load's value is v, which it loaded; a store's is its own
unfoldable pub access_part : Call → ℕ → List ℕ
access_part (Load unit address) v = ascii "load" ++ field unit ++ field address ++ field v
access_part (Store unit address value) v = ascii "store" ++ field unit ++ field address ++ field value
access_part (Flush unit block) v = ascii "flush" ++ field unit ++ field block

-- "orders of that call"
unfoldable pub orders_part : ℕ → List ℕ
orders_part n = ascii " orders" ++ field n ++ ascii "\n"

-- the line of a call and its answer
unfoldable pub call_line : Call → Answer → List ℕ
call_line c r = access_part c r.value ++ orders_part (length (orders_in r))

-- a line for each call with its answer
unfoldable pub lines : List Call → List Answer → List ℕ
lines [] rs = []
lines (c ∷ cs) [] = []
lines (c ∷ cs) (r ∷ rs) = call_line c r ++ lines cs rs

-- "total 6 calls 8 orders"
unfoldable pub total_line : ℕ → ℕ → List ℕ
total_line calls orders = ascii "total" ++ field calls ++ ascii " calls" ++ field orders ++ ascii " orders\n"

-- "refused N at P"
unfoldable pub refused_line : ℕ → ℕ → List ℕ
refused_line number place = ascii "refused" ++ field number ++ ascii " at" ++ field place ++ ascii "\n"

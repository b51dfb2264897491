-- The fields of a record (document 01, "The tape"; document 02, T-04): which numbers each may hold, and refusal 8 for any other.
use Rattle.std.specs.Prelude.{ℕ, ◌%◌, List, Bool, Result, Ok, Err, cond, not, ◌&&◌, leb, eqb}
use Rattle.order.specs.declared.Command.{Command}
use Rattle.order.specs.declared.Command.TheVariants as command
use Rattle.order.specs.declared.Refusal.TheVariants as why
use Rattle.number.specs.declared.Refused.{Refused}
use Rattle.tape_format.specs.declared.Rule.{Rule}
use Rattle.tape_format.specs.declared.Rule.TheVariants.{Unit, Address, Word, Block, Retried, From, To, Byte, Flag, Bct, Cycles}
use Rattle.number.specs.Number.{number_at}

-- "retried must be 0 for 2 and 3": an invalidate and a copyback; "Order records take command 4, retried 0 or 1"
unfoldable pub retried_most : Command → ℕ
retried_most command.Read = 1
retried_most command.ModifiedRead = 1
retried_most command.Invalidate = 0
retried_most command.Copyback = 0
retried_most command.MemoryWrite = 1

-- the numbers that each rule allows
unfoldable pub allowed : Rule → ℕ → Bool
allowed Unit n = leb n 3
allowed Address n = leb n 2044 && eqb (n % 4) 0
allowed Word n = leb n 4294967295
allowed Block n = leb n 63
allowed (Retried c) n = leb n (retried_most c)
allowed From n = leb n 7
allowed (To from) n = leb n 7 && not (eqb n from)
allowed Byte n = leb n 255
allowed Flag n = leb n 1
allowed Bct n = leb n 7
allowed Cycles n = leb n 18446744073709551615

-- no rule allows more than this
abbrev pub most_of : Rule → ℕ
most_of Unit = 3
most_of Address = 2044
most_of Word = 4294967295
most_of Block = 63
most_of (Retried c) = 1
most_of From = 7
most_of (To from) = 7
most_of Byte = 255
most_of Flag = 1
most_of Bct = 7
most_of Cycles = 18446744073709551615

-- a number that its rule does not allow is refusal 8, at its start; 5 and 6 come first
unfoldable pub ruled : Rule → ℕ → Result (ℕ × ℕ) Refused → Result (ℕ × ℕ) Refused
ruled rule at (Ok (v, next)) = cond (allowed rule v) (Ok (v, next)) (Err (record { refusal = why.FieldRange; place = at }))
ruled rule at (Err e) = Err e

unfoldable pub field_at : Rule → List ℕ → ℕ → Result (ℕ × ℕ) Refused
field_at rule tape at = ruled rule at (number_at tape at)

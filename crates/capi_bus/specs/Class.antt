-- An answer's class as two numbers, both ways.
use Rattle.std.specs.Prelude.{ℕ, ◌≤◌, ◌≡◌, Option, None, Some, Result, Ok, Err, cond, eqb}
use Rattle.order.specs.declared.Refusal.{Refusal}
use Rattle.order.specs.declared.Refusal.TheVariants.{FieldRange}
use Rattle.bus.specs.declared.answer.Class.{Class}
use Rattle.bus.specs.declared.answer.Class.TheVariants.{NoError, NoErrorLock, ReservedNoError, UserNoError, HardwareError, IllegalCommand, BusSequenceError, ReservedError, UserError}
use Rattle.bus.specs.Answer.{class_of, code_of}
use Rattle.crossing.specs.Capped.{capped}

-- the classes in the order of document 01's table; the numbers are ours
unfoldable pub class_number : Class → ℕ
class_number NoError = 0
class_number NoErrorLock = 1
class_number (ReservedNoError n) = 2
class_number (UserNoError n) = 3
class_number HardwareError = 4
class_number IllegalCommand = 5
class_number BusSequenceError = 6
class_number (ReservedError n) = 7
class_number (UserError n) = 8

-- the number that a class carries, 0 for none
unfoldable pub carried_of : Class → ℕ
carried_of NoError = 0
carried_of NoErrorLock = 0
carried_of (ReservedNoError n) = n
carried_of (UserNoError n) = n
carried_of HardwareError = 0
carried_of IllegalCommand = 0
carried_of BusSequenceError = 0
carried_of (ReservedError n) = n
carried_of (UserError n) = n

-- the classes that carry no number: beside any other number than 0 there is none
unfoldable pub plain_class : ℕ → ℕ → Option Class
plain_class class carried =
    cond (eqb carried 0)
    (cond (eqb class 0) (Some NoError)
    (cond (eqb class 1) (Some NoErrorLock)
    (cond (eqb class 4) (Some HardwareError)
    (cond (eqb class 5) (Some IllegalCommand)
    (cond (eqb class 6) (Some BusSequenceError) None)))))
    None

-- a carried number too large for its type becomes 255, which is in no row either
unfoldable pub class_from : ℕ → ℕ → Option Class
class_from class carried =
    cond (eqb class 2) (Some (ReservedNoError (capped 255 carried)))
    (cond (eqb class 3) (Some (UserNoError (capped 255 carried)))
    (cond (eqb class 7) (Some (ReservedError (capped 255 carried)))
    (cond (eqb class 8) (Some (UserError (capped 255 carried)))
    (plain_class class carried))))

-- the code of a class; numbers that stand for none are refused with 8
unfoldable pub code_asked : Option Class → Result ℕ Refusal
code_asked (Some k) = code_of k
code_asked None = Err FieldRange

-- a lent number, x before, takes the code
unfoldable pub code_left : Result ℕ Refusal → ℕ → ℕ
code_left (Ok c) x = c
code_left (Err refusal) x = x

-- the numbers and the class determine each other, and so do the numbers and the code
pub record Inverse : Type 0 where
  pub back : (k : Class) → carried_of k ≤ 255 → class_from (class_number k) (carried_of k) ≡ Some k
  -- "All 256 codes have a class, and a class gives its code back"
  pub code : (c : ℕ) → c ≤ 255 → code_asked (class_from (class_number (class_of c)) (carried_of (class_of c))) ≡ Ok c

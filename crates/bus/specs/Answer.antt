-- Answer codes and their classes (document 01, "Answer codes", from the standard's Table 7; bit 0 read as most significant is a house rule).
use Rattle.std.specs.Prelude.{ℕ, ◌+◌, ◌-◌, Bool, true, false, Result, Ok, Err, cond, ◌≡◌, leb, eqb}
use Rattle.order.specs.declared.Refusal.{Refusal}
use Rattle.order.specs.declared.Refusal.TheVariants.{FieldRange}
use Rattle.numeric.specs.Range.{within}
use Rattle.bus.specs.declared.answer.Class.{Class}
use Rattle.bus.specs.declared.answer.Class.TheVariants.{NoError, NoErrorLock, ReservedNoError, UserNoError, HardwareError, IllegalCommand, BusSequenceError, ReservedError, UserError}

-- the class of a code, row by row
unfoldable pub class_of : ℕ → Class
class_of c =
    cond (eqb c 0) NoError
    (cond (eqb c 1) NoErrorLock
    (cond (leb c 63) (ReservedNoError c)
    (cond (leb c 127) (UserNoError (c - 64))
    (cond (eqb c 128) HardwareError
    (cond (eqb c 129) IllegalCommand
    (cond (eqb c 130) BusSequenceError
    (cond (leb c 191) (ReservedError c)
    (UserError (c - 192)))))))))

-- the code of a class: the number itself, or what the carried number stands for
unfoldable pub code_number : Class → ℕ
code_number NoError = 0
code_number NoErrorLock = 1
code_number (ReservedNoError n) = n
code_number (UserNoError n) = n + 64
code_number HardwareError = 128
code_number IllegalCommand = 129
code_number BusSequenceError = 130
code_number (ReservedError n) = n
code_number (UserError n) = n + 192

-- whether the code of a class lies in the class's row
unfoldable pub in_row : Class → Bool
in_row NoError = true
in_row NoErrorLock = true
in_row (ReservedNoError n) = within 2 63 n
in_row (UserNoError n) = within 64 127 (n + 64)
in_row HardwareError = true
in_row IllegalCommand = true
in_row BusSequenceError = true
in_row (ReservedError n) = within 131 191 n
in_row (UserError n) = within 192 255 (n + 192)

-- a class gives its code back; refused where its carried number is not one of its row
unfoldable pub code_of : Class → Result ℕ Refusal
code_of k = cond (in_row k) (Ok (code_number k)) (Err FieldRange)

-- the code that an answer gives; refused, the code is 0
unfoldable pub code_found : Result ℕ Refusal → ℕ
code_found (Ok c) = c
code_found (Err refusal) = 0

-- whether the asker reports a bus error
unfoldable pub is_error : ℕ → Bool
is_error c = leb 128 c

-- whether the class's row says "error"
unfoldable pub error_row : Class → Bool
error_row NoError = false
error_row NoErrorLock = false
error_row (ReservedNoError n) = false
error_row (UserNoError n) = false
error_row HardwareError = true
error_row IllegalCommand = true
error_row BusSequenceError = true
error_row (ReservedError n) = true
error_row (UserError n) = true

-- the table's rows of one code, and the first code of each reserved row, read both ways
pub record Rows : Type 0 where
  pub no_error : (class_of 0 ≡ NoError) × (code_of NoError ≡ Ok 0)
  pub no_error_lock : (class_of 1 ≡ NoErrorLock) × (code_of NoErrorLock ≡ Ok 1)
  pub reserved_no_error : (class_of 2 ≡ ReservedNoError 2) × (code_of (ReservedNoError 2) ≡ Ok 2)
  pub hardware_error : (class_of 128 ≡ HardwareError) × (code_of HardwareError ≡ Ok 128)
  pub illegal_command : (class_of 129 ≡ IllegalCommand) × (code_of IllegalCommand ≡ Ok 129)
  pub bus_sequence_error : (class_of 130 ≡ BusSequenceError) × (code_of BusSequenceError ≡ Ok 130)
  pub reserved_error : (class_of 131 ≡ ReservedError 131) × (code_of (ReservedError 131) ≡ Ok 131)

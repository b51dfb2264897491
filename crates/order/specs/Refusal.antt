-- The refusals and their numbers (document 01, "Numbers of refusal"; 11 and 12 from document 02, T-01, 17 from T-14 and 18 from T-12), and tests in their
-- order. 0 says that nothing was refused.
use Rattle.std.specs.Prelude.{ℕ, ◌≡◌, Bool, Result, Ok, Err, cond, List, [], ◌∷◌, map}
use Rattle.order.specs.declared.Refusal.{Refusal}
use Rattle.order.specs.declared.Refusal.TheVariants.{WrongSize, BrokenDirectory, NoUnit, BadAddress, Cut, BadNumber, UnknownKind, FieldRange, NoRoom, BadState, OtherSource, OutOfTurn, HalvesDiffer, Unreadable}

abbrev pub refusal_number : Refusal → ℕ
refusal_number WrongSize = 1
refusal_number BrokenDirectory = 2
refusal_number NoUnit = 3
refusal_number BadAddress = 4
refusal_number Cut = 5
refusal_number BadNumber = 6
refusal_number UnknownKind = 7
refusal_number FieldRange = 8
refusal_number NoRoom = 9
refusal_number BadState = 10
refusal_number OtherSource = 11
refusal_number OutOfTurn = 12
refusal_number HalvesDiffer = 17
refusal_number Unreadable = 18

abbrev pub accepted : ℕ
accepted = 0

-- the number of an answer: 0 where nothing was refused
abbrev pub number_of : {T : Type 0} → Result T Refusal → ℕ
number_of (Ok x) = accepted
number_of (Err refusal) = refusal_number refusal

abbrev pub wrong_size : ℕ
wrong_size = refusal_number WrongSize

abbrev pub broken_directory : ℕ
broken_directory = refusal_number BrokenDirectory

abbrev pub no_unit : ℕ
no_unit = refusal_number NoUnit

abbrev pub bad_address : ℕ
bad_address = refusal_number BadAddress

abbrev pub cut : ℕ
cut = refusal_number Cut

abbrev pub bad_number : ℕ
bad_number = refusal_number BadNumber

abbrev pub unknown_kind : ℕ
unknown_kind = refusal_number UnknownKind

abbrev pub field_range : ℕ
field_range = refusal_number FieldRange

abbrev pub no_room : ℕ
no_room = refusal_number NoRoom

abbrev pub bad_state : ℕ
bad_state = refusal_number BadState

abbrev pub other_source : ℕ
other_source = refusal_number OtherSource

abbrev pub out_of_turn : ℕ
out_of_turn = refusal_number OutOfTurn

abbrev pub halves_differ : ℕ
halves_differ = refusal_number HalvesDiffer

abbrev pub unreadable : ℕ
unreadable = refusal_number Unreadable

-- document 01's list, and what document 02 adds to it
pub record RefusalNumbers : Type 0 where
  pub numbers :
      map
      refusal_number
      (WrongSize
      ∷ BrokenDirectory
      ∷ NoUnit
      ∷ BadAddress
      ∷ Cut
      ∷ BadNumber
      ∷ UnknownKind
      ∷ FieldRange
      ∷ NoRoom
      ∷ BadState
      ∷ OtherSource
      ∷ OutOfTurn
      ∷ HalvesDiffer
      ∷ Unreadable
      ∷ [])
      ≡ 1 ∷ 2 ∷ 3 ∷ 4 ∷ 5 ∷ 6 ∷ 7 ∷ 8 ∷ 9 ∷ 10 ∷ 11 ∷ 12 ∷ 17 ∷ 18 ∷ []

-- a test, and the number that is given where it does not pass
pub record Test : Type 0 where
  pub passes : Bool
  pub number : ℕ

-- the number of the first test that does not pass; 0 where all pass
unfoldable pub first_refusal : List Test → ℕ
first_refusal [] = accepted
first_refusal (t ∷ ts) = cond t.passes (first_refusal ts) t.number

-- An operation of a message transfer (ISO/IEC 14576, 4.2.2, item 5, and Table 6; document 02, T-01): what sender and receiver both speak of.
use Rattle.std.specs.Prelude.{ℕ, ◌+◌, ◌*◌, ◌≤◌, ◌≡◌, Bool, true, false, cond, ◌&&◌, List, Option, Some, None, eqb, leb}
use Rattle.message_rules.specs.declared.Sequence.{Sequence}
use Rattle.message_rules.specs.declared.Sequence.TheVariants.{Single, First, Middle, Last}

-- "Each operation carries 1 to 256 bytes"
abbrev pub operation_most : ℕ
operation_most = 256

-- "a whole message is at most 4,096, kept in a lent store of that size"
abbrev pub message_most : ℕ
message_most = 4096

-- its part in the message, its sender (BMID), its AID and its bytes
pub record Operation : Type 0 where
  pub sequence : Sequence
  pub sender : ℕ
  pub aid : ℕ
  pub bytes : List ℕ

unfoldable pub operation : Sequence → ℕ → ℕ → List ℕ → Operation
operation q s a b = record { sequence = q; sender = s; aid = a; bytes = b }

-- a sender and an AID: neither "above 7" nor "above 255"
unfoldable pub is_source : ℕ → ℕ → Bool
is_source s a = leb s 7 && leb a 255

-- Table 6: bits 20 and 21 of the command as a number
unfoldable pub sequence_number : Sequence → ℕ
sequence_number Single = 0
sequence_number First = 1
sequence_number Middle = 2
sequence_number Last = 3

-- the sequence that has the number n
unfoldable pub sequence_numbered : ℕ → Option Sequence
sequence_numbered n = cond (eqb n 0) (Some Single) (cond (eqb n 1) (Some First) (cond (eqb n 2) (Some Middle) (cond (eqb n 3) (Some Last) None)))

-- the sequences and the numbers to 3 determine each other
pub record SequenceNumbers : Type 0 where
  pub back : (q : Sequence) → sequence_numbered (sequence_number q) ≡ Some q
  pub forth : (n : ℕ) (q : Sequence) → sequence_numbered n ≡ Some q → sequence_number q ≡ n
  pub most : (q : Sequence) → sequence_number q ≤ 3

-- Table 6, row by row: bit 20, bit 21 and the meaning; bit 20 is the more significant
pub record TableSix : Type 0 where
  pub single : sequence_number Single ≡ 2 * 0 + 0
  pub first : sequence_number First ≡ 2 * 0 + 1
  pub middle : sequence_number Middle ≡ 2 * 1 + 0
  pub last : sequence_number Last ≡ 2 * 1 + 1

-- "First and Single start"
unfoldable pub starts : Sequence → Bool
starts Single = true
starts First = true
starts Middle = false
starts Last = false

-- "Single and Last report the message complete"
unfoldable pub ends : Sequence → Bool
ends Single = true
ends First = false
ends Middle = false
ends Last = true

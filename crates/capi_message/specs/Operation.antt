-- An operation as numbers and bytes (ISO/IEC 14576, Table 6), both ways.
use Rattle.std.specs.Prelude.{ℕ, ◌≤◌, ◌<◌, ◌≡◌, false, cond, List, Option, Some, None, eqb, leb}
use Rattle.message_rules.specs.declared.Sequence.{Sequence}
use Rattle.message_rules.specs.declared.Sequence.TheVariants.{Single, First, Middle, Last}
use Rattle.message_rules.specs.Operation.{Operation, operation, is_source, sequence_number}
use Rattle.crossing.specs.Capped.{capped}

-- the sequence that has the number n; a number above 3 is none, and its operation is refused
unfoldable pub sequence_from : ℕ → Sequence
sequence_from n = cond (eqb n 0) Single (cond (eqb n 1) First (cond (eqb n 2) Middle Last))

-- the sender of an operation with the sequence number q: one above 7, refused with 8, where q is above 3
unfoldable pub operation_sender : ℕ → ℕ → ℕ
operation_sender q s = cond (leb q 3) (capped 255 s) 255

unfoldable pub operation_from : ℕ → ℕ → ℕ → List ℕ → Operation
operation_from q s a b = operation (sequence_from q) (operation_sender q s) (capped 65535 a) b

-- the sequences and the numbers to 3 determine each other
pub record Numbered : Type 0 where
  pub back : (q : Sequence) → sequence_from (sequence_number q) ≡ q
  pub forth : (n : ℕ) → n ≤ 3 → sequence_number (sequence_from n) ≡ n
  -- a number above 3 has no operation in range
  pub none : (n s a : ℕ) → 3 < n → is_source (operation_sender n s) (capped 65535 a) ≡ false

-- the number of a sequence that was asked for; 0 where there is none
unfoldable pub number_found : Option Sequence → ℕ
number_found (Some q) = sequence_number q
number_found None = 0

-- The sender (document 02, T-01; ISO/IEC 14576, 4.2.2): which operations a message makes, "full operations first".
use Rattle.std.specs.Prelude.{ℕ, zero, suc, ◌+◌, ◌-◌, ◌*◌, ◌/◌, ◌<◌, ◌≤◌, ◌≡◌, cond, ◌&&◌, ◌≢◌, List, [], ◌∷◌, ◌++◌, map, Option, Some, None, Result, Ok, Err, eqb, leb, ltb, length, take, drop, replicate}
use Rattle.order.specs.declared.Refusal.{Refusal}
use Rattle.order.specs.Refusal.{refusal_number, accepted, field_range, no_room, Test, first_refusal}
use Rattle.message_rules.specs.declared.Sequence.{Sequence}
use Rattle.message_rules.specs.declared.Sequence.TheVariants.{Single, First, Middle, Last}
use Rattle.message_rules.specs.Operation.{Operation, operation, operation_most, message_most, is_source, sequence_number}

-- "The sender refuses an empty message, or a sender or AID out of range, with 8, then one over 4,096 bytes with 9."
unfoldable pub field_test : List ℕ → ℕ → ℕ → Test
field_test m s a = record { passes = leb 1 (length m) && is_source s a; number = field_range }

unfoldable pub length_test : List ℕ → Test
length_test m = record { passes = leb (length m) message_most; number = no_room }

unfoldable pub send_refusal : List ℕ → ℕ → ℕ → ℕ
send_refusal m s a = first_refusal (field_test m s a ∷ length_test m ∷ [])

-- what an accepted message is, in the paper's own numbers
pub record Sendable (m : List ℕ) (s a : ℕ) : Type 0 where
  pub some_bytes : 1 ≤ length m
  pub sender : s ≤ 7
  pub aid : a ≤ 255
  pub short : length m ≤ 4096

-- such messages are accepted, and no other
pub record SendsExactly (m : List ℕ) (s a : ℕ) : Type 0 where
  pub all : Sendable m s a → send_refusal m s a ≡ accepted
  pub only : send_refusal m s a ≡ accepted → Sendable m s a

-- how many operations n bytes make: n / 256, rounded up
unfoldable pub operation_count : ℕ → ℕ
operation_count n = (n + 255) / operation_most

-- an answer in document 01's numbers: the number of refusal or 0, and how many operations
pub record Division : Type 0 where
  pub refusal : ℕ
  pub operations : ℕ

unfoldable pub division : List ℕ → ℕ → ℕ → Division
division m s a =
    cond (eqb (send_refusal m s a) accepted)
    (record { refusal = accepted; operations = operation_count (length m) })
    (record { refusal = send_refusal m s a; operations = 0 })

-- the code's answer: a refused message makes no operation
abbrev pub division_told : Result ℕ Refusal → Division
division_told (Ok n) = record { refusal = accepted; operations = n }
division_told (Err refusal) = record { refusal = refusal_number refusal; operations = 0 }

-- different answers of the code are told differently
unfoldable pub DivisionsApart : Type 0
DivisionsApart = (x y : Result ℕ Refusal) → division_told x ≡ division_told y → x ≡ y

-- a refused message makes no operation: the whole answer
unfoldable pub RefusedMakesNone : Type 0
RefusedMakesNone = (m : List ℕ) (s a : ℕ) → send_refusal m s a ≢ 0 → division m s a ≡ record { refusal = send_refusal m s a; operations = 0 }

-- "cuts a message above 256 bytes into First, Middle and Last operations; any other is Single": operation k of n, counted from 0
unfoldable pub sequence_of : ℕ → ℕ → Sequence
sequence_of n k = cond (eqb n 1) Single (cond (eqb k 0) First (cond (eqb (k + 1) n) Last Middle))

-- the bytes of operation k
unfoldable pub part_of : List ℕ → ℕ → List ℕ
part_of m k = take operation_most (drop (operation_most * k) m)

-- operation k of the message, if it makes so many
unfoldable pub operation_at : List ℕ → ℕ → ℕ → ℕ → Option Operation
operation_at m s a k =
    cond (ltb k (division m s a).operations) (Some (operation (sequence_of (division m s a).operations k) s a (part_of m k))) None

-- its sequence; where there is no such operation, nothing
unfoldable pub sequence_found : Option Operation → Option Sequence
sequence_found None = None
sequence_found (Some o) = Some o.sequence

-- its bytes; where there is no such operation, an empty part
unfoldable pub part_found : Option Operation → List ℕ
part_found None = []
part_found (Some o) = o.bytes

-- where its bytes start in the message; where there is no such operation, at the message's start
unfoldable pub part_offset : List ℕ → ℕ → ℕ → ℕ → ℕ
part_offset m s a k = cond (ltb k (division m s a).operations) (operation_most * k) 0

-- an operation, where there is one, before others
unfoldable pub collected : Option Operation → List Operation → List Operation
collected None os = os
collected (Some o) os = o ∷ os

-- the operations of a message from k on, n of them
unfoldable pub operations_from : List ℕ → ℕ → ℕ → ℕ → ℕ → List Operation
operations_from m s a k zero = []
operations_from m s a k (suc n) = collected (operation_at m s a k) (operations_from m s a (suc k) n)

-- the operations that a message makes, in order
unfoldable pub operations : List ℕ → ℕ → ℕ → List Operation
operations m s a = operations_from m s a 0 (division m s a).operations

-- the bytes of operations, one after the other
unfoldable pub bytes_of : List Operation → List ℕ
bytes_of [] = []
bytes_of (o ∷ os) = o.bytes ++ bytes_of os

-- "full operations first": of an accepted message each operation but the last has 256 bytes, the last 1 to 256, and together they are the message
pub record Divided (m : List ℕ) (s a : ℕ) : Type 0 where
  pub full : (k : ℕ) → suc k < (division m s a).operations → length (part_found (operation_at m s a k)) ≡ operation_most
  pub last : (k : ℕ) → suc k ≡ (division m s a).operations
      → (1 ≤ length (part_found (operation_at m s a k))) × (length (part_found (operation_at m s a k)) ≤ operation_most)
  pub whole : bytes_of (operations m s a) ≡ m

-- the sequences of operations, by Table 6's numbers
unfoldable pub sequence_numbers : List Operation → List ℕ
sequence_numbers os = map (λ o. sequence_number o.sequence) os

-- of an accepted message
pub record Sequenced (m : List ℕ) (s a : ℕ) : Type 0 where
  -- "any other is Single"
  pub single : length m ≤ 256 → sequence_numbers (operations m s a) ≡ 0 ∷ []
  -- "cuts a message above 256 bytes into First, Middle and Last operations": one First, one Last, and between them Middle
  pub parts : 256 < length m → sequence_numbers (operations m s a) ≡ 1 ∷ replicate ((division m s a).operations - 2) 2 ++ 3 ∷ []

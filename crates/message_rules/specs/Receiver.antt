-- The receiver (document 02, T-01; ISO/IEC 14576, Table 6): what it refuses, what it answers, and what it leaves in the store.
use Rattle.std.specs.Prelude.{ℕ, ◌+◌, ◌<◌, ◌≤◌, ◌≡◌, ◌⊎◌, ◌≢◌, Bool, true, not, cond, ◌&&◌, List, [], ◌∷◌, Option, Some, None, Result, Ok, Err, eqb, leb, length}
use Rattle.std.proofs.lemmas.List.Edits.{sets}
use Rattle.order.specs.declared.Refusal.{Refusal}
use Rattle.order.specs.Refusal.{refusal_number, accepted, wrong_size, field_range, no_room, bad_state, other_source, out_of_turn, Test, first_refusal}
use Rattle.message_rules.specs.declared.Sequence.{Sequence}
use Rattle.message_rules.specs.declared.Sequence.TheVariants.{Single, First, Middle, Last}
use Rattle.message_rules.specs.declared.Received.{Received}
use Rattle.message_rules.specs.declared.Accepted.{Accepted}
use Rattle.message_rules.specs.Operation.{Operation, operation_most, message_most, is_source, starts, ends}

-- ---- what a receiver keeps, and what it answers

-- n bytes from the sender s with the AID a
abbrev pub brought : ℕ → ℕ → ℕ → Received
brought s a n = record { source = record { sender = s; aid = a }; count = n }

-- None when it is idle; pending, what it has of the message
abbrev pub Receiver : Type 0
Receiver = Option Received

-- an answer in document 01's numbers: the number of refusal or 0, the receiver for the next operation, and the message if it is complete
pub record Receipt : Type 0 where
  pub refusal : ℕ
  pub receiver : Receiver
  pub completion : Option Received

-- the code's answer to an operation given to the receiver r: "A refusal keeps the receiver's state", and completes nothing
abbrev pub receipt_told : Receiver → Result Accepted Refusal → Receipt
receipt_told r (Ok a) = record { refusal = accepted; receiver = a.receiver; completion = a.completion }
receipt_told r (Err refusal) = record { refusal = refusal_number refusal; receiver = r; completion = None }

-- different answers of the code are told differently
unfoldable pub ReceiptsApart : Type 0
ReceiptsApart = (r : Receiver) (x y : Result Accepted Refusal) → receipt_told r x ≡ receipt_told r y → x ≡ y

-- "A refusal keeps the receiver's state": the code's is told with the receiver that it was given
unfoldable pub ToldKeeps : Type 0
ToldKeeps = (r : Receiver) (e : Refusal) → (receipt_told r (Err e)).receiver ≡ r

-- ---- the tests

-- 10: "a pending state with a sender above 7, an AID above 255 or a count outside 1 to 4,096"
unfoldable pub state_allowed : Receiver → Bool
state_allowed None = true
state_allowed (Some m) = is_source m.source.sender m.source.aid && (leb 1 m.count && leb m.count message_most)

-- 8: "length, or an operation's sender above 7 or AID above 255"; n is the length
unfoldable pub in_range : ℕ → ℕ → ℕ → Bool
in_range s a n = is_source s a && (leb 1 n && leb n operation_most)

-- 12: "First and Single start only from idle", "Middle and Last need pending"
unfoldable pub in_turn : Receiver → Sequence → Bool
in_turn None q = starts q
in_turn (Some m) q = not (starts q)

-- 11: "Middle and Last must match sender and AID"
unfoldable pub is_expected : Receiver → ℕ → ℕ → Bool
is_expected None s a = true
is_expected (Some m) s a = eqb s m.source.sender && eqb a m.source.aid

-- "at byte 0"; "go on at its count"
unfoldable pub start_of : Receiver → ℕ
start_of None = 0
start_of (Some m) = m.count

unfoldable pub size_test : List ℕ → Test
size_test store = record { passes = eqb (length store) message_most; number = wrong_size }

unfoldable pub state_test : Receiver → Test
state_test r = record { passes = state_allowed r; number = bad_state }

unfoldable pub range_test : Operation → Test
range_test o = record { passes = in_range o.sender o.aid (length o.bytes); number = field_range }

unfoldable pub turn_test : Receiver → Operation → Test
turn_test r o = record { passes = in_turn r o.sequence; number = out_of_turn }

unfoldable pub source_test : Receiver → Operation → Test
source_test r o = record { passes = is_expected r o.sender o.aid; number = other_source }

-- 9: "over 4,096"
unfoldable pub room_test : Receiver → Operation → Test
room_test r o = record { passes = leb (start_of r + length o.bytes) message_most; number = no_room }

-- "Refusals, in order: 1 .., 10 .., 8 .., 12 .., 11 .., 9 .."
unfoldable pub receive_refusal : Receiver → List ℕ → Operation → ℕ
receive_refusal r store o =
    first_refusal (size_test store ∷ state_test r ∷ range_test o ∷ turn_test r o ∷ source_test r o ∷ room_test r o ∷ [])

unfoldable pub accepts : Receiver → List ℕ → Operation → Bool
accepts r store o = eqb (receive_refusal r store o) accepted

-- which operations are accepted, in the paper's own numbers: Single and First at an idle receiver; Middle and Last of the same sender and AID at a
-- pending one that has room
unfoldable pub Follows : Receiver → Operation → Type 0
Follows None o = (o.sequence ≡ Single) ⊎ (o.sequence ≡ First)
Follows (Some m) o =
    ((o.sequence ≡ Middle) ⊎ (o.sequence ≡ Last))
    × (o.sender ≡ m.source.sender)
    × (o.aid ≡ m.source.aid)
    × (1 ≤ m.count)
    × (m.count + length o.bytes ≤ 4096)

pub record Acceptable (r : Receiver) (store : List ℕ) (o : Operation) : Type 0 where
  pub size : length store ≡ 4096
  pub sender : o.sender ≤ 7
  pub aid : o.aid ≤ 255
  pub least : 1 ≤ length o.bytes
  pub most : length o.bytes ≤ 256
  pub follows : Follows r o

pub record AcceptsExactly (r : Receiver) (store : List ℕ) (o : Operation) : Type 0 where
  pub all : Acceptable r store o → receive_refusal r store o ≡ accepted
  pub only : receive_refusal r store o ≡ accepted → Acceptable r store o

-- ---- the answer

-- "A refusal keeps the receiver's state and store."
unfoldable pub refused : ℕ → Receiver → Receipt
refused number r = record { refusal = number; receiver = r; completion = None }

-- "Single and Last report the message complete, with sender, AID and length, and leave the receiver idle"; the message has n bytes now
unfoldable pub taken : Sequence → ℕ → ℕ → ℕ → Receipt
taken q s a n =
    cond (ends q)
    (record { refusal = accepted; receiver = None; completion = Some (brought s a n) })
    (record { refusal = accepted; receiver = Some (brought s a n); completion = None })

unfoldable pub receipt : Receiver → List ℕ → Operation → Receipt
receipt r store o =
    cond (accepts r store o)
    (taken o.sequence o.sender o.aid (start_of r + length o.bytes))
    (refused (receive_refusal r store o) r)

-- "First and Single start .. at byte 0; Middle and Last .. go on at its count; the store's other bytes stay."
unfoldable pub store_after : Receiver → List ℕ → Operation → List ℕ
store_after r store o = cond (accepts r store o) (sets store (start_of r) o.bytes) store

-- what a completion tells: nothing, or sender, AID and length
unfoldable pub completion_told : Option Received → List ℕ
completion_told None = []
completion_told (Some m) = m.source.sender ∷ m.source.aid ∷ m.count ∷ []

-- what an accepted operation answers
pub record AcceptedTells (r : Receiver) (store : List ℕ) (o : Operation) : Type 0 where
  -- "Single and Last report the message complete, with sender, AID and length, and leave the receiver idle": its length is now the count and the bytes
  pub complete : receive_refusal r store o ≡ 0 → (o.sequence ≡ Single) ⊎ (o.sequence ≡ Last)
      → (completion_told (receipt r store o).completion ≡ o.sender ∷ o.aid ∷ (start_of r + length o.bytes) ∷ []) × ((receipt r store o).receiver ≡ None)
  -- Table 6, First and Middle: the receiving unit is pending
  pub pending : receive_refusal r store o ≡ 0 → (o.sequence ≡ First) ⊎ (o.sequence ≡ Middle)
      → (completion_told (receipt r store o).completion ≡ [])
      × ((receipt r store o).receiver ≡ Some (brought o.sender o.aid (start_of r + length o.bytes)))

-- ---- refused operations, in the paper's own numbers

-- 10: "a pending state with a sender above 7, an AID above 255 or a count outside 1 to 4,096"; an idle one has none of these
unfoldable pub BadPending : Receiver → Type 0
BadPending None = ⊥
BadPending (Some m) = (7 < m.source.sender) ⊎ ((255 < m.source.aid) ⊎ ((m.count ≡ 0) ⊎ (4096 < m.count)))

-- such a state, in a store that isn't refused with 1, is refused with 10 whatever the operation, and nothing else is
pub record RefusesState (r : Receiver) (store : List ℕ) (o : Operation) : Type 0 where
  pub all : length store ≡ 4096 → BadPending r → (receipt r store o).refusal ≡ 10
  pub only : (receipt r store o).refusal ≡ 10 → (length store ≡ 4096) × BadPending r

-- "A refusal keeps the receiver's state and store", and completes nothing: the whole answer, and what it tells
pub record RefusedKeeps (r : Receiver) (store : List ℕ) (o : Operation) : Type 0 where
  pub told : receive_refusal r store o ≢ 0 → completion_told (receipt r store o).completion ≡ []
  pub answer : receive_refusal r store o ≢ 0 → receipt r store o ≡ record { refusal = receive_refusal r store o; receiver = r; completion = None }
  pub kept : receive_refusal r store o ≢ 0 → store_after r store o ≡ store

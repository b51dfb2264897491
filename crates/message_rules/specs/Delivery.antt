-- What sender and receiver promise together (document 02, T-01): "what it cuts, given in order to one idle receiver with nothing between, must come
-- together again with its sender and AID"; and with refused operations between, all the same.
use Rattle.std.specs.Prelude.{ℕ, ◌-◌, ◌≤◌, ◌≡◌, ◌≢◌, ◌⊎◌, cond, List, [], ◌∷◌, ◌++◌, map, None, eqb, length, drop, replicate}
use Rattle.order.specs.Refusal.{accepted, other_source, out_of_turn}
use Rattle.message_rules.specs.Operation.{Operation}
use Rattle.message_rules.specs.Receiver.{Receiver, Receipt, receive_refusal, receipt, store_after, completion_told}
use Rattle.message_rules.specs.Sender.{Sendable, division, operations}

-- ---- operations one after the other: each gets the receiver and the store as the one before left them

-- the answers, from the receiver r and the store st
unfoldable pub receipts : Receiver → List ℕ → List Operation → List Receipt
receipts r st [] = []
receipts r st (o ∷ os) = receipt r st o ∷ receipts (receipt r st o).receiver (store_after r st o) os

-- the receiver and the store that they leave
unfoldable pub receiver_left : Receiver → List ℕ → List Operation → Receiver
receiver_left r st [] = r
receiver_left r st (o ∷ os) = receiver_left (receipt r st o).receiver (store_after r st o) os

unfoldable pub store_left : Receiver → List ℕ → List Operation → List ℕ
store_left r st [] = st
store_left r st (o ∷ os) = store_left (receipt r st o).receiver (store_after r st o) os

-- ---- the message comes together again

-- the answers to the operations that the message m makes, from sender s with AID a, and the receiver r and the store st' that are left of an idle
-- receiver and the store st
pub record Delivered (m : List ℕ) (s a : ℕ) (st : List ℕ) (answers : List Receipt) (r : Receiver) (st' : List ℕ) : Type 0 where
  -- all are accepted
  pub accepts : map (λ x. x.refusal) answers ≡ replicate (division m s a).operations accepted
  -- only the last completes: it tells the sender, the AID and the message's length
  pub completes : map (λ x. completion_told x.completion) answers ≡ replicate ((division m s a).operations - 1) [] ++ (s ∷ a ∷ length m ∷ []) ∷ []
  pub idle : r ≡ None
  -- the message from byte 0 on; "the store's other bytes stay"
  pub store : st' ≡ m ++ drop (length m) st

-- for every accepted message (`SendsExactly`) and every store of 4,096 bytes
unfoldable pub Delivers : Type 0
Delivers =
    (m : List ℕ) (s a : ℕ) (st : List ℕ) → Sendable m s a → length st ≡ 4096
    → let os = operations m s a in Delivered m s a st (receipts None st os) (receiver_left None st os) (store_left None st os)

-- ---- with others between

-- the operations given are those sent, in order, and before, between and after them any that are refused where they stand
unfoldable pub Interleaved : Receiver → List ℕ → List Operation → List Operation → Type 0
Interleaved r st [] [] = Unit {0}
Interleaved r st (o ∷ sent) [] = ⊥
Interleaved r st [] (g ∷ given) = (receive_refusal r st g ≢ accepted) × Interleaved r st [] given
Interleaved r st (o ∷ sent) (g ∷ given) =
    ((receive_refusal r st g ≢ accepted) × Interleaved r st (o ∷ sent) given)
    ⊎ ((g ≡ o) × Interleaved (receipt r st o).receiver (store_after r st o) sent given)

-- the answers that are no refusals
unfoldable pub kept : List Receipt → List Receipt
kept [] = []
kept (x ∷ xs) = cond (eqb x.refusal accepted) (x ∷ kept xs) (kept xs)

-- refused operations disturb nothing
unfoldable pub DeliversInterleaved : Type 0
DeliversInterleaved =
    (m : List ℕ) (s a : ℕ) (st : List ℕ) (given : List Operation) → Sendable m s a → length st ≡ 4096
    → Interleaved None st (operations m s a) given
    → Delivered m s a st (kept (receipts None st given)) (receiver_left None st given) (store_left None st given)

-- an operation in range that has another sender than s or another AID than a
pub record Foreign (s a : ℕ) (o : Operation) : Type 0 where
  pub sender : o.sender ≤ 7
  pub aid : o.aid ≤ 255
  pub least : 1 ≤ length o.bytes
  pub most : length o.bytes ≤ 256
  pub other : (o.sender ≢ s) ⊎ (o.aid ≢ a)

-- the operations given are those sent, in order, and before each of them any that are foreign
unfoldable pub Among : ℕ → ℕ → List Operation → List Operation → Type 0
Among s a [] [] = Unit {0}
Among s a [] (g ∷ given) = ⊥
Among s a (o ∷ sent) [] = ⊥
Among s a (o ∷ sent) (g ∷ given) = (Foreign s a g × Among s a (o ∷ sent) given) ⊎ ((g ≡ o) × Among s a sent given)

-- the same with nothing before the first: foreign operations stand between the first and the last alone
unfoldable pub Between : ℕ → ℕ → List Operation → List Operation → Type 0
Between s a [] given = ⊥
Between s a (o ∷ sent) [] = ⊥
Between s a (o ∷ sent) (g ∷ given) = (g ≡ o) × Among s a sent given

-- P of each answer
unfoldable pub Each : (Receipt → Type 0) → List Receipt → Type 0
Each P [] = Unit {0}
Each P (x ∷ xs) = P x × Each P xs

-- operations of others, given between the first and the last, are refused with 11 or 12 and disturb nothing
pub record OthersRefused (m : List ℕ) (s a : ℕ) (st : List ℕ) (given : List Operation) : Type 0 where
  pub numbers : Each (λ x. (x.refusal ≡ accepted) ⊎ ((x.refusal ≡ other_source) ⊎ (x.refusal ≡ out_of_turn))) (receipts None st given)
  pub interleaved : Interleaved None st (operations m s a) given
  pub delivered : Delivered m s a st (kept (receipts None st given)) (receiver_left None st given) (store_left None st given)

unfoldable pub RefusesOthers : Type 0
RefusesOthers =
    (m : List ℕ) (s a : ℕ) (st : List ℕ) (given : List Operation) → Sendable m s a → length st ≡ 4096
    → Between s a (operations m s a) given → OthersRefused m s a st given

-- What receiving through the C interface answers and leaves, from the receiver's numbers r, the store st, the operation o and the completion's space c:
-- 9 if a space is too small; then the receiver's own refusals. A refused call leaves everything.
use Rattle.std.specs.Prelude.{ℕ, ◌≡◌, Bool, true, cond, ◌&&◌, List, ◌++◌, length, drop, leb, eqb}
use Rattle.order.specs.Refusal.{accepted, no_room}
use Rattle.message_rules.specs.Operation.{Operation}
use Rattle.message_rules.specs.Receiver.{receipt, store_after}
use Rattle.capi_message.specs.Layout.{receiver_size, receiver_from, receiver_numbers, completion_size, completion_numbers}
use Rattle.capi_message.specs.Operation.{operation_from}

unfoldable pub spaced : List ℕ → List ℕ → Bool
spaced r c = leb receiver_size (length r) && leb completion_size (length c)

unfoldable pub receive_returned : List ℕ → List ℕ → Operation → List ℕ → ℕ
receive_returned r st o c = cond (spaced r c) (receipt (receiver_from r) st o).refusal no_room

unfoldable pub receive_receiver : List ℕ → List ℕ → Operation → List ℕ → List ℕ
receive_receiver r st o c =
    cond (eqb (receive_returned r st o c) accepted) (receiver_numbers (receipt (receiver_from r) st o).receiver ++ drop receiver_size r) r

unfoldable pub receive_store : List ℕ → List ℕ → Operation → List ℕ → List ℕ
receive_store r st o c = cond (eqb (receive_returned r st o c) accepted) (store_after (receiver_from r) st o) st

unfoldable pub receive_completion : List ℕ → List ℕ → Operation → List ℕ → List ℕ
receive_completion r st o c =
    cond (eqb (receive_returned r st o c) accepted) (completion_numbers (receipt (receiver_from r) st o).completion ++ drop completion_size c) c

-- Calls follow on each other as the receiver's own do: with room, what is left stands for the receiver and is the store that an operation leaves, a
-- refused one too.
pub record Follows : Type 0 where
  pub receiver : (r st : List ℕ) (q s a : ℕ) (b c : List ℕ) → spaced r c ≡ true
      → receiver_from (receive_receiver r st (operation_from q s a b) c) ≡ (receipt (receiver_from r) st (operation_from q s a b)).receiver
  pub store : (r st : List ℕ) (o : Operation) (c : List ℕ) → spaced r c ≡ true → receive_store r st o c ≡ store_after (receiver_from r) st o

-- What dividing a message m through the C interface answers and leaves, for the sender s and the AID a. A refused call leaves everything.
use Rattle.std.specs.Prelude.{ℕ, ◌≤◌, ◌<◌, ◌≡◌, cond, List, length, take, drop, eqb}
use Rattle.order.specs.Refusal.{accepted}
use Rattle.message_rules.specs.Sender.{division, operation_at, sequence_found, part_found, part_offset}
use Rattle.crossing.specs.Capped.{capped}
use Rattle.capi_message.specs.Operation.{number_found}

unfoldable pub divide_returned : List ℕ → ℕ → ℕ → ℕ
divide_returned m s a = (division m (capped 255 s) (capped 65535 a)).refusal

-- how many operations; x is the number as it was
unfoldable pub divide_operations : List ℕ → ℕ → ℕ → ℕ → ℕ
divide_operations m s a x = cond (eqb (divide_returned m s a) accepted) (division m (capped 255 s) (capped 65535 a)).operations x

-- operation k, counted from 0: its sequence's number, where its bytes start in the message, and how many they are. All are 0 past the last.
unfoldable pub operation_sequence : List ℕ → ℕ → ℕ → ℕ → ℕ → ℕ
operation_sequence m s a k x =
    cond (eqb (divide_returned m s a) accepted) (number_found (sequence_found (operation_at m (capped 255 s) (capped 65535 a) k))) x

unfoldable pub operation_offset : List ℕ → ℕ → ℕ → ℕ → ℕ → ℕ
operation_offset m s a k x = cond (eqb (divide_returned m s a) accepted) (part_offset m (capped 255 s) (capped 65535 a) k) x

unfoldable pub operation_length : List ℕ → ℕ → ℕ → ℕ → ℕ → ℕ
operation_length m s a k x =
    cond (eqb (divide_returned m s a) accepted) (length (part_found (operation_at m (capped 255 s) (capped 65535 a) k))) x

-- of an accepted message
pub record Marked (m : List ℕ) (s a k x y z : ℕ) : Type 0 where
  -- offset and length mark the operation's bytes in the message
  pub bytes : take (operation_length m s a k x) (drop (operation_offset m s a k y) m) ≡ part_found (operation_at m (capped 255 s) (capped 65535 a) k)
  -- the length is 0 exactly past the last operation
  pub some : k < divide_operations m s a z → 1 ≤ operation_length m s a k x
  pub none : divide_operations m s a z ≤ k → operation_length m s a k x ≡ 0

unfoldable pub Marks : Type 0
Marks = (m : List ℕ) (s a k x y z : ℕ) → divide_returned m s a ≡ accepted → Marked m s a k x y z

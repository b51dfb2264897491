-- A receiver and a completion as a caller lends them, four numbers each.
use Rattle.std.specs.Prelude.{ℕ, ◌≤◌, ◌≡◌, true, cond, ◌&&◌, List, [], ◌∷◌, ◌++◌, Option, Some, None, length, get_or, take, eqb}
use Rattle.crossing.specs.Capped.{capped}
use Rattle.message_rules.specs.declared.Received.{Received}
use Rattle.message_rules.specs.Operation.{is_source}
use Rattle.message_rules.specs.Receiver.{Receiver, brought, state_allowed, completion_told}

-- a sender in a byte and an AID in two: any above becomes the most, which is out of range too, so that the tests of both stay
unfoldable pub Narrows : Type 0
Narrows = (s a : ℕ) → is_source (capped 255 s) (capped 65535 a) ≡ is_source s a

-- ---- the receiver

-- the numbers of a receiver
abbrev pub receiver_size : ℕ
receiver_size = 4

-- 0 idle; 1 pending, with sender, AID and byte count
unfoldable pub receiver_numbers : Receiver → List ℕ
receiver_numbers None = 0 ∷ 0 ∷ 0 ∷ 0 ∷ []
receiver_numbers (Some m) = 1 ∷ m.source.sender ∷ m.source.aid ∷ m.count ∷ []

-- what numbers that stand for no receiver are taken for: "a pending state with a sender above 7", refused with 10
abbrev pub no_receiver : Receiver
no_receiver = Some (brought 255 0 0)

unfoldable pub receiver_of : ℕ → ℕ → ℕ → ℕ → Receiver
receiver_of state s a n =
    cond (eqb state 0) (cond (eqb s 0 && (eqb a 0 && eqb n 0)) None no_receiver)
    (cond (eqb state 1) (Some (brought (capped 255 s) (capped 65535 a) n)) no_receiver)

-- the receiver that the first four numbers stand for
unfoldable pub receiver_from : List ℕ → Receiver
receiver_from l = receiver_of (get_or l 0 0) (get_or l 1 0) (get_or l 2 0) (get_or l 3 0)

-- its sender and its AID are numbers that their types hold
unfoldable pub Fits : Receiver → Type 0
Fits None = Unit {0}
Fits (Some m) = (m.source.sender ≤ 255) × (m.source.aid ≤ 65535)

-- the numbers and the receiver determine each other
pub record Inverse : Type 0 where
  -- what was written is read back, whatever stands behind it
  pub back : (r : Receiver) (t : List ℕ) → Fits r → receiver_from (receiver_numbers r ++ t) ≡ r
  -- numbers that are not refused with 10 are those of the receiver that they are taken for
  pub forth : (l : List ℕ) → receiver_size ≤ length l → state_allowed (receiver_from l) ≡ true → receiver_numbers (receiver_from l) ≡ take receiver_size l

-- ---- the completion

-- the numbers of a completion
abbrev pub completion_size : ℕ
completion_size = 4

-- 0 where the message is not complete; 1 and what is told of it where it is
unfoldable pub completion_numbers : Option Received → List ℕ
completion_numbers None = 0 ∷ 0 ∷ 0 ∷ 0 ∷ []
completion_numbers (Some m) = 1 ∷ completion_told (Some m)

-- What a call of the handler through the C interface answers and leaves, from the state's numbers s: 9 if there are fewer than three, 8 if LCK is neither 0
-- nor 1; then the handler's own refusal. A refused call leaves everything.
use Rattle.std.specs.Prelude.{ℕ, ◌≤◌, ◌≡◌, cond, List, ◌++◌, length, drop, leb, eqb}
use Rattle.order.specs.Refusal.{accepted, field_range, no_room}
use Rattle.handler.specs.Handler.{Arbitration, arbitration, initial}
use Rattle.crossing.specs.Capped.{capped}
use Rattle.capi_handler.specs.State.{state_size, state_numbers, state_from, class_granted, unit_granted}

unfoldable pub fresh_returned : List ℕ → ℕ
fresh_returned s = cond (leb state_size (length s)) accepted no_room

unfoldable pub fresh_state : List ℕ → List ℕ
fresh_state s = cond (leb state_size (length s)) (state_numbers initial ++ drop state_size s) s

-- the handler's own answer
unfoldable pub arbitrated : List ℕ → ℕ → ℕ → ℕ → Arbitration
arbitrated s high low lck = arbitration (state_from s) (capped 65535 high) (capped 65535 low) (eqb lck 1)

unfoldable pub arbitrate_returned : List ℕ → ℕ → ℕ → ℕ → ℕ
arbitrate_returned s high low lck =
    cond (leb state_size (length s)) (cond (leb lck 1) (arbitrated s high low lck).refusal field_range) no_room

unfoldable pub arbitrate_state : List ℕ → ℕ → ℕ → ℕ → List ℕ
arbitrate_state s high low lck =
    cond (eqb (arbitrate_returned s high low lck) accepted) (state_numbers (arbitrated s high low lck).state ++ drop state_size s) s

-- lent numbers, x before
unfoldable pub arbitrate_class : List ℕ → ℕ → ℕ → ℕ → ℕ → ℕ
arbitrate_class s high low lck x =
    cond (eqb (arbitrate_returned s high low lck) accepted) (class_granted (arbitrated s high low lck).grant) x

unfoldable pub arbitrate_unit : List ℕ → ℕ → ℕ → ℕ → ℕ → ℕ
arbitrate_unit s high low lck x =
    cond (eqb (arbitrate_returned s high low lck) accepted) (unit_granted (arbitrated s high low lck).grant) x

-- Calls follow on each other as the handler's own do: what is left stands for the state that a call leaves, a refused one too.
unfoldable pub FollowsOn : Type 0
FollowsOn =
    (s : List ℕ) (high low lck : ℕ) → state_size ≤ length s → lck ≤ 1 → state_from (arbitrate_state s high low lck) ≡ (arbitrated s high low lck).state

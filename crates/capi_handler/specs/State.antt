-- The handler's state as a caller lends it, three numbers, and a grant as two.
use Rattle.std.specs.Prelude.{ℕ, ◌≤◌, ◌≡◌, true, Option, None, Some, cond, List, [], ◌∷◌, ◌++◌, length, get_or, take, eqb}
use Rattle.handler.specs.declared.Class.{Class}
use Rattle.handler.specs.declared.Class.TheVariants.{High, Low}
use Rattle.handler.specs.declared.State.{State}
use Rattle.handler.specs.declared.Grant.{Grant}
use Rattle.handler.specs.Handler.{state_allowed}
use Rattle.crossing.specs.Capped.{capped}

-- the numbers of a state
abbrev pub state_size : ℕ
state_size = 3

-- the lock's owner; 8, which is no unit, says that there is none
unfoldable pub lock_number : Option ℕ → ℕ
lock_number None = 8
lock_number (Some u) = u

-- a number too large for its type becomes 255, which the handler refuses as it would the number
unfoldable pub lock_from : ℕ → Option ℕ
lock_from n = cond (eqb n 8) None (Some (capped 255 n))

unfoldable pub state_numbers : State → List ℕ
state_numbers s = s.last_high ∷ s.last_low ∷ lock_number s.lock ∷ []

unfoldable pub state_of : ℕ → ℕ → ℕ → State
state_of high low owner = record { last_high = capped 255 high; last_low = capped 255 low; lock = lock_from owner }

-- the state that the first three numbers stand for
unfoldable pub state_from : List ℕ → State
state_from l = state_of (get_or l 0 0) (get_or l 1 0) (get_or l 2 0)

-- the states that the handler takes and their numbers determine each other; all other numbers get the handler's own refusal 10
pub record Inverse : Type 0 where
  pub back : (s : State) (t : List ℕ) → state_allowed s ≡ true → state_from (state_numbers s ++ t) ≡ s
  pub forth : (l : List ℕ) → state_size ≤ length l → state_allowed (state_from l) ≡ true → state_numbers (state_from l) ≡ take state_size l

-- how a unit was granted: 0 nobody, 1 by RQH, 2 by RQL; and the unit, 0 for nobody
unfoldable pub class_told : Class → ℕ
class_told High = 1
class_told Low = 2

unfoldable pub class_granted : Option Grant → ℕ
class_granted None = 0
class_granted (Some g) = class_told g.class

unfoldable pub unit_granted : Option Grant → ℕ
unit_granted None = 0
unit_granted (Some g) = g.unit

-- The bus handler (document 01, "The bus handler"): the round robin, the lock, the grant, and what is refused.
-- A set of units is a number in which unit u has weight 2 ^ u.
use Rattle.std.specs.Prelude.{ℕ, zero, suc, ◌+◌, ◌-◌, ◌%◌, Bool, true, false, Option, None, Some, Result, Ok, Err, cond, ◌&&◌, ◌≡◌, eqb, leb}
use Rattle.numeric.specs.Bits.{contains}
use Rattle.order.specs.declared.Refusal.{Refusal}
use Rattle.order.specs.Refusal.{accepted, bad_state, refusal_number}
use Rattle.handler.specs.declared.Class.{Class}
use Rattle.handler.specs.declared.Class.TheVariants.{High, Low}
use Rattle.handler.specs.declared.State.{State}
use Rattle.handler.specs.declared.Grant.{Grant}

-- the answer to a call: the number of refusal or 0, the grant, and the state for the next call
pub record Arbitration : Type 0 where
  pub refusal : ℕ
  pub grant : Option Grant
  pub state : State

-- what a call returns and the state that it leaves, as one answer
unfoldable pub told : Result (Option Grant) Refusal → State → Arbitration
told (Ok grant) s = record { refusal = accepted; grant = grant; state = s }
told (Err refusal) s = record { refusal = refusal_number refusal; grant = None; state = s }

-- different returns, and different states left, are different answers
unfoldable pub ToldApart : Type 0
ToldApart = (r q : Result (Option Grant) Refusal) (s t : State) → told r s ≡ told q t → (r ≡ q) × (s ≡ t)

-- "State: last high unit, last low unit, lock owner or none"

unfoldable pub last_unit : Class → State → ℕ
last_unit High s = s.last_high
last_unit Low s = s.last_low

-- "Input: two sets of units 0 to 7, RQH and RQL"

unfoldable pub requests : Class → ℕ → ℕ → ℕ
requests High high low = high
requests Low high low = low

-- a grant of the class to the unit
abbrev pub to : Class → ℕ → Option Grant
to c u = Some record { class = c; unit = u }

-- unit u, granted in class d, is a grant in class c if c is d
unfoldable pub granted_in : Class → Class → ℕ → Option ℕ
granted_in High High u = Some u
granted_in High Low u = None
granted_in Low High u = None
granted_in Low Low u = Some u

-- the unit granted in a class, if there is one
unfoldable pub unit_granted : Class → Option Grant → Option ℕ
unit_granted c None = None
unit_granted c (Some g) = granted_in c g.class g.unit

-- "First the lock": LCK negated clears the owner; LCK asserted with no owner makes the last low unit the owner, and with an owner keeps it

unfoldable pub lock_next : Bool → Option ℕ → ℕ → Option ℕ
lock_next false lock lastLow = None
lock_next true None lastLow = Some lastLow
lock_next true (Some u) lastLow = Some u

unfoldable pub locked : Bool → State → State
locked lck s = record { last_high = s.last_high; last_low = s.last_low; lock = lock_next lck s.lock s.last_low }

-- "the first member met counting upward from last + 1, 7 being followed by 0"

-- the unit met after k others
unfoldable pub met : ℕ → ℕ → ℕ
met last k = (last + 1 + k) % 8

-- how many others are met before unit u; the laws of the grant speak of it
unfoldable pub distance : ℕ → ℕ → ℕ
distance last u = (u + 7 - last) % 8

-- how many units are passed before a member is met, where k are passed and at most n more are looked at
unfoldable pub passed : ℕ → ℕ → ℕ → ℕ → ℕ
passed zero set last k = k
passed (suc n) set last k = cond (contains set (met last k)) k (passed n set last (k + 1))

-- the first member met; asked only of a set that isn't empty
unfoldable pub first_met : ℕ → ℕ → ℕ
first_met set last = met last (passed 8 set last 0)

-- the same, if the set has a member
unfoldable pub turn : ℕ → ℕ → Option ℕ
turn set last = cond (eqb set 0) None (Some (first_met set last))

-- "Then the grant"

-- "A grant sets the last unit of its own class only"
unfoldable pub moved : Class → ℕ → State → State
moved High u s = record { last_high = u; last_low = s.last_low; lock = s.lock }
moved Low u s = record { last_high = s.last_high; last_low = u; lock = s.lock }

unfoldable pub granted : Class → ℕ → State → Arbitration
granted c u s = record { refusal = accepted; grant = to c u; state = moved c u s }

-- "Nothing to grant: both last units stay"
unfoldable pub nobody : State → Arbitration
nobody s = record { refusal = accepted; grant = None; state = s }

-- the answer of an accepted call that makes this grant, if any
unfoldable pub answered : Option Grant → State → Arbitration
answered None s = nobody s
answered (Some g) s = granted g.class g.unit s

-- the class's grant by its last unit, from a set that isn't empty
unfoldable pub by_turn : Class → ℕ → State → Arbitration
by_turn c set s = granted c (first_met set (last_unit c s)) s

-- the low grant: under a lock "the owner if it is in RQL and nobody else", otherwise by turn
unfoldable pub low_grant : Option ℕ → ℕ → State → Arbitration
low_grant (Some u) low s = cond (contains low u) (granted Low u s) (nobody s)
low_grant None low s = cond (eqb low 0) (nobody s) (by_turn Low low s)

unfoldable pub grant_next : ℕ → ℕ → State → Arbitration
grant_next high low s = cond (eqb high 0) (low_grant s.lock low s) (by_turn High high s)

-- Refusal 10: "a request set above 255, or a lock owner or last unit above 7"

unfoldable pub lock_allowed : Option ℕ → Bool
lock_allowed None = true
lock_allowed (Some u) = leb u 7

unfoldable pub state_allowed : State → Bool
state_allowed s = leb s.last_high 7 && leb s.last_low 7 && lock_allowed s.lock

unfoldable pub sets_allowed : ℕ → ℕ → Bool
sets_allowed high low = leb high 255 && leb low 255

unfoldable pub allowed : State → ℕ → ℕ → Bool
allowed s high low = sets_allowed high low && state_allowed s

unfoldable pub refused : State → Arbitration
refused s = record { refusal = bad_state; grant = None; state = s }

-- one call: the state, RQH, RQL, and whether LCK is asserted
unfoldable pub arbitration : State → ℕ → ℕ → Bool → Arbitration
arbitration s high low lck = cond (allowed s high low) (grant_next high low (locked lck s)) (refused s)

-- "Fresh state: both last units 7, no lock"
unfoldable pub initial : State
initial = record { last_high = 7; last_low = 7; lock = None }

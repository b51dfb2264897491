-- The rule of document 01, "The bus handler", sentence by sentence, over the answer of `arbitration`: the lock, the first member met, and, over a list of
-- calls from the fresh state, the owner. Nothing here speaks of how the lock's step or the search is defined.
use Rattle.std.specs.Prelude.{ℕ, ◌<◌, ◌≤◌, ◌≡◌, Bool, true, false, None, Some, ◌≢◌, List, eqb}
use Rattle.std.specs.Option.{option_map_or}
use Rattle.order.specs.Refusal.{accepted}
use Rattle.handler.specs.declared.Class.{Class}
use Rattle.handler.specs.declared.Class.TheVariants.{Low}
use Rattle.handler.specs.declared.State.{State}
use Rattle.handler.specs.Handler.{last_unit, requests, unit_granted, arbitration, initial}
use Rattle.numeric.specs.Bits.{contains}
use Rattle.handler.specs.Waiting.{Input, Call, answer, calls, each}

-- "Fresh state: both last units 7, no lock"
unfoldable pub FreshState : Type 0
FreshState = ((c : Class) → last_unit c initial ≡ 7) × (initial.lock ≡ None)

-- a refused call "gives its number, .. no grant, .. and leaves .. handler state": the whole answer. `accepted_exactly` says which calls are refused
unfoldable pub RefusedKeeps : Type 0
RefusedKeeps = (s : State) (high low : ℕ) (lck : Bool) → (arbitration s high low lck).refusal ≢ 0 →
    arbitration s high low lck ≡ record { refusal = 10; grant = None; state = s }

-- the owner that an accepted call leaves
pub record LockRule (s : State) (high low : ℕ) : Type 0 where
  -- "LCK negated clears the owner"
  pub clears : (arbitration s high low false).refusal ≡ accepted → (arbitration s high low false).state.lock ≡ None
  -- "LCK asserted with no owner makes the last low unit the owner": the last low unit before the call
  pub takes : (arbitration s high low true).refusal ≡ accepted → s.lock ≡ None →
      (arbitration s high low true).state.lock ≡ Some s.last_low
  -- "LCK asserted with an owner keeps it"
  pub keeps : (arbitration s high low true).refusal ≡ accepted → (o : ℕ) → s.lock ≡ Some o →
      (arbitration s high low true).state.lock ≡ Some o

-- unit u of the set is "the first member met counting upward from last + 1, 7 being followed by 0"
pub record FirstUpward (set last u : ℕ) : Type 0 where
  pub unit : u ≤ 7
  pub member : contains set u ≡ true
  -- met before 7 is passed: no member lies between
  pub between : last < u → (v : ℕ) → last < v → v < u → contains set v ≡ false
  -- met after 7 is passed: no member lies above last, and none from 0 on below u
  pub above : u ≤ last → (v : ℕ) → last < v → v ≤ 7 → contains set v ≡ false
  pub below : u ≤ last → (v : ℕ) → v < u → contains set v ≡ false

-- a granted unit is that of its class; in the low class, where no lock is held
unfoldable pub GrantsFirst : Type 0
GrantsFirst = (s : State) (high low : ℕ) (lck : Bool) (c : Class) (u : ℕ) → unit_granted c (arbitration s high low lck).grant ≡ Some u →
    (c ≡ Low → (arbitration s high low lck).state.lock ≡ None) → FirstUpward (requests c high low) (last_unit c s) u

-- if a lock is held after a call, its owner is the last low unit
unfoldable pub is_owner_last : Call → Bool
is_owner_last k = option_map_or (λ o. eqb o (answer k).state.last_low) (answer k).state.lock true

-- after each call of any list from the fresh state, refused calls among them
unfoldable pub OwnerIsLast : Type 0
OwnerIsLast = (is : List Input) → each is_owner_last (calls initial is) ≡ true

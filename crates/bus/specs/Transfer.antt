-- The signal plan of one transfer (document 01, "Parity, lanes, levels"; the standard's 4.1), which may be locked (document 02, T-02; the standard's
-- 4.6). A level is true when asserted.
use Rattle.std.specs.Prelude.{ℕ, ◌-◌, ◌<◌, Bool, true, false, Result, Ok, Err, cond, ◌&&◌, ◌||◌, ◌≢◌, ◌⊎◌, ◌≡◌, leb, eqb}
use Rattle.order.specs.declared.Refusal.{Refusal}
use Rattle.order.specs.declared.Refusal.TheVariants.{FieldRange}
use Rattle.order.specs.Refusal.{accepted, refusal_number, number_of}
use Rattle.numeric.specs.Range.{within}
use Rattle.bus.specs.declared.transfer.SignalPlan.{SignalPlan}

-- ET is raised with the request exactly when n is 2 or more or the transfer is locked
unfoldable pub et_raised_at_request : ℕ → Bool → Bool
et_raised_at_request n locked = leb 2 n || locked

-- A transfer has n cycles, 1 to 64. BS is asserted in cycle 1 only; BUR in cycles 1 to n - 1; ET in cycles 1 to n - 2.
unfoldable pub plan_of : ℕ → ℕ → Bool → Result SignalPlan Refusal
plan_of n cycle locked =
    cond (within 1 64 n && within 1 n cycle)
    (Ok record { bs = eqb cycle 1; bur = within 1 (n - 1) cycle; et = within 1 (n - 2) cycle; et_at_request = et_raised_at_request n locked })
    (Err FieldRange)

-- a plan but for ET at the request
unfoldable pub without_request : Result SignalPlan Refusal → Result SignalPlan Refusal
without_request (Ok p) = Ok record { bs = p.bs; bur = p.bur; et = p.et; et_at_request = false }
without_request (Err refusal) = Err refusal

-- ---- the answer in document 01's numbers

-- the number of refusal or 0, and the levels
pub record PlanAnswer : Type 0 where
  pub refusal : ℕ
  pub bs : Bool
  pub bur : Bool
  pub et : Bool
  pub et_at_request : Bool

-- refused with number n: every level negated
unfoldable pub refused_plan : ℕ → PlanAnswer
refused_plan n = record { refusal = n; bs = false; bur = false; et = false; et_at_request = false }

-- the code's answer in these numbers
unfoldable pub plan_told : Result SignalPlan Refusal → PlanAnswer
plan_told (Ok p) = record { refusal = accepted; bs = p.bs; bur = p.bur; et = p.et; et_at_request = p.et_at_request }
plan_told (Err refusal) = refused_plan (refusal_number refusal)

-- different answers of the code are told differently
unfoldable pub PlansApart : Type 0
PlansApart = (r s : Result SignalPlan Refusal) → plan_told r ≡ plan_told s → r ≡ s

-- ---- what is claimed

-- T-02: lock changes ET at the request and nothing else, and only for n = 1
pub record LockChanges : Type 0 where
  pub nothing_else : (n cycle : ℕ) → without_request (plan_of n cycle true) ≡ without_request (plan_of n cycle false)
  pub no_other : (n cycle : ℕ) → n ≢ 1 → plan_of n cycle true ≡ plan_of n cycle false
  pub one :
      (plan_of 1 1 true ≡ Ok record { bs = true; bur = false; et = false; et_at_request = true })
      × (plan_of 1 1 false ≡ Ok record { bs = true; bur = false; et = false; et_at_request = false })

-- "1 to 64; else refusal 8", "Cycle 0 or above n: refusal 8", and refused "every level negated", written out; locked or not
pub record RefusesPlan : Type 0 where
  pub no_transfer : (n cycle : ℕ) (locked : Bool) → (n ≡ 0) ⊎ (64 < n)
      → (plan_of n cycle locked ≡ Err FieldRange)
      × (number_of (plan_of n cycle locked) ≡ 8)
      × (plan_told (plan_of n cycle locked) ≡ record { refusal = 8; bs = false; bur = false; et = false; et_at_request = false })
  pub no_cycle : (n cycle : ℕ) (locked : Bool) → (cycle ≡ 0) ⊎ (n < cycle)
      → (plan_of n cycle locked ≡ Err FieldRange)
      × (number_of (plan_of n cycle locked) ≡ 8)
      × (plan_told (plan_of n cycle locked) ≡ record { refusal = 8; bs = false; bur = false; et = false; et_at_request = false })

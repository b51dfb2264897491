-- What the calls of the bus through the C interface answer and leave.
use Rattle.std.specs.Prelude.{ℕ, Result, Ok, Err, cond, leb, eqb}
use Rattle.order.specs.declared.Refusal.{Refusal}
use Rattle.order.specs.declared.Refusal.TheVariants.{FieldRange}
use Rattle.order.specs.Refusal.{accepted, field_range}
use Rattle.bus.specs.declared.transfer.SignalPlan.{SignalPlan}
use Rattle.bus.specs.Transfer.{plan_of}

-- a lent number, x before: v if nothing was refused
unfoldable pub left : ℕ → ℕ → ℕ → ℕ
left refusal v x = cond (eqb refusal accepted) v x

-- a lent number, x before: what f reads of the answer, if it isn't a refusal
unfoldable pub left_of : {T : Type 0} → Result T Refusal → (T → ℕ) → ℕ → ℕ
left_of (Ok v) f x = f v
left_of (Err refusal) f x = x

-- 8 for a number above x, which its type in the crate `bus` cannot hold
unfoldable pub most : ℕ → ℕ → ℕ
most x n = cond (leb n x) accepted field_range

-- the plan of a transfer that is locked, 1, or not, 0; any other number is refused
unfoldable pub plan_from : ℕ → ℕ → ℕ → Result SignalPlan Refusal
plan_from n cycle locked = cond (leb locked 1) (plan_of n cycle (eqb locked 1)) (Err FieldRange)

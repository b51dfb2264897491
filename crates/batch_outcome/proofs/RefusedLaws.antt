-- A refusal told by its number.
use mathlib.Core.Path.{◌≡◌, refl}
use mathlib.Core.Bool.{Bool, true, false, not, cond}
use Rattle.std.specs.Bool.{then_some}
use Rattle.order.specs.declared.Refusal.{Refusal}
use Rattle.order.specs.Refusal.{refusal_number}
use Rattle.batch_rules.specs.Outcome.{refusal_told}

-- a refusal where a test does not pass
pub unless_told : (passes : Bool) (refusal : Refusal) → refusal_told (then_some (not passes) refusal) ≡ cond passes 0 (refusal_number refusal)
unless_told true refusal = refl
unless_told false refusal = refl

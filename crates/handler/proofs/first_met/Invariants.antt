use Prim.Native.Nat.{◌-◌}
use mathlib.Core.Path.{◌≡◌}
use Rattle.handler.specs.Handler.{passed as passedOf}
use Rattle.handler.proofs.first_met.Given as goal

-- searching on from where the loop stands passes as many as the whole search does
abbrev pub invariant-loop-passed : goal.invariant-loop-passed
invariant-loop-passed l = passedOf (8 - l.passed) l.set l.last l.passed ≡ passedOf 8 l.set l.last 0

use mathlib.Core.Path.{◌≡◌}
use Rattle.numeric.specs.Bits.{from_bits}
use Rattle.boards.proofs.UnitLaws.{bits}
use Rattle.boards.proofs.set_of.Given as goal

-- the units so far
abbrev pub invariant-loop-unit : goal.invariant-loop-unit
invariant-loop-unit l = l.set ≡ from_bits l.unit (bits l.settings)

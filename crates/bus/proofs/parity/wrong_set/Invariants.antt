use mathlib.Core.Path.{◌≡◌}
use Rattle.numeric.specs.Bits.{from_bits}
use Rattle.bus.specs.Parity.{wrong_at}
use Rattle.bus.proofs.parity.wrong_set.Given as goal

-- the bytes before k are judged
abbrev pub invariant-loop-k : goal.invariant-loop-k
invariant-loop-k l = l.wrong ≡ from_bits l.k (wrong_at l.word l.set)

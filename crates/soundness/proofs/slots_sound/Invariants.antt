use Rattle.std.proofs.Common.{◌≡◌}
use Rattle.soundness.specs.Soundness.{faultless}
use Rattle.soundness.proofs.slots_sound.Given as goal

abbrev pub invariant-loop-s : goal.invariant-loop-s
invariant-loop-s l = l.good ≡ faultless l.s l.fn.blocks l.fn.ranks

use Rattle.std.proofs.Common.{◌≡◌}
use Rattle.soundness.specs.Soundness.{kinds_kept}
use Rattle.soundness.proofs.kinds_sound.Given as goal

abbrev pub invariant-loop-unit : goal.invariant-loop-unit
invariant-loop-unit l = l.good ≡ kinds_kept l.unit l.ranks l.settings

use Rattle.std.proofs.Common.{◌≡◌}
use Rattle.coherence.specs.Slots.{all_below}
use Rattle.set_test.specs.Sets.{sets_agree}
use Rattle.set_test.proofs.sets_sound.Given as goal

abbrev pub invariant-loop-row : goal.invariant-loop-row
invariant-loop-row l = l.good ≡ all_below l.row (λ row. sets_agree 16 l.blocks l.holders row)

use Rattle.std.proofs.Common.{◌≡◌}
use Rattle.set_test.specs.Sets.{sets_agree}
use Rattle.set_test.proofs.row_sound.Given as goal

abbrev pub invariant-loop-s : goal.invariant-loop-s
invariant-loop-s l = l.good ≡ sets_agree l.s l.blocks l.holders l.row

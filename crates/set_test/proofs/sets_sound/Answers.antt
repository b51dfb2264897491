use Rattle.std.proofs.Common.{◌≡◌, arith}
use Rattle.coherence.specs.Slots.{all_below}
use Rattle.set_test.specs.Sets.{sets_sound}
use Rattle.set_test.proofs.sets_sound.Goals as goal

pub returns : goal.returns
unfolding sets_sound all_below
returns c =
    let e : c.loop-row.row ≡ 4 = omega arith in
    rw e at c.loop-row.invariant

use Rattle.set_test.specs.Sets.{SlotBySlot}
use Rattle.soundness.proofs.ranks_of.Goals as goal

pub returns : goal.returns
unfolding SlotBySlot
returns c = λ n l. (c.each.ensures n l).1.0

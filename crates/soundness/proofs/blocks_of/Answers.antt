use Rattle.std.proofs.Common.{rules}
use Rattle.set_test.specs.Sets.{SlotBySlot}
use Rattle.soundness.proofs.blocks_of.Goals as goal

pub returns : goal.returns
unfolding SlotBySlot
returns c = λ n l. let h = c.each.ensures n l in search rules

use Rattle.std.proofs.Common.{◌≡◌}
use Rattle.slots.specs.Directory.{of_slots}
use Rattle.slots.proofs.Claims.{released_below}
use Rattle.slots.proofs.expelled.Given as goal

abbrev pub invariant-loop-v : goal.invariant-loop-v
invariant-loop-v l = l.left ≡ (released_below l.v l.unit l.block (of_slots l.slots)).slots

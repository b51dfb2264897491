use Rattle.std.proofs.Common.{◌≡◌, ◌<◌, ℕ, false}
use Rattle.coherence.specs.Slots.{place, slot_at, modified}
use Rattle.slots.specs.Directory.{of_slots}
use Rattle.slots.proofs.owner.Given as goal

abbrev pub invariant-loop-unit : goal.invariant-loop-unit
invariant-loop-unit l = (u : ℕ) → u < l.unit → modified (slot_at (of_slots l.slots) (place u l.block)) l.block ≡ false

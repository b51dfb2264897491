use Rattle.std.proofs.Common.{ℕ, arith, sym, ap, ◌∙◌}
use Rattle.coherence.specs.Slots.{slot_at, modified}
use Rattle.slots.specs.Directory.{of_slots}
use Rattle.slots.proofs.Claims.{owner_found, owner_none}
use Rattle.slots.proofs.owner.Goals as goal

pub returns-then-has_modified : goal.returns-then-has_modified
unfolding slot_at
returns-then-has_modified c =
    owner_found (of_slots c.args.slots) c.args.block c.loop-unit.unit (omega arith) c.loop-unit.invariant
    (ap (λ (n : ℕ). modified (slot_at (of_slots c.args.slots) n) c.args.block) (sym c.place_of.ensures) ∙ sym c.has_modified.ensures ∙ c.if-has_modified.true)

pub returns : goal.returns
returns c = owner_none (of_slots c.args.slots) c.args.block (λ u h. c.loop-unit.invariant u (omega arith))

use mathlib.Core.Path.{ap, ◌∙◌}
use Rattle.coherence.specs.declared.Directory.{Directory}
use Rattle.slots.proofs.OfSlots.{with, of_slot, of_owner, of_expelled}
use Rattle.write_through.specs.Through.{through_directory, through_left, through_memory, through_cache}
use Rattle.write_through.proofs.store_through.Goals as goal

pub returns : goal.returns
unfolding through_directory through_left through_memory through_cache
returns c =
    let d = c.args.directory in
    let v = c.owner-holder.ensures ∙ of_owner d _ in
    let w = of_expelled d _ _ _ (rw v at c.yielded.ensures) c.expelled-left.ensures in
    let x = (rw c.place_of.ensures at c.slot_at.ensures) ∙ of_slot (with _ d) _ in
    let h = rw (x, w) at c.holds_block-held.ensures in
    let l = ap (λ (e : Directory). e.slots) w in
    (rw (rw v at c.ask_orders-orders.ensures, l, rw h at c.through_sets-sets.ensures) at c.accepted.ensures, rw (rw v at c.yield_bytes.ensures) at c.put_word.ensures, rw (h, c.cache_place.ensures) at c.put_word_if.ensures)

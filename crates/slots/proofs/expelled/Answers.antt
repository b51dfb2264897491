use Rattle.std.proofs.Common.{◌≡◌, ℕ, arith, ap, ◌∙◌, refl}
use Rattle.coherence.specs.declared.Directory.{Directory}
use Rattle.coherence.specs.Slots.{slot_at}
use Rattle.slots.specs.Directory.{of_slots}
use Rattle.slots.proofs.Claims.{released_below, one_more, all_released}
use Rattle.slots.proofs.expelled.Goals as goal

pub loop-v-init : goal.loop-v-init
unfolding released_below
loop-v-init c = refl

pub loop-v-preserved : goal.loop-v-preserved
unfolding slot_at
loop-v-preserved c =
    let a = c.args in
    let l = c.loop-v in
    rw c.place_of-n.ensures (one_more l.v a.unit a.block (of_slots a.slots) _ l.invariant (rw c.place_of-n.ensures at c.release.ensures))

pub returns : goal.returns
returns c =
    let a = c.args in
    let l = c.loop-v in
    let e : l.v ≡ 4 = omega arith in
    l.invariant ∙ ap (λ (n : ℕ). (released_below n a.unit a.block (of_slots a.slots)).slots) e ∙ ap (λ (d : Directory). d.slots) (all_released a.unit a.block (of_slots a.slots))

use Rattle.std.proofs.Common.{◌≡◌, Bool, true, false, ◌&&◌, sym, ◌∙◌}
use Rattle.coherence.specs.Slots.{sound_slots, sound_kinds, sound}
use Rattle.soundness.proofs.FaultLaws.{faultless_is}
use Rattle.soundness.proofs.KindLaws.{kinds_kept_lem}
use Rattle.set_test.proofs.SetLaws.{sets_are}
use Rattle.soundness.proofs.is_sound.Goals.{then-slots_sound, else-slots_sound}
use Rattle.soundness.proofs.is_sound.Goals as goal

-- the first two tests together: v, where a is the first and k the second
both_pass : (s : Bool) {a k v : Bool} → a ≡ s → a ≡ true → v ≡ k → v ≡ (s && k)
both_pass s p q r = rw (sym p ∙ q) r

first_fails : (s k : Bool) {a v : Bool} → a ≡ s → a ≡ false → v ≡ a → v ≡ (s && k)
first_fails s k p q r = rw (sym p ∙ q) (r ∙ q)

pub returns-then-kinds_sound : goal.returns-then-kinds_sound
unfolding sound
returns-then-kinds_sound c =
    let d = c.args.directory in
    let blocks = c.blocks_of-blocks.ensures in
    let ranks = c.ranks_of-ranks.ensures in
    let slots = c.slots_sound.ensures ∙ faultless_is d _ _ blocks ranks in
    let v : c.if-slots_sound.value ≡ (sound_slots d && sound_kinds d) = elim c.if-slots_sound.branch [
      | then-slots_sound w ↦ both_pass _ slots w.if-slots_sound.true (w.value-is ∙ w.kinds_sound.ensures ∙ kinds_kept_lem d _ ranks)
      | else-slots_sound w ↦ first_fails _ _ slots w.if-slots_sound.false w.value-is
    ] in
    rw (sym v ∙ c.if-kinds_sound.true) (c.sets_sound.ensures ∙ sets_are d _ blocks)

pub returns-else-kinds_sound : goal.returns-else-kinds_sound
unfolding sound
returns-else-kinds_sound c =
    let d = c.args.directory in
    let blocks = c.blocks_of-blocks.ensures in
    let ranks = c.ranks_of-ranks.ensures in
    let slots = c.slots_sound.ensures ∙ faultless_is d _ _ blocks ranks in
    let v : c.if-slots_sound.value ≡ (sound_slots d && sound_kinds d) = elim c.if-slots_sound.branch [
      | then-slots_sound w ↦ both_pass _ slots w.if-slots_sound.true (w.value-is ∙ w.kinds_sound.ensures ∙ kinds_kept_lem d _ ranks)
      | else-slots_sound w ↦ first_fails _ _ slots w.if-slots_sound.false w.value-is
    ] in
    rw (sym v ∙ c.if-kinds_sound.false) c.if-kinds_sound.false

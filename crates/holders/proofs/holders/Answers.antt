use mathlib.Core.Path.{sym, ◌∙◌}
use native.Mathlib.Omega.{arith}
use Rattle.coherence.specs.Slots.{held_by}
use Rattle.holders.proofs.HoldersTold.{broken_is, no_block, looked_up}
use Rattle.holders.proofs.holders.Goals as goal

pub returns-then-not-is_sound : goal.returns-then-not-is_sound
returns-then-not-is_sound c = broken_is _ _ (sym c.is_sound.ensures ∙ c.if-not-is_sound.true)

pub returns-then-block-gt63 : goal.returns-then-block-gt63
returns-then-block-gt63 c = no_block _ _ (sym c.is_sound.ensures ∙ c.if-not-is_sound.false) (omega (arith, c.if-block-gt63.true))

pub returns : goal.returns
unfolding held_by
returns c =
    rw c.set_at-set.ensures (looked_up _ _ (sym c.is_sound.ensures ∙ c.if-not-is_sound.false) (omega (arith, c.if-block-gt63.false)))

use mathlib.Core.Path.{◌≡◌, refl, sym, ◌∙◌}
use native.Mathlib.Omega.{arith}
use lib.ListN.{length-set}
use lib.Seq.{take_all}
use borrow.Author.Tests.{eqb-true}
use Rattle.coherence.proofs.Below.{both}
use Rattle.layout.specs.Directory.{Paired, slots_spelled, set_in, steal_in, spells_slots, decoded}
use Rattle.layout.proofs.DirectoryLaws.{take_slot}
use Rattle.layout.proofs.directory.decode.Goals as goal

pub pairs-words-requires : goal.pairs-words-requires
pairs-words-requires c = eqb-true _ _ (both _ _ (both _ _ c.if-bytes-set.true).0).0

pub loop-n-init : goal.loop-n-init
unfolding slots_spelled
loop-n-init c = record { whole = refl; spelled = refl }

pub loop-n-preserved : goal.loop-n-preserved
unfolding Paired
loop-n-preserved c =
    let l = c.loop-n in
    let b = c.args.bytes.now in
    let p = c.pairs-words.ensures.1 l.n (omega arith) in
    record {
      whole = simp length-set (omega arith);
      spelled = rw (c.slot_spelled.ensures, p.0, p.1) (take_slot b l.slots l.n (omega arith) l.invariant.spelled);
    }

pub returns-after-loop-n : goal.returns-after-loop-n
unfolding decoded spells_slots set_in steal_in
returns-after-loop-n c =
    let l = c.loop-n in
    let b = c.args.bytes.now in
    let e : l.n ≡ 64 = omega arith in
    let whole : l.slots ≡ slots_spelled 64 b = sym (take_all 64 l.slots (omega arith)) ∙ (rw e at l.invariant.spelled) in
    let s = c.byte_at-set.ensures in
    let t = c.byte_at-steal.ensures in
    rw (rw (s, t) at c.if-bytes-set.true, whole, rw (s, t) at c.settings_of-settings.ensures, c.sets_in-holders.ensures)

pub returns-else-bytes-set : goal.returns-else-bytes-set
unfolding decoded spells_slots set_in steal_in
returns-else-bytes-set c =
    let s = c.byte_at-set.ensures in
    let t = c.byte_at-steal.ensures in
    rw (rw (s, t) at c.if-bytes-set.false, rw (s, t) at c.settings_of-settings.ensures, c.sets_in-holders.ensures)

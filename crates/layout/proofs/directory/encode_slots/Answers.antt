use Rattle.std.proofs.Common.{◌≡◌, ℕ, ◌*◌, ◌++◌, refl, ap, ◌∙◌, arith, drop, length-set}
use Rattle.coherence.specs.Slots.{slot_at}
use Rattle.slots.specs.Directory.{of_slots}
use Rattle.layout.specs.Directory.{slot_bytes}
use Rattle.layout.proofs.DirectoryLaws.{put_slot, or_zero}
use Rattle.layout.proofs.directory.encode_slots.Goals as goal

pub loop-n-init : goal.loop-n-init
unfolding slot_bytes
loop-n-init c = record { room = refl; put = refl }

pub loop-n-preserved : goal.loop-n-preserved
unfolding slot_at
loop-n-preserved c =
    let a = c.args in
    let l = c.loop-n in
    record {
      room = simp length-set (omega arith);
      put = rw (c.rank.ensures.0, c.block_or.ensures, or_zero _, l.invariant.put) (put_slot (of_slots a.slots) a.out.now l.n (omega arith));
    }

pub returns : goal.returns
returns c =
    let a = c.args in
    let l = c.loop-n in
    let e : l.n ≡ 64 = omega arith in
    l.invariant.put ∙ ap (λ (n : ℕ). slot_bytes n (of_slots a.slots) ++ drop (2 * n) a.out.now) e

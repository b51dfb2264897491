use Rattle.std.proofs.Common.{◌≡◌, refl, arith, length-set}
use native.Mathlib.Nat.{not-suc-le-zero}
use Rattle.layout.specs.Directory.{Paired}
use Rattle.layout.proofs.DirectoryLaws.{pair_next}
use Rattle.layout.proofs.directory.pairs.Goals as goal

pub loop-n-init : goal.loop-n-init
unfolding Paired
loop-n-init c = record { whole = refl; paired = λ i h. absurd (not-suc-le-zero h) }

pub loop-n-preserved : goal.loop-n-preserved
loop-n-preserved c =
    let l = c.loop-n in
    record {
      whole = simp length-set (omega arith);
      paired = pair_next c.args.bytes.now l.words l.n _ (omega arith) l.invariant.paired c.pair.ensures;
    }

pub returns : goal.returns
returns c =
    let l = c.loop-n in
    let e : l.n ≡ 64 = omega arith in
    (l.invariant.whole, rw e at l.invariant.paired)

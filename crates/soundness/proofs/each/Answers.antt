use Rattle.std.proofs.Common.{arith, length-set}
use Rattle.soundness.proofs.Turns.{number_more}
use Rattle.soundness.proofs.each.Goals as goal

pub loop-n-preserved : goal.loop-n-preserved
loop-n-preserved g c =
    let l = c.loop-n in
    record {
      whole = simp length-set (omega arith);
      given = number_more (λ x r. goal.F-post g c.args.f x r) c.args.slots l.numbers l.n c.f.result (omega arith) l.invariant.given c.f.ensures;
    }

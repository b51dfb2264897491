use native.Mathlib.Omega.{arith}
use mathlib.Core.Path.{refl}
use Rattle.number.proofs.ReaderLaws.{top_fits, started, in_fits, in_more, in_weight, in_zero, in_ended, in_again, stopped, after_cut, after_fits, after_zero, after_over, after_ended}
use Rattle.number.proofs.read_more.Goals as goal
use Rattle.number.proofs.read_more.Goals.{then-b-eq0-2-via-then-b-eq0-2, then-b-eq0-2-via-else-b-eq0-2+then-b-gt-LAST}

pub loop-next-init : goal.loop-next-init
loop-next-init c =
    let q = c.requires in
    started _ _ _ _ _ q.0 q.1 q.2 refl c.min-end.ensures

pub returns-then-b-eq0 : goal.returns-then-b-eq0
returns-then-b-eq0 c = in_zero _ _ _ _ _ _ _ c.loop-next.invariant c.loop-next-test.true _ c.from-b.ensures c.if-b-eq0.true

pub overflow_mul-result : goal.overflow_mul-result
overflow_mul-result c = omega (arith, top_fits, in_fits _ _ _ _ _ _ _ c.loop-next.invariant c.loop-next-test.true c.from-b.result c.if-b-le127.true)

pub overflow_add-result : goal.overflow_add-result
overflow_add-result c = omega (arith, top_fits, in_fits _ _ _ _ _ _ _ c.loop-next.invariant c.loop-next-test.true c.from-b.result c.if-b-le127.true)

pub returns-then-b-le127 : goal.returns-then-b-le127
returns-then-b-le127 c = in_ended _ _ _ _ _ _ _ c.loop-next.invariant c.loop-next-test.true _ c.from-b.ensures c.if-b-eq0.false c.if-b-le127.true

pub overflow_mul-value : goal.overflow_mul-value
overflow_mul-value c = omega (arith, top_fits, in_more _ _ _ _ _ _ _ c.loop-next.invariant c.loop-next-test.true c.from-b.result)

pub overflow_add-value : goal.overflow_add-value
overflow_add-value c = omega (arith, top_fits, in_more _ _ _ _ _ _ _ c.loop-next.invariant c.loop-next-test.true c.from-b.result)

pub overflow_mul-weight : goal.overflow_mul-weight
overflow_mul-weight c = omega (arith, top_fits, in_weight _ _ _ _ _ _ _ c.loop-next.invariant c.loop-next-test.true)

pub loop-next-preserved : goal.loop-next-preserved
loop-next-preserved c = in_again _ _ _ _ _ _ _ c.loop-next.invariant c.loop-next-test.true _ c.from-b.ensures c.if-b-le127.false

pub returns-then-tape-end : goal.returns-then-tape-end
returns-then-tape-end c = after_cut _ _ _ _ _ _ (stopped _ _ _ _ _ _ _ c.loop-next.invariant c.loop-next-test.false) c.if-tape-end.true

pub returns-then-b-eq0-2 : goal.returns-then-b-eq0-2
returns-then-b-eq0-2 c =
    elim c.then-b-eq0-2.branch [
      | then-b-eq0-2-via-then-b-eq0-2 w ↦ after_zero _ _ _ _ _ _ (stopped _ _ _ _ _ _ _ c.loop-next.invariant c.loop-next-test.false) c.if-tape-end.false _ c.from-b-2.ensures w.if-b-eq0-2.true
      | then-b-eq0-2-via-else-b-eq0-2+then-b-gt-LAST w ↦ after_over _ _ _ _ _ _ (stopped _ _ _ _ _ _ _ c.loop-next.invariant c.loop-next-test.false) c.if-tape-end.false _ c.from-b-2.ensures w.if-b-gt-LAST.true
    ]

pub overflow_add-result-2 : goal.overflow_add-result-2
overflow_add-result-2 c = omega (arith, top_fits, after_fits _ _ _ _ _ _ (stopped _ _ _ _ _ _ _ c.loop-next.invariant c.loop-next-test.false) c.if-tape-end.false c.from-b-2.result c.if-b-gt-LAST.false)

pub returns : goal.returns
returns c = after_ended _ _ _ _ _ _ (stopped _ _ _ _ _ _ _ c.loop-next.invariant c.loop-next-test.false) c.if-tape-end.false _ c.from-b-2.ensures c.if-b-eq0-2.false c.if-b-gt-LAST.false

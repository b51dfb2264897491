use mathlib.Core.Path.{◌≡◌}
use native.Mathlib.Omega.{arith}
use borrow.Author.Rules.{rules}
use lib.ListN.{length}
use Rattle.batch_rules.specs.Outcome.{told}
use Rattle.batch.proofs.Underway.{closed, begun, four, next, stops, ends}
use Rattle.batch.proofs.run_batch.Goals as goal

pub returns-then-opened-ne0 : goal.returns-then-opened-ne0
returns-then-opened-ne0 c = closed _ _ _ _ _ _ c.open-opened.ensures (search rules)

pub loop-index-init : goal.loop-index-init
loop-index-init c = begun _ _ _ _ _ _ c.open-opened.ensures (search rules)

pub overflow_add-orders : goal.overflow_add-orders
overflow_add-orders c =
    let n = four c.loop-index.invariant _ c.loop-index-test.true _ _ c.run.ensures.1 c.run.ensures.2 _ c.in-Ok.ensures.0 in
    record { fits = omega (arith, n, c.loop-index.invariant.few, c.loop-index.invariant.short) }

pub returns-in-Err : goal.returns-in-Err
unfolding told
returns-in-Err c = rw c.number_of.ensures (stops c.loop-index.invariant _ c.loop-index-test.true _ _ c.run.ensures.1 c.run.ensures.2 _ c.in-Err.ensures.0)

pub loop-index-preserved : goal.loop-index-preserved
loop-index-preserved c = next c.loop-index.invariant _ c.loop-index-test.true _ _ c.run.ensures.1 c.run.ensures.2 _ c.in-Ok.ensures.0

pub returns : goal.returns
unfolding told
returns c =
    let u = c.loop-index.invariant in
    let e : c.loop-index.index ≡ length c.args.list.now = omega arith in
    rw (← e) (ends u e)

use native.Mathlib.Omega.{arith}
use lib.ListN.{length-set}
use Rattle.number_writer.proofs.SpellLaws.{put_start, put_inside, put_more, put_end}
use Rattle.number_writer.proofs.put_number.Goals as goal

pub loop-value-init : goal.loop-value-init
loop-value-init c = put_start _ _ _ (omega arith)

pub bounds-out-next : goal.bounds-out-next
bounds-out-next c = omega (arith, put_inside _ _ _ _ _ _ c.loop-value.invariant, c.loop-value.invariant.same, c.requires)

pub loop-value-preserved : goal.loop-value-preserved
loop-value-preserved c = put_more _ _ _ _ _ _ c.loop-value.invariant c.loop-value-test.true

pub bounds-out-next-2 : goal.bounds-out-next-2
bounds-out-next-2 c = omega (arith, put_inside _ _ _ _ _ _ c.loop-value.invariant, c.loop-value.invariant.same, c.requires)

pub shape_of-out : goal.shape_of-out
shape_of-out c = simp length-set c.loop-value.invariant.same

pub returns : goal.returns
returns c = put_end _ _ _ _ _ _ c.loop-value.invariant c.loop-value-test.false

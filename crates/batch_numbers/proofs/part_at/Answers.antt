use mathlib.Core.Path.{◌∙◌, sym}
use Rattle.batch_numbers.proofs.PartLaws.{filled_next, filled_stops, filled_last}
use Rattle.batch_numbers.proofs.part_at.Goals as goal
use native.Mathlib.Omega.{arith}

pub returns-in_default : goal.returns-in_default
returns-in_default c = filled_stops c.loop-n.invariant c.loop-n-test.true c.requires.1 (sym c.access_at.ensures ∙ c.in_default.is)

pub loop-n-preserved : goal.loop-n-preserved
loop-n-preserved c = filled_next c.loop-n.invariant _ c.loop-n-test.true c.requires.1 (sym c.access_at.ensures ∙ c.in-Some.is)

pub returns : goal.returns
returns c = filled_last c.loop-n.invariant (omega arith) c.requires.1

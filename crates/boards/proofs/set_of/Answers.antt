use mathlib.Core.Path.{ap, ◌∙◌}
use native.Mathlib.Omega.{arith}
use Rattle.std.specs.Int.{from_bool}
use Rattle.boards.proofs.UnitLaws.{bits_next, bits_fit, bits_all}
use Rattle.boards.proofs.set_of.Goals as goal

pub overflow_add-set : goal.overflow_add-set
overflow_add-set c =
    let l = c.loop-unit in
    omega (arith, bits_fit c.args.settings l.unit _ c.loop-unit-test.true (bits_next _ l.unit l.set _ c.loop-unit-test.true (c.from.ensures ∙ ap from_bool c.is_through.ensures) l.invariant))

pub loop-unit-preserved : goal.loop-unit-preserved
loop-unit-preserved c =
    let l = c.loop-unit in
    bits_next _ l.unit l.set _ c.loop-unit-test.true (c.from.ensures ∙ ap from_bool c.is_through.ensures) l.invariant

pub returns : goal.returns
returns c = c.loop-unit.invariant ∙ bits_all _ c.loop-unit.unit c.loop-unit.auto.unit-end c.loop-unit-test.false

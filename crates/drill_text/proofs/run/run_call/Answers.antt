use mathlib.Core.Path.{refl, sym}
use native.Mathlib.Nat.{add-zero}
use native.Mathlib.Omega.{arith}
use Rattle.coherence.specs.Calls.{packed}
use Rattle.drill_text.proofs.StepLaws.{called, answered_few}
use Rattle.drill_text.proofs.run.run_call.Goals as goal

pub overflow_add-result-3 : goal.overflow_add-result-3
overflow_add-result-3 c =
    let few = answered_few _ _ _ _ _ (rw c.in-Ok.is at c.run.ensures.0) in
    omega (arith, few, c.requires.orders)

pub returns-in_default : goal.returns-in_default
unfolding packed
returns-in_default c =
    let ran = rw c.in_default.is at c.run.ensures in
    let put = c.put_call-at.ensures in
    called c.args.call c.args.s _ _ _ _ _ _ _ _ _ _ _ _ ran.0 ran.1 ran.2 (refl, refl, refl) (sym (add-zero c.args.s.orders)) put.0 put.2

pub returns : goal.returns
returns c =
    let ran = rw c.in-Ok.is at c.run.ensures in
    let put = c.put_call-at-2.ensures in
    called c.args.call c.args.s _ _ _ _ _ _ _ _ _ _ _ _ ran.0 ran.1 ran.2 (refl, refl, refl) refl put.0 put.2

use native.Mathlib.Omega.{arith}
use Rattle.drill_text.proofs.WritingLaws.{both}
use Rattle.drill_text.proofs.line.put_call.Goals as goal

pub returns : goal.returns
returns c =
    let a = c.put_access-next.ensures in
    let o = c.put_orders.ensures in
    (both a.0 o.0, omega (arith, a.1, o.1), a.2)

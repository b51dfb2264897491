use native.Mathlib.Omega.{arith}
use Rattle.drill_text.proofs.WritingLaws.{both}
use Rattle.drill_text.proofs.line.put_head.Goals as goal

pub returns : goal.returns
returns c =
    rw (← c.into.ensures, ← c.into-2.ensures)
    (both (both c.put-second.ensures c.put_field-third.ensures.0) c.put_field.ensures.0, omega (arith, c.put-second.ensures.next))

use native.Mathlib.Omega.{arith}
use Rattle.text.specs.Space.{ascii}
use Rattle.drill_format.specs.Line.{orders_part}
use Rattle.drill_text.proofs.WritingLaws.{both}
use Rattle.drill_text.proofs.line.put_orders.Goals as goal

pub returns : goal.returns
unfolding orders_part ascii
returns c =
    (both (both c.put-second.ensures c.put_field-third.ensures.0) c.put.ensures, omega (arith, c.put-second.ensures.next, c.put_field-third.ensures.1, c.put.ensures.next))

use native.Mathlib.Omega.{arith}
use Rattle.drill_text.proofs.WritingLaws.{both}
use Rattle.drill_text.proofs.line.put_pair.Goals as goal

pub returns : goal.returns
returns c =
    let p =
    both (both (both (both c.put-p.ensures c.put_field-q.ensures.0) c.put-r.ensures) c.put_field-s.ensures.0) c.put.ensures in
    let asked = c.requires in
    (p, omega (arith, c.put-p.ensures.next, c.put_field-q.ensures.1, c.put-r.ensures.next, c.put_field-s.ensures.1, c.put.ensures.next))

use native.Mathlib.Omega.{arith}
use Rattle.text.specs.Space.{ascii}
use Rattle.drill_format.specs.Line.{access_part}
use Rattle.drill_text.proofs.WritingLaws.{both}
use Rattle.drill_text.proofs.line.put_access.Goals as goal

pub returns-in-Load : goal.returns-in-Load
unfolding access_part ascii
returns-in-Load c =
    rw (c.in-Load.is, ← c.into.ensures) (both c.put_head-next.ensures.0 c.put_field.ensures.0, omega (arith, c.put_head-next.ensures.1), omega arith)

pub returns-in-Store : goal.returns-in-Store
unfolding access_part ascii
returns-in-Store c =
    rw (c.in-Store.is, ← c.into-in-Store.ensures) (both c.put_head-next-in-Store.ensures.0 c.put_field-in-Store.ensures.0, omega (arith, c.put_head-next-in-Store.ensures.1), omega arith)

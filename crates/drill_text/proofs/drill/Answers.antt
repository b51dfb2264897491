use Rattle.drill_format.specs.Drill.{printed}
use Rattle.drill_text.proofs.drill.Goals as goal

pub returns : goal.returns
unfolding printed
returns c = c.drill_input.ensures

use Rattle.batch_rules.specs.Numbers.{opened_numbers}
use Rattle.batch_outcome.proofs.RefusedLaws.{unless_told}
use Rattle.batch_numbers.proofs.open_numbers.Goals as goal

pub returns : goal.returns
unfolding opened_numbers
returns c = rw (c.refused_by.ensures, c.number_of.ensures, c.then_some-refusal.ensures, c.«open».ensures, unless_told)

use mathlib.Core.Path.{sym, ◌∙◌}
use Rattle.drill_text.proofs.StepLaws.{asked, passed}
use Rattle.drill_text.proofs.run.take.Goals as goal

pub returns-in_default : goal.returns-in_default
returns-in_default c = passed _ _ _ _ _ (sym c.access_of.ensures ∙ c.in_default.is)

pub returns : goal.returns
returns c = asked _ _ _ _ _ _ _ _ _ _ (sym c.access_of.ensures ∙ c.in-Some.is) c.run_call.ensures

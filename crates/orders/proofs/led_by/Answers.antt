use mathlib.Core.Path.{ap, ◌∙◌}
use Rattle.orders.proofs.Leading.{led, led_packed}
use Rattle.orders.proofs.led_by.Goals as goal

pub returns : goal.returns
unfolding led
returns c = λ os e. ap (led c.args.first) e ∙ led_packed c.args.first os

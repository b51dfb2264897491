-- The numbers of the examples, computed from the definitions.
use mathlib.Core.Path.{refl}
use Rattle.order.specs.Command.{command_number}
use Rattle.order.specs.Flag.{flag}
use Rattle.coherence.specs.Calls.{packed}
use Rattle.answer_layout.specs.Answer.{order_numbers, orders_numbers, answer_numbers, answer_put}
use Rattle.answer_layout.specs.Examples.{two_orders, Examples}

pub examples : Examples
unfolding command_number flag packed order_numbers orders_numbers answer_numbers answer_put two_orders
examples =
    record {
      answer = refl;
      answer_behind = refl;
      answer_short = refl;
    }

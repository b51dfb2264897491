-- The numbers of the bus, computed from the definitions.
use mathlib.Core.Path.{refl}
use Rattle.order.specs.Flag.{flag}
use Rattle.numeric.specs.Range.{within}
use Rattle.bus.specs.Answer.{class_of, code_number, in_row, code_of, is_error}
use Rattle.crossing.specs.Capped.{capped}
use Rattle.capi_bus.specs.Bus.{left, left_of, most, plan_from}
use Rattle.capi_bus.specs.Class.{class_number, carried_of, plain_class, class_from, code_asked}
use Rattle.capi_bus.specs.Examples.{told, Examples}

pub examples : Examples
unfolding flag within class_of code_number in_row code_of is_error capped left left_of most plan_from class_number carried_of plain_class class_from code_asked told
examples =
    record {
      classes = refl;
      code = refl;
      no_class = (refl, refl);
      not_carried = (refl, refl);
      other_row = (refl, refl);
      most = (refl, refl);
      left = λ v x. (refl, refl);
      left_of = λ v x. (refl, refl);
      unlocked = λ n cycle. refl;
      locked = λ n cycle. refl;
      neither = λ n cycle. refl;
    }

-- Calls of the handler, computed from the definitions.
use mathlib.Core.Path.{refl}
use Rattle.numeric.specs.Bits.{bit_at, contains}
use Rattle.handler.specs.Handler.{last_unit, lock_next, locked, met, passed, first_met, moved, granted, nobody, by_turn, low_grant, grant_next, lock_allowed, state_allowed, sets_allowed, allowed, refused, arbitration, initial}
use Rattle.crossing.specs.Capped.{capped}
use Rattle.capi_handler.specs.State.{lock_number, lock_from, state_numbers, state_of, state_from, class_told, class_granted, unit_granted}
use Rattle.capi_handler.specs.Arbitrate.{fresh_returned, fresh_state, arbitrated, arbitrate_returned, arbitrate_state, arbitrate_class, arbitrate_unit}
use Rattle.capi_handler.specs.Examples.{seen, Examples}

pub examples : Examples
unfolding
    bit_at contains last_unit lock_next locked met passed first_met moved granted nobody by_turn low_grant grant_next lock_allowed state_allowed sets_allowed
    allowed refused arbitration initial capped lock_number lock_from state_numbers state_of state_from class_told class_granted unit_granted
    fresh_returned fresh_state arbitrated arbitrate_returned arbitrate_state arbitrate_class arbitrate_unit seen
examples =
    record {
      fresh = refl;
      fresh_short = (refl, refl);
      high = refl;
      low = refl;
      nobody = refl;
      bad_owner = refl;
      bad_set = refl;
      bad_lck = refl;
      short = refl;
    }

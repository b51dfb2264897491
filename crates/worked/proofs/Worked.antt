-- P1 to P12 hold: each by computing the definitions.
use mathlib.Core.Path.{refl}
use mathlib.Core.Option.{Option-elim}
use Rattle.numeric.specs.Range.{within}
use Rattle.numeric.specs.Bits.{sum_below, bit_at, ones_below, from_bits, contains}
use Rattle.bus.specs.Parity.{byte_at, parity_bit, parity_of}
use Rattle.bus.specs.Lanes.{carried_at, positions_of, words_of, lanes_of}
use Rattle.bus.specs.Transfer.{et_raised_at_request, plan_of}
use Rattle.bus.specs.Answer.{class_of, code_number, in_row, code_of, is_error}
use Rattle.number.specs.Number.{limit_of, carried, read_groups, refusing, number_at, spell_groups, spell, spell_all, filled}
use Rattle.tape_format.specs.Field.{allowed, ruled, field_at}
use Rattle.tape_format.specs.Record.{store, layout_of, and_then, fields_at, kind_at, record_at, record_told, kind_of, fields_of, fits}
use Rattle.tape_format.specs.Write.{valid, bytes_of, written_of, written_count, space_after}
use Rattle.coherence.proofs.Examples.{examples}
use Rattle.handler.specs.Handler.{last_unit, granted_in, unit_granted, lock_next, locked, met, passed, first_met, moved, granted, by_turn, low_grant, grant_next, lock_allowed, state_allowed, sets_allowed, allowed as admits, arbitration, initial}
use Rattle.worked.specs.Worked.{codes, classes, stored, zero_and_seven, after_first, Worked}

pub worked : Worked
unfolding within sum_below bit_at ones_below from_bits byte_at parity_bit parity_of carried_at positions_of words_of lanes_of et_raised_at_request plan_of class_of code_number in_row code_of is_error limit_of carried read_groups refusing number_at spell_groups spell spell_all filled allowed ruled field_at store layout_of and_then fields_at kind_at record_at record_told kind_of fields_of fits valid bytes_of written_of written_count space_after last_unit contains granted_in unit_granted lock_next locked met passed first_met moved granted by_turn low_grant grant_next lock_allowed state_allowed sets_allowed admits arbitration initial codes classes stored zero_and_seven after_first Option-elim
worked =
    record {
      p1 = refl;
      p2 = refl;
      p3 = λ ra e. rw e;
      p4 = refl;
      p5 = refl;
      p6 = (refl, refl, refl);
      p7 = refl;
      p8 = λ locked. refl;
      p9 = (refl, refl, refl, refl);
      p10 = refl;
      p11 = examples.p11;
      p12 = (refl, refl, refl);
    }

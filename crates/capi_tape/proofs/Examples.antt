-- Records in the numbers of the C interface, by computing the definitions.
use mathlib.Core.Path.{refl}
use mathlib.Core.Option.{Option-elim}
use Rattle.order.specs.Command.{command_number, command_of}
use Rattle.order.specs.Flag.{flag}
use Rattle.number.specs.Number.{limit_of, carried, read_groups, refusing, number_at, spell_groups, spell, spell_all}
use Rattle.number.specs.Number as number
use Rattle.tape_format.specs.Field.{retried_most, allowed, ruled, field_at}
use Rattle.tape_format.specs.Record.{load, store, flush, order, answer, register, loaded, stamp, layout_of, and_then, and_command, fields_at, kind_at, record_at, record_told, kind_of, fields_of, fits, fits_command}
use Rattle.tape_format.specs.Write.{valid, bytes_of, written_of, space_after}
use Rattle.tape_writer.specs.Numbers.{padded}
use Rattle.crossing.specs.Capped.{capped}
use Rattle.record_numbers.specs.Entry.{store_from, order_with, order_from, answer_from, register_from, loaded_from, kind_from, record_from, count_or}
use Rattle.capi_tape.specs.Calls.{filled, read_returned, numbers_left, next_left, write_returned, space_left, written_left}
use Rattle.capi_tape.specs.Examples.{wrote, read, Examples}

pub examples : Examples
unfolding
    Option-elim command_number command_of flag limit_of carried read_groups refusing number_at spell_groups spell spell_all number.filled
    retried_most allowed ruled field_at load store flush order answer register loaded stamp layout_of and_then and_command fields_at kind_at record_at record_told
    kind_of fields_of fits fits_command valid bytes_of written_of space_after padded capped
    filled read_returned numbers_left next_left store_from order_with order_from answer_from register_from loaded_from kind_from record_from
    write_returned space_left count_or written_left wrote read
examples =
    record {
      written = refl;
      reading = refl;
      load = refl;
      stamp = refl;
      stamp_written = refl;
      finished = refl;
      unknown_kind = refl;
      short = refl;
      no_kind = refl;
      kind9 = refl;
      kind264 = refl;
      six = refl;
      unit256 = refl;
      address = refl;
      block256 = refl;
      value = refl;
      aid256 = refl;
      write2 = refl;
      bct256 = refl;
    }

-- Sizes of records, by computing the definitions.
use mathlib.Core.Path.{refl}
use mathlib.Core.Option.{Option-elim}
use Rattle.order.specs.Command.{command_number, command_of}
use Rattle.order.specs.Flag.{flag}
use Rattle.number_writer.specs.GroupCount.{least_from, significant_bits, group_count, size_of}
use Rattle.tape_format.specs.Field.{retried_most, allowed}
use Rattle.tape_format.specs.Record.{load, store, flush, order, answer, register, loaded, stamp, layout_of, kind_of, fields_of, fits, fits_command}
use Rattle.tape_format.specs.Write.{valid}
use Rattle.tape_format.specs.Size.{record_size, size_told}
use Rattle.crossing.specs.Capped.{capped}
use Rattle.record_numbers.specs.Entry.{store_from, order_with, order_from, answer_from, register_from, loaded_from, kind_from, record_from, count_or}
use Rattle.capi_size.specs.Calls.{size_returned, size_left}
use Rattle.capi_size.specs.Examples.{sized, Examples}

pub examples : Examples
unfolding
    Option-elim command_number command_of flag least_from significant_bits group_count size_of retried_most allowed
    load store flush order answer register loaded stamp layout_of kind_of fields_of fits fits_command valid record_size size_told capped
    store_from order_with order_from answer_from register_from loaded_from kind_from record_from count_or size_returned size_left sized
examples =
    record {
      load = refl;
      store = refl;
      register = refl;
      least = refl;
      most = refl;
      behind = refl;
      kind7 = refl;
      kind9 = refl;
      six = refl;
      unit256 = refl;
      unit4 = refl;
    }

-- Each record in its bytes, by computing the definitions.
use mathlib.Core.Path.{refl}
use Rattle.order.specs.Command.{command_number, command_of}
use Rattle.order.specs.Flag.{flag}
use Rattle.number.specs.Number.{limit_of, carried, read_groups, refusing, number_at, spell_groups, spell, spell_all, filled}
use Rattle.number_writer.specs.GroupCount.{least_from, significant_bits, group_count, size_of}
use Rattle.tape_format.specs.Field.{retried_most, allowed, ruled, field_at}
use Rattle.tape_format.specs.Record.{load, store, flush, order, answer, register, loaded, stamp, layout_of, and_then, and_command, fields_at, kind_at, record_at, record_told, kind_of, fields_of, fits, fits_command}
use Rattle.tape_format.specs.Write.{valid, bytes_of, written_of, space_after}
use Rattle.tape_format.specs.Size.{record_size, size_told}
use Rattle.tape_format.specs.Examples.{Spelled, ordered, told_of, refused_at, two_to32, Examples}

pub examples : Examples
unfolding command_number command_of limit_of carried read_groups refusing number_at spell_groups spell spell_all filled retried_most allowed ruled field_at flag load store flush order answer register loaded stamp layout_of and_then and_command fields_at kind_at record_at record_told kind_of fields_of fits fits_command valid bytes_of written_of space_after least_from significant_bits group_count size_of record_size size_told Spelled ordered told_of refused_at two_to32
examples =
    record {
      kind0 = (refl, refl, refl, refl);
      kind1 = (refl, refl, refl, refl);
      kind2 = (refl, refl, refl, refl);
      kind3 = (refl, refl, refl, refl);
      not_retried = (refl, refl, refl, refl);
      modified_read = (refl, refl, refl, refl);
      invalidate = (refl, refl, refl, refl);
      copyback = (refl, refl, refl, refl);
      memory_write = (refl, refl, refl, refl);
      write_retried = (refl, refl, refl, refl);
      kind4 = (refl, refl, refl, refl);
      kind5 = (refl, refl, refl, refl);
      register_read = (refl, refl, refl, refl);
      kind6 = (refl, refl, refl, refl);
      kind8 = (refl, refl, refl, refl);
      most8 = (refl, refl, refl, refl);
      limits = refl;
      above0 = refl;
      above1 = refl;
      above2 = refl;
      above3 = refl;
      above4 = refl;
      above5 = refl;
      above6 = refl;
      long = refl;
      unknown = refl;
      stamp_over = refl;
      spelling = refl;
      missing = refl;
      past_end = refl;
      finished = refl;
      told = refl;
      no_size = refl;
    }

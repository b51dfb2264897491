-- The paper's example, by computing the definitions.
use mathlib.Core.Path.{refl}
use Rattle.jbus.specs.Device.{low_bits, in_row, by_row, device_of, device_number}
use Rattle.jbus.specs.Interrupt.{transaction_of, reserved_of, target_of, agent_of, low_reserved_of, tested, halves_test, transaction_test, reserved_test, reading_tests, interrupt_of, interrupt_read, read_told, half_of, writing_tests, cycle_of, cycle_written}
use Rattle.jbus.specs.Example.{cycle, Example}

pub example : Example
unfolding low_bits in_row by_row device_of device_number read_told transaction_of reserved_of target_of agent_of low_reserved_of tested halves_test transaction_test reserved_test reading_tests interrupt_of interrupt_read writing_tests half_of cycle_of cycle_written cycle
example = record {
  written = refl;
  read_illegal = refl;
  read = refl;
  told = refl;
  processor = (refl, refl);
  not_supported = (refl, refl);
  illegal = (refl, refl);
  not_supported_above = (refl, refl);
  bridge0 = (refl, refl);
  bridge1 = (refl, refl);
  processor_again = (refl, refl);
  illegal_again = (refl, refl);
}

-- The bytes of the examples, computed from the definitions.
use mathlib.Core.Path.{refl}
use Rattle.order.specs.Flag.{flag}
use Rattle.coherence.specs.Slots.{place, state_number, slot_at, set_slot, block_of, holds, units_with, holders_of, table, kept, cold_directory}
use Rattle.coherence.specs.Settings.{is_through, through}
use Rattle.boards.specs.Boards.{weighed, set_of}
use Rattle.layout.specs.Directory.{slot_bytes, settings_bytes, front_bytes, encoded, slots_put, sets_put, left_put, directory_put, slot_spelled}
use Rattle.layout.specs.Examples.{chosen, mixed, Examples}

pub examples : Examples
unfolding
    flag place slot_at set_slot block_of holds units_with holders_of table kept cold_directory state_number
    slot_bytes settings_bytes front_bytes encoded slots_put sets_put left_put directory_put slot_spelled
    chosen mixed is_through through weighed set_of
examples =
    record {
      directory = refl;
      no_slots = (refl, refl);
      directory_behind = refl;
      directory_short = refl;
      left_behind = refl;
      left_short = refl;
    }

-- The examples, computed from the definitions.
use mathlib.Core.Path.{refl}
use Rattle.order.specs.Refusal.{first_refusal}
use Rattle.order.specs.Flag.{flag}
use Rattle.coherence.specs.Bytes.{block_at, put_block, word_at, put_word}
use Rattle.coherence.specs.Settings.{is_through, through, drill_settings}
use Rattle.coherence.specs.Slots.{place, slot_at, set_slot, holds, modified, units_with, holders_of, held_by, table, kept, owner_of, all_below, fits, alone, slot_rule, kind_rule, sound_slots, sound_kinds, sound_sets, sound, cold_directory}
use Rattle.coherence.specs.Access.{ready, give, mark, write_back, copyback, emptied, empty, yield, reads, stolen, asked, ask, fill, fetch, each_unit, expel, claim, cache_place, write, load, own, write_through, store_through, store, flush}
use Rattle.coherence.specs.Refusal.{sized, is_unit, is_address, is_block, size_test, directory_test, unit_test, target_test, call_refusal}
use Rattle.coherence.specs.Calls.{unit_of, is_target, refusal, act, loaded, settle, after, value_of, packed, answer, memory_after, cache_after, answers, after_all}
use Rattle.coherence.specs.Demand3.{orders_in, orders_given}
use Rattle.coherence.specs.Examples.{zeros, drill_calls}
use Rattle.crossing.specs.Capped.{capped}
use Rattle.batch_rules.specs.Batch.{calls_of, before, number, made, ran, none, opened, batch_result}
use Rattle.batch_rules.specs.Numbers.{is_kind, call_from, kind_at, access_at, count_of, known, unknown, refused_by, ran_numbers, opened_numbers, numbers_result}
use Rattle.batch_rules.specs.Examples.{fields_of, list_cold, numbers_cold, Examples}

pub examples : Examples
unfolding
    block_at put_block word_at put_word place slot_at set_slot holds modified flag units_with holders_of held_by table kept owner_of all_below
    fits alone slot_rule kind_rule sound_slots sound_kinds sound_sets sound cold_directory
    ready give mark write_back copyback emptied empty yield reads stolen asked ask fill fetch each_unit expel claim cache_place write load own
    write_through store_through store flush is_through through drill_settings
    first_refusal sized is_unit is_address is_block size_test directory_test unit_test target_test call_refusal
    unit_of is_target refusal act loaded settle after value_of packed answer memory_after cache_after answers after_all
    orders_in orders_given zeros drill_calls capped
    calls_of before number made ran none opened batch_result
    is_kind call_from kind_at access_at count_of known unknown refused_by ran_numbers opened_numbers numbers_result fields_of list_cold numbers_cold
examples = record { drill = refl; stopped = refl; unknown = refl }

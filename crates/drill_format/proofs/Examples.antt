-- The texts of the examples, computed from the definitions.
use Prim.Native.Nat.{ℕ, ◌≤◌, ◌<◌}
use native.Mathlib.Omega.{arith}
use mathlib.Core.Path.{◌≡◌, refl}
use mathlib.Core.List.{List, ◌++◌}
use mathlib.Core.Option.{Option-elim}
use lib.ListN.{length}
use borrow.Author.Tests.{le-leb, lt-leb}
use Rattle.order.specs.Command.{command_number, command_of}
use Rattle.order.specs.Flag.{flag}
use Rattle.order.specs.Refusal.{first_refusal}
use Rattle.text.specs.Space.{ascii}
use Rattle.text.specs.Decimal.{digits_in, decimal}
use Rattle.number.specs.Number.{limit_of, carried, read_groups, refusing, number_at}
use Rattle.tape_format.specs.Field.{retried_most, allowed, ruled, field_at}
use Rattle.tape_format.specs.Record.{load as loadLayout, store as storeLayout, flush as flushLayout, order, answer as answerLayout, register, loaded as loadedLayout, stamp, layout_of, and_then, and_command, fields_at, kind_at, record_at}
use Rattle.reading.specs.Reading.{and_more, read_on, read_from, read_all, access_of, and_calls, calls_of}
use Rattle.coherence.specs.Bytes.{block_at, put_block, word_at, put_word}
use Rattle.coherence.specs.Settings.{is_through, through, drill_settings}
use Rattle.coherence.specs.Slots.{place, slot_at, set_slot, holds, modified, units_with, holders_of, held_by, table, kept, owner_of, all_below, fits, alone, slot_rule, kind_rule, sound_slots, sound_kinds, sound_sets, sound, cold_directory}
use Rattle.coherence.specs.Access.{ready, give, mark, write_back, copyback, emptied, empty, yield, reads, stolen, asked, ask, fill, fetch, each_unit, expel, claim, cache_place, write, load, own, store, flush}
use Rattle.coherence.specs.Refusal.{sized, is_unit, is_address, is_block, size_test, directory_test, unit_test, target_test, call_refusal, start_refusal}
use Rattle.coherence.specs.Calls.{unit_of, is_target, refusal, act, loaded, settle, after, value_of, packed, answer, memory_after, cache_after, start_answer, cache_started, answers, answers_cold}
use Rattle.coherence.specs.Demand3.{orders_in, orders_given}
use Rattle.drill_format.specs.Line.{field, access_part, orders_part, call_line, lines, total_line, refused_line}
use Rattle.drill_format.specs.Drill.{tape_most, zero_store, calls_in, answers_in, last_line, drill_text, printed}
use Rattle.drill_format.specs.Examples.{example_tape, Examples}

long_text : (tape : List ℕ) → 65536 < length tape → drill_text tape ≡ ascii "refused 9 at 65536\n"
unfolding drill_text refused_line field decimal digits_in ascii
long_text tape h = rw (lt-leb (length tape) tape_most (omega arith))

run_text : (tape : List ℕ) → length tape ≤ 65536 → drill_text tape ≡ lines (calls_in tape) (answers_in tape) ++ last_line (read_all tape).ending (length (calls_in tape)) (orders_given (answers_in tape))
unfolding drill_text
run_text tape h = rw (le-leb (length tape) tape_most (omega arith))

pub examples : Examples
unfolding
    Option-elim command_number command_of flag first_refusal ascii digits_in decimal limit_of carried read_groups refusing number_at
    retried_most allowed ruled field_at loadLayout storeLayout flushLayout order answerLayout register loadedLayout stamp layout_of and_then and_command fields_at kind_at record_at
    and_more read_on read_from read_all access_of and_calls calls_of
    block_at put_block word_at put_word place slot_at set_slot holds modified units_with holders_of held_by table kept owner_of all_below
    fits alone slot_rule kind_rule sound_slots sound_kinds sound_sets sound cold_directory
    is_through through drill_settings
    ready give mark write_back copyback emptied empty yield reads stolen asked ask fill fetch each_unit expel claim cache_place write load own store flush
    sized is_unit is_address is_block size_test directory_test unit_test target_test call_refusal start_refusal
    unit_of is_target refusal act loaded settle after value_of packed answer memory_after cache_after start_answer cache_started answers answers_cold
    orders_in orders_given field access_part orders_part call_line lines total_line refused_line zero_store calls_in answers_in last_line drill_text printed example_tape
examples = record { whole = refl; empty = refl; others = refl; stamps = refl; refused = refl; longer = long_text; up_to = run_text; unreadable = refl; readable = λ tape. refl }

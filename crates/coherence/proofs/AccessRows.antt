-- The rows, computed from the definitions.
use mathlib.Core.Path.{refl, ◌∙◌}
use Rattle.order.specs.Flag.{flag}
use Rattle.coherence.specs.Bytes.{block_at, put_block, word_at, put_word}
use Rattle.coherence.specs.Settings.{is_through, through, drill_settings}
use Rattle.coherence.specs.Slots.{place, slot_at, set_slot, holds, modified, units_with, holders_of, held_by, table, kept, owner_of, all_below, fits, alone, slot_rule, kind_rule, sound_slots, sound_kinds, sound_sets, sound, cold_directory}
use Rattle.coherence.specs.Access.{ready, give, mark, write_back, copyback, emptied, empty, yield, reads, stolen, asked, ask, fill, fetch, each_unit, expel, claim, cache_place, write, load, own, write_through, store_through, store, flush}
use Rattle.order.specs.Refusal.{first_refusal}
use Rattle.coherence.specs.Refusal.{sized, is_unit, is_address, is_block, size_test, directory_test, unit_test, target_test, call_refusal, start_refusal, peek_refusal}
use Rattle.coherence.specs.Calls.{unit_of, is_target, refusal, act, loaded, settle, after, value_of, answer, start_answer, cache_started}
use Rattle.coherence.specs.Peek.{from_cache, newest_block, newest, peeked, peek_from_cache, peek_offset}
use Rattle.coherence.proofs.Sentences.{left_is}
use Rattle.coherence.specs.AccessRows.{held_two, RowsSay, refused_with, slot_two_of, slot_two, mixed_settings, mixed_two, stealing, steal_two, mixed_steal_two, sevens, caches, elevens, with_slot, with_block, with_block_two, with_blocks, with_word, AccessRows}

rows_say : RowsSay
unfolding RowsSay answer value_of after
rows_say d c n os e m k r =
    record {
      accepts = r.accepts;
      value = rw (r.accepts, r.leaves) r.value;
      leaves = left_is d sevens (caches elevens) c ∙ rw r.accepts r.leaves;
    }

pub access_rows : AccessRows
unfolding
    block_at put_block word_at put_word place slot_at set_slot holds modified flag units_with holders_of held_by table kept owner_of all_below
    fits alone slot_rule kind_rule sound_slots sound_kinds sound_sets sound cold_directory
    ready give mark write_back copyback emptied empty yield reads stolen asked ask fill fetch each_unit expel claim cache_place write load own
    write_through store_through store flush is_through through drill_settings
    first_refusal sized is_unit is_address is_block size_test directory_test unit_test target_test call_refusal start_refusal peek_refusal
    unit_of is_target refusal act loaded settle after value_of answer start_answer cache_started
    from_cache newest_block newest peeked peek_from_cache peek_offset
    held_two refused_with slot_two_of slot_two mixed_settings mixed_two stealing steal_two mixed_steal_two sevens caches elevens with_slot with_block with_block_two with_blocks with_word
access_rows =
    record {
      say = rows_say;
      rows =
          record {
            load_shared = record { accepts = refl; leaves = refl; value = refl };
            load_modified = record { accepts = refl; leaves = refl; value = refl };
            load_missed = record { accepts = refl; leaves = refl; value = refl };
            load_retried = record { accepts = refl; leaves = refl; value = refl };
            load_evicts = record { accepts = refl; leaves = refl; value = refl };
            store_modified = record { accepts = refl; leaves = refl; value = refl };
            store_shared = record { accepts = refl; leaves = refl; value = refl };
            store_missed = record { accepts = refl; leaves = refl; value = refl };
            store_retried = record { accepts = refl; leaves = refl; value = refl };
            store_evicts = record { accepts = refl; leaves = refl; value = refl };
            flush_modified = record { accepts = refl; leaves = refl; value = refl };
            flush_shared = record { accepts = refl; leaves = refl; value = refl };
            flush_other = record { accepts = refl; leaves = refl; value = refl };
            flush_other_shared = record { accepts = refl; leaves = refl; value = refl };
            broken = refl;
            no_unit = refl;
            bad_address = refl;
          };
      through_rows =
          record {
            store_hit = record { accepts = refl; leaves = refl; value = refl };
            store_miss = record { accepts = refl; leaves = refl; value = refl };
            store_retried = record { accepts = refl; leaves = refl; value = refl };
            store_shared = record { accepts = refl; leaves = refl; value = refl };
            load_retried = record { accepts = refl; leaves = refl; value = refl };
            broken = refl;
          };
      steal_rows =
          record {
            load_stolen = record { accepts = refl; leaves = refl; value = refl };
            load_evicts_and_steals = record { accepts = refl; leaves = refl; value = refl };
            store_stolen = record { accepts = refl; leaves = refl; value = refl };
            store_evicts_and_steals = record { accepts = refl; leaves = refl; value = refl };
            load_missed = record { accepts = refl; leaves = refl; value = refl };
            store_missed = record { accepts = refl; leaves = refl; value = refl };
            memory_write = record { accepts = refl; leaves = refl; value = refl };
            load_through = record { accepts = refl; leaves = refl; value = refl };
          };
      peeks =
          record {
            shared = refl;
            shared_from_cache = refl;
            shared_offset = refl;
            modified = refl;
            modified_from_cache = refl;
            modified_offset = refl;
          };
      starts =
          record { cache = refl; directory = refl; short_memory = refl; short_memory_directory = refl; short_memory_cache = refl; short_cache = refl };
    }

-- Document 01's values, computed from the definitions.
use Prim.Native.Nat.{ℕ, ◌+◌}
use mathlib.Core.Path.{◌≡◌, refl, ap, ◌∙◌}
use mathlib.Core.List.{List, [], ◌∷◌, map}
use lib.ListN.{length, take}
use Rattle.order.specs.Flag.{flag}
use Rattle.coherence.specs.Answer.{Answer}
use Rattle.coherence.specs.Bytes.{block_at, put_block, word_at, put_word}
use Rattle.coherence.specs.Settings.{is_through, through, drill_settings}
use Rattle.coherence.specs.Slots.{place, slot_at, set_slot, state_number, holds, modified, units_with, holders_of, held_by, table, kept, owner_of, all_below, fits, alone, slot_rule, kind_rule, sound_slots, sound_kinds, sound_sets, sound, cold_directory}
use Rattle.coherence.specs.Access.{ready, give, mark, write_back, copyback, emptied, empty, yield, reads, stolen, asked, ask, fill, fetch, each_unit, expel, claim, cache_place, write, load, own, write_through, store_through, store, flush}
use Rattle.order.specs.Refusal.{first_refusal}
use Rattle.coherence.specs.Refusal.{sized, is_unit, is_address, is_block, size_test, directory_test, unit_test, target_test, call_refusal, start_refusal, peek_refusal}
use Rattle.coherence.specs.Calls.{unit_of, is_target, refusal, act, loaded, settle, after, value_of, packed, answer, memory_after, cache_after, answers, after_all, answers_cold, after_cold}
use Rattle.coherence.specs.Peek.{from_cache, newest_block, newest, peeked}
use Rattle.coherence.specs.PlainMemory.{plain_accepts, plain_put, plain_after}
use Rattle.coherence.specs.Snapshot.{replaced, taken_by, taken_after, taken_after_all}
use Rattle.coherence.specs.Demand3.{orders_in, orders_given, is_load, is_store, accepted_of, loads, stores, per_store}
use Rattle.coherence.specs.AccessRows.{mixed_settings, stealing}
use Rattle.coherence.specs.Examples.{zeros, drill_calls, value_and_orders, conflict, mixed_calls, steal_calls, edge_calls, orders_and_value, peek_of, words_of, taken_cold, Examples}

-- the orders of all answers, from what is shown of each
total : List (ℕ × ℕ) → ℕ
total [] = 0
total (x ∷ l) = x.1 + total l

orders_of : (rs : List Answer) → orders_given rs ≡ total (map value_and_orders rs)
unfolding orders_given value_and_orders total
orders_of [] = refl
orders_of (r ∷ rs) = ap (λ (n : ℕ). length (orders_in r) + n) (orders_of rs)

pub examples : Examples
unfolding
    block_at put_block word_at put_word place slot_at set_slot state_number holds modified flag units_with holders_of held_by table kept owner_of all_below
    fits alone slot_rule kind_rule sound_slots sound_kinds sound_sets sound cold_directory
    ready give mark write_back copyback emptied empty yield reads stolen asked ask fill fetch each_unit expel claim cache_place write load own
    write_through store_through store flush is_through through drill_settings mixed_settings mixed_calls stealing steal_calls
    first_refusal sized is_unit is_address is_block size_test directory_test unit_test target_test call_refusal start_refusal peek_refusal
    unit_of is_target refusal act loaded settle after value_of packed answer memory_after cache_after answers after_all answers_cold after_cold
    from_cache newest_block newest peeked plain_put plain_after replaced taken_by taken_after taken_after_all orders_and_value peek_of words_of taken_cold
    total plain_accepts orders_in orders_given is_load is_store accepted_of loads stores per_store zeros drill_calls value_and_orders conflict edge_calls
examples =
    record {
      drill =
          let l : map value_and_orders (answers_cold drill_settings zeros drill_calls) ≡ (0, 1) ∷ (9, 3) ∷ (0, 1) ∷ (0, 1) ∷ (0, 2) ∷ (0, 0) ∷ [] = refl in
          record { lines = l; total = orders_of (answers_cold drill_settings zeros drill_calls) ∙ ap total l };
      p11 =
          let n : orders_given (answers_cold drill_settings zeros (take 2 drill_calls)) ≡ 4 = refl in
          record { exactly = n; orders = n; loads = refl; stores = refl };
      four_orders = record { answer = refl };
      stored_bytes = record { stored = refl; flushed = refl; under = refl; taken = refl };
      invalidations = record { lines = refl };
      directories =
          record { both_shared = refl; modified_and_shared = refl; other_block = refl; wrong_slot = refl; last_block = refl; no_block = refl; set_differs = refl; numbers = refl };
      mixed_boards = record { lines = refl; modified = refl; shared = refl; other = refl };
      steals = record { lines = refl; bills = refl; exactly = refl; memory_write = refl };
      boundaries = record { calls = refl; plain = refl; peeks = refl; starts = refl };
    }

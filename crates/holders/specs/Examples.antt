-- T-08: block 2's holders after each call of a run, and the call's refusals, computed.
use Rattle.std.specs.Prelude.{ℕ, ◌≡◌, List, [], ◌∷◌, map, replicate}
use Rattle.coherence.specs.declared.Call.{Call}
use Rattle.coherence.specs.declared.Call.TheVariants.{Load, Store, Flush}
use Rattle.coherence.specs.Answer.{Answer}
use Rattle.coherence.specs.declared.Slot.TheVariants.{Shared}
use Rattle.coherence.specs.Settings.{drill_settings}
use Rattle.coherence.specs.Slots.{set_slot, cold_directory}
use Rattle.coherence.specs.Calls.{answers_cold}
use Rattle.holders.specs.Holders.{holders_refusal, holders_answer}

-- read, read, claimed, read from the claimer, evicted (584 is in block 18, which has the same slot), flushed
unfoldable pub calls : List Call
calls = Load 0 72 ∷ Load 3 72 ∷ Store 3 72 9 ∷ Load 1 72 ∷ Load 3 584 ∷ Flush 1 2 ∷ []

unfoldable pub set_and_count : Answer → ℕ × ℕ
set_and_count r = ((holders_answer r.directory 2).set, (holders_answer r.directory 2).count)

pub record Examples : Type 0 where
  pub lamp :
      map set_and_count (answers_cold drill_settings (replicate 2048 0) calls) ≡ (1, 1) ∷ (9, 2) ∷ (8, 1) ∷ (10, 2) ∷ (2, 1) ∷ (0, 0) ∷ []
  -- block 64 of a directory with a slot whose set was not kept; block 64; the last block
  pub refusals :
      holders_refusal (set_slot (cold_directory drill_settings) 3 (Shared 3)) 64
      ∷ holders_refusal (cold_directory drill_settings) 64
      ∷ holders_refusal (cold_directory drill_settings) 63
      ∷ []
      ≡ 2 ∷ 4 ∷ 0 ∷ []

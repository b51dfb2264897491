-- What a cold start through the C interface answers and leaves, from the memory store m, the cache store k, the set s of the units that have a write-through
-- board, steal t (1 on, 0 off) and the directory's space d: 9 if the space is too small; 3 if the set names a unit above 3; 8 if steal is above 1; then "Cold
-- start tests 1 alone; refused, its directory is all invalid", and "holds the chosen kinds too", with steal "kept like the boards' kinds".
use Rattle.std.specs.Prelude.{ℕ, ◌≤◌, ◌<◌, ◌≡◌, Bool, true, false, cond, ◌&&◌, List, ◌⊎◌, length, take, leb, eqb}
use Rattle.order.specs.Refusal.{no_unit, field_range, no_room}
use Rattle.coherence.specs.declared.Settings.{Settings}
use Rattle.coherence.specs.Slots.{cold_directory}
use Rattle.coherence.specs.Refusal.{start_refusal}
use Rattle.coherence.specs.Calls.{start_answer, cache_started}
use Rattle.boards.specs.Boards.{all_units, settings_of}
use Rattle.layout.specs.Directory.{directory_size, decoded, directory_put}

-- the settings that are chosen
unfoldable pub chosen : ℕ → ℕ → Settings
chosen s t = settings_of s (eqb t 1)

-- both are in their range
unfoldable pub choosable : ℕ → ℕ → Bool
choosable s t = leb s all_units && leb t 1

unfoldable pub start_returned : List ℕ → List ℕ → ℕ → ℕ → List ℕ → ℕ
start_returned m k s t d = cond (leb directory_size (length d)) (cond (leb s all_units) (cond (leb t 1) (start_refusal m k) field_range) no_unit) no_room

unfoldable pub start_cache : List ℕ → List ℕ → ℕ → ℕ → List ℕ → List ℕ
start_cache m k s t d = cond (leb directory_size (length d) && choosable s t) (cache_started m k) k

unfoldable pub start_directory : ℕ → ℕ → List ℕ → List ℕ
start_directory s t d = cond (choosable s t) (directory_put (cold_directory (chosen s t)) d) d

-- the machine's own cold start where there is room and the settings are some, and else nothing
pub record Starts (m k : List ℕ) (s t : ℕ) (d : List ℕ) : Type 0 where
  pub returned : directory_size ≤ length d → s ≤ all_units → t ≤ 1 → start_returned m k s t d ≡ (start_answer (chosen s t) m k).refusal
  pub cache : directory_size ≤ length d → s ≤ all_units → t ≤ 1 → start_cache m k s t d ≡ cache_started m k
  pub directory : directory_size ≤ length d → s ≤ all_units → t ≤ 1
      → decoded (take directory_size (start_directory s t d)) ≡ (start_answer (chosen s t) m k).directory
  -- steal is on for 1, off for 0
  pub steal : ((chosen s 1).steal ≡ true) × ((chosen s 0).steal ≡ false)
  pub no_room : length d < directory_size → start_returned m k s t d ≡ 9
  pub no_unit : directory_size ≤ length d → all_units < s → start_returned m k s t d ≡ 3
  pub field_range : directory_size ≤ length d → s ≤ all_units → 1 < t → start_returned m k s t d ≡ 8
  pub stays : (length d < directory_size) ⊎ ((all_units < s) ⊎ (1 < t)) → (start_cache m k s t d ≡ k) × (start_directory s t d ≡ d)

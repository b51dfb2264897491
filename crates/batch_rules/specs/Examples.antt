-- Lists of accesses computed, after a cold start on zero memory. The places for values hold 7 before.
use Rattle.std.specs.Prelude.{ℕ, ◌≡◌, List, [], ◌∷◌, map, replicate}
use Rattle.coherence.specs.declared.Call.{Call}
use Rattle.coherence.specs.declared.Call.TheVariants.{Load, Store, Flush}
use Rattle.coherence.specs.Bytes.{store_size}
use Rattle.coherence.specs.Settings.{drill_settings}
use Rattle.coherence.specs.Slots.{cold_directory}
use Rattle.coherence.specs.Examples.{zeros, drill_calls}
use Rattle.batch_rules.specs.Batch.{Batch, batch_result}
use Rattle.batch_rules.specs.Numbers.{numbers_result}

-- refusal, index, orders and values of a batch
unfoldable pub fields_of : Batch → ℕ × ℕ × ℕ × List ℕ
fields_of w = (w.outcome.refusal, w.outcome.index, w.outcome.orders, w.values)

unfoldable pub list_cold : List Call → ℕ → ℕ × ℕ × ℕ × List ℕ
list_cold cs room =
    fields_of (batch_result (map (λ c. record { call = c }) cs) (replicate room 7) (cold_directory drill_settings) zeros (replicate store_size 0))

unfoldable pub numbers_cold : List ℕ → ℕ → ℕ × ℕ × ℕ × List ℕ
numbers_cold ns room = fields_of (numbers_result ns (replicate room 7) (cold_directory drill_settings) zeros (replicate store_size 0))

pub record Examples : Type 0 where
  -- document 01's drill: "total 6 calls 8 orders"; the place past the list's length stays
  pub drill : list_cold drill_calls 7 ≡ (0, 6, 8, 0 ∷ 9 ∷ 0 ∷ 0 ∷ 0 ∷ 0 ∷ 7 ∷ [])
  -- the third access has no unit
  pub stopped : list_cold (Store 0 72 9 ∷ Load 1 72 ∷ Flush 4 2 ∷ Load 0 72 ∷ []) 4 ≡ (3, 2, 4, 0 ∷ 9 ∷ 7 ∷ 7 ∷ [])
  -- kind, unit, address or block, value: the third access is of no known kind, and its other numbers are not looked at
  pub unknown :
      numbers_cold (1 ∷ 0 ∷ 72 ∷ 9 ∷ 0 ∷ 1 ∷ 72 ∷ 5 ∷ 3 ∷ 4 ∷ 6 ∷ 8 ∷ 0 ∷ 0 ∷ 72 ∷ 0 ∷ []) 4
      ≡ (7, 2, 4, 0 ∷ 9 ∷ 7 ∷ 7 ∷ [])

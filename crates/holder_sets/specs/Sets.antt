-- The sets of holders that an access leaves, from those that it found: the unit's weight comes to the set of one block and goes from that of another. The
-- proofs show that these are the sets that the slots have then. Sets h, unit u, block b, and x, what the unit's slot was.
use Rattle.std.specs.Prelude.{ℕ, ◌+◌, ◌-◌, ◌%◌, Bool, cond, List, [], ◌∷◌, slice_index, slice_set}
use Rattle.coherence.specs.declared.Slot.{Slot}
use Rattle.slots.specs.Directory.{block_or}

-- "unit 0 having weight 1, unit 3 weight 8"
unfoldable pub weight_of : ℕ → ℕ
weight_of u = slice_index (1 ∷ 2 ∷ 4 ∷ 8 ∷ []) u

-- the block that the slot had, if it was valid, is no longer the unit's
unfoldable pub vacated : List ℕ → Slot → ℕ → ℕ → List ℕ
vacated h x u b = slice_set h (block_or x b) (slice_index h (block_or x b) - weight_of u)

-- after a missed load
unfoldable pub fetched_sets : List ℕ → Slot → ℕ → ℕ → List ℕ
fetched_sets h x u b = slice_set (vacated h x u b) b ((slice_index h b + weight_of u) % 256)

-- after a store of a copyback unit
unfoldable pub claimed_sets : List ℕ → Slot → ℕ → ℕ → List ℕ
claimed_sets h x u b = slice_set (vacated h x u b) b (weight_of u)

-- after a flush of a block that was held
unfoldable pub flushed_sets : List ℕ → ℕ → ℕ → List ℕ
flushed_sets h u b = slice_set h b (slice_index h b - weight_of u)

-- after a store of a write-through unit, which held the block or not
unfoldable pub through_sets : List ℕ → ℕ → ℕ → Bool → List ℕ
through_sets h u b held = slice_set h b (cond held (weight_of u) 0)

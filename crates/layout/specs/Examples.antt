-- The bytes of a directory as include/trainer.h tells them, computed; all fields are different.
use Rattle.std.specs.Prelude.{◌≡◌, true, [], ◌∷◌, ◌++◌, replicate}
use Rattle.coherence.specs.declared.Slot.TheVariants.{Shared, Modified}
use Rattle.coherence.specs.declared.Settings.{Settings}
use Rattle.coherence.specs.declared.Directory.{Directory}
use Rattle.coherence.specs.Settings.{copyback_board, through_board}
use Rattle.coherence.specs.Slots.{set_slot, kept, cold_directory}
use Rattle.layout.specs.Directory.{encoded, left_put, directory_put, slot_spelled, no_slot}

-- unit 0 and unit 2 have write-through boards, and steal is on
unfoldable pub chosen : Settings
chosen = record { boards = through_board ∷ copyback_board ∷ through_board ∷ copyback_board ∷ []; steal = true }

-- slot 1 of unit 0 is SU with block 33, slot 15 of unit 3 EM with block 47, and these are who holds them
unfoldable pub mixed : Directory
mixed = kept (set_slot (set_slot (cold_directory chosen) 1 (Shared 33)) 63 (Modified 47))

pub record Examples : Type 0 where
  -- "slot s of unit u at 2 (16 u + s): its state, then its block (0 if it is invalid)"
  -- then the set of the units that have a write-through board, "unit 0 having weight 1, unit 3 weight 8", and 1 with steal on; then the sets of holders,
  -- block 33's at 163 and block 47's at 177
  pub directory :
      encoded mixed
      ≡ (0 ∷ 0 ∷ 1 ∷ 33 ∷ []) ++ replicate 122 0 ++ (2 ∷ 47 ∷ 5 ∷ 1 ∷ []) ++ replicate 33 0 ++ (1 ∷ replicate 13 0) ++ (8 ∷ replicate 16 0)
  -- what is no slot: an invalid slot with a block, a state above 2
  pub no_slots : (slot_spelled 0 5 ≡ no_slot) × (slot_spelled 3 0 ≡ no_slot)
  -- what lies behind stays, and so does a space that is too small
  pub directory_behind : directory_put mixed (replicate 196 9) ≡ encoded mixed ++ (9 ∷ 9 ∷ [])
  pub directory_short : directory_put mixed (replicate 193 9) ≡ replicate 193 9
  -- a call changes neither the settings nor what lies behind
  pub left_behind :
      left_put mixed (replicate 195 9)
      ≡ (0 ∷ 0 ∷ 1 ∷ 33 ∷ []) ++ replicate 122 0 ++ (2 ∷ 47 ∷ 9 ∷ 9 ∷ []) ++ replicate 33 0 ++ (1 ∷ replicate 13 0) ++ (8 ∷ replicate 16 0) ++ (9 ∷ [])
  pub left_short : left_put mixed (replicate 193 9) ≡ replicate 193 9

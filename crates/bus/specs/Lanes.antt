-- The byte lanes of a register access (document 01, "Parity, lanes, levels"; the standard's 4.2.2, item 6).
use Rattle.std.specs.Prelude.{ℕ, ◌+◌, ◌%◌, ◌≡◌, Result, Ok, Err, cond, leb}
use Rattle.order.specs.declared.Refusal.{Refusal}
use Rattle.order.specs.declared.Refusal.TheVariants.{FieldRange}
use Rattle.order.specs.Refusal.{accepted, refusal_number}
use Rattle.numeric.specs.Range.{within}
use Rattle.numeric.specs.Bits.{from_bits}
use Rattle.bus.specs.declared.lanes.ByteLanes.{ByteLanes}

-- whether position p holds one of the BCT + 1 bytes carried from position RA mod 8 onward, as 1 or 0
unfoldable pub carried_at : ℕ → ℕ → ℕ → ℕ
carried_at ra bct p = cond (within (ra % 8) (ra % 8 + bct) p) 1 0

-- the valid positions as a 16-bit set, position 0 of the first word having weight 1
unfoldable pub positions_of : ℕ → ℕ → ℕ
positions_of ra bct = from_bits 16 (carried_at ra bct)

-- two words where the last position lies past position 7
unfoldable pub words_of : ℕ → ℕ → ℕ
words_of ra bct = cond (leb (ra % 8 + bct) 7) 1 2

-- BCT above 7 is refused, with no words and no positions
unfoldable pub lanes_of : ℕ → ℕ → Result ByteLanes Refusal
lanes_of ra bct = cond (within 0 7 bct) (Ok record { words = words_of ra bct; positions = positions_of ra bct }) (Err FieldRange)

-- ---- the answer in document 01's numbers

-- the number of refusal or 0, the word count and the positions
pub record LanesAnswer : Type 0 where
  pub refusal : ℕ
  pub words : ℕ
  pub positions : ℕ

-- refused with number n: no words and no positions
unfoldable pub refused_lanes : ℕ → LanesAnswer
refused_lanes n = record { refusal = n; words = 0; positions = 0 }

-- the code's answer in these numbers
unfoldable pub lanes_told : Result ByteLanes Refusal → LanesAnswer
lanes_told (Ok b) = record { refusal = accepted; words = b.words; positions = b.positions }
lanes_told (Err refusal) = refused_lanes (refusal_number refusal)

-- different answers of the code are told differently
unfoldable pub LanesApart : Type 0
LanesApart = (r s : Result ByteLanes Refusal) → lanes_told r ≡ lanes_told s → r ≡ s

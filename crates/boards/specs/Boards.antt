-- The settings as numbers: the set of the units that have a write-through board, "unit 0 having weight 1, unit 3 weight 8", and steal beside it.
use Rattle.std.specs.Prelude.{ℕ, ◌+◌, ◌≤◌, ◌≡◌, Bool, true, false, cond, [], ◌∷◌, map, length}
use Rattle.numeric.specs.Bits.{contains}
use Rattle.coherence.specs.declared.Board.{Board}
use Rattle.coherence.specs.declared.Settings.{Settings}
use Rattle.coherence.specs.Settings.{copyback_board, through_board, through}

-- the set of all four units
abbrev pub all_units : ℕ
all_units = 15

unfoldable pub board_of : Bool → Board
board_of t = cond t through_board copyback_board

-- the settings with the boards that the set s spells, and steal t
unfoldable pub settings_of : ℕ → Bool → Settings
settings_of s t =
    record { boards = board_of (contains s 0) ∷ board_of (contains s 1) ∷ board_of (contains s 2) ∷ board_of (contains s 3) ∷ []; steal = t }

-- w where t is true, else 0
unfoldable pub weighed : Bool → ℕ → ℕ
weighed t w = cond t w 0

-- the set that spells the boards
unfoldable pub set_of : Settings → ℕ
set_of g = weighed (through g 0) 1 + weighed (through g 1) 2 + weighed (through g 2) 4 + weighed (through g 3) 8

-- unit 0 and unit 2 alone, and each unit by itself
pub record Examples : Type 0 where
  pub units : settings_of 5 true ≡ record { boards = through_board ∷ copyback_board ∷ through_board ∷ copyback_board ∷ []; steal = true }
  pub one : map (λ s. map (through (settings_of s false)) (0 ∷ 1 ∷ 2 ∷ 3 ∷ [])) (1 ∷ 2 ∷ 4 ∷ 8 ∷ [])
      ≡ (true ∷ false ∷ false ∷ false ∷ []) ∷ (false ∷ true ∷ false ∷ false ∷ []) ∷ (false ∷ false ∷ true ∷ false ∷ []) ∷ (false ∷ false ∷ false ∷ true ∷ []) ∷ []

-- sets up to 15 with steal and settings of four boards determine each other, and the set has a unit exactly where its board is write-through
pub record Sets : Type 0 where
  pub back : (g : Settings) → length g.boards ≡ 4 → settings_of (set_of g) g.steal ≡ g
  pub forth : (s : ℕ) (t : Bool) → s ≤ all_units → (set_of (settings_of s t) ≡ s) × ((settings_of s t).steal ≡ t)
  pub through : (s : ℕ) (t : Bool) → (through (settings_of s t) 0 ≡ contains s 0) × (through (settings_of s t) 1 ≡ contains s 1)
      × (through (settings_of s t) 2 ≡ contains s 2) × (through (settings_of s t) 3 ≡ contains s 3)

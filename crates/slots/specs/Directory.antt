-- How the code claims a block: the four units' slots of one slot number are read as they were found. The rules themselves are `coherence`'s; the proofs
-- show that these come to the same.
use Rattle.std.specs.Prelude.{ℕ, cond, not, ◌&&◌, List, [], ltb, eqb}
use Rattle.coherence.specs.declared.Slot.{Slot}
use Rattle.coherence.specs.declared.Slot.TheVariants.{Invalid, Shared, Modified}
use Rattle.coherence.specs.declared.Entry.{Entry}
use Rattle.coherence.specs.declared.Directory.{Directory}
use Rattle.coherence.specs.Settings.{drill_settings}
use Rattle.coherence.specs.Slots.{place, slot_at, set_slot, holds, modified}

-- the block of a valid slot, else s
unfoldable pub block_or : Slot → ℕ → ℕ
block_or Invalid s = s
block_or (Shared b) s = b
block_or (Modified b) s = b

-- a directory of these slots, which the code takes and gives without the settings and the sets: nothing that is said of slots depends on them
abbrev pub of_slots : List Entry → Directory
of_slots l = record { slots = l; settings = drill_settings; holders = [] }

-- the first of the four units whose slot has block b modified, or 4
unfoldable pub first_modified : Slot → Slot → Slot → Slot → ℕ → ℕ
first_modified w x y z b = cond (modified w b) 0 (cond (modified x b) 1 (cond (modified y b) 2 (cond (modified z b) 3 4)))

-- slot x of unit v, once unit u claims block b
unfoldable pub released : Slot → ℕ → ℕ → ℕ → Slot
released x b v u = cond (not (eqb v u) && holds x b) Invalid x

-- unit v's slot in d as unit u's claim leaves it, written into e
unfoldable pub release_into : ℕ → ℕ → Directory → ℕ → Directory → Directory
release_into u b d v e = set_slot e (place v b) (released (slot_at d (place v b)) b v u)

-- the directory d once no unit but u holds block b, each unit's slot read from d
unfoldable pub expelled_at_once : ℕ → ℕ → Directory → Directory
expelled_at_once u b d = release_into u b d 3 (release_into u b d 2 (release_into u b d 1 (release_into u b d 0 d)))

-- the directory d once unit u claims block b
unfoldable pub claimed_at_once : ℕ → ℕ → Directory → Directory
claimed_at_once u b d = set_slot (expelled_at_once u b d) (place u b) (Modified b)

-- ---- fetching: unit v, or none if v is 4 or above, had block b EM

unfoldable pub yielded_directory : ℕ → ℕ → Directory → Directory
yielded_directory b v d = cond (ltb v 4) (set_slot d (place v b) (Shared b)) d

-- slot n has block b SU, and the slot of the unit that had it EM too
unfoldable pub fetched_directory : ℕ → ℕ → ℕ → Directory → Directory
fetched_directory n b v d = set_slot (yielded_directory b v d) n (Shared b)

-- The directory as a caller lends it: two bytes for each slot, slot n at 2 n, its state and its block; then the set of the units that have a write-through
-- board; then 1 with steal on, else 0; then for each block the set of the units that hold it, block b at 130 + b.
use Rattle.std.specs.Prelude.{ℕ, zero, suc, ◌+◌, ◌*◌, ◌/◌, ◌%◌, ◌<◌, ◌≡◌, Bool, true, cond, not, ◌&&◌, List, [], ◌∷◌, ◌++◌, length, get_or, take, drop, replicate, leb, eqb}
use Rattle.order.specs.Flag.{flag}
use Rattle.coherence.specs.declared.Slot.{Slot}
use Rattle.coherence.specs.declared.Slot.TheVariants.{Invalid, Shared, Modified}
use Rattle.coherence.specs.declared.Entry.{Entry}
use Rattle.coherence.specs.declared.Settings.{Settings}
use Rattle.coherence.specs.declared.Directory.{Directory}
use Rattle.coherence.specs.Slots.{state_number, block_of, slot_at, sound}
use Rattle.boards.specs.Boards.{all_units, settings_of, set_of}

-- the bytes of a directory
abbrev pub directory_size : ℕ
directory_size = 194

-- the bytes of the first n slots
unfoldable pub slot_bytes : ℕ → Directory → List ℕ
slot_bytes zero d = []
slot_bytes (suc n) d = slot_bytes n d ++ (state_number (slot_at d n) ∷ block_of (slot_at d n) ∷ [])

-- the bytes of the settings
unfoldable pub settings_bytes : Settings → List ℕ
settings_bytes g = set_of g ∷ flag g.steal ∷ []

-- the bytes before the sets of holders
unfoldable pub front_bytes : Directory → List ℕ
front_bytes d = slot_bytes 64 d ++ settings_bytes d.settings

unfoldable pub encoded : Directory → List ℕ
encoded d = front_bytes d ++ d.holders

-- the slots' bytes put into the first places of a lent space; it stays if it is too small for a directory
unfoldable pub slots_put : Directory → List ℕ → List ℕ
slots_put d o = cond (leb directory_size (length o)) (slot_bytes 64 d ++ drop 128 o) o

-- the sets' bytes put into their places
unfoldable pub sets_put : Directory → List ℕ → List ℕ
sets_put d o = cond (leb directory_size (length o)) (take 130 o ++ d.holders ++ drop directory_size o) o

-- what a call may change put there: the slots and the sets, and not the settings
unfoldable pub left_put : Directory → List ℕ → List ℕ
left_put d o = sets_put d (slots_put d o)

-- all its bytes put there
unfoldable pub directory_put : Directory → List ℕ → List ℕ
directory_put d o = cond (leb directory_size (length o)) (encoded d ++ drop directory_size o) o

-- what a pair of bytes that spells no slot is taken for: a block above 63, so that the machine refuses the directory as broken
abbrev pub no_slot : Slot
no_slot = Shared 255

-- the block of a pair with state 1 or 2
unfoldable pub block_spelled : ℕ → ℕ → ℕ
block_spelled state block = cond (not (eqb state 0) && leb state 2) block 255

unfoldable pub slot_spelled : ℕ → ℕ → Slot
slot_spelled state block =
    cond (eqb state 0) (cond (eqb block 0) Invalid no_slot)
    (cond (eqb state 1) (Shared block)
    (cond (eqb state 2) (Modified block) no_slot))

-- the numbers w hold the first n pairs of the bytes l, a pair in each: the state below, the block above
unfoldable pub Paired : List ℕ → ℕ → List ℕ → Type 0
Paired l n w = (i : ℕ) → i < n → (get_or w i 0 % 256 ≡ get_or l (2 * i) 0) × (get_or w i 0 / 256 ≡ get_or l (2 * i + 1) 0)

-- the first n slots that the bytes l spell
unfoldable pub slots_spelled : ℕ → List ℕ → List Entry
slots_spelled zero l = []
slots_spelled (suc n) l = slots_spelled n l ++ (record { slot = slot_spelled (get_or l (2 * n) 0) (get_or l (2 * n + 1) 0) } ∷ [])

-- the set of write-through boards
unfoldable pub set_in : List ℕ → ℕ
set_in l = get_or l 128 0

-- steal's byte
unfoldable pub steal_in : List ℕ → ℕ
steal_in l = get_or l 129 0

-- the sets of holders
unfoldable pub sets_in : List ℕ → List ℕ
sets_in l = cond (eqb (length l) directory_size) (take 64 (drop 130 l)) (replicate 64 0)

-- bytes of any other count, with a set above 15 or with steal above 1, spell no slot at all
unfoldable pub spells_slots : List ℕ → Bool
spells_slots l = eqb (length l) directory_size && leb (set_in l) all_units && leb (steal_in l) 1

unfoldable pub decoded : List ℕ → Directory
decoded l =
    record {
      slots = cond (spells_slots l) (slots_spelled 64 l) (replicate 64 (record { slot = no_slot }));
      settings = settings_of (set_in l) (eqb (steal_in l) 1);
      holders = sets_in l;
    }

-- the bytes and the directory determine each other
pub record Inverse : Type 0 where
  -- what was written is read back
  pub back : (d : Directory) → length d.slots ≡ 64 → length d.settings.boards ≡ 4 → length d.holders ≡ 64 → decoded (encoded d) ≡ d
  -- bytes that the machine takes for a directory are the bytes of that directory, so anything else is refused as broken
  pub forth : (l : List ℕ) → sound (decoded l) ≡ true → encoded (decoded l) ≡ l

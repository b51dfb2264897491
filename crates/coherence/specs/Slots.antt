-- Document 01, "The directory", with document 02, T-05 and T-08: what a slot has, the units that hold a block, the rules, and the directory of a cold
-- start. A slot has a number: slot s of unit u is number 16 u + s in the directory, and the part of the cache store at 512 u + 32 s is its block 16 u
-- + s.
use Rattle.std.specs.Prelude.{ℕ, zero, suc, ◌+◌, ◌*◌, ◌/◌, ◌%◌, ◌≤◌, ◌<◌, ◌≡◌, Bool, true, false, cond, not, ◌&&◌, ◌||◌, List, [], ◌∷◌, ◌++◌, get_or, set, replicate, leb, eqb}
use Rattle.order.specs.Flag.{flag}
use Rattle.coherence.specs.declared.Slot.{Slot}
use Rattle.coherence.specs.declared.Slot.TheVariants.{Invalid, Shared, Modified}
use Rattle.coherence.specs.declared.Entry.{Entry}
use Rattle.coherence.specs.declared.Settings.{Settings}
use Rattle.coherence.specs.declared.Directory.{Directory}
use Rattle.coherence.specs.Settings.{through}

-- "Four processors": the last has number 3
abbrev pub last_unit : ℕ
last_unit = 3

-- "a block of at most 63"
abbrev pub last_block : ℕ
last_block = 63

abbrev pub empty_entry : Entry
empty_entry = record { slot = Invalid }

-- the number of the slot of unit u in which block b has its place
unfoldable pub place : ℕ → ℕ → ℕ
place u b = 16 * u + b % 16

unfoldable pub slot_at : Directory → ℕ → Slot
slot_at d n = (get_or d.slots n empty_entry).slot

-- the block number of a slot; "An invalid slot has block 0"
unfoldable pub block_of : Slot → ℕ
block_of Invalid = 0
block_of (Shared b) = b
block_of (Modified b) = b

-- a slot's state as a number. House numbering: document 01 gives the states none; these are ours
unfoldable pub state_number : Slot → ℕ
state_number Invalid = 0
state_number (Shared b) = 1
state_number (Modified b) = 2

-- x is valid and has block b
unfoldable pub holds : Slot → ℕ → Bool
holds Invalid b = false
holds (Shared c) b = eqb c b
holds (Modified c) b = eqb c b

-- x is EM with block b
unfoldable pub modified : Slot → ℕ → Bool
modified Invalid b = false
modified (Shared c) b = false
modified (Modified c) b = eqb c b

-- the set of the units with f: "unit 0 having weight 1, unit 3 weight 8"
unfoldable pub units_with : (ℕ → Bool) → ℕ
units_with f = flag (f 0) + 2 * flag (f 1) + 4 * flag (f 2) + 8 * flag (f 3)

-- the set of units holding block b, by the slots
unfoldable pub holders_of : Directory → ℕ → ℕ
holders_of d b = units_with (λ u. holds (slot_at d (place u b)) b)

-- the set that the directory keeps for block b
unfoldable pub held_by : Directory → ℕ → ℕ
held_by d b = get_or d.holders b 0

-- slot n becomes x; the sets stay as they were
unfoldable pub set_slot : Directory → ℕ → Slot → Directory
set_slot d n x = record { slots = set d.slots n (record { slot = x }); settings = d.settings; holders = d.holders }

-- f 0, f 1, .., f (n - 1)
unfoldable pub table : ℕ → (ℕ → ℕ) → List ℕ
table zero f = []
table (suc n) f = table n f ++ (f n ∷ [])

-- T-08: "Keep for each of the 64 blocks the set of units holding it": the slots and settings of d, and the sets that its slots have
unfoldable pub kept : Directory → Directory
kept d = record { slots = d.slots; settings = d.settings; holders = table 64 (holders_of d) }

-- the first unit that has block b EM, or 4 if none has
unfoldable pub owner_of : Directory → ℕ → ℕ
owner_of d b =
    cond (modified (slot_at d (place 0 b)) b) 0
    (cond (modified (slot_at d (place 1 b)) b) 1
    (cond (modified (slot_at d (place 2 b)) b) 2
    (cond (modified (slot_at d (place 3 b)) b) 3 4)))

-- f holds of each number below n
unfoldable pub all_below : ℕ → (ℕ → Bool) → Bool
all_below zero f = true
all_below (suc n) f = all_below n f && f n

-- "A valid slot s has a block of at most 63 with block mod 16 = s": block b may stand in slot n
unfoldable pub fits : ℕ → ℕ → Bool
fits n b = leb b last_block && eqb (b % 16) (n % 16)

-- "A block that is EM in one unit is valid in no other": no unit but that of slot n holds block b
unfoldable pub alone : Directory → ℕ → ℕ → Bool
alone d n b = all_below 4 (λ v. eqb v (n / 16) || not (holds (slot_at d (place v b)) b))

-- the rules of slot n, as it is x
unfoldable pub slot_rule : Directory → ℕ → Slot → Bool
slot_rule d n Invalid = true
slot_rule d n (Shared b) = fits n b
slot_rule d n (Modified b) = fits n b && alone d n b

-- "A write-through unit is only I or SU": slot n, as it is x
unfoldable pub kind_rule : Directory → ℕ → Slot → Bool
kind_rule d n Invalid = true
kind_rule d n (Shared b) = true
kind_rule d n (Modified b) = not (through d.settings (n / 16))

unfoldable pub sound_slots : Directory → Bool
sound_slots d = all_below 64 (λ n. slot_rule d n (slot_at d n))

unfoldable pub sound_kinds : Directory → Bool
sound_kinds d = all_below 64 (λ n. kind_rule d n (slot_at d n))

-- T-08: "2 also for a set that differs from the slots"
unfoldable pub sound_sets : Directory → Bool
sound_sets d = all_below 64 (λ b. eqb (held_by d b) (holders_of d b))

-- the test for refusal 2: no rule is violated
unfoldable pub sound : Directory → Bool
sound d = sound_slots d && sound_kinds d && sound_sets d

-- "Cold start: all slots invalid", with the settings that were chosen; "cold start has all sets empty"
unfoldable pub cold_directory : Settings → Directory
cold_directory g = record { slots = replicate 64 empty_entry; settings = g; holders = replicate 64 0 }

-- ---- the same rules in the documents' words

-- slot s of unit u
unfoldable pub slot_of : Directory → ℕ → ℕ → Slot
slot_of d u s = slot_at d (16 * u + s)

-- "A block that is EM in one unit is valid in no other."
unfoldable pub Exclusive : Directory → Type 0
Exclusive d =
    (u v s t b : ℕ) → u < 4 → v < 4 → s < 16 → t < 16 → slot_of d u s ≡ Modified b → holds (slot_of d v t) b ≡ true → u ≡ v

pub record Rules (d : Directory) : Type 0 where
  -- "An invalid slot has block 0."
  pub empty : (u s : ℕ) → u < 4 → s < 16 → slot_of d u s ≡ Invalid → block_of (slot_of d u s) ≡ 0
  -- "A valid slot s has a block of at most 63 with block mod 16 = s."
  pub placed : (u s b : ℕ) → u < 4 → s < 16 → holds (slot_of d u s) b ≡ true → (b ≤ 63) × (b % 16 ≡ s)
  pub exclusive : Exclusive d

-- "A write-through unit is only I or SU."
unfoldable pub Kinds : Directory → Type 0
Kinds d = (u s b : ℕ) → u < 4 → s < 16 → slot_of d u s ≡ Modified b → through d.settings u ≡ false

-- "for each of the 64 blocks the set of units holding it"
unfoldable pub SetsTrue : Directory → Type 0
SetsTrue d = (b : ℕ) → b ≤ 63 → held_by d b ≡ holders_of d b

-- a test passes if and only if P holds
pub record Tests (test : Bool) (P : Type 0) : Type 0 where
  pub enough : test ≡ true → P
  pub needed : P → test ≡ true

pub record TestsRules (d : Directory) : Type 0 where
  pub slots : Tests (sound_slots d) (Rules d)
  pub kinds : Tests (sound_kinds d) (Kinds d)
  pub sets : Tests (sound_sets d) (SetsTrue d)
  pub whole : Tests (sound d) (Rules d × Kinds d × SetsTrue d)

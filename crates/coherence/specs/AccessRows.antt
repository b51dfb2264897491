-- Each case of document 01's "What an access does" and of document 02's T-05, T-08 and T-13 once, on one slot of the four units, with all that the call answers and leaves:
-- orders, value, slots, sets of holders and bytes written out. Peek and cold start likewise. Each is a computation on the definitions that the contracts cite.
use Rattle.std.specs.Prelude.{ℕ, ◌+◌, ◌*◌, ◌≡◌, true, false, cond, List, [], ◌∷◌, ◌++◌, drop, replicate}
use Rattle.order.specs.declared.Command.TheVariants.{Read, ModifiedRead, Invalidate, Copyback, MemoryWrite}
use Rattle.order.specs.declared.Order.{Order}
use Rattle.coherence.specs.declared.Call.{Call}
use Rattle.coherence.specs.declared.Call.TheVariants.{Load, Store, Flush}
use Rattle.coherence.specs.declared.Slot.{Slot}
use Rattle.coherence.specs.declared.Slot.TheVariants.{Invalid, Shared, Modified}
use Rattle.coherence.specs.declared.Settings.{Settings}
use Rattle.coherence.specs.declared.Directory.{Directory}
use Rattle.coherence.specs.Settings.{copyback_board, through_board, drill_settings}
use Rattle.coherence.specs.Slots.{empty_entry, holds}
use Rattle.coherence.specs.Access.{ready}
use Rattle.coherence.specs.Calls.{refusal, act, loaded, settle, answer, start_answer, cache_started}
use Rattle.coherence.specs.Peek.{peeked, peek_from_cache, peek_offset}
use Rattle.coherence.specs.Sentences.{by, left}

-- block n is held by these of the units 0 to 3, whose slots 2 are a, b, c and e: "unit 0 having weight 1, unit 3 weight 8"
unfoldable pub held_two : Slot → Slot → Slot → Slot → ℕ → ℕ
held_two a b c e n = cond (holds a n) 1 0 + cond (holds b n) 2 0 + cond (holds c n) 4 0 + cond (holds e n) 8 0

-- slot 2 of units 0 to 3, all other slots invalid; and who holds the blocks that have their place there, 2, 18, 34 and 50
unfoldable pub slot_two_of : Settings → Slot → Slot → Slot → Slot → Directory
slot_two_of g a b c e =
    record {
      slots =
          replicate 2 empty_entry ++ (record { slot = a } ∷ replicate 15 empty_entry)
          ++ (record { slot = b } ∷ replicate 15 empty_entry)
          ++ (record { slot = c } ∷ replicate 15 empty_entry)
          ++ (record { slot = e } ∷ replicate 13 empty_entry);
      settings = g;
      holders =
          replicate 2 0 ++ (held_two a b c e 2 ∷ replicate 15 0)
          ++ (held_two a b c e 18 ∷ replicate 15 0)
          ++ (held_two a b c e 34 ∷ replicate 15 0)
          ++ (held_two a b c e 50 ∷ replicate 13 0);
    }

-- on copyback boards
unfoldable pub slot_two : Slot → Slot → Slot → Slot → Directory
slot_two a b c e = slot_two_of drill_settings a b c e

-- unit 1, which calls, has a write-through board, and unit 3 too
unfoldable pub mixed_settings : Settings
mixed_settings = record { boards = copyback_board ∷ through_board ∷ copyback_board ∷ through_board ∷ []; steal = false }

unfoldable pub mixed_two : Slot → Slot → Slot → Slot → Directory
mixed_two a b c e = slot_two_of mixed_settings a b c e

-- with steal on, on copyback boards and on those of `mixed_settings`
unfoldable pub stealing : Settings → Settings
stealing g = record { boards = g.boards; steal = true }

unfoldable pub steal_two : Slot → Slot → Slot → Slot → Directory
steal_two a b c e = slot_two_of (stealing drill_settings) a b c e

unfoldable pub mixed_steal_two : Slot → Slot → Slot → Slot → Directory
mixed_steal_two a b c e = slot_two_of (stealing mixed_settings) a b c e

-- memory has 7 in every byte; the caches of units 0 to 3 have 10, 11, 12 and 13
unfoldable pub sevens : List ℕ
sevens = replicate 2048 7

-- the caches, with unit 1's part as given
unfoldable pub caches : List ℕ → List ℕ
caches x = replicate 512 10 ++ x ++ replicate 512 12 ++ replicate 512 13

unfoldable pub elevens : List ℕ
elevens = replicate 512 11

-- unit 1's part, its slot 2 being x
unfoldable pub with_slot : List ℕ → List ℕ
with_slot x = replicate 64 11 ++ x ++ replicate 416 11

-- memory, its block b being all x, and c blocks after it
unfoldable pub with_block : ℕ → ℕ → ℕ → List ℕ
with_block b x c = replicate (32 * b) 7 ++ replicate 32 x ++ replicate (32 * c) 7

-- memory, its block 2 being x
unfoldable pub with_block_two : List ℕ → List ℕ
with_block_two x = replicate 64 7 ++ x ++ replicate 1952 7

-- memory, its block 2 being all x and its block 34 all y
unfoldable pub with_blocks : ℕ → ℕ → List ℕ
with_blocks x y = replicate 64 7 ++ replicate 32 x ++ replicate 992 7 ++ replicate 32 y ++ replicate 928 7

-- 32 bytes x, but the word 300 at byte 8
unfoldable pub with_word : ℕ → List ℕ
with_word x = replicate 8 x ++ (0 ∷ 0 ∷ 1 ∷ 44 ∷ replicate 20 x)

-- the call c on the directory d: it is accepted, what it does with the directory, memory and unit 1's part of the caches, its orders, and its value
pub record Row (d : Directory) (c : Call) (n : ℕ) (os : List Order) (e : Directory) (m k : List ℕ) : Type 0 where
  pub accepts : refusal d sevens (caches elevens) c ≡ 0
  pub leaves : settle (act c (ready d sevens (caches elevens))) ≡ record { directory = e; memory = m; cache = caches k; orders = os }
  pub value : loaded c (record { directory = e; memory = m; cache = caches k; orders = os }) ≡ n

-- and so what the contracts fix of it
pub record RowSays (d : Directory) (c : Call) (n : ℕ) (os : List Order) (e : Directory) (m k : List ℕ) : Type 0 where
  pub accepts : (answer d sevens (caches elevens) c).refusal ≡ 0
  pub value : (answer d sevens (caches elevens) c).value ≡ n
  pub leaves : left d sevens (caches elevens) c ≡ record { directory = e; memory = m; cache = caches k; orders = os }

unfoldable pub RowsSay : Type 0
RowsSay = (d : Directory) (c : Call) (n : ℕ) (os : List Order) (e : Directory) (m k : List ℕ) → Row d c n os e m k → RowSays d c n os e m k

-- the number of the call's refusal; `Demand3.Refused` says what it leaves
unfoldable pub refused_with : Directory → Call → ℕ
refused_with d c = refusal d sevens (caches elevens) c

-- unit 1 calls; address 72 is byte 8 of block 2, and blocks 18 and 34 have the same slot
pub record Rows : Type 0 where
  -- "Load, b held: no order."
  pub load_shared : Row (slot_two Invalid (Shared 2) Invalid (Shared 2)) (Load 1 72) 185273099
      []
      (slot_two Invalid (Shared 2) Invalid (Shared 2)) sevens elevens
  pub load_modified : Row (slot_two Invalid (Modified 2) Invalid (Shared 18)) (Load 1 72) 185273099
      []
      (slot_two Invalid (Modified 2) Invalid (Shared 18)) sevens elevens
  -- "Order read (load) .. The block is filled from memory. Load: SU." Other holders stay.
  pub load_missed : Row (slot_two (Shared 2) Invalid (Shared 18) (Shared 2)) (Load 1 72) 117901063
      (by 1 Read 2 false ∷ [])
      (slot_two (Shared 2) (Shared 2) (Shared 18) (Shared 2)) sevens (with_slot (replicate 32 7))
  -- "If another unit holds b EM, that order is retried, the holder gives copyback and becomes SU, and u gives the same order again, not retried."
  pub load_retried : Row (slot_two (Modified 2) (Shared 34) (Modified 18) Invalid) (Load 1 72) 168430090
      (by 1 Read 2 true ∷ by 0 Copyback 2 false ∷ by 1 Read 2 false ∷ [])
      (slot_two (Shared 2) (Shared 2) (Modified 18) Invalid) (with_block 2 10 61) (with_slot (replicate 32 10))
  -- "if the slot is EM with another block, order copyback of that block by u."
  pub load_evicts : Row (slot_two (Shared 2) (Modified 18) Invalid (Shared 34)) (Load 1 72) 117901063
      (by 1 Copyback 18 false ∷ by 1 Read 2 false ∷ [])
      (slot_two (Shared 2) (Shared 2) Invalid (Shared 34)) (with_block 18 11 45) (with_slot (replicate 32 7))
  -- "Store, b EM: no order." "A store writes its word in u's cache only."
  pub store_modified : Row (slot_two (Shared 18) (Modified 2) Invalid (Shared 18)) (Store 1 72 300) 0
      []
      (slot_two (Shared 18) (Modified 2) Invalid (Shared 18)) sevens (with_slot (with_word 11))
  -- "Store, b SU: order invalidate; other units holding b become I; the slot becomes EM."
  pub store_shared : Row (slot_two (Shared 2) (Shared 2) (Shared 18) (Shared 2)) (Store 1 72 300) 0
      (by 1 Invalidate 2 false ∷ [])
      (slot_two Invalid (Modified 2) (Shared 18) Invalid) sevens (with_slot (with_word 11))
  -- "Order .. modified read (store) .. Store: other holders become I, the slot becomes EM."
  pub store_missed : Row (slot_two (Shared 2) (Shared 34) (Modified 18) (Shared 2)) (Store 1 72 300) 0
      (by 1 ModifiedRead 2 false ∷ [])
      (slot_two Invalid (Modified 2) (Modified 18) Invalid) sevens (with_slot (with_word 7))
  pub store_retried : Row (slot_two (Shared 34) Invalid (Shared 34) (Modified 2)) (Store 1 72 300) 0
      (by 1 ModifiedRead 2 true ∷ by 3 Copyback 2 false ∷ by 1 ModifiedRead 2 false ∷ [])
      (slot_two (Shared 34) (Modified 2) (Shared 34) Invalid) (with_block 2 13 61) (with_slot (with_word 13))
  pub store_evicts : Row (slot_two (Shared 2) (Modified 18) Invalid (Shared 34)) (Store 1 72 300) 0
      (by 1 Copyback 18 false ∷ by 1 ModifiedRead 2 false ∷ [])
      (slot_two Invalid (Modified 2) Invalid (Shared 34)) (with_block 18 11 45) (with_slot (with_word 7))
  -- "Flush: EM gives a copyback; a held slot becomes I." "its 32 bytes in the cache store stay"
  pub flush_modified : Row (slot_two (Shared 18) (Modified 2) Invalid (Modified 34)) (Flush 1 2) 0
      (by 1 Copyback 2 false ∷ [])
      (slot_two (Shared 18) Invalid Invalid (Modified 34)) (with_block 2 11 61) elevens
  pub flush_shared : Row (slot_two (Shared 2) (Shared 2) Invalid (Shared 18)) (Flush 1 2) 0
      []
      (slot_two (Shared 2) Invalid Invalid (Shared 18)) sevens elevens
  -- "Not held: accepted, no orders."
  pub flush_other : Row (slot_two (Shared 2) (Modified 18) Invalid (Shared 2)) (Flush 1 2) 0
      []
      (slot_two (Shared 2) (Modified 18) Invalid (Shared 2)) sevens elevens
  pub flush_other_shared : Row (slot_two (Modified 2) (Shared 18) Invalid Invalid) (Flush 1 2) 0
      []
      (slot_two (Modified 2) (Shared 18) Invalid Invalid) sevens elevens
  -- block 2 is EM in unit 1 and valid in unit 3; unit 4 is none; 74 is not a multiple of 4
  pub broken : refused_with (slot_two Invalid (Modified 2) Invalid (Shared 2)) (Flush 1 2) ≡ 2
  pub no_unit : refused_with (slot_two Invalid (Shared 2) Invalid Invalid) (Load 4 74) ≡ 3
  pub bad_address : refused_with (slot_two Invalid (Modified 2) Invalid Invalid) (Store 1 74 300) ≡ 4

-- T-05: unit 1 has a write-through board
pub record ThroughRows : Type 0 where
  -- "Its store gives order memory write, command 4 ..; then memory and its own held copy take the word"
  pub store_hit : Row (mixed_two (Shared 18) (Shared 2) (Modified 34) Invalid) (Store 1 72 300) 0
      (by 1 MemoryWrite 2 false ∷ [])
      (mixed_two (Shared 18) (Shared 2) (Modified 34) Invalid) (with_block_two (with_word 7)) (with_slot (with_word 11))
  -- "A miss on its store changes none of its slots."
  pub store_miss : Row (mixed_two Invalid (Shared 18) Invalid (Shared 18)) (Store 1 72 300) 0
      (by 1 MemoryWrite 2 false ∷ [])
      (mixed_two Invalid (Shared 18) Invalid (Shared 18)) (with_block_two (with_word 7)) elevens
  -- "retried like a read when another unit is EM; .. and all other holders become I"
  pub store_retried : Row (mixed_two (Modified 2) (Shared 34) (Modified 18) Invalid) (Store 1 72 300) 0
      (by 1 MemoryWrite 2 true ∷ by 0 Copyback 2 false ∷ by 1 MemoryWrite 2 false ∷ [])
      (mixed_two Invalid (Shared 34) (Modified 18) Invalid) (with_block_two (with_word 10)) elevens
  pub store_shared : Row (mixed_two (Shared 2) (Shared 2) (Shared 18) (Shared 2)) (Store 1 72 300) 0
      (by 1 MemoryWrite 2 false ∷ [])
      (mixed_two Invalid (Shared 2) (Shared 18) Invalid) (with_block_two (with_word 7)) (with_slot (with_word 11))
  -- "Loads are as before."
  pub load_retried : Row (mixed_two (Modified 2) (Shared 34) (Modified 18) Invalid) (Load 1 72) 168430090
      (by 1 Read 2 true ∷ by 0 Copyback 2 false ∷ by 1 Read 2 false ∷ [])
      (mixed_two (Shared 2) (Shared 2) (Modified 18) Invalid) (with_block 2 10 61) (with_slot (replicate 32 10))
  -- "Refusals: 2 also for a write-through unit with an EM slot": unit 3's, before 3 and 4
  pub broken : refused_with (mixed_two Invalid Invalid Invalid (Modified 2)) (Load 4 74) ≡ 2

-- T-13: steal is on. On copyback boards but where a unit's board is said to be write-through
pub record StealRows : Type 0 where
  -- "a retried read or modified read isn't given again: the asker takes the block during the copyback"
  pub load_stolen : Row (steal_two (Modified 2) (Shared 34) (Modified 18) Invalid) (Load 1 72) 168430090
      (by 1 Read 2 true ∷ by 0 Copyback 2 false ∷ [])
      (steal_two (Shared 2) (Shared 2) (Modified 18) Invalid) (with_block 2 10 61) (with_slot (replicate 32 10))
  pub load_evicts_and_steals : Row (steal_two Invalid (Modified 34) (Modified 2) (Shared 18)) (Load 1 72) 202116108
      (by 1 Copyback 34 false ∷ by 1 Read 2 true ∷ by 2 Copyback 2 false ∷ [])
      (steal_two Invalid (Shared 2) (Shared 2) (Shared 18)) (with_blocks 12 11) (with_slot (replicate 32 12))
  -- "For a modified read the old holder becomes I."
  pub store_stolen : Row (steal_two (Shared 34) Invalid (Shared 34) (Modified 2)) (Store 1 72 300) 0
      (by 1 ModifiedRead 2 true ∷ by 3 Copyback 2 false ∷ [])
      (steal_two (Shared 34) (Modified 2) (Shared 34) Invalid) (with_block 2 13 61) (with_slot (with_word 13))
  pub store_evicts_and_steals : Row (steal_two (Modified 2) (Modified 34) (Shared 18) Invalid) (Store 1 72 300) 0
      (by 1 Copyback 34 false ∷ by 1 ModifiedRead 2 true ∷ by 0 Copyback 2 false ∷ [])
      (steal_two Invalid (Modified 2) (Shared 18) Invalid) (with_blocks 10 11) (with_slot (with_word 10))
  -- an order that is not retried is given once
  pub load_missed : Row (steal_two (Shared 2) (Modified 18) Invalid (Shared 34)) (Load 1 72) 117901063
      (by 1 Copyback 18 false ∷ by 1 Read 2 false ∷ [])
      (steal_two (Shared 2) (Shared 2) Invalid (Shared 34)) (with_block 18 11 45) (with_slot (replicate 32 7))
  pub store_missed : Row (steal_two (Shared 2) (Shared 34) (Modified 18) (Shared 2)) (Store 1 72 300) 0
      (by 1 ModifiedRead 2 false ∷ [])
      (steal_two Invalid (Modified 2) (Modified 18) Invalid) sevens (with_slot (with_word 7))
  -- "Memory writes are given again as before": unit 1's board is write-through
  pub memory_write : Row (mixed_steal_two (Modified 2) (Shared 34) (Modified 18) Invalid) (Store 1 72 300) 0
      (by 1 MemoryWrite 2 true ∷ by 0 Copyback 2 false ∷ by 1 MemoryWrite 2 false ∷ [])
      (mixed_steal_two Invalid (Shared 34) (Modified 18) Invalid) (with_block_two (with_word 10)) elevens
  -- a write-through unit's read is stolen as any other
  pub load_through : Row (mixed_steal_two (Modified 2) (Shared 34) (Modified 18) Invalid) (Load 1 72) 168430090
      (by 1 Read 2 true ∷ by 0 Copyback 2 false ∷ [])
      (mixed_steal_two (Shared 2) (Shared 2) (Modified 18) Invalid) (with_block 2 10 61) (with_slot (replicate 32 10))

-- "from the cache store where some unit has it EM, and from memory in every other case", "those bytes themselves"
pub record Peeks : Type 0 where
  pub shared : peeked (slot_two Invalid (Shared 2) (Modified 18) Invalid) sevens (caches elevens) 2 ≡ replicate 32 7
  pub shared_from_cache : peek_from_cache (slot_two Invalid (Shared 2) (Modified 18) Invalid) sevens (caches elevens) 2 ≡ false
  pub shared_offset : peek_offset (slot_two Invalid (Shared 2) (Modified 18) Invalid) sevens (caches elevens) 2 ≡ 64
  pub modified : peeked (slot_two Invalid (Shared 2) (Modified 18) Invalid) sevens (caches elevens) 18 ≡ replicate 32 12
  pub modified_from_cache : peek_from_cache (slot_two Invalid (Shared 2) (Modified 18) Invalid) sevens (caches elevens) 18 ≡ true
  pub modified_offset : peek_offset (slot_two Invalid (Shared 2) (Modified 18) Invalid) sevens (caches elevens) 18 ≡ 1088

-- "all slots invalid, cache store all zeros"; "Cold start tests 1 alone; refused, its directory is all invalid", "and leaves .. stores .. unchanged"; "a kind
-- for each unit, chosen at cold start (a refused one's directory holds the chosen kinds too)"; steal "chosen at cold start and kept like the boards' kinds"
pub record Starts : Type 0 where
  pub cache : cache_started sevens (caches elevens) ≡ replicate 2048 0
  pub directory : (start_answer (stealing mixed_settings) sevens (caches elevens)).directory ≡ mixed_steal_two Invalid Invalid Invalid Invalid
  pub short_memory : (start_answer (stealing mixed_settings) (drop 1 sevens) (caches elevens)).refusal ≡ 1
  pub short_memory_directory : (start_answer (stealing mixed_settings) (drop 1 sevens) (caches elevens)).directory ≡ mixed_steal_two Invalid Invalid Invalid Invalid
  pub short_memory_cache : cache_started (drop 1 sevens) (caches elevens) ≡ caches elevens
  pub short_cache : cache_started sevens (drop 1 (caches elevens)) ≡ drop 1 (caches elevens)

pub record AccessRows : Type 0 where
  pub say : RowsSay
  pub rows : Rows
  pub through_rows : ThroughRows
  pub steal_rows : StealRows
  pub peeks : Peeks
  pub starts : Starts

-- Document 01's values, with the cold start on zero memory: the drill's six calls, P11, one answer with all four orders, a stored word byte by byte,
-- and the boundaries of the tests; a write-through board among copyback boards; steal; and a few runs that a careless rule would get wrong. Each is a
-- computation on the definitions.
use Rattle.std.specs.Prelude.{ℕ, ◌+◌, ◌*◌, ◌≡◌, true, false, List, [], ◌∷◌, map, length, take, drop, replicate}
use Rattle.order.specs.declared.Command.TheVariants.{Read, Copyback}
use Rattle.order.specs.declared.Order.{Order}
use Rattle.coherence.specs.declared.Call.{Call}
use Rattle.coherence.specs.declared.Call.TheVariants.{Load, Store, Flush}
use Rattle.coherence.specs.Answer.{Answer}
use Rattle.coherence.specs.declared.Slot.TheVariants.{Invalid, Shared, Modified}
use Rattle.coherence.specs.Bytes.{store_size, block_at}
use Rattle.coherence.specs.Settings.{drill_settings}
use Rattle.coherence.specs.Slots.{set_slot, state_number, kept, sound, cold_directory}
use Rattle.coherence.specs.Access.{Run}
use Rattle.coherence.specs.Refusal.{start_refusal, peek_refusal}
use Rattle.coherence.specs.Calls.{answers_cold, after_cold}
use Rattle.coherence.specs.Peek.{peeked}
use Rattle.coherence.specs.PlainMemory.{plain_accepts}
use Rattle.coherence.specs.Snapshot.{taken_after_all}
use Rattle.coherence.specs.AccessRows.{mixed_settings, stealing}
use Rattle.coherence.specs.Demand3.{orders_in, orders_given, loads, stores, per_store}

unfoldable pub zeros : List ℕ
zeros = replicate store_size 0

-- "The tape", the input of "Drill"
unfoldable pub drill_calls : List Call
drill_calls = Store 0 72 9 ∷ Load 1 72 ∷ Store 1 72 10 ∷ Load 0 584 ∷ Load 1 584 ∷ Flush 1 2 ∷ []

-- the value of an answer, and how many orders it has
unfoldable pub value_and_orders : Answer → ℕ × ℕ
value_and_orders r = (r.value, length (orders_in r))

pub record Drill : Type 0 where
  -- the loaded values and the orders of each call, as the drill prints them; a store's and a flush's value is 0
  pub lines : map value_and_orders (answers_cold drill_settings zeros drill_calls) ≡ (0, 1) ∷ (9, 3) ∷ (0, 1) ∷ (0, 1) ∷ (0, 2) ∷ (0, 0) ∷ []
  -- "total 6 calls 8 orders"
  pub total : orders_given (answers_cold drill_settings zeros drill_calls) ≡ 8

-- "P11 the first two drill calls: four orders, exactly one load plus three times one store"
pub record P11 : Type 0 where
  pub exactly : orders_given (answers_cold drill_settings zeros (take 2 drill_calls)) ≡ loads (take 2 drill_calls) + 3 * stores (take 2 drill_calls)
  pub orders : orders_given (answers_cold drill_settings zeros (take 2 drill_calls)) ≡ 4
  pub loads : loads (take 2 drill_calls) ≡ 1
  pub stores : stores (take 2 drill_calls) ≡ 1

-- a load whose slot has another block EM, of a block that another unit has EM
unfoldable pub conflict : List Call
conflict = Store 0 72 9 ∷ Store 1 584 10 ∷ Load 1 72 ∷ []

-- an answer's orders and its value
unfoldable pub orders_and_value : Answer → List Order × ℕ
orders_and_value r = (orders_in r, r.value)

pub record FourOrders : Type 0 where
  pub answer :
      map orders_and_value (drop 2 (answers_cold drill_settings zeros conflict))
      ≡ (
        record { unit = 1; command = Copyback; block = 18; retried = false }
            ∷ record { unit = 1; command = Read; block = 2; retried = true }
            ∷ record { unit = 0; command = Copyback; block = 2; retried = false }
            ∷ record { unit = 1; command = Read; block = 2; retried = false }
            ∷ [],
        9,
      )
      ∷ []

-- what peek shows of a machine, and block b when it was last taken
unfoldable pub peek_of : Run → ℕ → List ℕ
peek_of w b = peeked w.directory w.memory w.cache b

unfoldable pub taken_cold : List Call → ℕ → List ℕ
taken_cold cs b = taken_after_all (cold_directory drill_settings) zeros (block_at zeros) cs (answers_cold drill_settings zeros cs) b

-- the word at 72 in unit 2's slot 2, whose byte 8 it begins at; in memory; and as peek shows it
unfoldable pub words_of : Run → List ℕ × List ℕ × List ℕ
words_of w = (take 4 (drop 1096 w.cache), take 4 (drop 72 w.memory), take 4 (drop 8 (peek_of w 2)))

-- "Words are 4 bytes, most significant first": unit 2 stores 300 at 72, and flushes block 2
pub record StoredBytes : Type 0 where
  pub stored : words_of (after_cold drill_settings zeros (Store 2 72 300 ∷ [])) ≡ (0 ∷ 0 ∷ 1 ∷ 44 ∷ [], 0 ∷ 0 ∷ 0 ∷ 0 ∷ [], 0 ∷ 0 ∷ 1 ∷ 44 ∷ [])
  pub flushed :
      words_of (after_cold drill_settings zeros (Store 2 72 300 ∷ Flush 2 2 ∷ [])) ≡ (0 ∷ 0 ∷ 1 ∷ 44 ∷ [], 0 ∷ 0 ∷ 1 ∷ 44 ∷ [], 0 ∷ 0 ∷ 1 ∷ 44 ∷ [])
  -- memory under the block that unit 2 took again has what was flushed
  pub under : take 4 (drop 72 (after_cold drill_settings zeros (Store 2 72 300 ∷ Flush 2 2 ∷ Store 2 72 9 ∷ [])).memory) ≡ 0 ∷ 0 ∷ 1 ∷ 44 ∷ []
  pub taken : take 4 (drop 8 (taken_cold (Store 2 72 300 ∷ Flush 2 2 ∷ Store 2 72 9 ∷ []) 2)) ≡ 0 ∷ 0 ∷ 1 ∷ 44 ∷ []

-- "other units holding b become I": three units read a block, unit 0 stores into it, and unit 3 reads again
pub record Invalidations : Type 0 where
  pub lines :
      map value_and_orders (answers_cold drill_settings zeros (Load 0 72 ∷ Load 1 72 ∷ Load 3 72 ∷ Store 0 72 9 ∷ Load 3 72 ∷ []))
      ≡ (0, 1) ∷ (0, 1) ∷ (0, 1) ∷ (0, 1) ∷ (9, 3) ∷ []

-- the rules of the directory: slots 3 and 51 are slot 3 of units 0 and 3
pub record Directories : Type 0 where
  pub both_shared : sound (kept (set_slot (set_slot (cold_directory drill_settings) 3 (Shared 3)) 51 (Shared 3))) ≡ true
  pub modified_and_shared : sound (kept (set_slot (set_slot (cold_directory drill_settings) 3 (Modified 3)) 51 (Shared 3))) ≡ false
  pub other_block : sound (kept (set_slot (set_slot (cold_directory drill_settings) 3 (Modified 3)) 51 (Modified 19))) ≡ true
  pub wrong_slot : sound (kept (set_slot (cold_directory drill_settings) 0 (Shared 8))) ≡ false
  pub last_block : sound (kept (set_slot (cold_directory drill_settings) 63 (Modified 63))) ≡ true
  pub no_block : sound (kept (set_slot (cold_directory drill_settings) 0 (Shared 64))) ≡ false
  -- T-08: a slot whose set was not kept
  pub set_differs : sound (set_slot (cold_directory drill_settings) 3 (Shared 3)) ≡ false
  pub numbers : map state_number (Invalid ∷ Shared 9 ∷ Modified 5 ∷ []) ≡ 0 ∷ 1 ∷ 2 ∷ []

-- T-05: units 1 and 3 have write-through boards, the others have copyback boards.
-- Unit 1 stores into a block that unit 0 has EM; it reads the block, stores again into its own copy, and unit 0 reads it
unfoldable pub mixed_calls : List Call
mixed_calls = Store 0 72 9 ∷ Store 1 72 10 ∷ Load 1 72 ∷ Store 1 72 11 ∷ Load 1 72 ∷ Load 0 72 ∷ []

pub record MixedBoards : Type 0 where
  pub lines : map value_and_orders (answers_cold mixed_settings zeros mixed_calls) ≡ (0, 1) ∷ (0, 3) ∷ (10, 1) ∷ (0, 1) ∷ (11, 0) ∷ (11, 1) ∷ []
  -- slots 3 and 19 are slot 3 of units 0 and 1
  pub modified : sound (kept (set_slot (cold_directory mixed_settings) 19 (Modified 3))) ≡ false
  pub shared : sound (kept (set_slot (cold_directory mixed_settings) 19 (Shared 3))) ≡ true
  pub other : sound (kept (set_slot (cold_directory mixed_settings) 3 (Modified 3))) ≡ true

-- T-13: the same boards, with steal on. A read and a modified read are stolen, a memory write is given again
unfoldable pub steal_calls : List Call
steal_calls = Store 0 72 9 ∷ Load 2 72 ∷ Store 2 72 10 ∷ Store 0 72 11 ∷ Store 1 72 12 ∷ Load 3 72 ∷ []

pub record Steals : Type 0 where
  pub lines : map value_and_orders (answers_cold (stealing mixed_settings) zeros steal_calls) ≡ (0, 1) ∷ (9, 2) ∷ (0, 1) ∷ (0, 2) ∷ (0, 3) ∷ (12, 1) ∷ []
  -- "The bill then falls to loads plus twice the stores. .. With steal off, .. all stays."
  pub bills : map per_store (stealing mixed_settings ∷ mixed_settings ∷ []) ≡ 2 ∷ 3 ∷ []
  -- it is reached: the first two calls give exactly one load plus twice one store
  pub exactly : orders_given (answers_cold (stealing mixed_settings) zeros (take 2 steal_calls)) ≡ loads (take 2 steal_calls) + 2 * stores (take 2 steal_calls)
  -- "with write-through units too": twice two stores, the second a memory write
  pub memory_write : orders_given (answers_cold (stealing mixed_settings) zeros (Store 0 72 9 ∷ Store 1 72 12 ∷ [])) ≡ 4

-- "Addresses 2,044 and 2,048; blocks 63 and 64", and the last unit
unfoldable pub edge_calls : List Call
edge_calls =
    Load 3 2044 ∷ Load 0 2048 ∷ Load 0 2 ∷ Load 4 2048 ∷ Store 3 2044 7 ∷ Store 0 2048 7 ∷ Store 4 0 7 ∷ Flush 0 63 ∷ Flush 0 64 ∷ Flush 4 64 ∷ []

pub record Boundaries : Type 0 where
  pub calls : map (λ (r : Answer). r.refusal) (answers_cold drill_settings zeros edge_calls) ≡ 0 ∷ 4 ∷ 4 ∷ 3 ∷ 0 ∷ 4 ∷ 3 ∷ 0 ∷ 4 ∷ 3 ∷ []
  pub plain :
      map plain_accepts edge_calls ≡ true ∷ false ∷ false ∷ false ∷ true ∷ false ∷ false ∷ true ∷ false ∷ false ∷ []
  pub peeks : map (peek_refusal (cold_directory drill_settings) zeros zeros) (63 ∷ 64 ∷ []) ≡ 0 ∷ 4 ∷ []
  -- a store one byte short
  pub starts : start_refusal zeros zeros ∷ start_refusal zeros (drop 1 zeros) ∷ start_refusal (drop 1 zeros) zeros ∷ [] ≡ 0 ∷ 1 ∷ 1 ∷ []

pub record Examples : Type 0 where
  pub drill : Drill
  pub p11 : P11
  pub four_orders : FourOrders
  pub stored_bytes : StoredBytes
  pub invalidations : Invalidations
  pub directories : Directories
  pub mixed_boards : MixedBoards
  pub steals : Steals
  pub boundaries : Boundaries

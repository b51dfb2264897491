-- Document 01, "What an access does", and document 02, T-05, T-08 and T-13, sentence by sentence: what an accepted call answers and leaves, for every directory and both stores. These say
-- it by slots, literal orders and bytes, apart from the actions of `Access`. Peek and cold start likewise, refused ones too; `Demand3.Refused` is the
-- same for refused calls.
use Rattle.std.specs.Prelude.{ℕ, ◌+◌, ◌*◌, ◌/◌, ◌%◌, ◌<◌, ◌≡◌, Bool, true, false, List, [], ◌∷◌, length, replicate}
use Rattle.order.specs.declared.Command.{Command}
use Rattle.order.specs.declared.Command.TheVariants.{Read, ModifiedRead, Invalidate, Copyback, MemoryWrite}
use Rattle.order.specs.declared.Order.{Order}
use Rattle.coherence.specs.declared.Slot.TheVariants.{Invalid, Shared, Modified}
use Rattle.coherence.specs.declared.Settings.{Settings}
use Rattle.coherence.specs.declared.Directory.{Directory}
use Rattle.coherence.specs.Settings.{through}
use Rattle.coherence.specs.declared.Call.{Call}
use Rattle.coherence.specs.declared.Call.TheVariants.{Load, Store, Flush}
use Rattle.coherence.specs.Bytes.{block_at, put_block, word_at, put_word}
use Rattle.coherence.specs.Slots.{place, slot_at, holds, held_by, SetsTrue}
use Rattle.coherence.specs.Access.{Run}
use Rattle.coherence.specs.Refusal.{peek_refusal}
use Rattle.coherence.specs.Calls.{answer, memory_after, cache_after, start_answer, cache_started}
use Rattle.coherence.specs.Peek.{peeked, peek_from_cache, peek_offset}
use Rattle.coherence.specs.Demand3.{orders_in}

-- the call is not refused
abbrev pub Accepted : Directory → List ℕ → List ℕ → Call → Type 0
Accepted d m k c = (answer d m k c).refusal ≡ 0

-- what the contracts fix of a call: the directory and the orders in its answer, and the two stores that it leaves
unfoldable pub left : Directory → List ℕ → List ℕ → Call → Run
left d m k c =
    record {
      directory = (answer d m k c).directory;
      memory = memory_after d m k c;
      cache = cache_after d m k c;
      orders = orders_in (answer d m k c);
    }

-- "unit, command, block, retried or not"
abbrev pub by : ℕ → Command → ℕ → Bool → Order
by u k b retried = record { unit = u; command = k; block = b; retried = retried }

-- no unit has block b EM
abbrev pub NoneHasEM : Directory → ℕ → Type 0
NoneHasEM d b = (v : ℕ) → v < 4 → slot_at d (place v b) ≡ Modified b → ⊥

-- slot n is not EM
abbrev pub NotEM : Directory → ℕ → Type 0
NotEM d n = (c : ℕ) → slot_at d n ≡ Modified c → ⊥

-- the orders os that unit u gives for block b, which it does not hold, and the memory m' then. "A copyback copies 32 bytes to memory."
pub record MissOrders (d : Directory) (m k : List ℕ) (u b : ℕ) (x : Command) (os : List Order) (m' : List ℕ) : Type 0 where
  -- "Order read (load) or modified read (store)."
  pub alone : NotEM d (place u b) → NoneHasEM d b → (os ≡ by u x b false ∷ []) × (m' ≡ m)
  -- "if the slot is EM with another block, order copyback of that block by u."
  pub evicts : (c : ℕ) → slot_at d (place u b) ≡ Modified c → NoneHasEM d b
      → (os ≡ by u Copyback c false ∷ by u x b false ∷ []) × (m' ≡ put_block m c (block_at k (place u b)))
  -- "If another unit holds b EM, that order is retried, the holder gives copyback .., and u gives the same order again, not retried." "With steal off, ..
  -- all stays."
  pub retried : d.settings.steal ≡ false → NotEM d (place u b) → (v : ℕ) → v < 4 → slot_at d (place v b) ≡ Modified b
      → (os ≡ by u x b true ∷ by v Copyback b false ∷ by u x b false ∷ []) × (m' ≡ put_block m b (block_at k (place v b)))
  pub both : d.settings.steal ≡ false → (c : ℕ) → slot_at d (place u b) ≡ Modified c → (v : ℕ) → v < 4 → slot_at d (place v b) ≡ Modified b
      → (os ≡ by u Copyback c false ∷ by u x b true ∷ by v Copyback b false ∷ by u x b false ∷ [])
      × (m' ≡ put_block (put_block m c (block_at k (place u b))) b (block_at k (place v b)))
  -- T-13: "With steal on, .. a retried read or modified read isn't given again"
  pub stolen : d.settings.steal ≡ true → NotEM d (place u b) → (v : ℕ) → v < 4 → slot_at d (place v b) ≡ Modified b
      → (os ≡ by u x b true ∷ by v Copyback b false ∷ []) × (m' ≡ put_block m b (block_at k (place v b)))
  pub both_stolen : d.settings.steal ≡ true → (c : ℕ) → slot_at d (place u b) ≡ Modified c → (v : ℕ) → v < 4 → slot_at d (place v b) ≡ Modified b
      → (os ≡ by u Copyback c false ∷ by u x b true ∷ by v Copyback b false ∷ [])
      × (m' ≡ put_block (put_block m c (block_at k (place u b))) b (block_at k (place v b)))

-- the slots that a missed load leaves
pub record SlotsLoaded (d : Directory) (u b : ℕ) (e : Directory) : Type 0 where
  -- "Load: SU."
  pub own : slot_at e (place u b) ≡ Shared b
  -- "the holder .. becomes SU"
  pub holder : (v : ℕ) → v < 4 → slot_at d (place v b) ≡ Modified b → slot_at e (place v b) ≡ Shared b
  -- and all else stays
  pub rest : (n : ℕ) → (n ≡ place u b → ⊥) → (slot_at d n ≡ Modified b → ⊥) → slot_at e n ≡ slot_at d n

-- the slots that a store leaves, if unit u did not have block b EM
pub record SlotsStored (d : Directory) (u b : ℕ) (e : Directory) : Type 0 where
  -- "the slot becomes EM"
  pub own : slot_at e (place u b) ≡ Modified b
  -- "other units holding b become I"; T-13: "For a modified read the old holder becomes I", which is one of them
  pub others : (v : ℕ) → v < 4 → (v ≡ u → ⊥) → holds (slot_at d (place v b)) b ≡ true → slot_at e (place v b) ≡ Invalid
  -- and all else stays
  pub rest : (n : ℕ) → (n ≡ place u b → ⊥) → holds (slot_at d n) b ≡ false → slot_at e n ≡ slot_at d n

-- the slots that a write-through unit's store leaves
pub record SlotsThrough (d : Directory) (u b : ℕ) (e : Directory) : Type 0 where
  -- "A miss on its store changes none of its slots", nor does a hit
  pub own : (s : ℕ) → s < 16 → slot_at e (16 * u + s) ≡ slot_at d (16 * u + s)
  -- "all other holders become I"
  pub others : (v : ℕ) → v < 4 → (v ≡ u → ⊥) → holds (slot_at d (place v b)) b ≡ true → slot_at e (place v b) ≡ Invalid
  -- and all else stays
  pub rest : (n : ℕ) → holds (slot_at d n) b ≡ false → slot_at e n ≡ slot_at d n

-- the slots that a flush of a held block leaves: "a held slot becomes I", and all else stays
pub record SlotsFlushed (d : Directory) (u b : ℕ) (e : Directory) : Type 0 where
  pub own : slot_at e (place u b) ≡ Invalid
  pub rest : (n : ℕ) → (n ≡ place u b → ⊥) → slot_at e n ≡ slot_at d n

-- orders os; the directory and the memory store as they were, and the cache store k'
pub record Leaves (d : Directory) (m : List ℕ) (os : List Order) (k' : List ℕ) (w : Run) : Type 0 where
  pub orders : w.orders ≡ os
  pub directory : w.directory ≡ d
  pub memory : w.memory ≡ m
  pub cache : w.cache ≡ k'

-- the place of address a in the cache store: slot s of unit u lies at 512 u + 32 s
abbrev pub word_place : ℕ → ℕ → ℕ
word_place u a = 512 * u + 32 * (a / 32 % 16) + a % 32

pub record LoadMissed (d : Directory) (m k : List ℕ) (u b : ℕ) (w : Run) : Type 0 where
  pub orders : MissOrders d m k u b Read w.orders w.memory
  pub slots : SlotsLoaded d u b w.directory
  -- "The block is filled from memory."
  pub cache : w.cache ≡ put_block k (place u b) (block_at w.memory b)
  -- T-13: "the asker takes the block during the copyback": the bytes are the holder's; with steal off they are too
  pub taken : (h : ℕ) → h < 4 → slot_at d (place h b) ≡ Modified b → w.cache ≡ put_block k (place u b) (block_at k (place h b))

pub record StoreShared (d : Directory) (m k : List ℕ) (u a v : ℕ) (w : Run) : Type 0 where
  -- "order invalidate"
  pub orders : w.orders ≡ by u Invalidate (a / 32) false ∷ []
  pub slots : SlotsStored d u (a / 32) w.directory
  -- "A store writes its word in u's cache only."
  pub memory : w.memory ≡ m
  pub cache : w.cache ≡ put_word k (word_place u a) v

pub record StoreMissed (d : Directory) (m k : List ℕ) (u a v : ℕ) (w : Run) : Type 0 where
  pub orders : MissOrders d m k u (a / 32) ModifiedRead w.orders w.memory
  pub slots : SlotsStored d u (a / 32) w.directory
  -- "The block is filled from memory." "A store writes its word in u's cache only."
  pub cache : w.cache ≡ put_word (put_block k (place u (a / 32)) (block_at w.memory (a / 32))) (word_place u a) v
  -- as in `LoadMissed`
  pub taken : (h : ℕ) → h < 4 → slot_at d (place h (a / 32)) ≡ Modified (a / 32)
      → w.cache ≡ put_word (put_block k (place u (a / 32)) (block_at k (place h (a / 32)))) (word_place u a) v

-- the orders os that write-through unit u gives for its store of v at a, and the memory m' then: "memory .. take[s] the word"
pub record ThroughOrders (d : Directory) (m k : List ℕ) (u a v : ℕ) (os : List Order) (m' : List ℕ) : Type 0 where
  -- "Its store gives order memory write"
  pub alone : NoneHasEM d (a / 32) → (os ≡ by u MemoryWrite (a / 32) false ∷ []) × (m' ≡ put_word m a v)
  -- "retried like a read when another unit is EM"; T-13: "Memory writes are given again as before", whatever the settings
  pub retried : (h : ℕ) → h < 4 → slot_at d (place h (a / 32)) ≡ Modified (a / 32)
      → (os ≡ by u MemoryWrite (a / 32) true ∷ by h Copyback (a / 32) false ∷ by u MemoryWrite (a / 32) false ∷ [])
      × (m' ≡ put_word (put_block m (a / 32) (block_at k (place h (a / 32)))) a v)

pub record StoreThrough (d : Directory) (m k : List ℕ) (u a v : ℕ) (w : Run) : Type 0 where
  pub orders : ThroughOrders d m k u a v w.orders w.memory
  pub slots : SlotsThrough d u (a / 32) w.directory
  -- "and its own held copy take[s] the word"
  pub held : holds (slot_at d (place u (a / 32))) (a / 32) ≡ true → w.cache ≡ put_word k (word_place u a) v
  pub missed : holds (slot_at d (place u (a / 32))) (a / 32) ≡ false → w.cache ≡ k

pub record FlushHeld (d : Directory) (k : List ℕ) (u b : ℕ) (os : List Order) (m' : List ℕ) (w : Run) : Type 0 where
  pub orders : w.orders ≡ os
  pub slots : SlotsFlushed d u b w.directory
  pub memory : w.memory ≡ m'
  -- "its 32 bytes in the cache store stay until the next fill"
  pub cache : w.cache ≡ k

-- the stores of document 01 are a copyback unit's
pub record Sentences (d : Directory) (m k : List ℕ) : Type 0 where
  -- "Load, b held: no order."
  pub load_held : (u a : ℕ) → Accepted d m k (Load u a) → holds (slot_at d (place u (a / 32))) (a / 32) ≡ true
      → Leaves d m [] k (left d m k (Load u a))
  -- "Store, b EM: no order."
  pub store_modified : (u a v : ℕ) → Accepted d m k (Store u a v) → through d.settings u ≡ false → slot_at d (place u (a / 32)) ≡ Modified (a / 32)
      → Leaves d m [] (put_word k (word_place u a) v) (left d m k (Store u a v))
  -- "Store, b SU: order invalidate; other units holding b become I; the slot becomes EM."
  pub store_shared : (u a v : ℕ) → Accepted d m k (Store u a v) → through d.settings u ≡ false → slot_at d (place u (a / 32)) ≡ Shared (a / 32)
      → StoreShared d m k u a v (left d m k (Store u a v))
  -- "b not held: .. The block is filled from memory. Load: SU."
  pub load_missed : (u a : ℕ) → Accepted d m k (Load u a) → holds (slot_at d (place u (a / 32))) (a / 32) ≡ false
      → LoadMissed d m k u (a / 32) (left d m k (Load u a))
  -- "b not held: .. Store: other holders become I, the slot becomes EM."
  pub store_missed : (u a v : ℕ) → Accepted d m k (Store u a v) → through d.settings u ≡ false → holds (slot_at d (place u (a / 32))) (a / 32) ≡ false
      → StoreMissed d m k u a v (left d m k (Store u a v))
  -- T-05: a write-through unit's store
  pub store_through : (u a v : ℕ) → Accepted d m k (Store u a v) → through d.settings u ≡ true → StoreThrough d m k u a v (left d m k (Store u a v))
  -- "Flush: EM gives a copyback; a held slot becomes I."
  pub flush_modified : (u b : ℕ) → Accepted d m k (Flush u b) → slot_at d (place u b) ≡ Modified b
      → FlushHeld d k u b (by u Copyback b false ∷ []) (put_block m b (block_at k (place u b))) (left d m k (Flush u b))
  pub flush_shared : (u b : ℕ) → Accepted d m k (Flush u b) → slot_at d (place u b) ≡ Shared b
      → FlushHeld d k u b [] m (left d m k (Flush u b))
  -- "Not held: accepted, no orders."
  pub flush_other : (u b : ℕ) → Accepted d m k (Flush u b) → holds (slot_at d (place u b)) b ≡ false
      → Leaves d m [] k (left d m k (Flush u b))
  -- T-05: "a kind for each unit, chosen at cold start", T-13: "and kept like the boards' kinds": no call changes the settings
  pub kept : (c : Call) → (answer d m k c).directory.settings ≡ d.settings
  -- T-08: "each call keeps it true"
  pub holders : (c : Call) → Accepted d m k c → SetsTrue (answer d m k c).directory
  -- the number that a load answers: the word in u's cache then; a store and a flush answer 0, by our choice
  pub loaded : (u a : ℕ) → Accepted d m k (Load u a)
      → (answer d m k (Load u a)).value ≡ word_at (cache_after d m k (Load u a)) (word_place u a)
  pub stored : (u a v : ℕ) → (answer d m k (Store u a v)).value ≡ 0
  pub flushed : (u b : ℕ) → (answer d m k (Flush u b)).value ≡ 0

-- of every directory that has its 64 slots and its 64 sets, as the type has
unfoldable pub SentencesHold : Type 0
SentencesHold = (d : Directory) (m k : List ℕ) → length d.slots ≡ 64 → length d.holders ≡ 64 → Sentences d m k

-- ---- peek, and cold start

pub record PeekSays (d : Directory) (m k : List ℕ) (b : ℕ) : Type 0 where
  -- "from the cache store where some unit has it EM": those bytes, whose they are, and their place there
  pub cached : peek_refusal d m k b ≡ 0 → (v : ℕ) → v < 4 → slot_at d (place v b) ≡ Modified b
      → (peeked d m k b ≡ block_at k (place v b)) × (peek_from_cache d m k b ≡ true) × (peek_offset d m k b ≡ 512 * v + 32 * (b % 16))
  -- "and from memory in every other case"
  pub other : peek_refusal d m k b ≡ 0 → NoneHasEM d b
      → (peeked d m k b ≡ block_at m b) × (peek_from_cache d m k b ≡ false) × (peek_offset d m k b ≡ 32 * b)
  -- "refused, it shows an empty part": memory's, at its start, by our choice
  pub refused : (peek_refusal d m k b ≡ 0 → ⊥) → (peeked d m k b ≡ []) × (peek_from_cache d m k b ≡ false) × (peek_offset d m k b ≡ 0)

unfoldable pub PeeksHold : Type 0
PeeksHold = (d : Directory) (m k : List ℕ) (b : ℕ) → PeekSays d m k b

pub record StartSays (g : Settings) (m k : List ℕ) : Type 0 where
  -- "all slots invalid"; "refused, its directory is all invalid"
  pub slots : (n : ℕ) → slot_at (start_answer g m k).directory n ≡ Invalid
  -- T-05: "chosen at cold start (a refused one's directory holds the chosen kinds too)"
  pub settings : (start_answer g m k).directory.settings ≡ g
  -- T-08: "cold start has all sets empty"
  pub sets : (b : ℕ) → held_by (start_answer g m k).directory b ≡ 0
  -- "cache store all zeros"
  pub accepted : length m ≡ 2048 → length k ≡ 2048 → ((start_answer g m k).refusal ≡ 0) × (cache_started m k ≡ replicate 2048 0)
  -- "Cold start tests 1 alone": "memory store or cache store isn't 2,048 bytes". "A refused call .. leaves .. stores .. unchanged."
  pub refused : (length m ≡ 2048 → length k ≡ 2048 → ⊥) → ((start_answer g m k).refusal ≡ 1) × (cache_started m k ≡ k)

unfoldable pub StartsHold : Type 0
StartsHold = (g : Settings) (m k : List ℕ) → StartSays g m k

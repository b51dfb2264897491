-- Document 01, "What an access does", with document 02, T-05 and T-13: bus actions on the directory and the two stores, each with the orders that it
-- gives, and loads, stores and flushes made of them. Unit u, block b, slot b mod 16.
use Rattle.std.specs.Prelude.{ℕ, ◌+◌, ◌*◌, ◌/◌, ◌%◌, Bool, true, false, cond, not, ◌&&◌, List, [], ◌∷◌, ◌++◌, ltb, eqb}
use Rattle.order.specs.declared.Command.{Command}
use Rattle.order.specs.declared.Command.TheVariants.{Read, ModifiedRead, Invalidate, Copyback, MemoryWrite}
use Rattle.order.specs.declared.Order.{Order}
use Rattle.coherence.specs.declared.Slot.{Slot}
use Rattle.coherence.specs.declared.Slot.TheVariants.{Invalid, Shared, Modified}
use Rattle.coherence.specs.declared.Settings.{Settings}
use Rattle.coherence.specs.declared.Directory.{Directory}
use Rattle.coherence.specs.Bytes.{block_at, put_block, put_word}
use Rattle.coherence.specs.Settings.{through}
use Rattle.coherence.specs.Slots.{place, slot_at, set_slot, holds, modified, owner_of}

-- the machine in the middle of a call, with the orders that the call has given so far
pub record Run : Type 0 where
  pub directory : Directory
  pub memory : List ℕ
  pub cache : List ℕ
  pub orders : List Order

-- the machine as a call finds it
unfoldable pub ready : Directory → List ℕ → List ℕ → Run
ready d m k = record { directory = d; memory = m; cache = k; orders = [] }

-- one order more: unit, command, block, retried or not
unfoldable pub give : ℕ → Command → ℕ → Bool → Run → Run
give u k b retried w =
    record {
      directory = w.directory;
      memory = w.memory;
      cache = w.cache;
      orders = w.orders ++ (record { unit = u; command = k; block = b; retried = retried } ∷ []);
    }

-- slot n becomes x; its 32 bytes in the cache store stay
unfoldable pub mark : ℕ → Slot → Run → Run
mark n x w = record { directory = set_slot w.directory n x; memory = w.memory; cache = w.cache; orders = w.orders }

-- "A copyback copies 32 bytes to memory": block b of memory takes the bytes of slot n
unfoldable pub write_back : ℕ → ℕ → Run → Run
write_back n b w =
    record {
      directory = w.directory;
      memory = put_block w.memory b (block_at w.cache n);
      cache = w.cache;
      orders = w.orders;
    }

-- unit u gives a copyback of block b, which its slot n has EM, and has it SU from then on
unfoldable pub copyback : ℕ → ℕ → ℕ → Run → Run
copyback u n b w = mark n (Shared b) (write_back n b (give u Copyback b false w))

-- "if the slot is EM with another block, order copyback of that block by u. The slot is emptied." Slot n of unit u, as it is x
unfoldable pub emptied : ℕ → ℕ → Slot → Run → Run
emptied u n Invalid w = w
emptied u n (Shared b) w = mark n Invalid w
emptied u n (Modified b) w = mark n Invalid (copyback u n b w)

unfoldable pub empty : ℕ → ℕ → Run → Run
empty u n w = emptied u n (slot_at w.directory n) w

-- "If another unit holds b EM, that order is retried, the holder gives copyback and becomes SU": v is that unit, or 4 if there is none
unfoldable pub yield : ℕ → Command → ℕ → ℕ → Run → Run
yield u k b v w = cond (ltb v 4) (copyback v (place v b) b (give u k b true w)) w

-- a read or modified read: the orders by which a unit takes a block
unfoldable pub reads : Command → Bool
reads Read = true
reads ModifiedRead = true
reads Invalidate = false
reads Copyback = false
reads MemoryWrite = false

-- T-13: "With steal on, .. a retried read or modified read isn't given again"; "Memory writes are given again as before." v as in `yield`
unfoldable pub stolen : Settings → Command → ℕ → Bool
stolen g k v = g.steal && reads k && ltb v 4

-- "and u gives the same order again, not retried", unless it is stolen; where no unit has the block EM, the order is given once
unfoldable pub asked : ℕ → Command → ℕ → ℕ → Run → Run
asked u k b v w = cond (stolen w.directory.settings k v) (yield u k b v w) (give u k b false (yield u k b v w))

-- unit u's order k for block b, which u does not have EM
unfoldable pub ask : ℕ → Command → ℕ → Run → Run
ask u k b w = asked u k b (owner_of w.directory b) w

-- "The block is filled from memory. Load: SU." Slot n takes block b. T-13: "the asker takes the block during the copyback": memory then has the holder's
-- bytes
unfoldable pub fill : ℕ → ℕ → Run → Run
fill n b w =
    record {
      directory = set_slot w.directory n (Shared b);
      memory = w.memory;
      cache = put_block w.cache n (block_at w.memory b);
      orders = w.orders;
    }

-- "b not held": unit u gets block b by the order k
unfoldable pub fetch : ℕ → Command → ℕ → Run → Run
fetch u k b w = fill (place u b) b (ask u k b (empty u (place u b) w))

-- f for each unit in turn
unfoldable pub each_unit : (ℕ → Run → Run) → Run → Run
each_unit f w = f 3 (f 2 (f 1 (f 0 w)))

-- unit v, if it is not u, does not hold block b any more
unfoldable pub expel : ℕ → ℕ → ℕ → Run → Run
expel u b v w = cond (not (eqb v u) && holds (slot_at w.directory (place v b)) b) (mark (place v b) Invalid w) w

-- "Store: other holders become I, the slot becomes EM." T-13: "For a modified read the old holder becomes I." Unit u holds block b SU before
unfoldable pub claim : ℕ → ℕ → Run → Run
claim u b w = mark (place u b) (Modified b) (each_unit (expel u b) w)

-- the place in the cache store of address a, in unit u
unfoldable pub cache_place : ℕ → ℕ → ℕ
cache_place u a = 32 * place u (a / 32) + a % 32

-- "A store writes its word in u's cache only": a copyback board's store
unfoldable pub write : ℕ → ℕ → ℕ → Run → Run
write u a v w =
    record {
      directory = w.directory;
      memory = w.memory;
      cache = put_word w.cache (cache_place u a) v;
      orders = w.orders;
    }

-- "Load, b held: no order"; else read. The word then stands in u's cache.
unfoldable pub load : ℕ → ℕ → Run → Run
load u a w = cond (holds (slot_at w.directory (place u (a / 32))) (a / 32)) w (fetch u Read (a / 32) w)

-- "Store, b EM: no order. Store, b SU: order invalidate"; else modified read. Unit u then has block b EM.
unfoldable pub own : ℕ → ℕ → Run → Run
own u b w =
    cond
    (modified (slot_at w.directory (place u b)) b)
    w
    (claim u b
    (cond
    (holds (slot_at w.directory (place u b)) b)
    (give u Invalidate b false w)
    (fetch u ModifiedRead b w)))

-- "then memory and its own held copy take the word"
unfoldable pub write_through : ℕ → ℕ → ℕ → Run → Run
write_through u a v w =
    record {
      directory = w.directory;
      memory = put_word w.memory a v;
      cache = cond (holds (slot_at w.directory (place u (a / 32))) (a / 32)) (write u a v w).cache w.cache;
      orders = w.orders;
    }

-- T-05: "Its store gives order memory write, .. retried like a read when another unit is EM; then memory and its own held copy take the word and all
-- other holders become I. A miss on its store changes none of its slots."
unfoldable pub store_through : ℕ → ℕ → ℕ → Run → Run
store_through u a v w = write_through u a v (each_unit (expel u (a / 32)) (ask u MemoryWrite (a / 32) w))

-- a store, as unit u's board is write-through or copyback
unfoldable pub store : ℕ → ℕ → ℕ → Run → Run
store u a v w = cond (through w.directory.settings u) (store_through u a v w) (write u a v (own u (a / 32) w))

-- "Flush: EM gives a copyback; a held slot becomes I. Not held: accepted, no orders."
unfoldable pub flush : ℕ → ℕ → Run → Run
flush u b w = cond (holds (slot_at w.directory (place u b)) b) (empty u (place u b) w) w

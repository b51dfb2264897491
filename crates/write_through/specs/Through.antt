-- A write-through unit's store by its parts: what it leaves of the directory d, the memory store m and the cache store c. Unit u, address a in block b, value v.
-- The action is `coherence`'s; the proofs show that these come to the same.
use Rattle.std.specs.Prelude.{ℕ, cond, List}
use Rattle.coherence.specs.declared.Directory.{Directory}
use Rattle.coherence.specs.Slots.{place, slot_at, holds, owner_of}
use Rattle.coherence.specs.Access.{cache_place}
use Rattle.slots.specs.Directory.{expelled_at_once, yielded_directory}
use Rattle.holder_sets.specs.Sets.{through_sets}
use Rattle.blocks.specs.Moves.{word_put, yielded_memory}

-- the slots
unfoldable pub through_directory : ℕ → ℕ → Directory → Directory
through_directory u b d = expelled_at_once u b (yielded_directory b (owner_of d b) d)

-- with the sets of holders
unfoldable pub through_left : ℕ → ℕ → Directory → Directory
through_left u b d =
    record {
      slots = (through_directory u b d).slots;
      settings = d.settings;
      holders = through_sets d.holders u b (holds (slot_at (through_directory u b d) (place u b)) b);
    }

unfoldable pub through_memory : ℕ → ℕ → ℕ → Directory → List ℕ → List ℕ → List ℕ
through_memory b a v d m c = word_put (yielded_memory b (owner_of d b) m c) a v

unfoldable pub through_cache : ℕ → ℕ → ℕ → ℕ → Directory → List ℕ → List ℕ
through_cache u b a v d c = cond (holds (slot_at (through_directory u b d) (place u b)) b) (word_put c (cache_place u a) v) c

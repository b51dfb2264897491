-- Blocks and words of a store of any length, and the bytes that an access moves. The actions that move them are `coherence`'s; `machine` proves that
-- these come to the same. Block b, slot n, which is x before; v is the unit that has b EM, or 4; the memory store m and the cache store c.
use Rattle.std.specs.Prelude.{ℕ, ◌+◌, ◌/◌, Bool, cond, ◌&&◌, List, ltb, leb, length}
use Rattle.coherence.specs.declared.Slot.{Slot}
use Rattle.coherence.specs.declared.Slot.TheVariants.{Invalid, Shared, Modified}
use Rattle.coherence.specs.Bytes.{block_at, put_block, word_at, put_word}
use Rattle.coherence.specs.Slots.{place}

-- block b is in the store l
unfoldable pub has_block : List ℕ → ℕ → Bool
has_block l b = ltb b (length l / 32)

-- block j of t takes block i of s; where a store has no such block, t stays
unfoldable pub copied : List ℕ → ℕ → List ℕ → ℕ → List ℕ
copied s i t j = cond (has_block s i && has_block t j) (put_block t j (block_at s i)) t

-- the word at a is in the store l
unfoldable pub has_word : List ℕ → ℕ → Bool
has_word l a = leb (a + 4) (length l)

-- the word at a, or 0 where there is none
unfoldable pub word_in : List ℕ → ℕ → ℕ
word_in l a = cond (has_word l a) (word_at l a) 0

-- the store with the word v at a, or as it was where there is none
unfoldable pub word_put : List ℕ → ℕ → ℕ → List ℕ
word_put l a v = cond (has_word l a) (put_word l a v) l

-- ---- an access

unfoldable pub evicted_memory : ℕ → Slot → List ℕ → List ℕ → List ℕ
evicted_memory n Invalid m c = m
evicted_memory n (Shared b) m c = m
evicted_memory n (Modified b) m c = copied c n m b

unfoldable pub yielded_memory : ℕ → ℕ → List ℕ → List ℕ → List ℕ
yielded_memory b v m c = cond (ltb v 4) (copied c (place v b) m b) m

unfoldable pub fetched_memory : ℕ → ℕ → Slot → ℕ → List ℕ → List ℕ → List ℕ
fetched_memory n b x v m c = yielded_memory b v (evicted_memory n x m c) c

unfoldable pub fetched_cache : ℕ → ℕ → Slot → ℕ → List ℕ → List ℕ → List ℕ
fetched_cache n b x v m c = copied (fetched_memory n b x v m c) b c n

-- Document 01, "Peek": the newest 32 bytes of a block, and where they lie.
use Rattle.std.specs.Prelude.{ℕ, ◌*◌, Bool, false, cond, List, [], ltb, eqb}
use Rattle.order.specs.Refusal.{accepted}
use Rattle.coherence.specs.declared.Directory.{Directory}
use Rattle.coherence.specs.Bytes.{block_at}
use Rattle.coherence.specs.Slots.{place, owner_of}
use Rattle.coherence.specs.Refusal.{peek_refusal}

-- "from the cache store where some unit has it EM, and from memory in every other case"
unfoldable pub from_cache : Directory → ℕ → Bool
from_cache d b = ltb (owner_of d b) 4

-- which block of that store
unfoldable pub newest_block : Directory → ℕ → ℕ
newest_block d b = cond (from_cache d b) (place (owner_of d b) b) b

-- "the newest 32 bytes of a block"
unfoldable pub newest : Directory → List ℕ → List ℕ → ℕ → List ℕ
newest d m k b = block_at (cond (from_cache d b) k m) (newest_block d b)

-- the bytes that peek shows; "refused, it shows an empty part"
unfoldable pub peeked : Directory → List ℕ → List ℕ → ℕ → List ℕ
peeked d m k b = cond (eqb (peek_refusal d m k b) accepted) (newest d m k b) []

-- "It hands out those bytes themselves, uncopied": whether they are the cache store's, and at which offset of their store. That the empty part of
-- a refused peek is memory's, at offset 0, is our choice.
unfoldable pub peek_from_cache : Directory → List ℕ → List ℕ → ℕ → Bool
peek_from_cache d m k b = cond (eqb (peek_refusal d m k b) accepted) (from_cache d b) false

unfoldable pub peek_offset : Directory → List ℕ → List ℕ → ℕ → ℕ
peek_offset d m k b = cond (eqb (peek_refusal d m k b) accepted) (32 * newest_block d b) 0

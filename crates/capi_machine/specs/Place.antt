-- What a peek through the C interface answers and leaves, from the directory's bytes d and the stores m and k: which store has the newest bytes of
-- block b (0 memory, 1 cache), and at which offset.
use Rattle.std.specs.Prelude.{ℕ, ◌≤◌, ◌≡◌, cond, List, take, drop, eqb}
use Rattle.order.specs.Refusal.{accepted}
use Rattle.coherence.specs.Refusal.{peek_refusal}
use Rattle.coherence.specs.Peek.{peeked, peek_from_cache, peek_offset}
use Rattle.layout.specs.Directory.{decoded}
use Rattle.capi_machine.specs.Call.{narrowed}

unfoldable pub peek_returned : List ℕ → List ℕ → List ℕ → ℕ → ℕ
peek_returned d m k b = peek_refusal (decoded d) m k (narrowed b)

-- a refused peek leaves the number s
unfoldable pub store_left : List ℕ → List ℕ → List ℕ → ℕ → ℕ → ℕ
store_left d m k b s = cond (eqb (peek_returned d m k b) accepted) (cond (peek_from_cache (decoded d) m k (narrowed b)) 1 0) s

-- and the number o
unfoldable pub offset_left : List ℕ → List ℕ → List ℕ → ℕ → ℕ → ℕ
offset_left d m k b o = cond (eqb (peek_returned d m k b) accepted) (peek_offset (decoded d) m k (narrowed b)) o

-- store and offset mark the very bytes that the machine's own peek shows of the block that was asked for; a refused peek leaves both numbers
pub record Marked (d m k : List ℕ) (b s o : ℕ) : Type 0 where
  pub store : peek_returned d m k b ≡ accepted → store_left d m k b s ≤ 1
  pub bytes : peek_returned d m k b ≡ accepted → take 32 (drop (offset_left d m k b o) (cond (eqb (store_left d m k b s) 0) m k)) ≡ peeked (decoded d) m k b
  pub stays : (peek_returned d m k b ≡ accepted → ⊥) → (store_left d m k b s ≡ s) × (offset_left d m k b o ≡ o)

unfoldable pub Marks : Type 0
Marks = (d m k : List ℕ) (b s o : ℕ) → Marked d m k b s o

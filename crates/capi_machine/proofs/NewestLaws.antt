-- What an accepted peek leaves, by the store that has the block's newest bytes.
use Prim.Native.Nat.{ℕ, ◌+◌, ◌*◌, ◌%◌, ◌≤◌, ◌<◌}
use mathlib.Core.Path.{◌≡◌, sym, ◌∙◌}
use mathlib.Core.Bool.{true, false}
use mathlib.Core.List.{List}
use native.Mathlib.Omega.{arith}
use lib.Dec.{ltb, eqb}
use borrow.Author.Tests.{eq-eqb, lt-ltb, le-ltb}
use Rattle.coherence.specs.Slots.{place, owner_of}
use Rattle.coherence.specs.Access.{cache_place}
use Rattle.coherence.specs.Refusal.{peek_refusal}
use Rattle.coherence.specs.Peek.{from_cache, newest_block, peek_from_cache, peek_offset}
use Rattle.layout.specs.Directory.{decoded}
use Rattle.capi_machine.specs.Call.{narrowed}
use Rattle.capi_machine.specs.Place.{peek_returned, store_left, offset_left}

-- what an accepted peek leaves, by the first unit u that has the block EM
pub from_cache_lem : (d m k : List ℕ) (b s o r u : ℕ) → r ≡ peek_refusal (decoded d) m k (narrowed b) → r ≡ 0 → u ≡ owner_of (decoded d) (narrowed b) → u < 4
    → (0 ≡ peek_returned d m k b) × (1 ≡ store_left d m k b s) × (512 * u + 32 * (narrowed b % 16) ≡ offset_left d m k b o)
unfolding peek_returned store_left offset_left peek_from_cache peek_offset from_cache newest_block place
from_cache_lem d m k b s o r u e z h l =
    let q : eqb (peek_refusal (decoded d) m k (narrowed b)) 0 ≡ true = rw e at (eq-eqb r 0 z) in
    let t : ltb (owner_of (decoded d) (narrowed b)) 4 ≡ true = lt-ltb _ 4 (rw h at l) in
    let x : 512 * u + 32 * (narrowed b % 16) ≡ 32 * (16 * owner_of (decoded d) (narrowed b) + narrowed b % 16) = omega arith in
    (sym z ∙ e, rw (q, t), rw (q, t) x)

-- the place in the cache store of block b's first byte, in unit u
pub place_there : (u b : ℕ) → cache_place u (32 * b) ≡ 512 * u + 32 * (b % 16)
unfolding cache_place place
place_there u b = omega arith

pub from_memory : (d m k : List ℕ) (b s o r u : ℕ) → r ≡ peek_refusal (decoded d) m k (narrowed b) → r ≡ 0 → u ≡ owner_of (decoded d) (narrowed b) → 4 ≤ u
    → (0 ≡ peek_returned d m k b) × (0 ≡ store_left d m k b s) × (32 * narrowed b ≡ offset_left d m k b o)
unfolding peek_returned store_left offset_left peek_from_cache peek_offset from_cache newest_block
from_memory d m k b s o r u e z h l =
    let q : eqb (peek_refusal (decoded d) m k (narrowed b)) 0 ≡ true = rw e at (eq-eqb r 0 z) in
    let t : ltb (owner_of (decoded d) (narrowed b)) 4 ≡ false = le-ltb _ 4 (rw h at l) in
    (sym z ∙ e, rw (q, t), rw (q, t))

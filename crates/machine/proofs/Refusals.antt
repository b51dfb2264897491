-- What a call knows once no test has refused it.
use mathlib.Core.Path.{◌≡◌, refl}
use mathlib.Core.Bool.{Bool, true}
use mathlib.Core.List.{List}
use Prim.Native.Nat.{ℕ, ◌%◌, ◌<◌, ◌≤◌}
use native.Mathlib.Omega.{arith}
use lib.ListN.{length}
use lib.Dec.{eqb, leb}
use borrow.Author.Tests.{eqb-true, leb-true}
use Rattle.coherence.specs.declared.Directory.{Directory}
use Rattle.coherence.specs.declared.Slot.{Slot}
use Rattle.coherence.specs.declared.Slot.TheVariants.{Invalid, Shared, Modified}
use Rattle.coherence.specs.Slots.{sound, place, slot_at, block_of}
use Rattle.coherence.specs.Refusal.{sized, is_unit, is_address, call_refusal}
use Rattle.coherence.proofs.Below.{both}
use Rattle.coherence.proofs.RefusalLaws.{call_tests, all_pass, sized_say}
use Rattle.coherence.proofs.SlotLaws.{place_lt, shared_holds, modified_holds}
use Rattle.coherence.proofs.Rules.{sound_placed}

-- both stores have their size
pub record Sized (m k : List ℕ) : Type 0 where
  pub memory : length m ≡ 2048
  pub cache : length k ≡ 2048

pub sizes_of : (m k : List ℕ) → sized m k ≡ true → Sized m k
sizes_of m k e = let h = sized_say m k e in record { memory = h.0; cache = h.1 }

pub address_of : (a : ℕ) → is_address a ≡ true → (a % 4 ≡ 0) × (a ≤ 2044)
unfolding is_address
address_of a e = let h = both (eqb (a % 4) 0) (leb a 2044) e in (eqb-true _ _ h.0, leb-true _ _ h.1)

unit_of_lem : (u : ℕ) → is_unit u ≡ true → u ≤ 3
unfolding is_unit
unit_of_lem u e = leb-true _ _ e

-- a slot of a sound directory has one of the machine's blocks
slot_block : (d : Directory) (n : ℕ) → sound d ≡ true → n < 64 → block_of (slot_at d n) < 64
unfolding block_of
slot_block d n e h = go (slot_at d n) refl
  where
    go : (x : Slot) → slot_at d n ≡ x → block_of x < 64
    go Invalid q = omega arith
    go (Shared b) q = omega (arith, sound_placed d n b e h (shared_holds _ b q))
    go (Modified b) q = omega (arith, sound_placed d n b e h (modified_holds _ b q))

-- of an accepted call by unit u: the stores' sizes, the unit, the address or block, and the blocks in the directory
pub record Known (d : Directory) (m k : List ℕ) (u : ℕ) (good : Bool) : Type 0 where
  pub sizes : Sized m k
  pub sound : sound d ≡ true
  pub unit : u < 4
  pub target : good ≡ true
  pub block : (b : ℕ) → block_of (slot_at d (place u b)) < 64

pub known : (d : Directory) (m k : List ℕ) (u : ℕ) (good : Bool) → call_refusal d m k u good ≡ 0 → Known d m k u good
known d m k u good e =
    let p = all_pass (sized m k) (sound d) (is_unit u) good (rw (call_tests d m k u good) at e) in
    let h : u < 4 = omega (arith, unit_of_lem u p.2) in
    record {
      sizes = sizes_of m k p.0;
      sound = p.1;
      unit = h;
      target = p.3;
      block = λ b. slot_block d (place u b) p.1 (place_lt u b h);
    }

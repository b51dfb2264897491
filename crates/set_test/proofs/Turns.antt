-- The loops over slots: before the first turn, one turn more, and what the whole loop leaves.
use mathlib.Core.Path.{◌≡◌, refl, ap, ◌∙◌}
use mathlib.Core.Bool.{Bool, true, ◌&&◌}
use mathlib.Core.List.{List}
use Prim.Native.Nat.{ℕ, ◌+◌, ◌*◌, ◌<◌}
use native.Mathlib.Omega.{arith}
use native.Mathlib.Numerals.{add-one}
use lib.ListN.{get_or}
use Rattle.coherence.specs.declared.Slot.{Slot}
use Rattle.coherence.specs.declared.Directory.{Directory}
use Rattle.coherence.specs.Slots.{slot_at, slot_of, all_below}
use Rattle.set_test.specs.Sets.{SlotBySlot}

-- ---- a test of numbers
pub none_yet : (f : ℕ → Bool) → true ≡ all_below 0 f
unfolding all_below
none_yet f = refl

pub one_more : (f : ℕ → Bool) (n : ℕ) (good t : Bool) → good ≡ all_below n f → t ≡ f n → good && t ≡ all_below (n + 1) f
unfolding all_below
one_more f n good t p q = rw (add-one n, p, q) refl

-- ---- a number for each slot

-- slot s of unit u has its number there
pub slot_told : (f : Slot → ℕ) (d : Directory) (l : List ℕ) (u s : ℕ) → SlotBySlot f d.slots 64 l → u < 4 → s < 16 → get_or l (16 * u + s) 0 ≡ f (slot_of d u s)
unfolding SlotBySlot slot_of slot_at
slot_told f d l u s p hu hs = p (16 * u + s) (omega arith)

-- the four units' slots s
pub four_told : (f : Slot → ℕ) (d : Directory) (l : List ℕ) (s : ℕ) → SlotBySlot f d.slots 64 l → s < 16
    → (get_or l s 0 ≡ f (slot_of d 0 s)) × (get_or l (16 + s) 0 ≡ f (slot_of d 1 s)) × (get_or l (32 + s) 0 ≡ f (slot_of d 2 s)) × (get_or l (48 + s) 0 ≡ f (slot_of d 3 s))
four_told f d l s p h = (at 0 s (omega arith) (omega arith), at 1 (16 + s) (omega arith) (omega arith), at 2 (32 + s) (omega arith) (omega arith), at 3 (48 + s) (omega arith) (omega arith))
  where
    at : (u n : ℕ) → u < 4 → n ≡ 16 * u + s → get_or l n 0 ≡ f (slot_of d u s)
    at u n hu e = ap (λ (i : ℕ). get_or l i 0) e ∙ slot_told f d l u s p hu h

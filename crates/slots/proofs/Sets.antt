-- Slots set one over another or past the last, and the owner of a block past a set.
use mathlib.Core.Path.{◌≡◌, sym, ap, ◌∙◌}
use mathlib.Core.Bool.{false}
use mathlib.Core.Logic.{◌⊎◌, inl, inr, ⊎_elim}
use mathlib.Core.List.{List, map}
use Prim.Native.Nat.{ℕ, ◌≤◌, ◌<◌}
use lib.ListN.{length, length-map, get_or-eq_default}
use lib.Seq.{set-set, set_comm, set_out}
use Rattle.coherence.specs.declared.Slot.{Slot}
use Rattle.coherence.specs.declared.Slot.TheVariants.{Invalid}
use Rattle.coherence.specs.declared.Entry.{Entry}
use Rattle.coherence.specs.declared.Directory.{Directory}
use Rattle.coherence.specs.declared.Board.{Board}
use Rattle.coherence.specs.declared.Settings.{Settings}
use Rattle.coherence.specs.Settings.{copyback_board, is_through, through}
use Rattle.coherence.specs.Slots.{empty_entry, place, slot_at, set_slot, modified, owner_of}
use Rattle.coherence.proofs.Cases.{eq_or_ne, lt_or_le}
use Rattle.coherence.proofs.SlotLaws.{size, slot_same, slot_other}

-- the later of two sets of one slot counts
pub set_over : (d : Directory) (n : ℕ) (x y : Slot) → set_slot (set_slot d n x) n y ≡ set_slot d n y
unfolding set_slot
set_over d n x y = ap (λ (l : List Entry). record { slots = l; settings = d.settings; holders = d.holders }) (set-set d.slots n (record { slot = x }) (record { slot = y }))

set_swap : (d : Directory) (n p : ℕ) (x y : Slot) → (n ≡ p → ⊥) → set_slot (set_slot d n x) p y ≡ set_slot (set_slot d p y) n x
unfolding set_slot
set_swap d n p x y e = ap (λ (l : List Entry). record { slots = l; settings = d.settings; holders = d.holders }) (set_comm d.slots n p (record { slot = x }) (record { slot = y }) e)

-- also with another set between
pub set_past : (d : Directory) (n p : ℕ) (x y z : Slot) → set_slot (set_slot (set_slot d n x) p y) n z ≡ set_slot (set_slot d p y) n z
set_past d n p x y z = ⊎_elim
    (λ (e : n ≡ p). ap (λ (f : Directory). set_slot f n z) (ap (λ (i : ℕ). set_slot (set_slot d i x) p y) e ∙ set_over d p x y))
    (λ (e : n ≡ p → ⊥). ap (λ (f : Directory). set_slot f n z) (set_swap d n p x y e) ∙ set_over (set_slot d p y) n x z)
    (eq_or_ne n p)

-- what an array of structs says of its list
pub length_mapped : {X Y : Type 0} (f : X → Y) (l : List X) (n : ℕ) → length (map f l) ≡ n → length l ≡ n
length_mapped f l n e = sym (length-map l f) ∙ e

-- past the last slot
pub slot_far : (d : Directory) (n : ℕ) → length d.slots ≤ n → slot_at d n ≡ Invalid
unfolding slot_at
slot_far d n h = ap (λ (e : Entry). e.slot) (get_or-eq_default d.slots empty_entry h)

pub set_far : (d : Directory) (n : ℕ) (x : Slot) → length d.slots ≤ n → set_slot d n x ≡ d
unfolding set_slot
set_far d n x h = ap (λ (l : List Entry). record { slots = l; settings = d.settings; holders = d.holders }) (set_out d.slots n (record { slot = x }) h)

pub board_far : (g : Settings) (u : ℕ) → length g.boards ≤ u → through g u ≡ false
unfolding through is_through
board_far g u h = ap (λ (x : Board). is_through x.kind) (get_or-eq_default g.boards copyback_board h)

-- a slot that had not b EM, and has not after the set either
modified_past : (d : Directory) (n j : ℕ) (x : Slot) (b : ℕ) → modified (slot_at d n) b ≡ false → modified x b ≡ false
    → modified (slot_at (set_slot d n x) j) b ≡ modified (slot_at d j) b
unfolding size
modified_past d n j x b g h = ⊎_elim
    (λ (e : j ≡ n). ap (λ (i : ℕ). modified (slot_at (set_slot d n x) i) b) e ∙ here (lt_or_le n (size d)) ∙ sym g ∙ ap (λ (i : ℕ). modified (slot_at d i) b) (sym e))
    (λ (e : j ≡ n → ⊥). ap (λ (y : Slot). modified y b) (slot_other d n j x e))
    (eq_or_ne j n)
  where
    here : (n < size d) ⊎ (size d ≤ n) → modified (slot_at (set_slot d n x) n) b ≡ false
    here (inl l) = ap (λ (y : Slot). modified y b) (slot_same d n x l) ∙ h
    here (inr l) = ap (λ (e : Directory). modified (slot_at e n) b) (set_far d n x l) ∙ g

-- so the owner of b stays
pub owner_past : (d : Directory) (n : ℕ) (x : Slot) (b : ℕ) → modified (slot_at d n) b ≡ false → modified x b ≡ false
    → owner_of (set_slot d n x) b ≡ owner_of d b
unfolding owner_of
owner_past d n x b g h =
    rw (modified_past d n (place 0 b) x b g h, modified_past d n (place 1 b) x b g h, modified_past d n (place 2 b) x b g h, modified_past d n (place 3 b) x b g h)

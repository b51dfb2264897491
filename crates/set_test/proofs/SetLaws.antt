-- The sets of holders, by the blocks that the slots have: they are those that the rule asks for.
use mathlib.Core.Path.{◌≡◌, refl, sym, ap, ◌∙◌}
use mathlib.Core.Bool.{Bool, true, false, cond, ◌&&◌, false≢true}
use mathlib.Core.List.{List}
use Prim.Native.Nat.{ℕ, ◌+◌, ◌*◌, ◌/◌, ◌%◌, ◌<◌}
use native.Mathlib.Omega.{arith}
use lib.Dec.{eqb}
use lib.ListN.{get_or}
use borrow.Author.Tests.{eq-eqb, ne_eqb, eqb-true}
use Rattle.order.specs.Flag.{flag}
use Rattle.coherence.specs.declared.Slot.{Slot}
use Rattle.coherence.specs.declared.Slot.TheVariants.{Invalid, Shared, Modified}
use Rattle.coherence.specs.declared.Directory.{Directory}
use Rattle.coherence.specs.Slots.{place, slot_at, slot_of, holds, units_with, holders_of, held_by, sound_sets}
use Rattle.coherence.proofs.Below.{both, below_at, all_below_lem}
use Rattle.coherence.proofs.Cases.{four}
use Rattle.slots.specs.Directory.{block_or}
use Rattle.set_test.specs.Sets.{no_block, SlotBySlot, weighed, set_of, set_at, sets_agree, sets_sound}
use Rattle.set_test.proofs.Turns.{four_told}

-- ---- one slot: no block below 64 is what stands for the block of an invalid slot
by_test : (t : Bool) (w : ℕ) → cond t w 0 ≡ w * flag t
unfolding flag
by_test true w = omega arith
by_test false w = omega arith

weighed_is : (x : Slot) (c w : ℕ) → c < 64 → weighed (block_or x no_block) c w ≡ w * flag (holds x c)
unfolding weighed block_or holds
weighed_is Invalid c w h = ap (λ (t : Bool). cond t w 0) (ne_eqb no_block c (λ z. omega arith)) ∙ by_test false w
weighed_is (Shared b) c w h = by_test (eqb b c) w
weighed_is (Modified b) c w h = by_test (eqb b c) w

-- ---- one set
held_at : (d : Directory) (u row s : ℕ) → s < 16 → slot_at d (place u (16 * row + s)) ≡ slot_of d u s
unfolding place slot_of
held_at d u row s h = ap (slot_at d) (omega arith)

set_is : (d : Directory) (b : List ℕ) (row s : ℕ) → SlotBySlot (λ x. block_or x no_block) d.slots 64 b → row < 4 → s < 16
    → set_at b row s ≡ holders_of d (16 * row + s)
unfolding set_at set_of holders_of units_with
set_is d b row s p hr hs =
    let e = four_told (λ x. block_or x no_block) d b s p hs in
    let same : s + 16 * row ≡ 16 * row + s = omega arith in
    let weight : (u w : ℕ) → weighed (block_or (slot_of d u s) no_block) (16 * row + s) w ≡ w * flag (holds (slot_of d u s) (16 * row + s)) =
    λ u w. weighed_is (slot_of d u s) (16 * row + s) w (omega arith) in
    rw (same, e.0, e.1, e.2, e.3, held_at d 0 row s hs, held_at d 1 row s hs, held_at d 2 row s hs, held_at d 3 row s hs)
    (simp (weight 0, weight 1, weight 2, weight 3) (omega arith))

-- ---- one row of sixteen sets
row_says : (d : Directory) (b : List ℕ) (row s : ℕ) → SlotBySlot (λ x. block_or x no_block) d.slots 64 b → sets_agree 16 b d.holders row ≡ true → row < 4
    → s < 16 → held_by d (16 * row + s) ≡ holders_of d (16 * row + s)
unfolding sets_agree held_by
row_says d b row s p e hr hs =
    sym (eqb-true _ _ (below_at (λ s. eqb (set_at b row s) (get_or d.holders (16 * row + s) 0)) 16 s e hs)) ∙ set_is d b row s p hr hs

row_true : (d : Directory) (b : List ℕ) (row : ℕ) → SlotBySlot (λ x. block_or x no_block) d.slots 64 b
    → ((c : ℕ) → c < 64 → held_by d c ≡ holders_of d c) → row < 4 → sets_agree 16 b d.holders row ≡ true
unfolding sets_agree held_by
row_true d b row p h hr =
    all_below_lem 16 (λ s. eqb (set_at b row s) (get_or d.holders (16 * row + s) 0))
    (λ s l. eq-eqb _ _ (set_is d b row s p hr l ∙ sym (h (16 * row + s) (omega arith))))

-- ---- all rows
each_row : (f : ℕ → Bool) → (f 0 && f 1 && f 2 && f 3) ≡ true → (row : ℕ) → row < 4 → f row ≡ true
each_row f e =
    let x : ((f 0 && f 1 && f 2) ≡ true) × (f 3 ≡ true) = both _ _ e in
    let y : ((f 0 && f 1) ≡ true) × (f 2 ≡ true) = both _ _ x.0 in
    let z : (f 0 ≡ true) × (f 1 ≡ true) = both _ _ y.0 in
    four (λ row. f row ≡ true) z.0 z.1 y.1 x.1

set_each : (d : Directory) (b : List ℕ) → SlotBySlot (λ x. block_or x no_block) d.slots 64 b
    → ((row : ℕ) → row < 4 → sets_agree 16 b d.holders row ≡ true) → (c : ℕ) → c < 64 → held_by d c ≡ holders_of d c
set_each d b p h c l =
    let e : 16 * (c / 16) + c % 16 ≡ c = omega arith in
    let k : c / 16 < 4 = omega arith in
    ap (held_by d) (sym e) ∙ row_says d b (c / 16) (c % 16) p (h (c / 16) k) k (omega arith) ∙ ap (holders_of d) e

pub sets_are : (d : Directory) (b : List ℕ) → SlotBySlot (λ x. block_or x no_block) d.slots 64 b
    → sets_sound b d.holders ≡ sound_sets d
unfolding sound_sets sets_sound
sets_are d b p = go (sound_sets d) (f 0 && f 1 && f 2 && f 3) refl refl
  where
    f : ℕ → Bool
    f row = sets_agree 16 b d.holders row

    g : ℕ → Bool
    g c = eqb (held_by d c) (holders_of d c)

    go : (t k : Bool) → sound_sets d ≡ t → (f 0 && f 1 && f 2 && f 3) ≡ k → k ≡ t
    go true k e q =
        let row : (i : ℕ) → i < 4 → f i ≡ true = λ i l. row_true d b i p (λ c m. eqb-true _ _ (below_at g 64 c e m)) l in
        sym q ∙ rw (row 0 (omega arith), row 1 (omega arith), row 2 (omega arith), row 3 (omega arith)) refl
    go false true e q =
        absurd (false≢true (sym e ∙ all_below_lem 64 g (λ c l. eq-eqb _ _ (set_each d b p (each_row f q) c l))))
    go false false e q = refl

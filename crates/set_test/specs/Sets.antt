-- How the code tests the sets of holders, by the block of each slot: sixteen blocks at a time. The rule itself is `coherence`'s; the proofs show that this
-- comes to the same.
use Rattle.std.specs.Prelude.{ℕ, ◌+◌, ◌*◌, ◌<◌, ◌≡◌, Bool, cond, ◌&&◌, List, get_or, eqb}
use Rattle.coherence.specs.declared.Slot.{Slot}
use Rattle.coherence.specs.declared.Entry.{Entry}
use Rattle.coherence.specs.Slots.{empty_entry, all_below}

-- what stands for the block of an invalid slot
abbrev pub no_block : ℕ
no_block = 255

-- the first n numbers of l are those that f gives of the slots a
unfoldable pub SlotBySlot : (Slot → ℕ) → List Entry → ℕ → List ℕ → Type 0
SlotBySlot f a n l = (i : ℕ) → i < n → get_or l i 0 ≡ f (get_or a i empty_entry).slot

-- ---- the sets of holders

-- the weight where two blocks are the same, else 0
unfoldable pub weighed : ℕ → ℕ → ℕ → ℕ
weighed c b weight = cond (eqb c b) weight 0

-- the set of the units that have block b, of those with blocks w to z
unfoldable pub set_of : ℕ → ℕ → ℕ → ℕ → ℕ → ℕ
set_of w x y z b = weighed w b 1 + weighed x b 2 + weighed y b 4 + weighed z b 8

-- the set of block 16 * row + s, by the blocks that the slots have
unfoldable pub set_at : List ℕ → ℕ → ℕ → ℕ
set_at b row s = set_of (get_or b s 0) (get_or b (16 + s) 0) (get_or b (32 + s) 0) (get_or b (48 + s) 0) (s + 16 * row)

-- the first n sets of a row are the kept ones
unfoldable pub sets_agree : ℕ → List ℕ → List ℕ → ℕ → Bool
sets_agree n b h row = all_below n (λ s. eqb (set_at b row s) (get_or h (16 * row + s) 0))

-- all four rows
unfoldable pub sets_sound : List ℕ → List ℕ → Bool
sets_sound b h = sets_agree 16 b h 0 && sets_agree 16 b h 1 && sets_agree 16 b h 2 && sets_agree 16 b h 3

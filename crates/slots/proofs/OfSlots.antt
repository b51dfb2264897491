-- The slots alone, and a directory that has them: what is found in them, and what they make with the directory's settings and sets once they are changed.
use mathlib.Core.Path.{◌≡◌, refl, ap, ◌∙◌}
use mathlib.Core.Bool.{Bool, true, false, cond}
use mathlib.Core.List.{List}
use Prim.Native.Nat.{ℕ}
use lib.Dec.{ltb}
use Rattle.coherence.specs.declared.Slot.{Slot}
use Rattle.coherence.specs.declared.Slot.TheVariants.{Shared}
use Rattle.coherence.specs.declared.Entry.{Entry}
use Rattle.coherence.specs.declared.Directory.{Directory}
use Rattle.coherence.specs.Slots.{place, slot_at, set_slot, owner_of}
use Rattle.slots.specs.Directory.{of_slots, release_into, expelled_at_once, claimed_at_once, yielded_directory, fetched_directory}

pub of_slot : (d : Directory) (n : ℕ) → slot_at (of_slots d.slots) n ≡ slot_at d n
unfolding slot_at
of_slot d n = refl

pub of_owner : (d : Directory) (b : ℕ) → owner_of (of_slots d.slots) b ≡ owner_of d b
unfolding owner_of slot_at
of_owner d b = refl

-- slots with what else a directory has
abbrev pub with : List Entry → Directory → Directory
with l d = record { slots = l; settings = d.settings; holders = d.holders }

abbrev to : (d : Directory) {l k : List Entry} → l ≡ k → with l d ≡ with k d
to d e = ap (λ (l : List Entry). with l d) e

pub of_set : (d : Directory) (n : ℕ) (x : Slot) {l : List Entry} → l ≡ (set_slot (of_slots d.slots) n x).slots → with l d ≡ set_slot d n x
unfolding set_slot
of_set d n x e = to d e

pub of_claimed : (d : Directory) (u b : ℕ) {l : List Entry} → l ≡ (claimed_at_once u b (of_slots d.slots)).slots → with l d ≡ claimed_at_once u b d
unfolding claimed_at_once expelled_at_once release_into set_slot slot_at
of_claimed d u b e = to d e

yielded_slots : (d : Directory) (b v : ℕ) → (yielded_directory b v (of_slots d.slots)).slots ≡ (yielded_directory b v d).slots
unfolding yielded_directory set_slot
yielded_slots d b v = go (ltb v 4)
  where
    go : (t : Bool) → (cond t (set_slot (of_slots d.slots) (place v b) (Shared b)) (of_slots d.slots)).slots ≡ (cond t (set_slot d (place v b) (Shared b)) d).slots
    go true = refl
    go false = refl

-- and leaves the rest
yielded_rest : (d : Directory) (b v : ℕ) (l : List Entry) → with l d ≡ with l (yielded_directory b v d)
unfolding yielded_directory set_slot
yielded_rest d b v l = go (ltb v 4)
  where
    go : (t : Bool) → with l d ≡ with l (cond t (set_slot d (place v b) (Shared b)) d)
    go true = refl
    go false = refl

pub of_yielded : (d : Directory) (b v : ℕ) {l : List Entry} → l ≡ (yielded_directory b v (of_slots d.slots)).slots → with l d ≡ yielded_directory b v d
of_yielded d b v e =
    to d (e ∙ yielded_slots d b v) ∙ yielded_rest d b v (yielded_directory b v d).slots

-- another change after it
pub of_fetched : (d : Directory) (n b v : ℕ) {l : List Entry} → l ≡ (fetched_directory n b v (of_slots d.slots)).slots → with l d ≡ fetched_directory n b v d
unfolding fetched_directory set_slot
of_fetched d n b v {l} e =
    yielded_rest d b v l
    ∙ of_set (yielded_directory b v d) n (Shared b) (e ∙ ap (λ (k : List Entry). (set_slot (of_slots k) n (Shared b)).slots) (yielded_slots d b v))

pub of_expelled : (d : Directory) (u b v : ℕ) {l y : List Entry} → y ≡ (yielded_directory b v (of_slots d.slots)).slots → l ≡ (expelled_at_once u b (of_slots y)).slots
    → with l d ≡ expelled_at_once u b (yielded_directory b v d)
unfolding expelled_at_once release_into set_slot slot_at
of_expelled d u b v {l} f e =
    yielded_rest d b v l
    ∙ to (yielded_directory b v d) (e ∙ ap (λ (k : List Entry). (expelled_at_once u b (of_slots k)).slots) (f ∙ yielded_slots d b v))

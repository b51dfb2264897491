-- The loop that gives a number for each slot: one turn more.
use mathlib.Core.Path.{◌≡◌}
use mathlib.Core.List.{List}
use mathlib.Core.Logic.{⊎_elim}
use Prim.Native.Nat.{ℕ, ◌+◌, ◌<◌}
use native.Mathlib.Omega.{arith}
use native.Mathlib.Nat.{eq-or-lt_of_le}
use lib.ListN.{length, get_or, set}
use lib.Seq.{get_or-set_same, get_or-set_other}
use Rattle.coherence.specs.declared.Slot.{Slot}
use Rattle.coherence.specs.declared.Entry.{Entry}
use Rattle.coherence.specs.Slots.{empty_entry}

pub number_more : (R : Slot → ℕ → Type 0) (a : List Entry) (l : List ℕ) (n x : ℕ) → n < length l
    → ((k : ℕ) → k < n → R (get_or a k empty_entry).slot (get_or l k 0)) → R (get_or a n empty_entry).slot x
    → (k : ℕ) → k < n + 1 → R (get_or a k empty_entry).slot (get_or (set l n x) k 0)
number_more R a l n x h p e k i = ⊎_elim
    (λ (q : k ≡ n). rw (q, get_or-set_same l n x 0 h) e)
    (λ (q : k < n). rw (get_or-set_other l n k x 0 (λ z. omega arith)) (p k q))
    (eq-or-lt_of_le (omega arith))

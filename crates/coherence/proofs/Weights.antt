-- What the EM slots of a directory may still cost: e orders each. The weight e is a parameter of every law of cost: an
-- EM block of another unit is retried and copied back, and given up or asked for again; with steal, 1 is enough, else 2.
use mathlib.Core.Path.{◌≡◌, refl, sym}
use mathlib.Core.List.{List, [], ◌∷◌}
use mathlib.Core.Bool.{Bool, true, false, cond, false≢true}
use Prim.Native.Nat.{ℕ, zero, suc, ◌+◌, ◌≤◌, ◌<◌}
use native.Mathlib.Omega.{arith}
use lib.ListN.{length, get_or, set, replicate}
use Rattle.coherence.specs.declared.Slot.{Slot}
use Rattle.coherence.specs.declared.Slot.TheVariants.{Invalid, Shared, Modified}
use Rattle.coherence.specs.declared.Entry.{Entry}
use Rattle.coherence.specs.declared.Settings.{Settings}
use Rattle.coherence.specs.declared.Directory.{Directory}
use Rattle.coherence.specs.Slots.{empty_entry, slot_at, set_slot, kept, cold_directory}
use Rattle.coherence.proofs.SlotLaws.{size}

abbrev pub Enough : ℕ → Settings → Type 0
Enough e g = (1 ≤ e) × (g.steal ≡ false → 2 ≤ e)

unfoldable pub weight_of : Settings → ℕ
weight_of g = cond g.steal 1 2

pub enough : (g : Settings) → Enough (weight_of g) g
unfolding weight_of
enough g = go g.steal
  where
    go : (t : Bool) → (1 ≤ cond t 1 2) × (t ≡ false → 2 ≤ cond t 1 2)
    go true = (omega arith, λ q. absurd (false≢true (sym q)))
    go false = (omega arith, λ q. omega arith)

abbrev pub weight : ℕ → Slot → ℕ
weight e Invalid = 0
weight e (Shared b) = 0
weight e (Modified b) = e

weights : ℕ → List Entry → ℕ
weights e [] = 0
weights e (x ∷ xs) = weight e x.slot + weights e xs

weights_set : (e : ℕ) (l : List Entry) (n : ℕ) (y : Entry) → n < length l
    → weights e (set l n y) + weight e (get_or l n empty_entry).slot ≡ weights e l + weight e y.slot
unfolding weights
weights_set e [] n y h = omega arith
weights_set e (x ∷ xs) zero y h = omega arith
weights_set e (x ∷ xs) (suc n) y h =
    let g : n < length xs = omega arith in
    let r : weights e (set xs n y) + weight e (get_or xs n empty_entry).slot ≡ weights e xs + weight e y.slot = weights_set e xs n y g in
    omega arith

pub debt : ℕ → Directory → ℕ
debt e d = weights e d.slots

pub debt_set : (e : ℕ) (d : Directory) (n : ℕ) (x : Slot) → n < size d
    → debt e (set_slot d n x) + weight e (slot_at d n) ≡ debt e d + weight e x
unfolding debt set_slot slot_at size
debt_set e d n x h = weights_set e d.slots n (record { slot = x }) h

pub debt_kept : (e : ℕ) (d : Directory) → debt e (kept d) ≡ debt e d
unfolding debt kept
debt_kept e d = refl

weights_empty : (e n : ℕ) → weights e (replicate n empty_entry) ≡ 0
unfolding weights
weights_empty e zero = refl
weights_empty e (suc n) = let r : weights e (replicate n empty_entry) ≡ 0 = weights_empty e n in omega arith

pub debt_cold : (e : ℕ) (g : Settings) → debt e (cold_directory g) ≡ 0
unfolding debt cold_directory
debt_cold e g = weights_empty e 64

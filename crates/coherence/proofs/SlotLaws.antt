-- Laws of the directory, the only door to its array: a slot after a change, what a slot's tests say, the owner of a block, and the directory of
-- a cold start.
use mathlib.Core.Path.{◌≡◌, refl, sym, ap, ◌∙◌}
use mathlib.Core.Bool.{Bool, true, false, cond, false≢true}
use mathlib.Core.Logic.{◌⊎◌, inl, inr}
use Prim.Native.Nat.{ℕ, ◌/◌, ◌%◌, ◌≤◌, ◌<◌}
use native.Mathlib.Omega.{arith}
use lib.ListN.{length, get_or, replicate, length-set, length-replicate, get_or-replicate, get_or-eq_default}
use lib.Seq.{get_or-set_same, get_or-set_other}
use borrow.Author.Tests.{eqb-true, eq-eqb}
use Rattle.coherence.specs.declared.Slot.{Slot}
use Rattle.coherence.specs.declared.Slot.TheVariants.{Invalid, Shared, Modified}
use Rattle.coherence.specs.declared.Entry.{Entry}
use Rattle.coherence.specs.declared.Settings.{Settings}
use Rattle.coherence.specs.declared.Directory.{Directory}
use Rattle.coherence.specs.Slots.{empty_entry, place, slot_at, set_slot, holds, modified, owner_of, cold_directory}
use Rattle.coherence.proofs.Cases.{lt_or_le, four}

unfoldable pub size : Directory → ℕ
size d = length d.slots

pub size_set : (d : Directory) (n : ℕ) (x : Slot) → size (set_slot d n x) ≡ size d
unfolding size set_slot
size_set d n x = length-set d.slots n (record { slot = x })

pub slot_same : (d : Directory) (n : ℕ) (x : Slot) → n < size d → slot_at (set_slot d n x) n ≡ x
unfolding size set_slot slot_at
slot_same d n x h = ap (λ (e : Entry). e.slot) (get_or-set_same d.slots n (record { slot = x }) empty_entry h)

pub slot_other : (d : Directory) (n j : ℕ) (x : Slot) → (j ≡ n → ⊥) → slot_at (set_slot d n x) j ≡ slot_at d j
unfolding set_slot slot_at
slot_other d n j x h = ap (λ (e : Entry). e.slot) (get_or-set_other d.slots n j (record { slot = x }) empty_entry h)

-- no change of a slot changes the settings
pub set_settings : (d : Directory) (n : ℕ) (x : Slot) → (set_slot d n x).settings ≡ d.settings
unfolding set_slot
set_settings d n x = refl

-- ---- places
pub place_lt : (u b : ℕ) → u < 4 → place u b < 64
unfolding place
place_lt u b h = omega arith

pub place_mod : (u b : ℕ) → b % 16 ≡ place u b % 16
unfolding place
place_mod u b = omega arith

pub place_unit : (u b : ℕ) → place u b / 16 ≡ u
unfolding place
place_unit u b = omega arith

-- a slot in which block b may stand is one of the four places of b
pub place_of : (n b : ℕ) → n < 64 → b % 16 ≡ n % 16 → (n / 16 < 4) × (n ≡ place (n / 16) b)
unfolding place
place_of n b l e = (omega arith, omega arith)

pub place_ne : (u v b : ℕ) → (v ≡ u → ⊥) → place u b ≡ place v b → ⊥
unfolding place
place_ne u v b h e = h (omega arith)

-- ---- the tests
pub modified_is : (x : Slot) (b : ℕ) → modified x b ≡ true → x ≡ Modified b
unfolding modified
modified_is Invalid b e = absurd (false≢true e)
modified_is (Shared c) b e = absurd (false≢true e)
modified_is (Modified c) b e = ap Modified (eqb-true c b e)

pub is_modified : (x : Slot) (b : ℕ) → x ≡ Modified b → modified x b ≡ true
unfolding modified
is_modified x b e = rw e (eq-eqb b b refl)

pub holds_is : (x : Slot) (b : ℕ) → holds x b ≡ true → (x ≡ Shared b) ⊎ (x ≡ Modified b)
unfolding holds
holds_is Invalid b e = absurd (false≢true e)
holds_is (Shared c) b e = inl (ap Shared (eqb-true c b e))
holds_is (Modified c) b e = inr (ap Modified (eqb-true c b e))

pub modified_holds : (x : Slot) (b : ℕ) → x ≡ Modified b → holds x b ≡ true
unfolding holds
modified_holds x b e = rw e (eq-eqb b b refl)

pub shared_holds : (x : Slot) (b : ℕ) → x ≡ Shared b → holds x b ≡ true
unfolding holds
shared_holds x b e = rw e (eq-eqb b b refl)

pub holds_shared : (b c : ℕ) → holds (Shared b) c ≡ true → b ≡ c
unfolding holds
holds_shared b c e = eqb-true b c e

pub holds_modified : (b c : ℕ) → holds (Modified b) c ≡ true → b ≡ c
unfolding holds
holds_modified b c e = eqb-true b c e

pub holds_one : (x : Slot) (b c : ℕ) → holds x b ≡ true → holds x c ≡ true → b ≡ c
unfolding holds
holds_one Invalid b c e f = absurd (false≢true e)
holds_one (Shared a) b c e f = sym (eqb-true a b e) ∙ eqb-true a c f
holds_one (Modified a) b c e f = sym (eqb-true a b e) ∙ eqb-true a c f

pub holds_invalid : (b : ℕ) → holds Invalid b ≡ false
unfolding holds
holds_invalid b = refl

pub invalid≢modified : (b : ℕ) → Invalid ≡ Modified b → ⊥
unfolding modified
invalid≢modified b e = false≢true (is_modified Invalid b e)

pub shared≢modified : (c b : ℕ) → Shared c ≡ Modified b → ⊥
unfolding modified
shared≢modified c b e = false≢true (is_modified (Shared c) b e)

pub modified_one : (x : Slot) (b c : ℕ) → x ≡ Modified b → x ≡ Modified c → b ≡ c
modified_one x b c e f = cc

-- ---- the owner of a block
pub owner_cases : (d : Directory) (b : ℕ)
    → ((owner_of d b < 4) × (slot_at d (place (owner_of d b) b) ≡ Modified b))
    ⊎ ((4 ≤ owner_of d b) × ((v : ℕ) → v < 4 → slot_at d (place v b) ≡ Modified b → ⊥))
unfolding owner_of
owner_cases d b = go (m 0) (m 1) (m 2) (m 3) refl refl refl refl
  where
    m : ℕ → Bool
    m v = modified (slot_at d (place v b)) b

    Cases : ℕ → Type 0
    Cases o = ((o < 4) × (slot_at d (place o b) ≡ Modified b)) ⊎ ((4 ≤ o) × ((v : ℕ) → v < 4 → slot_at d (place v b) ≡ Modified b → ⊥))

    none : (v : ℕ) → m v ≡ false → slot_at d (place v b) ≡ Modified b → ⊥
    none v e f = false≢true (sym e ∙ is_modified _ b f)

    go : (p q r s : Bool) → m 0 ≡ p → m 1 ≡ q → m 2 ≡ r → m 3 ≡ s → Cases (cond p 0 (cond q 1 (cond r 2 (cond s 3 4))))
    go true q r s e f g h = inl (omega arith, modified_is _ b e)
    go false true r s e f g h = inl (omega arith, modified_is _ b f)
    go false false true s e f g h = inl (omega arith, modified_is _ b g)
    go false false false true e f g h = inl (omega arith, modified_is _ b h)
    go false false false false e f g h =
        inr (omega arith, four (λ v. slot_at d (place v b) ≡ Modified b → ⊥) (none 0 e) (none 1 f) (none 2 g) (none 3 h))

-- ---- a cold start's directory
pub size_cold : (g : Settings) → size (cold_directory g) ≡ 64
unfolding size cold_directory
size_cold g = length-replicate 64 empty_entry

slot_empty : (n k : ℕ) → get_or (replicate n empty_entry) k empty_entry ≡ empty_entry
slot_empty n k = go (lt_or_le k n)
  where
    go : (k < n) ⊎ (n ≤ k) → get_or (replicate n empty_entry) k empty_entry ≡ empty_entry
    go (inl h) = get_or-replicate n k empty_entry empty_entry h
    go (inr h) = get_or-eq_default (replicate n empty_entry) empty_entry (rw (length-replicate) h)

pub slot_cold : (g : Settings) (n : ℕ) → slot_at (cold_directory g) n ≡ Invalid
unfolding slot_at cold_directory
slot_cold g n = ap (λ (e : Entry). e.slot) (slot_empty 64 n)

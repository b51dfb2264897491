-- A block taken from its other holders, and claimed, each slot read as it was found; and the owner of a block.
use mathlib.Core.Path.{◌≡◌, refl, sym, ap, ◌∙◌}
use mathlib.Core.Bool.{Bool, true, false, cond, not, ◌&&◌}
use Prim.Native.Nat.{ℕ, zero, suc, ◌+◌, ◌*◌, ◌%◌, ◌<◌}
use native.Mathlib.Numerals.{add-one}
use native.Mathlib.Omega.{arith}
use lib.Dec.{eqb}
use lib.ListN.{set, get_or}
use lib.Seq.{set-get_or}
use Rattle.coherence.specs.declared.Slot.{Slot}
use Rattle.coherence.specs.declared.Slot.TheVariants.{Invalid, Modified}
use Rattle.coherence.specs.declared.Directory.{Directory}
use Rattle.coherence.specs.declared.Entry.{Entry}
use mathlib.Core.List.{List}
use Rattle.coherence.specs.Slots.{empty_entry, place, slot_at, set_slot, holds, modified, owner_of}
use Rattle.coherence.proofs.Cases.{four}
use Rattle.coherence.specs.Access.{Run, mark, expel, each_unit, claim}
use Rattle.slots.specs.Directory.{first_modified, released, release_into, expelled_at_once, claimed_at_once}
use Rattle.coherence.proofs.SlotLaws.{slot_other}

set_own : (d : Directory) (n : ℕ) → set_slot d n (slot_at d n) ≡ d
unfolding set_slot slot_at
set_own d n = ap (λ (l : List Entry). record { slots = l; settings = d.settings; holders = d.holders }) (set-get_or d.slots n empty_entry)

-- an action on the directory alone
unfoldable with_directory : (Directory → Directory) → Run → Run
with_directory f w = record { directory = f w.directory; memory = w.memory; cache = w.cache; orders = w.orders }

expel_is : (u b v : ℕ) (w : Run) → expel u b v w ≡ with_directory (λ d. release_into u b d v d) w
unfolding expel mark with_directory release_into released
expel_is u b v w = go (not (eqb v u) && holds (slot_at w.directory (place v b)) b)
  where
    go : (t : Bool) → cond t (mark (place v b) Invalid w) w ≡ with_directory (λ d. set_slot d (place v b) (cond t Invalid (slot_at d (place v b)))) w
    go true = refl
    go false = sym (ap (λ (d : Directory). with_directory (λ _. d) w) (set_own w.directory (place v b)))

-- a slot of another unit is not touched
release_other : (u b v : ℕ) (d e : Directory) (k : ℕ) → (k ≡ v → ⊥) → slot_at (release_into u b d v e) (place k b) ≡ slot_at e (place k b)
unfolding release_into place
release_other u b v d e k h = slot_other e (16 * v + b % 16) (16 * k + b % 16) _ (λ q. h (omega arith))

-- so it does not matter when it is read
release_late : (u b v : ℕ) (d e : Directory) → slot_at e (place v b) ≡ slot_at d (place v b) → release_into u b e v e ≡ release_into u b d v e
unfolding release_into
release_late u b v d e h = rw h refl

abbrev each : ℕ → ℕ → ℕ → Directory → Directory
each u b v d = release_into u b d v d

expel_dir : (u b : ℕ) (d : Directory) → each u b 3 (each u b 2 (each u b 1 (each u b 0 d))) ≡ expelled_at_once u b d
unfolding expelled_at_once
expel_dir u b d =
    let d₁ : Directory = release_into u b d 0 d in
    let d₂ : Directory = release_into u b d 1 d₁ in
    let d₃ : Directory = release_into u b d 2 d₂ in
    let e₁ : release_into u b d₁ 1 d₁ ≡ d₂ = release_late u b 1 d d₁ (release_other u b 0 d d 1 (omega arith)) in
    let e₂ : release_into u b d₂ 2 d₂ ≡ d₃ =
    release_late u b 2 d d₂ (release_other u b 1 d d₁ 2 (omega arith) ∙ release_other u b 0 d d 2 (omega arith)) in
    let e₃ : release_into u b d₃ 3 d₃ ≡ release_into u b d 3 d₃ =
    release_late u b 3 d d₃ (release_other u b 2 d d₂ 3 (omega arith) ∙ release_other u b 1 d d₁ 3 (omega arith) ∙ release_other u b 0 d d 3 (omega arith)) in
    ap (λ (x : Directory). release_into u b (release_into u b x 2 x) 3 (release_into u b x 2 x)) e₁
    ∙ ap (λ (x : Directory). release_into u b x 3 x) e₂
    ∙ e₃

pub expel_is_all : (u b : ℕ) (w : Run)
    → each_unit (expel u b) w ≡ record { directory = expelled_at_once u b w.directory; memory = w.memory; cache = w.cache; orders = w.orders }
unfolding each_unit with_directory
expel_is_all u b w =
    rw (expel_is u b 0 w, expel_is u b 1, expel_is u b 2, expel_is u b 3)
    (ap (λ (d : Directory). with_directory (λ _. d) w) (expel_dir u b w.directory))

pub claim_is : (u b : ℕ) (w : Run)
    → claim u b w ≡ record { directory = claimed_at_once u b w.directory; memory = w.memory; cache = w.cache; orders = w.orders }
unfolding claim mark claimed_at_once
claim_is u b w = ap (mark (place u b) (Modified b)) (expel_is_all u b w)

-- the directory d once the first n units but u have released block b
unfoldable pub released_below : ℕ → ℕ → ℕ → Directory → Directory
released_below zero u b d = d
released_below (suc n) u b d = release_into u b d n (released_below n u b d)

pub one_more : (n u b : ℕ) (d : Directory) (x : Slot) {l : List Entry} → l ≡ (released_below n u b d).slots → x ≡ released (slot_at d (place n b)) b n u
    → set l (place n b) (record { slot = x }) ≡ (released_below (n + 1) u b d).slots
unfolding released_below release_into set_slot
one_more n u b d x p q = rw (add-one n, p, q) refl

pub all_released : (u b : ℕ) (d : Directory) → released_below 4 u b d ≡ expelled_at_once u b d
unfolding released_below expelled_at_once
all_released u b d = refl

-- ---- the owner of a block: the first of the four units whose slot has it EM

abbrev first_in : Directory → ℕ → ℕ
first_in d b = first_modified (slot_at d (place 0 b)) (slot_at d (place 1 b)) (slot_at d (place 2 b)) (slot_at d (place 3 b)) b

-- one unit after the other, which finds it, or none
first_found : (d : Directory) (b v : ℕ) → v < 4 → ((u : ℕ) → u < v → modified (slot_at d (place u b)) b ≡ false) → modified (slot_at d (place v b)) b ≡ true
    → v ≡ first_in d b
unfolding first_modified
first_found d b v l h e =
    four (λ v. ((u : ℕ) → u < v → modified (slot_at d (place u b)) b ≡ false) → modified (slot_at d (place v b)) b ≡ true → v ≡ first_in d b)
    (λ h e. rw e refl)
    (λ h e. rw (h 0 (omega arith), e) refl)
    (λ h e. rw (h 0 (omega arith), h 1 (omega arith), e) refl)
    (λ h e. rw (h 0 (omega arith), h 1 (omega arith), h 2 (omega arith), e) refl)
    v l h e

first_none : (d : Directory) (b : ℕ) → ((u : ℕ) → u < 4 → modified (slot_at d (place u b)) b ≡ false) → 4 ≡ first_in d b
unfolding first_modified
first_none d b h = rw (h 0 (omega arith), h 1 (omega arith), h 2 (omega arith), h 3 (omega arith)) refl

-- the four slots in which the block has its place
place_at : (v b s : ℕ) → s ≡ b % 16 → place v b ≡ 16 * v + s
unfolding place
place_at v b s h = omega arith

column : (b s : ℕ) → s ≡ b % 16 → (place 0 b ≡ s) × (place 1 b ≡ 16 + s) × (place 2 b ≡ 32 + s) × (place 3 b ≡ 48 + s)
column b s h = (place_at 0 b s h ∙ omega arith, place_at 1 b s h ∙ omega arith, place_at 2 b s h ∙ omega arith, place_at 3 b s h ∙ omega arith)

pub owner_column : (d : Directory) (b s : ℕ) → s ≡ b % 16
    → first_modified (get_or d.slots s empty_entry).slot (get_or d.slots (16 + s) empty_entry).slot (get_or d.slots (32 + s) empty_entry).slot (get_or d.slots (48 + s) empty_entry).slot b ≡ owner_of d b
unfolding first_modified owner_of slot_at
owner_column d b s h =
    let e = column b s h in
    rw (e.0, e.1, e.2, e.3) refl

first_owner : (d : Directory) (b : ℕ) → first_in d b ≡ owner_of d b
unfolding slot_at
first_owner d b =
    let e = column b (b % 16) refl in
    rw (e.0, e.1, e.2, e.3) (owner_column d b (b % 16) refl)

pub owner_found : (d : Directory) (b v : ℕ) → v < 4 → ((u : ℕ) → u < v → modified (slot_at d (place u b)) b ≡ false) → modified (slot_at d (place v b)) b ≡ true
    → v ≡ owner_of d b
owner_found d b v l h e = first_found d b v l h e ∙ first_owner d b

pub owner_none : (d : Directory) (b : ℕ) → ((u : ℕ) → u < 4 → modified (slot_at d (place u b)) b ≡ false) → 4 ≡ owner_of d b
owner_none d b h = first_none d b h ∙ first_owner d b

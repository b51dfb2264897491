-- The directory's faults, slot number by slot number: there is none exactly where the slots keep the rules.
use mathlib.Core.Path.{◌≡◌, refl, sym, ap, ◌∙◌}
use mathlib.Core.List.{List}
use mathlib.Core.Bool.{Bool, true, false, cond, false≢true}
use mathlib.Core.Logic.{⊎_elim}
use Prim.Native.Nat.{ℕ, ◌+◌, ◌%◌, ◌≤◌, ◌<◌}
use native.Mathlib.Omega.{arith}
use lib.Dec.{ltb, eqb}
use borrow.Author.Tests.{lt-ltb, le-ltb, ltb-true, eq-eqb, ne_eqb, eqb-true}
use Rattle.coherence.specs.declared.Slot.{Slot}
use Rattle.coherence.specs.declared.Slot.TheVariants.{Invalid, Shared, Modified}
use Rattle.coherence.specs.declared.Directory.{Directory}
use Rattle.coherence.specs.Slots.{slot_of, block_of, state_number, holds, sound_slots, Exclusive, Rules}
use Rattle.coherence.proofs.Below.{below_at, all_below_lem}
use Rattle.coherence.proofs.Cases.{four, eq_or_ne, true_or_false}
use Rattle.coherence.proofs.SlotLaws.{holds_is, shared_holds, modified_holds}
use Rattle.coherence.proofs.Rules.{tests_rules}
use Rattle.slots.specs.Directory.{block_or}
use Rattle.set_test.specs.Sets.{no_block, SlotBySlot}
use Rattle.soundness.specs.Soundness.{misplaced_in, conflict_of, faults_of, faults_at, faultless}
use Rattle.set_test.proofs.Turns.{four_told}

-- ---- the faults by the slots themselves

-- of slot x, with slot number s
unfoldable place_faults : ℕ → Slot → ℕ
place_faults s x = misplaced_in (block_or x no_block) (state_number x) s

-- of two units' slots together
unfoldable pair_faults : Slot → Slot → ℕ
pair_faults x y = conflict_of (block_or x no_block) (state_number x) (block_or y no_block) (state_number y)

-- of the four units' slots s
unfoldable faults_in : Directory → ℕ → ℕ
faults_in d s =
    place_faults s (slot_of d 0 s) + place_faults s (slot_of d 1 s) + place_faults s (slot_of d 2 s) + place_faults s (slot_of d 3 s)
    + pair_faults (slot_of d 0 s) (slot_of d 1 s) + pair_faults (slot_of d 0 s) (slot_of d 2 s) + pair_faults (slot_of d 0 s) (slot_of d 3 s)
    + pair_faults (slot_of d 1 s) (slot_of d 2 s) + pair_faults (slot_of d 1 s) (slot_of d 3 s) + pair_faults (slot_of d 2 s) (slot_of d 3 s)

faults_in_lem : (d : Directory) (b r : List ℕ) (s : ℕ) → SlotBySlot (λ x. block_or x no_block) d.slots 64 b → SlotBySlot state_number d.slots 64 r → s < 16
    → faults_at b r s ≡ faults_in d s
unfolding faults_at faults_of faults_in place_faults pair_faults
faults_in_lem d b r s p q h =
    let e = four_told (λ x. block_or x no_block) d b s p h in
    let g = four_told state_number d r s q h in
    rw (e.0, e.1, e.2, e.3, g.0, g.1, g.2, g.3) refl

-- ---- one slot
invalid_placed : (b s : ℕ) → misplaced_in b 0 s ≡ 0
unfolding misplaced_in
invalid_placed b s = refl

placed : (b t s : ℕ) → b ≤ 63 → b % 16 ≡ s → misplaced_in b t s ≡ 0
unfolding misplaced_in
placed b t s h e = go (eqb t 0)
  where
    go : (u : Bool) → ◌≡◌ {A = ℕ} (cond u 0 (cond (ltb b 64) (cond (eqb (b % 16) s) 0 1) 1)) 0
    go true = refl
    go false = rw (lt-ltb b 64 (omega arith), eq-eqb (b % 16) s e) refl

placed_is : (b t s : ℕ) → (t ≡ 0 → ⊥) → misplaced_in b t s ≡ 0 → (b ≤ 63) × (b % 16 ≡ s)
unfolding misplaced_in
placed_is b t s n h = go (ltb b 64) (eqb (b % 16) s) refl refl (rw (ne_eqb t 0 n) at h)
  where
    go : (v u : Bool) → ltb b 64 ≡ v → eqb (b % 16) s ≡ u → ◌≡◌ {A = ℕ} (cond v (cond u 0 1) 1) 0 → (b ≤ 63) × (b % 16 ≡ s)
    go true true p q z = (omega (arith, ltb-true b 64 p), eqb-true _ _ q)
    go true false p q z = absurd (omega arith)
    go false u p q z = absurd (omega arith)

-- ---- two slots
-- x has no block EM that y holds
unfoldable Apart : Slot → Slot → Type 0
Apart x y = (b : ℕ) → x ≡ Modified b → holds y b ≡ false

conflict_low : (b t c v : ℕ) → t + v < 3 → conflict_of b t c v ≡ 0
unfolding conflict_of
conflict_low b t c v h = go (eqb b c)
  where
    go : (u : Bool) → ◌≡◌ {A = ℕ} (cond u (cond (ltb (t + v) 3) 0 1) 0) 0
    go true = rw (lt-ltb (t + v) 3 h) refl
    go false = refl

conflict_ne : (b t c v : ℕ) → (b ≡ c → ⊥) → conflict_of b t c v ≡ 0
unfolding conflict_of
conflict_ne b t c v h = rw (ne_eqb b c h) refl

conflict_not : (b t c v : ℕ) → 3 ≤ t + v → conflict_of b t c v ≡ 0 → b ≡ c → ⊥
unfolding conflict_of
conflict_not b t c v h z e = let w : ◌≡◌ {A = ℕ} 1 0 = rw (eq-eqb b c e, le-ltb (t + v) 3 h) at z in omega arith

-- a slot that does not hold b
shared_not : (b c : ℕ) → holds (Shared c) b ≡ false → c ≡ b → ⊥
shared_not b c h e = false≢true (sym h ∙ shared_holds (Shared c) b (ap Shared e))

modified_not : (b c : ℕ) → holds (Modified c) b ≡ false → c ≡ b → ⊥
modified_not b c h e = false≢true (sym h ∙ modified_holds (Modified c) b (ap Modified e))

pair_none : (x y : Slot) → Apart x y → Apart y x → pair_faults x y ≡ 0
unfolding pair_faults Apart state_number block_or
pair_none Invalid Invalid g h = conflict_low no_block 0 no_block 0 (omega arith)
pair_none Invalid (Shared c) g h = conflict_low no_block 0 c 1 (omega arith)
pair_none Invalid (Modified c) g h = conflict_low no_block 0 c 2 (omega arith)
pair_none (Shared b) Invalid g h = conflict_low b 1 no_block 0 (omega arith)
pair_none (Shared b) (Shared c) g h = conflict_low b 1 c 1 (omega arith)
pair_none (Shared b) (Modified c) g h = conflict_ne b 1 c 2 (shared_not c b (h c refl))
pair_none (Modified b) Invalid g h = conflict_low b 2 no_block 0 (omega arith)
pair_none (Modified b) (Shared c) g h = conflict_ne b 2 c 1 (λ e. shared_not b c (g b refl) (sym e))
pair_none (Modified b) (Modified c) g h = conflict_ne b 2 c 2 (modified_not c b (h c refl))

not_held : (x : Slot) (b : ℕ) → ((c : ℕ) → x ≡ Shared c → c ≡ b → ⊥) → ((c : ℕ) → x ≡ Modified c → c ≡ b → ⊥) → holds x b ≡ false
not_held x b g h = ⊎_elim
    (λ (t : holds x b ≡ true). absurd (⊎_elim (λ (e : x ≡ Shared b). g b e refl) (λ (e : x ≡ Modified b). h b e refl) (holds_is x b t)))
    (λ (t : holds x b ≡ false). t)
    (true_or_false (holds x b))

pair_is : (x y : Slot) → pair_faults x y ≡ 0 → Apart x y × Apart y x
unfolding Apart pair_faults state_number block_or
pair_is x y z = (
  λ b e. not_held y b
      (λ c f q. conflict_not b 2 c 1 (omega arith) (rw (e, f) at z) (sym q))
      (λ c f q. conflict_not b 2 c 2 (omega arith) (rw (e, f) at z) (sym q)),
  λ b e. not_held x b
      (λ c f q. conflict_not c 1 b 2 (omega arith) (rw (e, f) at z) q)
      (λ c f q. conflict_not c 2 b 2 (omega arith) (rw (e, f) at z) q),
)

-- ---- from the rules to no fault
place_none : (d : Directory) (u s : ℕ) → Rules d → u < 4 → s < 16 → place_faults s (slot_of d u s) ≡ 0
unfolding place_faults block_or state_number
place_none d u s r hu hs = go (slot_of d u s) refl
  where
    go : (x : Slot) → slot_of d u s ≡ x → place_faults s x ≡ 0
    go Invalid e = invalid_placed no_block s
    go (Shared b) e = let h = r.placed u s b hu hs (shared_holds _ b e) in placed b 1 s h.0 h.1
    go (Modified b) e = let h = r.placed u s b hu hs (modified_holds _ b e) in placed b 2 s h.0 h.1

rules_apart : (d : Directory) (u v s : ℕ) → Rules d → u < 4 → v < 4 → s < 16 → (u ≡ v → ⊥) → Apart (slot_of d u s) (slot_of d v s)
unfolding Apart Exclusive
rules_apart d u v s r hu hv hs ne b e = ⊎_elim
    (λ (t : holds (slot_of d v s) b ≡ true). absurd (ne (r.exclusive u v s s b hu hv hs hs e t)))
    (λ (t : holds (slot_of d v s) b ≡ false). t)
    (true_or_false (holds (slot_of d v s) b))

faults_none : (d : Directory) (s : ℕ) → Rules d → s < 16 → faults_in d s ≡ 0
unfolding faults_in
faults_none d s r hs =
    let x : ℕ → Slot = λ u. slot_of d u s in
    let f : (u : ℕ) → u < 4 → place_faults s (x u) ≡ 0 = λ u hu. place_none d u s r hu hs in
    let g : (u v : ℕ) → u < 4 → v < 4 → (u ≡ v → ⊥) → pair_faults (x u) (x v) ≡ 0 =
    λ u v hu hv ne. pair_none (x u) (x v) (rules_apart d u v s r hu hv hs ne) (rules_apart d v u s r hv hu hs (λ q. ne (sym q))) in
    simp (
      f 0 (omega arith),
      f 1 (omega arith),
      f 2 (omega arith),
      f 3 (omega arith),
      g 0 1 (omega arith) (omega arith) (omega arith),
      g 0 2 (omega arith) (omega arith) (omega arith),
      g 0 3 (omega arith) (omega arith) (omega arith),
      g 1 2 (omega arith) (omega arith) (omega arith),
      g 1 3 (omega arith) (omega arith) (omega arith),
      g 2 3 (omega arith) (omega arith) (omega arith),
    )

-- ---- from no fault to the rules
place_each : (d : Directory) (s : ℕ) → faults_in d s ≡ 0 → (u : ℕ) → u < 4 → place_faults s (slot_of d u s) ≡ 0
unfolding faults_in
place_each d s z =
    four (λ u. place_faults s (slot_of d u s) ≡ 0) (omega (arith, z)) (omega (arith, z)) (omega (arith, z)) (omega (arith, z))

pair_each : (d : Directory) (s : ℕ) → faults_in d s ≡ 0 → (u : ℕ) → u < 4 → (v : ℕ) → v < 4 → (u ≡ v → ⊥) → Apart (slot_of d u s) (slot_of d v s)
unfolding faults_in
pair_each d s z =
    let x : ℕ → Slot = λ u. slot_of d u s in
    let p01 = pair_is (x 0) (x 1) (omega (arith, z)) in
    let p02 = pair_is (x 0) (x 2) (omega (arith, z)) in
    let p03 = pair_is (x 0) (x 3) (omega (arith, z)) in
    let p12 = pair_is (x 1) (x 2) (omega (arith, z)) in
    let p13 = pair_is (x 1) (x 3) (omega (arith, z)) in
    let p23 = pair_is (x 2) (x 3) (omega (arith, z)) in
    four (λ u. (v : ℕ) → v < 4 → (u ≡ v → ⊥) → Apart (x u) (x v))
    (four (λ v. (0 ≡ v → ⊥) → Apart (x 0) (x v)) (λ n. absurd (n refl)) (λ n. p01.0) (λ n. p02.0) (λ n. p03.0))
    (four (λ v. (1 ≡ v → ⊥) → Apart (x 1) (x v)) (λ n. p01.1) (λ n. absurd (n refl)) (λ n. p12.0) (λ n. p13.0))
    (four (λ v. (2 ≡ v → ⊥) → Apart (x 2) (x v)) (λ n. p02.1) (λ n. p12.1) (λ n. absurd (n refl)) (λ n. p23.0))
    (four (λ v. (3 ≡ v → ⊥) → Apart (x 3) (x v)) (λ n. p03.1) (λ n. p13.1) (λ n. p23.1) (λ n. absurd (n refl)))

rule_placed : (d : Directory) (u s b : ℕ) → faults_in d s ≡ 0 → u < 4 → holds (slot_of d u s) b ≡ true → (b ≤ 63) × (b % 16 ≡ s)
unfolding place_faults block_or state_number
rule_placed d u s b z hu h =
    let p : place_faults s (slot_of d u s) ≡ 0 = place_each d s z u hu in
    ⊎_elim
    (λ (e : slot_of d u s ≡ Shared b). placed_is b 1 s (omega arith) (rw e at p))
    (λ (e : slot_of d u s ≡ Modified b). placed_is b 2 s (omega arith) (rw e at p))
    (holds_is _ b h)

rule_exclusive : (d : Directory) → ((s : ℕ) → s < 16 → faults_in d s ≡ 0) → Exclusive d
unfolding Exclusive Apart
rule_exclusive d z u v s t b hu hv hs ht e h =
    let p = rule_placed d u s b (z s hs) hu (modified_holds _ b e) in
    let q = rule_placed d v t b (z t ht) hv h in
    let i : t ≡ s = sym q.1 ∙ p.1 in
    ⊎_elim
    (λ (o : u ≡ v). o)
    (λ (o : u ≡ v → ⊥). absurd (false≢true (sym (pair_each d s (z s hs) u hu v hv o b e) ∙ ap (λ (j : ℕ). holds (slot_of d v j) b) (sym i) ∙ h)))
    (eq_or_ne u v)

rules_of : (d : Directory) → ((s : ℕ) → s < 16 → faults_in d s ≡ 0) → Rules d
unfolding block_of
rules_of d z = record {
  empty = λ u s hu hs e. rw e refl;
  placed = λ u s b hu hs h. rule_placed d u s b (z s hs) hu h;
  exclusive = rule_exclusive d z;
}

-- ---- all slots
pub faultless_is : (d : Directory) (b r : List ℕ) → SlotBySlot (λ x. block_or x no_block) d.slots 64 b → SlotBySlot state_number d.slots 64 r
    → faultless 16 b r ≡ sound_slots d
unfolding faultless
faultless_is d b r p q = go (sound_slots d) (faultless 16 b r) refl refl
  where
    f : ℕ → Bool
    f s = eqb (faults_at b r s) 0

    go : (t g : Bool) → sound_slots d ≡ t → faultless 16 b r ≡ g → g ≡ t
    go true g e k =
        sym k ∙ all_below_lem 16 f (λ s l. eq-eqb _ 0 (faults_in_lem d b r s p q l ∙ faults_none d s ((tests_rules d).slots.enough e) l))
    go false true e k =
        absurd (false≢true (sym e ∙ (tests_rules d).slots.needed
        (rules_of d (λ s l. sym (faults_in_lem d b r s p q l) ∙ eqb-true _ 0 (below_at f 16 s k l)))))
    go false false e k = refl

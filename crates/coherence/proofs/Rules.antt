-- The directory's test passes exactly where the documents' rules hold.
use mathlib.Core.Path.{◌≡◌, refl, ap, sym, ◌∙◌}
use mathlib.Core.Bool.{Bool, true, false, not, ◌&&◌, ◌||◌, false≢true}
use Prim.Native.Nat.{ℕ, ◌+◌, ◌*◌, ◌/◌, ◌%◌, ◌≤◌, ◌<◌}
use native.Mathlib.Omega.{arith}
use lib.Dec.{eqb, leb}
use borrow.Author.Tests.{eqb-true, leb-true, le-leb, eq-eqb, eqb-false}
use Rattle.coherence.specs.declared.Slot.{Slot}
use Rattle.coherence.specs.declared.Slot.TheVariants.{Invalid, Shared, Modified}
use Rattle.coherence.specs.declared.Directory.{Directory}
use Rattle.coherence.specs.Settings.{through}
use Rattle.coherence.specs.Slots.{place, slot_at, slot_of, block_of, holds, holders_of, held_by, fits, alone, slot_rule, kind_rule, sound_slots, sound_kinds, sound_sets, sound, Exclusive, Rules, Kinds, SetsTrue, Tests, TestsRules}
use Rattle.coherence.proofs.Below.{both, below_at, all_below_lem}
use Rattle.coherence.proofs.SlotLaws.{modified_holds, shared_holds, place_of}

-- ---- the test says the rules
rule_at : (d : Directory) (n : ℕ) → sound_slots d ≡ true → n < 64 → slot_rule d n (slot_at d n) ≡ true
unfolding sound_slots
rule_at d n e h = below_at (λ k. slot_rule d k (slot_at d k)) 64 n e h

fits_of : (d : Directory) (n b : ℕ) (x : Slot) → slot_rule d n x ≡ true → holds x b ≡ true → fits n b ≡ true
unfolding slot_rule holds
fits_of d n b Invalid r t = absurd (false≢true t)
fits_of d n b (Shared c) r t = rw (← eqb-true c b t) r
fits_of d n b (Modified c) r t = rw (← eqb-true c b t) (both (fits n c) (alone d n c) r).0

pub fits_say : (n b : ℕ) → fits n b ≡ true → (b ≤ 63) × (b % 16 ≡ n % 16)
unfolding fits
fits_say n b e =
    let q : (leb b 63 ≡ true) × (eqb (b % 16) (n % 16) ≡ true) = both _ _ e in
    (leb-true b 63 q.0, eqb-true _ _ q.1)

slots_placed : (d : Directory) (n b : ℕ) → sound_slots d ≡ true → n < 64 → holds (slot_at d n) b ≡ true → (b ≤ 63) × (b % 16 ≡ n % 16)
slots_placed d n b e l t = fits_say n b (fits_of d n b (slot_at d n) (rule_at d n e l) t)

or_left : (s t : Bool) → (s || not t) ≡ true → t ≡ true → s ≡ true
or_left true t e f = refl
or_left false true e f = absurd (false≢true e)
or_left false false e f = absurd (false≢true f)

alone_say : (d : Directory) (n p b : ℕ) → alone d n b ≡ true → p < 64 → b % 16 ≡ p % 16 → holds (slot_at d p) b ≡ true → n / 16 ≡ p / 16
unfolding alone
alone_say d n p b e l q t =
    let h : (p / 16 < 4) × (p ≡ place (p / 16) b) = place_of p b l q in
    let f = below_at (λ v. eqb v (n / 16) || not (holds (slot_at d (place v b)) b)) 4 (p / 16) e h.0 in
    sym (eqb-true (p / 16) (n / 16) (or_left (eqb (p / 16) (n / 16)) (holds (slot_at d (place (p / 16) b)) b) f (rw (← h.1) t)))

modified_alone : (d : Directory) (n b : ℕ) → slot_rule d n (Modified b) ≡ true → alone d n b ≡ true
unfolding slot_rule
modified_alone d n b e = (both (fits n b) (alone d n b) e).1

slots_exclusive : (d : Directory) (n p b : ℕ) → sound_slots d ≡ true → n < 64 → p < 64 → slot_at d n ≡ Modified b → holds (slot_at d p) b ≡ true
    → n / 16 ≡ p / 16
slots_exclusive d n p b e l m f t =
    alone_say d n p b (modified_alone d n b (rw f at (rule_at d n e l))) m (slots_placed d p b e m t).1 t

block_empty : (x : Slot) → x ≡ Invalid → block_of x ≡ 0
unfolding block_of
block_empty x e = rw e refl

slots_rules : (d : Directory) → sound_slots d ≡ true → Rules d
unfolding Exclusive slot_of
slots_rules d e =
    record {
      empty = λ u s l m f. block_empty (slot_at d (16 * u + s)) f;
      placed = λ u s b l m t.
          let q : (b ≤ 63) × (b % 16 ≡ (16 * u + s) % 16) = slots_placed d (16 * u + s) b e (omega arith) t in
          (q.0, omega arith);
      exclusive = λ u v s t b lu lv ls lt f g.
          let q : (16 * u + s) / 16 ≡ (16 * v + t) / 16 =
          slots_exclusive d (16 * u + s) (16 * v + t) b e (omega arith) (omega arith) f g in
          omega arith;
    }

-- ---- the rules pass the test
pub fits_true : (n b : ℕ) → b ≤ 63 → b % 16 ≡ n % 16 → fits n b ≡ true
unfolding fits
fits_true n b h e = rw (le-leb b 63 h, eq-eqb (b % 16) (n % 16) e)

-- what the test asks, slot number by slot number
pub slots_test : (d : Directory)
    → ((n b : ℕ) → n < 64 → holds (slot_at d n) b ≡ true → (b ≤ 63) × (b % 16 ≡ n % 16))
    → ((n p b : ℕ) → n < 64 → p < 64 → slot_at d n ≡ Modified b → holds (slot_at d p) b ≡ true → n / 16 ≡ p / 16)
    → sound_slots d ≡ true
unfolding sound_slots alone place slot_rule
slots_test d f g = all_below_lem 64 _ (λ n l. rule n l (slot_at d n) refl)
  where
    lone : (n b v : ℕ) → n < 64 → slot_at d n ≡ Modified b → v < 4 → (s t : Bool) → eqb v (n / 16) ≡ s → holds (slot_at d (16 * v + b % 16)) b ≡ t
        → (s || not t) ≡ true
    lone n b v l e m true t x y = refl
    lone n b v l e m false false x y = refl
    lone n b v l e m false true x y =
        let q : n / 16 ≡ (16 * v + b % 16) / 16 = g n (16 * v + b % 16) b l (omega arith) e y in
        absurd (eqb-false v (n / 16) x (omega arith))

    rule : (n : ℕ) → n < 64 → (x : Slot) → slot_at d n ≡ x → slot_rule d n x ≡ true
    rule n l Invalid e = refl
    rule n l (Shared b) e = let q : (b ≤ 63) × (b % 16 ≡ n % 16) = f n b l (shared_holds _ b e) in fits_true n b q.0 q.1
    rule n l (Modified b) e =
        let q : (b ≤ 63) × (b % 16 ≡ n % 16) = f n b l (modified_holds _ b e) in
        let r : alone d n b ≡ true = all_below_lem 4 _ (λ v m. lone n b v l e m (eqb v (n / 16)) (holds (slot_at d (16 * v + b % 16)) b) refl refl) in
        rw (fits_true n b q.0 q.1, r)

-- slot n is slot n % 16 of unit n / 16
number_of : (d : Directory) (n : ℕ) → slot_of d (n / 16) (n % 16) ≡ slot_at d n
unfolding slot_of
number_of d n = let q : 16 * (n / 16) + n % 16 ≡ n = omega arith in ap (slot_at d) q

rules_slots : (d : Directory) → Rules d → sound_slots d ≡ true
unfolding Exclusive
rules_slots d r =
    slots_test d
    (λ n b l t. r.placed (n / 16) (n % 16) b (omega arith) (omega arith) (rw (number_of d n) t))
    (λ n p b l m e t.
    r.exclusive (n / 16) (p / 16) (n % 16) (p % 16) b (omega arith) (omega arith) (omega arith) (omega arith)
    (number_of d n ∙ e) (rw (number_of d p) t))

-- ---- the boards' kinds
kinds_say : (d : Directory) → sound_kinds d ≡ true → Kinds d
unfolding sound_kinds Kinds slot_of kind_rule
kinds_say d e u s b l m f =
    let q : (16 * u + s) / 16 ≡ u = omega arith in
    rw q at (copyback (through d.settings ((16 * u + s) / 16)) (rw f at (below_at (λ n. kind_rule d n (slot_at d n)) 64 (16 * u + s) e (omega arith))))
  where
    copyback : (t : Bool) → not t ≡ true → t ≡ false
    copyback true e = absurd (false≢true e)
    copyback false e = refl

pub kinds_test : (d : Directory) → ((n b : ℕ) → n < 64 → slot_at d n ≡ Modified b → through d.settings (n / 16) ≡ false) → sound_kinds d ≡ true
unfolding sound_kinds kind_rule
kinds_test d h = all_below_lem 64 _ (λ n l. kind n l (slot_at d n) refl)
  where
    kind : (n : ℕ) → n < 64 → (x : Slot) → slot_at d n ≡ x → kind_rule d n x ≡ true
    kind n l Invalid e = refl
    kind n l (Shared b) e = refl
    kind n l (Modified b) e = rw (h n b l e)

kinds_sound : (d : Directory) → Kinds d → sound_kinds d ≡ true
unfolding Kinds
kinds_sound d h = kinds_test d (λ n b l e. h (n / 16) (n % 16) b (omega arith) (omega arith) (number_of d n ∙ e))

-- ---- the sets of holders
sets_say : (d : Directory) (b : ℕ) → sound_sets d ≡ true → b < 64 → held_by d b ≡ holders_of d b
unfolding sound_sets
sets_say d b e h = eqb-true (held_by d b) (holders_of d b) (below_at (λ k. eqb (held_by d k) (holders_of d k)) 64 b e h)

pub sets_test : (d : Directory) → ((b : ℕ) → b < 64 → held_by d b ≡ holders_of d b) → sound_sets d ≡ true
unfolding sound_sets
sets_test d h = all_below_lem 64 _ (λ b l. eq-eqb (held_by d b) (holders_of d b) (h b l))

sets_tests : (d : Directory) → Tests (sound_sets d) (SetsTrue d)
unfolding SetsTrue
sets_tests d = record { enough = λ e b l. sets_say d b e (omega arith); needed = λ h. sets_test d (λ b l. h b (omega arith)) }

-- ---- the whole test
pub sound_of : (d : Directory) → sound_slots d ≡ true → sound_kinds d ≡ true → sound_sets d ≡ true → sound d ≡ true
unfolding sound
sound_of d e f g = rw (e, f, g)

sound_parts : (d : Directory) → sound d ≡ true → (sound_slots d ≡ true) × (sound_kinds d ≡ true) × (sound_sets d ≡ true)
unfolding sound
sound_parts d e =
    let q : ((sound_slots d && sound_kinds d) ≡ true) × (sound_sets d ≡ true) = both (sound_slots d && sound_kinds d) (sound_sets d) e in
    let r : (sound_slots d ≡ true) × (sound_kinds d ≡ true) = both (sound_slots d) (sound_kinds d) q.0 in
    (r.0, r.1, q.1)

-- a block that is held in a sound directory
pub sound_placed : (d : Directory) (n b : ℕ) → sound d ≡ true → n < 64 → holds (slot_at d n) b ≡ true → (b ≤ 63) × (b % 16 ≡ n % 16)
sound_placed d n b e = slots_placed d n b (sound_parts d e).0

-- and one that is EM
pub sound_exclusive : (d : Directory) (n p b : ℕ) → sound d ≡ true → n < 64 → p < 64 → slot_at d n ≡ Modified b → holds (slot_at d p) b ≡ true
    → n / 16 ≡ p / 16
sound_exclusive d n p b e = slots_exclusive d n p b (sound_parts d e).0

pub sound_sets_lem : (d : Directory) (b : ℕ) → sound d ≡ true → b < 64 → held_by d b ≡ holders_of d b
sound_sets_lem d b e = sets_say d b (sound_parts d e).2

pub tests_rules : (d : Directory) → TestsRules d
tests_rules d =
    record {
      slots = record { enough = slots_rules d; needed = rules_slots d };
      kinds = record { enough = kinds_say d; needed = kinds_sound d };
      sets = sets_tests d;
      whole =
          record {
            enough = λ e. (slots_rules d (sound_parts d e).0, kinds_say d (sound_parts d e).1, (sets_tests d).enough (sound_parts d e).2);
            needed = λ r. sound_of d (rules_slots d r.0) (kinds_sound d r.1) ((sets_tests d).needed r.2);
          };
    }

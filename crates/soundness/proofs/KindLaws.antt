-- The boards' kinds, unit by unit: no slot of a write-through unit is EM exactly where the rule holds.
use mathlib.Core.Path.{◌≡◌, refl, sym, ap, ◌∙◌}
use mathlib.Core.Bool.{Bool, true, false, cond, false≢true}
use mathlib.Core.List.{List}
use Prim.Native.Nat.{ℕ, ◌+◌, ◌*◌, ◌<◌}
use lib.ListN.{get_or}
use Rattle.coherence.specs.declared.Slot.{Slot}
use Rattle.coherence.specs.declared.Slot.TheVariants.{Invalid, Shared, Modified}
use Rattle.coherence.specs.declared.Directory.{Directory}
use Rattle.coherence.specs.Settings.{through}
use Rattle.coherence.specs.Slots.{slot_of, state_number, sound_kinds, Kinds}
use Rattle.coherence.proofs.Below.{below_at, all_below_lem}
use Rattle.coherence.proofs.Rules.{tests_rules}
use Rattle.set_test.specs.Sets.{SlotBySlot}
use Rattle.soundness.specs.Soundness.{not_modified, none_modified, keeps_kind, kinds_kept}
use Rattle.set_test.proofs.Turns.{slot_told}

-- ---- one slot
one_modified : (x : Slot) (b : ℕ) → not_modified (state_number x) ≡ true → x ≡ Modified b → ⊥
unfolding not_modified state_number
one_modified x b h e = let z : not_modified (state_number (Modified b)) ≡ true = rw e at h in false≢true z

none_modified_lem : (x : Slot) → ((b : ℕ) → x ≡ Modified b → ⊥) → not_modified (state_number x) ≡ true
unfolding not_modified state_number
none_modified_lem Invalid h = refl
none_modified_lem (Shared b) h = refl
none_modified_lem (Modified b) h = absurd (h b refl)

-- ---- one unit
kept_says : (d : Directory) (r : List ℕ) (u s b : ℕ) → SlotBySlot state_number d.slots 64 r → keeps_kind r d.settings u ≡ true → u < 4 → s < 16
    → slot_of d u s ≡ Modified b → through d.settings u ≡ false
unfolding keeps_kind none_modified
kept_says d r u s b p k hu hs e = go (through d.settings u) k
  where
    go : (t : Bool) → cond t (none_modified 16 r u) true ≡ true → t ≡ false
    go true h =
        let k : not_modified (get_or r (16 * u + s) 0) ≡ true = below_at (λ s. not_modified (get_or r (16 * u + s) 0)) 16 s h hs in
        absurd (one_modified _ b (sym (ap not_modified (slot_told state_number d r u s p hu hs)) ∙ k) e)
    go false h = refl

kept_true : (d : Directory) (r : List ℕ) (u : ℕ) → SlotBySlot state_number d.slots 64 r → u < 4
    → ((s b : ℕ) → s < 16 → slot_of d u s ≡ Modified b → through d.settings u ≡ false) → keeps_kind r d.settings u ≡ true
unfolding keeps_kind none_modified
kept_true d r u p hu h = go (through d.settings u) h
  where
    go : (t : Bool) → ((s b : ℕ) → s < 16 → slot_of d u s ≡ Modified b → t ≡ false) → cond t (none_modified 16 r u) true ≡ true
    go true g =
        all_below_lem 16 (λ s. not_modified (get_or r (16 * u + s) 0))
        (λ s l. ap not_modified (slot_told state_number d r u s p hu l) ∙ none_modified_lem _ (λ b e. false≢true (sym (g s b l e))))
    go false g = refl

-- ---- all units
pub kinds_kept_lem : (d : Directory) (r : List ℕ) → SlotBySlot state_number d.slots 64 r → kinds_kept 4 r d.settings ≡ sound_kinds d
unfolding kinds_kept Kinds
kinds_kept_lem d r p = go (sound_kinds d) (kinds_kept 4 r d.settings) refl refl
  where
    f : ℕ → Bool
    f u = keeps_kind r d.settings u

    go : (t k : Bool) → sound_kinds d ≡ t → kinds_kept 4 r d.settings ≡ k → k ≡ t
    go true k e q =
        let kinds : Kinds d = (tests_rules d).kinds.enough e in
        sym q ∙ all_below_lem 4 f (λ u l. kept_true d r u p l (λ s b m g. kinds u s b l m g))
    go false true e q =
        absurd (false≢true (sym e ∙ (tests_rules d).kinds.needed (λ u s b l m g. kept_says d r u s b p (below_at f 4 u q l) l m g)))
    go false false e q = refl

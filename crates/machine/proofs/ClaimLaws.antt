-- A claim that follows a fetch is a claim alone: the slots that the fetch changes are those that the claim sets.
use mathlib.Core.Path.{◌≡◌, refl, sym, ap, ◌∙◌}
use mathlib.Core.Bool.{Bool, true, false, cond, false≢true}
use mathlib.Core.Logic.{⊎_elim}
use mathlib.Core.List.{List, [], ◌∷◌}
use Prim.Native.Nat.{ℕ, zero, suc, ◌<◌}
use native.Mathlib.Omega.{arith}
use lib.Dec.{ltb}
use lib.ListN.{length, get_or}
use borrow.Author.Tests.{ne_eqb, lt-ltb, le-ltb}
use Rattle.coherence.specs.declared.Slot.{Slot}
use Rattle.coherence.specs.declared.Slot.TheVariants.{Invalid, Shared, Modified}
use Rattle.coherence.specs.declared.Entry.{Entry}
use Rattle.coherence.specs.declared.Directory.{Directory}
use Rattle.coherence.specs.Slots.{empty_entry, place, slot_at, set_slot, holds, modified, owner_of}
use Rattle.coherence.proofs.Cases.{eq_or_ne, four}
use Rattle.coherence.proofs.SlotLaws.{size, size_set, slot_same, slot_other, place_lt, place_ne, owner_cases, shared_holds, modified_holds, modified_is, is_modified}
use Rattle.slots.proofs.OfSlots.{with}
use Rattle.slots.specs.Directory.{released, release_into, expelled_at_once, claimed_at_once, yielded_directory, fetched_directory}

-- ---- directories that have the same slots are the same
entries_same : (a c : List Entry) → length a ≡ length c → ((j : ℕ) → (get_or a j empty_entry).slot ≡ (get_or c j empty_entry).slot) → a ≡ c
entries_same [] [] l h = refl
entries_same [] (y ∷ c) l h = absurd (omega arith)
entries_same (x ∷ a) [] l h = absurd (omega arith)
entries_same (x ∷ a) (y ∷ c) l h =
    let p : x ≡ y = ap (λ (s : Slot). record { slot = s }) (h zero) in
    let q : a ≡ c = entries_same a c (omega arith) (λ j. h (suc j)) in
    ap (λ (e : Entry). e ∷ a) p ∙ ap (λ (t : List Entry). y ∷ t) q

slots_same : (d e : Directory) → size d ≡ size e → ((j : ℕ) → slot_at d j ≡ slot_at e j) → ((l : List Entry) → with l d ≡ with l e) → d ≡ e
unfolding size slot_at
slots_same d e l h g = ap (λ (a : List Entry). with a d) (entries_same d.slots e.slots l h) ∙ g e.slots

-- ---- the slots after a claim
module _ (u b : ℕ) (d : Directory) (l : u < 4) (z : size d ≡ 64) where
  abbrev in₀ : Directory
  in₀ = release_into u b d 0 d

  abbrev in₁ : Directory
  in₁ = release_into u b d 1 in₀

  abbrev in₂ : Directory
  in₂ = release_into u b d 2 in₁

  abbrev in₃ : Directory
  in₃ = release_into u b d 3 in₂

  size_in : (v : ℕ) (e : Directory) → size (release_into u b d v e) ≡ size e
  unfolding release_into
  size_in v e = size_set e _ _

  size₀ : size in₀ ≡ 64
  size₀ = size_in 0 d ∙ z

  size₁ : size in₁ ≡ 64
  size₁ = size_in 1 in₀ ∙ size₀

  size₂ : size in₂ ≡ 64
  size₂ = size_in 2 in₁ ∙ size₁

  size₃ : size in₃ ≡ 64
  size₃ = size_in 3 in₂ ∙ size₂

  size_claimed : size (claimed_at_once u b d) ≡ 64
  unfolding claimed_at_once expelled_at_once
  size_claimed = size_set in₃ _ _ ∙ size₃

  claimed_own : slot_at (claimed_at_once u b d) (place u b) ≡ Modified b
  unfolding claimed_at_once expelled_at_once
  claimed_own = slot_same in₃ (place u b) (Modified b) (rw size₃ (place_lt u b l))

  -- slot j after unit v's was set
  past : (v : ℕ) (e : Directory) (j : ℕ) → (j ≡ place v b → ⊥) → slot_at (release_into u b d v e) j ≡ slot_at e j
  unfolding release_into
  past v e j h = slot_other e (place v b) j _ h

  set_at : (v : ℕ) (e : Directory) → v < 4 → size e ≡ 64 → slot_at (release_into u b d v e) (place v b) ≡ released (slot_at d (place v b)) b v u
  unfolding release_into
  set_at v e h y = slot_same e (place v b) _ (rw y (place_lt v b h))

  apart : (v w : ℕ) → (v ≡ w → ⊥) → place v b ≡ place w b → ⊥
  apart v w h e = place_ne w v b h (sym e)

  in_unit : (v : ℕ) → v < 4 → slot_at in₃ (place v b) ≡ released (slot_at d (place v b)) b v u
  in_unit =
      four (λ v. slot_at in₃ (place v b) ≡ released (slot_at d (place v b)) b v u)
      (past 3 in₂ _ (apart 0 3 (omega arith)) ∙ past 2 in₁ _ (apart 0 2 (omega arith)) ∙ past 1 in₀ _ (apart 0 1 (omega arith)) ∙ set_at 0 d (omega arith) z)
      (past 3 in₂ _ (apart 1 3 (omega arith)) ∙ past 2 in₁ _ (apart 1 2 (omega arith)) ∙ set_at 1 in₀ (omega arith) size₀)
      (past 3 in₂ _ (apart 2 3 (omega arith)) ∙ set_at 2 in₁ (omega arith) size₁)
      (set_at 3 in₂ (omega arith) size₂)

  claimed_unit : (v : ℕ) → v < 4 → (v ≡ u → ⊥) → slot_at (claimed_at_once u b d) (place v b) ≡ released (slot_at d (place v b)) b v u
  unfolding claimed_at_once expelled_at_once
  claimed_unit v h n = slot_other in₃ (place u b) (place v b) (Modified b) (apart v u n) ∙ in_unit v h

  claimed_other : (j : ℕ) → (j ≡ place u b → ⊥) → ((v : ℕ) → v < 4 → j ≡ place v b → ⊥) → slot_at (claimed_at_once u b d) j ≡ slot_at d j
  unfolding claimed_at_once expelled_at_once
  claimed_other j n h =
      slot_other in₃ (place u b) j (Modified b) n
      ∙ past 3 in₂ j (h 3 (omega arith)) ∙ past 2 in₁ j (h 2 (omega arith)) ∙ past 1 in₀ j (h 1 (omega arith)) ∙ past 0 d j (h 0 (omega arith))

-- ---- after a fetch
released_held : (x : Slot) (b v u : ℕ) → (v ≡ u → ⊥) → holds x b ≡ true → released x b v u ≡ Invalid
unfolding released
released_held x b v u n h = rw (ne_eqb v u n, h) refl

module _ (u b : ℕ) (d : Directory) (l : u < 4) (z : size d ≡ 64) where
  abbrev e : Directory
  e = fetched_directory (place u b) b (owner_of d b) d

  abbrev o : ℕ
  o = owner_of d b

  fetched_size : size e ≡ 64
  unfolding fetched_directory yielded_directory
  fetched_size = size_set _ _ _ ∙ go (ltb o 4)
    where
      go : (t : Bool) → size (cond t (set_slot d (place o b) (Shared b)) d) ≡ 64
      go true = size_set _ _ _ ∙ z
      go false = z

  -- slot j, which is not u's, is as it was, or was EM with b in unit o and is SU
  fetched_slot : (j : ℕ) → (j ≡ place u b → ⊥) → (slot_at d j ≡ Modified b → ⊥) → slot_at e j ≡ slot_at d j
  unfolding fetched_directory yielded_directory
  fetched_slot j n h =
      ⊎_elim
      (λ q. rw (lt-ltb o 4 q.0) (slot_other _ (place u b) j (Shared b) n ∙ slot_other d (place o b) j (Shared b) (λ y. h (ap (slot_at d) y ∙ q.1))))
      (λ q. rw (le-ltb o 4 q.0) (slot_other d (place u b) j (Shared b) n))
      (owner_cases d b)

  fetched_holds : (j : ℕ) → (j ≡ place u b → ⊥) → slot_at d j ≡ Modified b → holds (slot_at e j) b ≡ true
  unfolding fetched_directory yielded_directory
  fetched_holds j n h =
      ⊎_elim
      (λ q. rw (lt-ltb o 4 q.0) (ap (λ (x : Slot). holds x b) (slot_other _ (place u b) j (Shared b) n) ∙ ⊎_elim
      (λ (y : j ≡ place o b). rw y (shared_holds _ b (slot_same d (place o b) (Shared b) (rw z (place_lt o b q.0)))))
      (λ y. modified_holds _ b (slot_other d (place o b) j (Shared b) y ∙ h))
      (eq_or_ne j (place o b))))
      (λ q. rw (le-ltb o 4 q.0) (modified_holds _ b (slot_other d (place u b) j (Shared b) n ∙ h)))
      (owner_cases d b)

  -- a slot in which b has no place
  fetched_away : (j : ℕ) → (j ≡ place u b → ⊥) → ((v : ℕ) → v < 4 → j ≡ place v b → ⊥) → slot_at e j ≡ slot_at d j
  unfolding fetched_directory yielded_directory
  fetched_away j n h =
      ⊎_elim
      (λ q. rw (lt-ltb o 4 q.0) (slot_other _ (place u b) j (Shared b) n ∙ slot_other d (place o b) j (Shared b) (h o q.0)))
      (λ q. rw (le-ltb o 4 q.0) (slot_other d (place u b) j (Shared b) n))
      (owner_cases d b)

  same_released : (v : ℕ) → (v ≡ u → ⊥) → released (slot_at e (place v b)) b v u ≡ released (slot_at d (place v b)) b v u
  same_released v n = go (modified (slot_at d (place v b)) b) refl
    where
      away : place v b ≡ place u b → ⊥
      away y = place_ne u v b n (sym y)

      go : (t : Bool) → modified (slot_at d (place v b)) b ≡ t → released (slot_at e (place v b)) b v u ≡ released (slot_at d (place v b)) b v u
      go true q =
          let m : slot_at d (place v b) ≡ Modified b = modified_is _ b q in
          released_held _ b v u n (fetched_holds (place v b) away m) ∙ sym (released_held _ b v u n (modified_holds _ b m))
      go false q = ap (λ (y : Slot). released y b v u) (fetched_slot (place v b) away (λ y. false≢true (sym q ∙ is_modified _ b y)))

  same_unit : (v : ℕ) → v < 4 → (v ≡ u → ⊥) → slot_at (claimed_at_once u b e) (place v b) ≡ slot_at (claimed_at_once u b d) (place v b)
  same_unit v h n = claimed_unit u b e l fetched_size v h n ∙ same_released v n ∙ sym (claimed_unit u b d l z v h n)

  abbrev Same : ℕ → Type 0
  Same j = slot_at (claimed_at_once u b e) j ≡ slot_at (claimed_at_once u b d) j

  same_at : (j v : ℕ) → j ≡ place v b → Same (place v b) → Same j
  same_at j v q h = ap (slot_at (claimed_at_once u b e)) q ∙ h ∙ sym (ap (slot_at (claimed_at_once u b d)) q)

  same_far : (j : ℕ) → (j ≡ place u b → ⊥) → ((v : ℕ) → v < 4 → j ≡ place v b → ⊥) → Same j
  same_far j n h = claimed_other u b e l fetched_size j n h ∙ fetched_away j n h ∙ sym (claimed_other u b d l z j n h)

  same_slots : (j : ℕ) → Same j
  same_slots j =
      ⊎_elim
      (λ (q : j ≡ place u b). same_at j u q (claimed_own u b e l fetched_size ∙ sym (claimed_own u b d l z)))
      (λ (n : j ≡ place u b → ⊥).
      let here : (v : ℕ) → v < 4 → j ≡ place v b → Same j = λ v h q. same_at j v q (same_unit v h (λ y. n (q ∙ ap (λ (i : ℕ). place i b) y))) in
      ⊎_elim (here 0 (omega arith)) (λ (a : j ≡ place 0 b → ⊥).
      ⊎_elim (here 1 (omega arith)) (λ (c : j ≡ place 1 b → ⊥).
      ⊎_elim (here 2 (omega arith)) (λ (f : j ≡ place 2 b → ⊥).
      ⊎_elim (here 3 (omega arith)) (λ (g : j ≡ place 3 b → ⊥). same_far j n (four (λ v. j ≡ place v b → ⊥) a c f g))
      (eq_or_ne j (place 3 b))) (eq_or_ne j (place 2 b))) (eq_or_ne j (place 1 b))) (eq_or_ne j (place 0 b)))
      (eq_or_ne j (place u b))

pub claim_fetched : (u b : ℕ) (d : Directory) → u < 4 → size d ≡ 64
    → claimed_at_once u b (fetched_directory (place u b) b (owner_of d b) d) ≡ claimed_at_once u b d
unfolding claimed_at_once expelled_at_once release_into set_slot fetched_directory yielded_directory
claim_fetched u b d l z =
    slots_same _ _ (size_claimed u b _ l (fetched_size u b d l z) ∙ sym (size_claimed u b d l z)) (same_slots u b d l z) (λ k. go k (ltb (owner_of d b) 4))
  where
    go : (k : List Entry) (t : Bool) → with k (cond t (set_slot d (place (owner_of d b) b) (Shared b)) d) ≡ with k d
    go k true = refl
    go k false = refl

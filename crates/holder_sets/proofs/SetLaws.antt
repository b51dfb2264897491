-- The sets that an access leaves are those of the slots that it leaves, where the sets that it found were those of the slots.
use Rattle.std.proofs.Common.{◌≡◌, ℕ, ◌+◌, ◌-◌, ◌%◌, ◌<◌, Bool, true, false, cond, eqb, List, length, get_or, set, sym, refl, ap, ◌∙◌, ⊎_elim, arith, length-set, get_or-set_other, get_or-set_same, eq-eqb, ne_eqb}
use mathlib.Core.Bool.{false≢true}
use Rattle.order.specs.Flag.{flag}
use Rattle.order.proofs.FlagLaws.{flag_small}
use Rattle.coherence.specs.declared.Slot.{Slot}
use Rattle.coherence.specs.declared.Slot.TheVariants.{Invalid, Shared, Modified}
use Rattle.coherence.specs.declared.Directory.{Directory}
use Rattle.coherence.specs.Slots.{place, slot_at, holds, modified, units_with, holders_of, held_by, table, sound}
use Rattle.coherence.specs.Sentences.{SlotsLoaded, SlotsStored, SlotsThrough, SlotsFlushed}
use Rattle.coherence.proofs.Cases.{four, eq_or_ne, true_or_false}
use Rattle.coherence.proofs.SlotLaws.{place_lt, place_mod, holds_one, shared_holds, modified_holds, modified_is, is_modified, holds_invalid}
use Rattle.coherence.proofs.HolderLaws.{table_is}
use Rattle.coherence.proofs.Rules.{sound_placed, sound_sets_lem}
use Rattle.slots.specs.Directory.{block_or}
use Rattle.holder_sets.specs.Sets.{weight_of, vacated, fetched_sets, claimed_sets, flushed_sets, through_sets}

-- ---- a set of units
pub units_lt : (f : ℕ → Bool) → units_with f < 16
unfolding units_with
units_lt f = omega (arith, flag_small (f 0), flag_small (f 1), flag_small (f 2), flag_small (f 3))

-- two sets of the same units
units_same : (f g : ℕ → Bool) → ((v : ℕ) → v < 4 → f v ≡ g v) → units_with f ≡ units_with g
unfolding units_with
units_same f g h = rw (h 0 (omega arith), h 1 (omega arith), h 2 (omega arith), h 3 (omega arith)) refl

-- unit u is in f and not in g, which else have the same units
units_but : (f g : ℕ → Bool) (u : ℕ) → u < 4 → ((v : ℕ) → v < 4 → (v ≡ u → ⊥) → f v ≡ g v) → f u ≡ true → g u ≡ false
    → units_with f ≡ units_with g + weight_of u
unfolding units_with weight_of flag
units_but f g u l h =
    four (λ u. ((v : ℕ) → v < 4 → (v ≡ u → ⊥) → f v ≡ g v) → f u ≡ true → g u ≡ false → units_with f ≡ units_with g + weight_of u)
    (λ h p q. rw (p, q, h 1 (omega arith) (omega arith), h 2 (omega arith) (omega arith), h 3 (omega arith) (omega arith)) (omega arith))
    (λ h p q. rw (p, q, h 0 (omega arith) (omega arith), h 2 (omega arith) (omega arith), h 3 (omega arith) (omega arith)) (omega arith))
    (λ h p q. rw (p, q, h 0 (omega arith) (omega arith), h 1 (omega arith) (omega arith), h 3 (omega arith) (omega arith)) (omega arith))
    (λ h p q. rw (p, q, h 0 (omega arith) (omega arith), h 1 (omega arith) (omega arith), h 2 (omega arith) (omega arith)) (omega arith))
    u l h

none : units_with (λ v. false) ≡ 0
unfolding units_with flag
none = refl

-- no unit but u
units_alone : (f : ℕ → Bool) (u : ℕ) → u < 4 → ((v : ℕ) → v < 4 → (v ≡ u → ⊥) → f v ≡ false) → units_with f ≡ cond (f u) (weight_of u) 0
units_alone f u l h = go (f u) refl
  where
    go : (t : Bool) → f u ≡ t → units_with f ≡ cond t (weight_of u) 0
    go true e = let q : units_with f ≡ units_with (λ v. false) + weight_of u = units_but f (λ v. false) u l h e refl in omega (arith, q, none)
    go false e =
        units_same f (λ v. false)
        (λ v m. ⊎_elim (λ (q : v ≡ u). ap f q ∙ e) (λ (n : v ≡ u → ⊥). h v m n) (eq_or_ne v u))
        ∙ none

-- ---- a slot has one block
not_other : (x : Slot) (b c : ℕ) → (c ≡ b → ⊥) → holds x b ≡ true → holds x c ≡ false
not_other x b c n h = ⊎_elim
    (λ (q : holds x c ≡ true). absurd (n (holds_one x c b q h)))
    (λ (q : holds x c ≡ false). q)
    (true_or_false (holds x c))

shared_modified : (b c : ℕ) → holds (Shared b) c ≡ holds (Modified b) c
unfolding holds
shared_modified b c = refl

other_shared : (b c : ℕ) → (c ≡ b → ⊥) → holds (Shared b) c ≡ false
unfolding holds
other_shared b c n = ne_eqb b c (λ q. n (sym q))

other_modified : (b c : ℕ) → (c ≡ b → ⊥) → holds (Modified b) c ≡ false
unfolding holds
other_modified b c n = ne_eqb b c (λ q. n (sym q))

-- ---- an access by unit u for block b, which found the directory d and leaves the slots of e
module _ (d e : Directory) (u b : ℕ) (l : u < 4) (g : b < 64) (s : sound d ≡ true) (z : length d.holders ≡ 64) where
  -- unit v holds block c, before it and after it
  abbrev had : ℕ → ℕ → Bool
  had c v = holds (slot_at d (place v c)) c

  abbrev has : ℕ → ℕ → Bool
  has c v = holds (slot_at e (place v c)) c

  before : (c : ℕ) → c < 64 → get_or d.holders c 0 ≡ units_with (had c)
  unfolding held_by holders_of
  before c h = sound_sets_lem d c s h

  -- what a slot of d has
  same_place : (v c n : ℕ) → n < 64 → n ≡ place v c → (k : ℕ) → holds (slot_at d n) k ≡ true → k % 16 ≡ c % 16
  same_place v c n i q k h = (sound_placed d n k s i h).1 ∙ ap (λ (j : ℕ). j % 16) q ∙ sym (place_mod v c)

  place_same : (v c : ℕ) → c % 16 ≡ b % 16 → place v c ≡ place v b
  unfolding place
  place_same v c h = omega arith

  place_far : (v c : ℕ) → (v ≡ u → ⊥) → place v c ≡ place u b → ⊥
  unfolding place
  place_far v c n q = n (omega arith)

  place_away : (c : ℕ) → (c % 16 ≡ b % 16 → ⊥) → place u c ≡ place u b → ⊥
  unfolding place
  place_away c n q = n (omega arith)

  -- the other blocks: with the other units, and in the unit's other slots, nothing has changed
  record Beside : Type 0 where
    others : (c v : ℕ) → c < 64 → (c ≡ b → ⊥) → v < 4 → (v ≡ u → ⊥) → has c v ≡ had c v
    elsewhere : (c : ℕ) → c < 64 → (c ≡ b → ⊥) → (c % 16 ≡ b % 16 → ⊥) → has c u ≡ had c u

  -- the unit's slot has the other blocks as it had them
  stays : Beside → (c : ℕ) → c < 64 → (c ≡ b → ⊥) → holds (slot_at e (place u b)) c ≡ holds (slot_at d (place u b)) c
      → holders_of e c ≡ get_or d.holders c 0
  unfolding holders_of
  stays a c h n q = units_same (has c) (had c) (λ v m. ⊎_elim (λ (p : v ≡ u). rw p own) (λ (p : v ≡ u → ⊥). a.others c v h n m p) (eq_or_ne v u)) ∙ sym (before c h)
    where
      own : has c u ≡ had c u
      own = ⊎_elim
          (λ (p : c % 16 ≡ b % 16). rw (place_same u c p) q)
          (λ (p : c % 16 ≡ b % 16 → ⊥). a.elsewhere c h n p)
          (eq_or_ne (c % 16) (b % 16))

  -- it has the block that it had no longer
  leaves : Beside → (c : ℕ) → c < 64 → (c ≡ b → ⊥) → holds (slot_at d (place u b)) c ≡ true → holds (slot_at e (place u b)) c ≡ false
      → holders_of e c ≡ get_or d.holders c 0 - weight_of u
  unfolding holders_of
  leaves a c h n p q =
      let m : c % 16 ≡ b % 16 = same_place u b (place u b) (place_lt u b l) refl c p in
      let w : units_with (had c) ≡ units_with (has c) + weight_of u =
      units_but (had c) (has c) u l (λ v i j. sym (a.others c v h n i j)) (rw (place_same u c m) p) (rw (place_same u c m) q) in
      rw (before c h) (omega arith)

  -- the block that the unit's slot had
  abbrev old : ℕ
  old = block_or (slot_at d (place u b)) b

  old_is : (c : ℕ) → (c ≡ b → ⊥) → eqb c old ≡ holds (slot_at d (place u b)) c
  unfolding block_or holds
  old_is c n = go (slot_at d (place u b))
    where
      swap : (k : ℕ) → eqb c k ≡ eqb k c
      swap k = ⊎_elim
          (λ (q : c ≡ k). eq-eqb c k q ∙ sym (eq-eqb k c (sym q)))
          (λ (q : c ≡ k → ⊥). ne_eqb c k q ∙ sym (ne_eqb k c (λ p. q (sym p))))
          (eq_or_ne c k)

      go : (x : Slot) → eqb c (block_or x b) ≡ holds x c
      go Invalid = ne_eqb c b n
      go (Shared k) = swap k
      go (Modified k) = swap k

  -- the sets of the other blocks, once the unit's slot has b
  vacated_at : Beside → (c : ℕ) → c < 64 → (c ≡ b → ⊥) → holds (slot_at e (place u b)) c ≡ false
      → get_or (vacated d.holders (slot_at d (place u b)) u b) c 0 ≡ holders_of e c
  unfolding vacated
  vacated_at a c h n q = ⊎_elim
      (λ (p : c ≡ old).
      let y : holds (slot_at d (place u b)) c ≡ true = sym (old_is c n) ∙ eq-eqb c old p in
      let i : old < length d.holders = rw (z, sym p) h in
      rw p (get_or-set_same d.holders old (get_or d.holders old 0 - weight_of u) 0 i) ∙ ap (λ (k : ℕ). get_or d.holders k 0 - weight_of u) (sym p) ∙ sym (leaves a c h n y q))
      (λ (p : c ≡ old → ⊥).
      let y : holds (slot_at d (place u b)) c ≡ false = sym (old_is c n) ∙ ne_eqb c old p in
      get_or-set_other d.holders old c (get_or d.holders old 0 - weight_of u) 0 p ∙ sym (stays a c h n (q ∙ sym y)))
      (eq_or_ne c old)

  -- one set set, the others as given
  told : (t : List ℕ) (x : ℕ) → length t ≡ 64 → x ≡ holders_of e b → ((c : ℕ) → c < 64 → (c ≡ b → ⊥) → get_or t c 0 ≡ holders_of e c)
      → set t b x ≡ table 64 (holders_of e)
  told t x i q h =
      table_is 64 (holders_of e) (set t b x) (length-set t b x ∙ i)
      (λ c m. ⊎_elim
      (λ (p : c ≡ b). rw p (get_or-set_same t b x 0 (rw i g) ∙ q))
      (λ (p : c ≡ b → ⊥). get_or-set_other t b c x 0 p ∙ h c m p)
      (eq_or_ne c b))

  length_vacated : length (vacated d.holders (slot_at d (place u b)) u b) ≡ 64
  unfolding vacated
  length_vacated = length-set d.holders old _ ∙ z

  -- ---- a missed load
  module _ (o : SlotsLoaded d u b e) (n : holds (slot_at d (place u b)) b ≡ false) where
    -- of another unit each slot has the block that it had
    loaded_unit : (c v : ℕ) → v < 4 → (v ≡ u → ⊥) → has c v ≡ had c v
    loaded_unit c v m i = ⊎_elim
        (λ (q : modified (slot_at d (place v c)) b ≡ true).
        let y : slot_at d (place v c) ≡ Modified b = modified_is _ b q in
        let p : place v c ≡ place v b = place_same v c (sym (same_place v c (place v c) (place_lt v c m) refl b (modified_holds _ b y))) in
        rw (y, p) (ap (λ (x : Slot). holds x c) (o.holder v m (rw p at y)) ∙ shared_modified b c))
        (λ (q : modified (slot_at d (place v c)) b ≡ false).
        ap (λ (x : Slot). holds x c) (o.rest (place v c) (place_far v c i) (λ y. false≢true (sym q ∙ is_modified _ b y))))
        (true_or_false (modified (slot_at d (place v c)) b))

    loaded_beside : Beside
    loaded_beside =
        record {
          others = λ c v h k m i. loaded_unit c v m i;
          elsewhere = λ c h k i.
              ap (λ (x : Slot). holds x c)
              (o.rest (place u c) (place_away c i) (λ y. i (sym (same_place u c (place u c) (place_lt u c l) refl b (modified_holds _ b y)))));
        }

    pub fetched_told : fetched_sets d.holders (slot_at d (place u b)) u b ≡ table 64 (holders_of e)
    unfolding fetched_sets holders_of
    fetched_told =
        told (vacated d.holders (slot_at d (place u b)) u b) ((get_or d.holders b 0 + weight_of u) % 256) length_vacated
        (let w : units_with (has b) ≡ units_with (had b) + weight_of u = units_but (has b) (had b) u l (λ v m i. loaded_unit b v m i) (shared_holds _ b o.own) n in
        rw (before b g) (omega (arith, units_lt (has b), w)))
        (λ c h i. vacated_at loaded_beside c h i (ap (λ (x : Slot). holds x c) o.own ∙ other_shared b c i))

  -- ---- the other units give up block b: a store
  module _
      (others : (v : ℕ) → v < 4 → (v ≡ u → ⊥) → holds (slot_at d (place v b)) b ≡ true → slot_at e (place v b) ≡ Invalid)
      (rest : (j : ℕ) → (j ≡ place u b → ⊥) → holds (slot_at d j) b ≡ false → slot_at e j ≡ slot_at d j)
    where
      alone : (v : ℕ) → v < 4 → (v ≡ u → ⊥) → has b v ≡ false
      alone v m i = ⊎_elim
          (λ (q : had b v ≡ true). ap (λ (x : Slot). holds x b) (others v m i q) ∙ holds_invalid b)
          (λ (q : had b v ≡ false). ap (λ (x : Slot). holds x b) (rest (place v b) (place_far v b i) q) ∙ q)
          (true_or_false (had b v))

      stored_beside : Beside
      stored_beside =
          record {
            others = λ c v h k m i. ⊎_elim
                (λ (q : holds (slot_at d (place v c)) b ≡ true).
                let p : place v c ≡ place v b = place_same v c (sym (same_place v c (place v c) (place_lt v c m) refl b q)) in
                let y : has c v ≡ false = ap (λ (j : ℕ). holds (slot_at e j) c) p ∙ ap (λ (x : Slot). holds x c) (others v m i (rw p at q)) ∙ holds_invalid c in
                y ∙ sym (not_other (slot_at d (place v c)) b c k q))
                (λ (q : holds (slot_at d (place v c)) b ≡ false). ap (λ (x : Slot). holds x c) (rest (place v c) (place_far v c i) q))
                (true_or_false (holds (slot_at d (place v c)) b));
            elsewhere = λ c h k i.
                let q : holds (slot_at d (place u c)) b ≡ false = ⊎_elim
                (λ (y : holds (slot_at d (place u c)) b ≡ true). absurd (i (sym (same_place u c (place u c) (place_lt u c l) refl b y))))
                (λ (y : holds (slot_at d (place u c)) b ≡ false). y)
                (true_or_false (holds (slot_at d (place u c)) b)) in
                ap (λ (x : Slot). holds x c) (rest (place u c) (place_away c i) q);
          }

  -- by a copyback unit
  pub claimed_told : SlotsStored d u b e → claimed_sets d.holders (slot_at d (place u b)) u b ≡ table 64 (holders_of e)
  unfolding claimed_sets holders_of
  claimed_told o =
      told (vacated d.holders (slot_at d (place u b)) u b) (weight_of u) length_vacated
      (sym (units_alone (has b) u l (alone o.others o.rest) ∙ ap (λ (t : Bool). cond t (weight_of u) 0) (modified_holds _ b o.own)))
      (λ c h i. vacated_at (stored_beside o.others o.rest) c h i (ap (λ (x : Slot). holds x c) o.own ∙ other_modified b c i))

  -- by a write-through unit
  own_slot : SlotsThrough d u b e → slot_at e (place u b) ≡ slot_at d (place u b)
  unfolding place
  own_slot o = o.own (b % 16) (omega arith)

  pub through_told : SlotsThrough d u b e → through_sets d.holders u b (holds (slot_at e (place u b)) b) ≡ table 64 (holders_of e)
  unfolding through_sets holders_of
  through_told o =
      let r : (j : ℕ) → (j ≡ place u b → ⊥) → holds (slot_at d j) b ≡ false → slot_at e j ≡ slot_at d j = λ j n q. o.rest j q in
      told d.holders (cond (has b u) (weight_of u) 0) z
      (sym (units_alone (has b) u l (alone o.others r)))
      (λ c h i. sym (stays (stored_beside o.others r) c h i (ap (λ (x : Slot). holds x c) (own_slot o))))

  -- ---- a flush
  pub flushed_told : SlotsFlushed d u b e → holds (slot_at d (place u b)) b ≡ true → flushed_sets d.holders u b ≡ table 64 (holders_of e)
  unfolding flushed_sets holders_of
  flushed_told o y =
      told d.holders (get_or d.holders b 0 - weight_of u) z
      (let w : units_with (had b) ≡ units_with (has b) + weight_of u =
      units_but (had b) (has b) u l (λ v m i. sym (same b v i)) y (ap (λ (x : Slot). holds x b) o.own ∙ holds_invalid b) in
      rw (before b g) (omega arith))
      (λ c h i. sym (stays flushed_beside c h i (ap (λ (x : Slot). holds x c) o.own ∙ holds_invalid c ∙ sym (not_other (slot_at d (place u b)) b c i y))))
    where
      same : (c v : ℕ) → (v ≡ u → ⊥) → has c v ≡ had c v
      same c v i = ap (λ (x : Slot). holds x c) (o.rest (place v c) (place_far v c i))

      flushed_beside : Beside
      flushed_beside =
          record {
            others = λ c v h k m i. same c v i;
            elsewhere = λ c h k i. ap (λ (x : Slot). holds x c) (o.rest (place u c) (place_away c i));
          }

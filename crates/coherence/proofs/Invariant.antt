-- What the machine keeps, beside a plain memory: the rules of the directory and its settings; each held copy is the plain memory's block; a block
-- that no unit has EM is the plain memory's in memory; and under a block that a unit has EM, memory has what the plain memory had when that unit took
-- it.
use mathlib.Core.Path.{◌≡◌, sym, ◌∙◌}
use mathlib.Core.List.{List}
use mathlib.Core.Bool.{true, false, false≢true}
use mathlib.Core.Logic.{◌⊎◌, inl, inr, ⊎_elim}
use Prim.Native.Nat.{ℕ, ◌/◌, ◌%◌, ◌<◌}
use lib.ListN.{length}
use Rattle.coherence.specs.declared.Slot.{Slot}
use Rattle.coherence.specs.declared.Slot.TheVariants.{Modified}
use Rattle.coherence.specs.declared.Settings.{Settings}
use Rattle.coherence.specs.declared.Directory.{Directory}
use Rattle.coherence.specs.Bytes.{block_at}
use Rattle.coherence.specs.Settings.{through}
use Rattle.coherence.specs.Slots.{slot_at, set_slot, holds, modified, kept}
use Rattle.coherence.proofs.Cases.{eq_or_ne, true_or_false}
use Rattle.coherence.proofs.HolderLaws.{Sets, sets_kept}
use Rattle.coherence.proofs.SlotLaws.{size, size_set, slot_same, slot_other, set_settings, modified_is, is_modified, modified_holds}

-- the plain memory as it stands, each block of it as it stood when it was last taken, and the settings that were chosen
pub record Beside : Type 0 where
  pub plain : List ℕ
  pub taken : ℕ → List ℕ
  pub settings : Settings

-- of the directory alone, with the settings g
pub record Lawful (g : Settings) (d : Directory) : Type 0 where
  pub chosen : d.settings ≡ g
  pub slots : size d ≡ 64
  pub placed : (n b : ℕ) → holds (slot_at d n) b ≡ true → (n < 64) × (b < 64) × (b % 16 ≡ n % 16)
  pub lone : (n j b : ℕ) → slot_at d n ≡ Modified b → holds (slot_at d j) b ≡ true → j ≡ n
  pub kinds : (n b : ℕ) → slot_at d n ≡ Modified b → through g (n / 16) ≡ false

pub record Inv (p : Beside) (d : Directory) (m c : List ℕ) : Type 0 where
  pub lawful : Lawful p.settings d
  pub memory : length m ≡ 2048
  pub store : length c ≡ 2048
  pub copy : (n b : ℕ) → holds (slot_at d n) b ≡ true → block_at c n ≡ block_at p.plain b
  pub home : (b : ℕ) → b < 64 → ((n : ℕ) → slot_at d n ≡ Modified b → ⊥) → block_at m b ≡ block_at p.plain b
  pub under : (n b : ℕ) → slot_at d n ≡ Modified b → block_at m b ≡ p.taken b

-- between two calls
pub record Rests (p : Beside) (d : Directory) (m c : List ℕ) : Type 0 where
  pub inv : Inv p d m c
  pub sets : Sets d

-- the end of a call
pub rests : (p : Beside) (d : Directory) (m c : List ℕ) → Inv p d m c → Rests p (kept d) m c
unfolding kept slot_at size
rests p d m c i =
    record {
      inv =
          record {
            lawful =
                record {
                  chosen = i.lawful.chosen;
                  slots = i.lawful.slots;
                  placed = i.lawful.placed;
                  lone = i.lawful.lone;
                  kinds = i.lawful.kinds;
                };
            memory = i.memory;
            store = i.store;
            copy = i.copy;
            home = i.home;
            under = i.under;
          };
      sets = sets_kept d;
    }

-- slot n becomes x; its part of the cache store may change, and in memory the block that it had EM
pub record Change (p : Beside) (d : Directory) (m m' c c' : List ℕ) (n : ℕ) (x : Slot) : Type 0 where
  pub place : n < 64
  pub memory : length m' ≡ 2048
  pub store : length c' ≡ 2048
  pub others : (j : ℕ) → (j ≡ n → ⊥) → block_at c' j ≡ block_at c j
  pub fits : (b : ℕ) → holds x b ≡ true → (b < 64) × (b % 16 ≡ n % 16)
  pub copy : (b : ℕ) → holds x b ≡ true → block_at c' n ≡ block_at p.plain b
  pub taken : (b j : ℕ) → (j ≡ n → ⊥) → x ≡ Modified b → holds (slot_at d j) b ≡ true → ⊥
  pub owned : (b j : ℕ) → (j ≡ n → ⊥) → holds x b ≡ true → slot_at d j ≡ Modified b → ⊥
  pub kept : (b : ℕ) → (slot_at d n ≡ Modified b → ⊥) → block_at m' b ≡ block_at m b
  pub home : (b : ℕ) → b < 64 → slot_at d n ≡ Modified b → (x ≡ Modified b → ⊥) → block_at m' b ≡ block_at p.plain b
  pub under : (b : ℕ) → x ≡ Modified b → block_at m' b ≡ p.taken b
  pub kind : (b : ℕ) → x ≡ Modified b → through p.settings (n / 16) ≡ false

module _ (p : Beside) (d : Directory) (m m' c c' : List ℕ) (n : ℕ) (x : Slot) (i : Inv p d m c) (h : Change p d m m' c c' n x) where
  same : slot_at (set_slot d n x) n ≡ x
  same = slot_same d n x (rw i.lawful.slots h.place)

  change_placed : (j b : ℕ) → holds (slot_at (set_slot d n x) j) b ≡ true → (j < 64) × (b < 64) × (b % 16 ≡ j % 16)
  change_placed j b t = go (eq_or_ne j n)
    where
      go : (j ≡ n) ⊎ (j ≡ n → ⊥) → (j < 64) × (b < 64) × (b % 16 ≡ j % 16)
      go (inl q) =
          let r : holds x b ≡ true = rw (q, same) at t in
          (rw q h.place, (h.fits b r).0, rw q (h.fits b r).1)
      go (inr q) = i.lawful.placed j b (rw (slot_other d n j x q) at t)

  change_lone : (k j b : ℕ) → slot_at (set_slot d n x) k ≡ Modified b → holds (slot_at (set_slot d n x) j) b ≡ true → j ≡ k
  change_lone k j b s t = go (eq_or_ne k n) (eq_or_ne j n)
    where
      go : (k ≡ n) ⊎ (k ≡ n → ⊥) → (j ≡ n) ⊎ (j ≡ n → ⊥) → j ≡ k
      go (inl q) (inl r) = r ∙ sym q
      go (inl q) (inr r) = absurd (h.taken b j r (rw (q, same) at s) (rw (slot_other d n j x r) at t))
      go (inr q) (inl r) = absurd (h.owned b k q (rw (r, same) at t) (rw (slot_other d n k x q) at s))
      go (inr q) (inr r) = i.lawful.lone k j b (rw (slot_other d n k x q) at s) (rw (slot_other d n j x r) at t)

  change_copy : (j b : ℕ) → holds (slot_at (set_slot d n x) j) b ≡ true → block_at c' j ≡ block_at p.plain b
  change_copy j b t = go (eq_or_ne j n)
    where
      go : (j ≡ n) ⊎ (j ≡ n → ⊥) → block_at c' j ≡ block_at p.plain b
      go (inl q) = rw q (h.copy b (rw (q, same) at t))
      go (inr q) = h.others j q ∙ i.copy j b (rw (slot_other d n j x q) at t)

  change_home : (b : ℕ) → b < 64 → ((k : ℕ) → slot_at (set_slot d n x) k ≡ Modified b → ⊥) → block_at m' b ≡ block_at p.plain b
  change_home b l f = go (true_or_false (modified (slot_at d n) b))
    where
      go : (modified (slot_at d n) b ≡ true) ⊎ (modified (slot_at d n) b ≡ false) → block_at m' b ≡ block_at p.plain b
      go (inl t) = h.home b l (modified_is (slot_at d n) b t) (λ q. f n (same ∙ q))
      go (inr t) =
          let not : slot_at d n ≡ Modified b → ⊥ = λ s. false≢true (sym t ∙ is_modified (slot_at d n) b s) in
          h.kept b not
          ∙ i.home b l (λ k s. ⊎_elim (λ q. not (rw q at s)) (λ q. f k (slot_other d n k x q ∙ s)) (eq_or_ne k n))

  change_under : (j b : ℕ) → slot_at (set_slot d n x) j ≡ Modified b → block_at m' b ≡ p.taken b
  change_under j b s = go (eq_or_ne j n)
    where
      go : (j ≡ n) ⊎ (j ≡ n → ⊥) → block_at m' b ≡ p.taken b
      go (inl q) = h.under b (rw (q, same) at s)
      go (inr q) =
          let r : slot_at d j ≡ Modified b = rw (slot_other d n j x q) at s in
          h.kept b (λ z. q (sym (i.lawful.lone j n b r (modified_holds _ b z)))) ∙ i.under j b r

  change_kinds : (j b : ℕ) → slot_at (set_slot d n x) j ≡ Modified b → through p.settings (j / 16) ≡ false
  change_kinds j b s = go (eq_or_ne j n)
    where
      go : (j ≡ n) ⊎ (j ≡ n → ⊥) → through p.settings (j / 16) ≡ false
      go (inl q) = rw q (h.kind b (rw (q, same) at s))
      go (inr q) = i.lawful.kinds j b (rw (slot_other d n j x q) at s)

  pub change : Inv p (set_slot d n x) m' c'
  change =
      record {
        lawful =
            record {
              chosen = set_settings d n x ∙ i.lawful.chosen;
              slots = size_set d n x ∙ i.lawful.slots;
              placed = change_placed;
              lone = change_lone;
              kinds = change_kinds;
            };
        memory = h.memory;
        store = h.store;
        copy = change_copy;
        home = change_home;
        under = change_under;
      }

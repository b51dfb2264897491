-- The sets of holders that a call leaves are those of its slots.
use mathlib.Core.Path.{◌≡◌, refl, sym, ap, ◌∙◌}
use mathlib.Core.Bool.{Bool, true, false, false≢true}
use mathlib.Core.Logic.{⊎_elim}
use mathlib.Core.List.{List}
use Prim.Native.Nat.{ℕ, ◌/◌, ◌<◌}
use native.Mathlib.Omega.{arith}
use lib.ListN.{length}
use Rattle.coherence.specs.declared.Slot.TheVariants.{Shared, Modified}
use Rattle.coherence.specs.declared.Entry.{Entry}
use Rattle.coherence.specs.declared.Directory.{Directory}
use Rattle.coherence.specs.declared.Call.TheVariants.{Load, Store, Flush}
use Rattle.coherence.specs.Settings.{through}
use Rattle.coherence.specs.Slots.{place, slot_at, holds, modified, owner_of, holders_of, table, kept}
use Rattle.coherence.specs.Access.{Run, ready}
use Rattle.coherence.specs.Refusal.{is_address}
use Rattle.coherence.specs.Calls.{refusal, act, answer}
use Rattle.coherence.specs.Sentences.{SlotsLoaded, SlotsStored, SlotsThrough, SlotsFlushed, SentencesHold}
use Rattle.coherence.proofs.SlotLaws.{size, holds_is, is_modified}
use Rattle.coherence.proofs.HolderLaws.{kept_same}
use Rattle.coherence.proofs.Rules.{sound_sets_lem}
use Rattle.coherence.proofs.Sentences.{sentences}
use Rattle.slots.specs.Directory.{expelled_at_once, yielded_directory}
use Rattle.slots.proofs.OfSlots.{with, of_expelled}
use Rattle.orders.specs.Orders.{directory_of}
use Rattle.holder_sets.specs.Sets.{fetched_sets, claimed_sets, flushed_sets, through_sets}
use Rattle.holder_sets.proofs.SetLaws.{fetched_told, claimed_told, through_told, flushed_told}
use Rattle.write_through.specs.Through.{through_directory, through_left}
use Rattle.machine.proofs.Refusals.{Known, address_of}
use Rattle.machine.proofs.Calls.{directory_left_lem}

-- a directory of 64 slots is of size 64
pub whole : (d : Directory) → length d.slots ≡ 64 → size d ≡ 64
unfolding size
whole d h = h

-- slots, settings and sets put together
pub settled : (d : Directory) {e : Directory} {l : List Entry} {h : List ℕ} → with l d ≡ e → h ≡ table 64 (holders_of e) → directory_of l d.settings h ≡ kept e
unfolding kept
settled d {e} {l} {h} p q =
    let r : h ≡ table 64 (holders_of (with l d)) = q ∙ ap (λ (x : Directory). table 64 (holders_of x)) (sym p) in
    ap (directory_of l d.settings) r ∙ ap kept p

-- a call that changes no slot
pub unchanged : (d : Directory) (m k : List ℕ) (u : ℕ) (good : Bool) → Known d m k u good → length d.holders ≡ 64 → d ≡ kept d
unchanged d m k u good q z = sym (kept_same d (record { number = z; agree = λ b l. sound_sets_lem d b q.sound l }))

-- a call that changes some
module _ (d : Directory) (m k : List ℕ) (z : size d ≡ 64) (z₂ : length d.holders ≡ 64) where
  module _ (u a : ℕ) (q : Known d m k u (is_address a)) where
    abbrev b : ℕ
    b = a / 32

    block_lt : b < 64
    block_lt = omega (arith, (address_of a q.target).1)

    pub load_sets : {w : Run} → refusal d m k (Load u a) ≡ 0 → act (Load u a) (ready d m k) ≡ w → holds (slot_at d (place u b)) b ≡ false
        → fetched_sets d.holders (slot_at d (place u b)) u b ≡ table 64 (holders_of w.directory)
    unfolding SentencesHold size answer kept holders_of slot_at
    load_sets {w} r does n =
        let o : SlotsLoaded d u b (kept w.directory) = rw (directory_left_lem d m k (Load u a) r does) at ((sentences d m k z z₂).load_missed u a r n).slots in
        fetched_told d (kept w.directory) u b q.unit block_lt q.sound z₂ o n

    module _ (v : ℕ) {w : Run} (r : refusal d m k (Store u a v) ≡ 0) (does : act (Store u a v) (ready d m k) ≡ w) where
      claimed_sets_lem : SlotsStored d u b (kept w.directory) → claimed_sets d.holders (slot_at d (place u b)) u b ≡ table 64 (holders_of w.directory)
      unfolding kept holders_of slot_at
      claimed_sets_lem o = claimed_told d (kept w.directory) u b q.unit block_lt q.sound z₂ o

      pub shared_sets : through d.settings u ≡ false → modified (slot_at d (place u b)) b ≡ false → holds (slot_at d (place u b)) b ≡ true
          → claimed_sets d.holders (slot_at d (place u b)) u b ≡ table 64 (holders_of w.directory)
      unfolding SentencesHold size answer
      shared_sets t g h =
          let x : slot_at d (place u b) ≡ Shared b = ⊎_elim
          (λ (y : slot_at d (place u b) ≡ Shared b). y)
          (λ (y : slot_at d (place u b) ≡ Modified b). absurd (false≢true (sym g ∙ is_modified _ b y)))
          (holds_is _ b h) in
          claimed_sets_lem (rw (directory_left_lem d m k (Store u a v) r does) at ((sentences d m k z z₂).store_shared u a v r t x).slots)

      pub missed_sets : through d.settings u ≡ false → holds (slot_at d (place u b)) b ≡ false → claimed_sets d.holders (slot_at d (place u b)) u b ≡ table 64 (holders_of w.directory)
      unfolding SentencesHold size answer
      missed_sets t h = claimed_sets_lem (rw (directory_left_lem d m k (Store u a v) r does) at ((sentences d m k z z₂).store_missed u a v r t h).slots)

      through_sets_lem : through d.settings u ≡ true → through_sets d.holders u b (holds (slot_at w.directory (place u b)) b) ≡ table 64 (holders_of w.directory)
      unfolding SentencesHold size answer kept holders_of slot_at
      through_sets_lem t =
          let o : SlotsThrough d u b (kept w.directory) = rw (directory_left_lem d m k (Store u a v) r does) at ((sentences d m k z z₂).store_through u a v r t).slots in
          through_told d (kept w.directory) u b q.unit block_lt q.sound z₂ o

  module _ (u b : ℕ) {good : Bool} (q : Known d m k u good) (g : b < 64) where
    pub flush_sets : {w : Run} → refusal d m k (Flush u b) ≡ 0 → act (Flush u b) (ready d m k) ≡ w → holds (slot_at d (place u b)) b ≡ true
        → flushed_sets d.holders u b ≡ table 64 (holders_of w.directory)
    unfolding SentencesHold size answer kept holders_of slot_at
    flush_sets {w} r does h =
        let o : SlotsFlushed d u b (kept w.directory) = ⊎_elim
        (λ (y : slot_at d (place u b) ≡ Shared b). rw (directory_left_lem d m k (Flush u b) r does) at ((sentences d m k z z₂).flush_shared u b r y).slots)
        (λ (y : slot_at d (place u b) ≡ Modified b). rw (directory_left_lem d m k (Flush u b) r does) at ((sentences d m k z z₂).flush_modified u b r y).slots)
        (holds_is _ b h) in
        flushed_told d (kept w.directory) u b q.unit g q.sound z₂ o h

-- a write-through unit's store
through_with : (d : Directory) (u b : ℕ) → with (through_directory u b d).slots d ≡ through_directory u b d
unfolding through_directory
through_with d u b =
    let p : with _ d ≡ expelled_at_once u b (yielded_directory b (owner_of d b) d) = of_expelled d u b (owner_of d b) refl refl in
    ap (λ (e : Directory). with e.slots d) (sym p) ∙ p

pub through_kept : (d : Directory) (m k : List ℕ) → size d ≡ 64 → length d.holders ≡ 64 → (u a v : ℕ) → Known d m k u (is_address a)
    → refusal d m k (Store u a v) ≡ 0 → {w : Run} → act (Store u a v) (ready d m k) ≡ w → w.directory ≡ through_directory u (a / 32) d → through d.settings u ≡ true
    → through_left u (a / 32) d ≡ kept (through_directory u (a / 32) d)
unfolding through_left
through_kept d m k z z₂ u a v q r {w} does e t = settled d (through_with d u (a / 32)) (rw e at (through_sets_lem d m k z z₂ u a q v r does t))

-- A call leaves a directory of as many slots as it found, with the same settings, and with 64 sets of holders if it found as many.
use Prim.Native.Nat.{ℕ, ◌/◌}
use mathlib.Core.Path.{◌≡◌, refl, ap, ◌∙◌}
use mathlib.Core.Bool.{Bool, true, false, cond, not, ◌&&◌}
use mathlib.Core.List.{List}
use lib.ListN.{length, length-set}
use Rattle.order.specs.declared.Command.{Command}
use Rattle.order.specs.declared.Command.TheVariants.{Read, ModifiedRead, Invalidate, MemoryWrite}
use Rattle.coherence.specs.declared.Slot.{Slot}
use Rattle.coherence.specs.declared.Slot.TheVariants.{Invalid, Shared, Modified}
use Rattle.coherence.specs.declared.Settings.{Settings}
use Rattle.coherence.specs.declared.Directory.{Directory}
use Rattle.coherence.specs.Settings.{through}
use Rattle.coherence.specs.declared.Call.{Call}
use Rattle.coherence.specs.declared.Call.TheVariants.{Load, Store, Flush}
use Rattle.coherence.specs.Slots.{place, slot_at, set_slot, holds, modified, kept, owner_of}
use Rattle.coherence.specs.Access.{Run, ready, give, mark, write_back, copyback, emptied, empty, yield, stolen, asked, ask, fill, fetch, each_unit, expel, claim, write, load, own, write_through, store_through, store, flush}
use Rattle.coherence.specs.Calls.{act, refusal, settle, after, answer}
use lib.Dec.{ltb, eqb}
use Rattle.coherence.proofs.Counts.{own_is}
use Rattle.coherence.proofs.HolderLaws.{length_kept}

abbrev Shape : Type 0
Shape = ℕ × Settings

abbrev shape : Run → Shape
shape w = (length w.directory.slots, w.directory.settings)

either : (t : Bool) (w v : Run) (n : Shape) → shape w ≡ n → shape v ≡ n → shape (cond t w v) ≡ n
either true w v n p q = p
either false w v n p q = q

mark_shape : (n : ℕ) (x : Slot) (w : Run) → shape (mark n x w) ≡ shape w
unfolding mark set_slot
mark_shape n x w = ap (λ (k : ℕ). (k, w.directory.settings)) (length-set w.directory.slots n (record { slot = x }))

copyback_shape : (u n b : ℕ) (w : Run) → shape (copyback u n b w) ≡ shape w
unfolding copyback write_back give
copyback_shape u n b w = mark_shape n (Shared b) _

emptied_shape : (u n : ℕ) (x : Slot) (w : Run) → shape (emptied u n x w) ≡ shape w
unfolding emptied
emptied_shape u n Invalid w = refl
emptied_shape u n (Shared b) w = mark_shape n Invalid w
emptied_shape u n (Modified b) w = mark_shape n Invalid (copyback u n b w) ∙ copyback_shape u n b w

empty_shape : (u n : ℕ) (w : Run) → shape (empty u n w) ≡ shape w
unfolding empty
empty_shape u n w = emptied_shape u n (slot_at w.directory n) w

give_shape : (u : ℕ) (k : Command) (b : ℕ) (t : Bool) (w : Run) → shape (give u k b t w) ≡ shape w
unfolding give
give_shape u k b t w = refl

yield_shape : (u : ℕ) (k : Command) (b v : ℕ) (w : Run) → shape (yield u k b v w) ≡ shape w
unfolding yield
yield_shape u k b v w =
    either (ltb v 4) (copyback v (place v b) b (give u k b true w)) w (shape w)
    (copyback_shape v (place v b) b (give u k b true w) ∙ give_shape u k b true w) refl

ask_shape : (u : ℕ) (k : Command) (b : ℕ) (w : Run) → shape (ask u k b w) ≡ shape w
unfolding ask asked
ask_shape u k b w =
    let v : ℕ = owner_of w.directory b in
    let y : Run = yield u k b v w in
    let s : shape y ≡ shape w = yield_shape u k b v w in
    either (stolen w.directory.settings k v) y (give u k b false y) (shape w) s (give_shape u k b false y ∙ s)

fetch_shape : (u : ℕ) (k : Command) (b : ℕ) (w : Run) → shape (fetch u k b w) ≡ shape w
unfolding fetch fill set_slot
fetch_shape u k b w =
    let e : Run = empty u (place u b) w in
    let a : Run = ask u k b e in
    ap (λ (n : ℕ). (n, a.directory.settings)) (length-set a.directory.slots (place u b) (record { slot = Shared b }))
    ∙ ask_shape u k b e
    ∙ empty_shape u (place u b) w

expel_shape : (u b v : ℕ) (w : Run) → shape (expel u b v w) ≡ shape w
unfolding expel
expel_shape u b v w = either (not (eqb v u) && holds (slot_at w.directory (place v b)) b) (mark (place v b) Invalid w) w (shape w) (mark_shape (place v b) Invalid w) refl

each_shape : (u b : ℕ) (w : Run) → shape (each_unit (expel u b) w) ≡ shape w
unfolding each_unit
each_shape u b w =
    let w₀ : Run = expel u b 0 w in
    let w₁ : Run = expel u b 1 w₀ in
    let w₂ : Run = expel u b 2 w₁ in
    expel_shape u b 3 w₂ ∙ expel_shape u b 2 w₁ ∙ expel_shape u b 1 w₀ ∙ expel_shape u b 0 w

claim_shape : (u b : ℕ) (w : Run) → shape (claim u b w) ≡ shape w
unfolding claim
claim_shape u b w = mark_shape (place u b) (Modified b) (each_unit (expel u b) w) ∙ each_shape u b w

own_shape : (u b : ℕ) (w : Run) → shape (own u b w) ≡ shape w
own_shape u b w =
    let x : Slot = slot_at w.directory (place u b) in
    let got : Run = cond (holds x b) (give u Invalidate b false w) (fetch u ModifiedRead b w) in
    ap (λ (v : Run). shape v) (own_is u b w)
    ∙ either (modified x b) w (claim u b got) (shape w) refl
    (claim_shape u b got
    ∙ either (holds x b) (give u Invalidate b false w) (fetch u ModifiedRead b w) (shape w) (give_shape u Invalidate b false w) (fetch_shape u ModifiedRead b w))

through_shape : (u a v : ℕ) (w : Run) → shape (store_through u a v w) ≡ shape w
unfolding store_through write_through
through_shape u a v w = each_shape u (a / 32) (ask u MemoryWrite (a / 32) w) ∙ ask_shape u MemoryWrite (a / 32) w

act_shape : (c : Call) (w : Run) → shape (act c w) ≡ shape w
unfolding act load store write flush
act_shape (Load u a) w = either (holds (slot_at w.directory (place u (a / 32))) (a / 32)) w (fetch u Read (a / 32) w) (shape w) refl (fetch_shape u Read (a / 32) w)
act_shape (Store u a v) w =
    either (through w.directory.settings u) (store_through u a v w) (write u a v (own u (a / 32) w)) (shape w)
    (through_shape u a v w) (own_shape u (a / 32) w)
act_shape (Flush u b) w = either (holds (slot_at w.directory (place u b)) b) (empty u (place u b) w) w (shape w) (empty_shape u (place u b) w) refl

after_shape : (d : Directory) (m k : List ℕ) (c : Call) → shape (after d m k c) ≡ shape (ready d m k)
unfolding after settle kept
after_shape d m k c =
    either (eqb (refusal d m k c) 0) (settle (act c (ready d m k))) (ready d m k) (shape (ready d m k)) (act_shape c (ready d m k)) refl

pub answer_slots : (d : Directory) (m k : List ℕ) (c : Call) → length (answer d m k c).directory.slots ≡ length d.slots
unfolding answer ready
answer_slots d m k c = ap (λ (x : Shape). x.0) (after_shape d m k c)

pub answer_settings : (d : Directory) (m k : List ℕ) (c : Call) → (answer d m k c).directory.settings ≡ d.settings
unfolding answer ready
answer_settings d m k c = ap (λ (x : Shape). x.1) (after_shape d m k c)

pub answer_sets : (d : Directory) (m k : List ℕ) (c : Call) → length d.holders ≡ 64 → length (answer d m k c).directory.holders ≡ 64
unfolding answer after settle ready
answer_sets d m k c e = go (eqb (refusal d m k c) 0)
  where
    go : (t : Bool) → length (cond t (settle (act c (ready d m k))) (ready d m k)).directory.holders ≡ 64
    go true = length_kept (act c (ready d m k)).directory
    go false = e

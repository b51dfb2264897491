-- A call gives at most four orders, whatever the directory and the stores, and they are the ones in its answer; a refused call gives none.
use mathlib.Core.Path.{◌≡◌, refl, ap, ◌∙◌}
use mathlib.Core.List.{List, [], ◌∷◌, ◌++◌}
use mathlib.Core.Bool.{Bool, true, false, cond, not, ◌&&◌}
use Prim.Native.Nat.{ℕ, ◌+◌, ◌/◌, ◌≤◌}
use native.Mathlib.Omega.{arith}
use lib.ListN.{length, take, replicate, length-append}
use borrow.Author.Tests.{ne_eqb}
use lib.Dec.{ltb, eqb}
use Rattle.coherence.specs.declared.Slot.{Slot}
use Rattle.coherence.specs.declared.Slot.TheVariants.{Invalid, Shared, Modified}
use Rattle.order.specs.declared.Order.{Order}
use Rattle.order.specs.declared.Command.{Command}
use Rattle.order.specs.declared.Command.TheVariants.{Read, ModifiedRead, Invalidate, Copyback, MemoryWrite}
use Rattle.coherence.specs.Settings.{through}
use Rattle.coherence.specs.Slots.{place, slot_at, holds, modified, owner_of}
use Rattle.coherence.specs.Access.{Run, ready, give, mark, write_back, copyback, emptied, empty, each_unit, yield, stolen, asked, ask, fill, fetch, expel, claim, write, load, own, write_through, store_through, store, flush}
use Rattle.coherence.specs.declared.Directory.{Directory}
use Rattle.coherence.specs.declared.Call.{Call}
use Rattle.coherence.specs.declared.Call.TheVariants.{Load, Store, Flush}
use Rattle.coherence.specs.Calls.{act, refusal, settle, after, value_of, no_order, packed, answer, memory_after, cache_after}
use Rattle.coherence.specs.Demand3.{orders_in, AnswersOrders, Refused}

-- the orders given so far
abbrev pub given : Run → ℕ
given w = length w.orders

pub give_given : (u : ℕ) (k : Command) (b : ℕ) (t : Bool) (w : Run) → given (give u k b t w) ≡ given w + 1
unfolding give
give_given u k b t w = simp length-append

pub copyback_given : (u n b : ℕ) (w : Run) → given (copyback u n b w) ≡ given w + 1
unfolding copyback mark write_back
copyback_given u n b w = give_given u Copyback b false w

pub empty_given : (u n : ℕ) (w : Run) → given (empty u n w) ≤ given w + 1
unfolding empty emptied mark
empty_given u n w = go (slot_at w.directory n)
  where
    go : (x : Slot) → given (emptied u n x w) ≤ given w + 1
    go Invalid = omega arith
    go (Shared b) = omega arith
    go (Modified b) = omega (arith, copyback_given u n b w)

pub yield_given : (u : ℕ) (k : Command) (b v : ℕ) (w : Run) → given (yield u k b v w) ≤ given w + 2
unfolding yield
yield_given u k b v w = go (ltb v 4)
  where
    go : (t : Bool) → given (cond t (copyback v (place v b) b (give u k b true w)) w) ≤ given w + 2
    go true = omega (arith, copyback_given v (place v b) b (give u k b true w), give_given u k b true w)
    go false = omega arith

pub ask_given : (u : ℕ) (k : Command) (b : ℕ) (w : Run) → given (ask u k b w) ≤ given w + 3
unfolding ask asked
ask_given u k b w = go (stolen w.directory.settings k (owner_of w.directory b))
  where
    y : Run
    y = yield u k b (owner_of w.directory b) w

    go : (t : Bool) → given (cond t y (give u k b false y)) ≤ given w + 3
    go true = omega (arith, yield_given u k b (owner_of w.directory b) w)
    go false = omega (arith, give_given u k b false y, yield_given u k b (owner_of w.directory b) w)

pub fetch_given : (u : ℕ) (k : Command) (b : ℕ) (w : Run) → given (fetch u k b w) ≤ given w + 4
unfolding fetch fill
fetch_given u k b w = omega (arith, ask_given u k b (empty u (place u b) w), empty_given u (place u b) w)

expel_given : (u b v : ℕ) (w : Run) → given (expel u b v w) ≡ given w
unfolding expel mark
expel_given u b v w = go (not (eqb v u) && holds (slot_at w.directory (place v b)) b)
  where
    go : (t : Bool) → given (cond t (mark (place v b) Invalid w) w) ≡ given w
    go true = refl
    go false = refl

expel_all_given : (u b : ℕ) (w : Run) → given (each_unit (expel u b) w) ≡ given w
unfolding each_unit
expel_all_given u b w = expel_given u b 3 _ ∙ expel_given u b 2 _ ∙ expel_given u b 1 _ ∙ expel_given u b 0 w

pub claim_given : (u b : ℕ) (w : Run) → given (claim u b w) ≡ given w
unfolding claim mark
claim_given u b w = expel_all_given u b w

-- what a store of a copyback board does with its block; the other proofs cite this, so that no two long runs are compared
pub own_is : (u b : ℕ) (w : Run)
    → own u b w
    ≡ cond (modified (slot_at w.directory (place u b)) b) w
    (claim u b (cond (holds (slot_at w.directory (place u b)) b) (give u Invalidate b false w) (fetch u ModifiedRead b w)))
unfolding own
own_is u b w = refl

pub own_given : (u b : ℕ) (w : Run) → given (own u b w) ≤ given w + 4
own_given u b w = rw (own_is u b w) (go (modified (slot_at w.directory (place u b)) b) (holds (slot_at w.directory (place u b)) b))
  where
    w₁ : Run
    w₁ = give u Invalidate b false w

    w₂ : Run
    w₂ = fetch u ModifiedRead b w

    go : (s t : Bool) → given (cond s w (claim u b (cond t w₁ w₂))) ≤ given w + 4
    go true t = omega arith
    go false true = omega (arith, claim_given u b w₁, give_given u Invalidate b false w)
    go false false = omega (arith, claim_given u b w₂, fetch_given u ModifiedRead b w)

pub store_given : (u a v : ℕ) (w : Run) → given (store u a v w) ≤ given w + 4
unfolding store store_through write_through write
store_given u a v w = go (through w.directory.settings u)
  where
    w₁ : Run
    w₁ = ask u MemoryWrite (a / 32) w

    go : (t : Bool) → given (cond t (write_through u a v (each_unit (expel u (a / 32)) w₁)) (write u a v (own u (a / 32) w))) ≤ given w + 4
    go true = omega (arith, expel_all_given u (a / 32) w₁, ask_given u MemoryWrite (a / 32) w)
    go false = own_given u (a / 32) w

pub load_given : (u a : ℕ) (w : Run) → given (load u a w) ≤ given w + 4
unfolding load
load_given u a w = go (holds (slot_at w.directory (place u (a / 32))) (a / 32))
  where
    go : (t : Bool) → given (cond t w (fetch u Read (a / 32) w)) ≤ given w + 4
    go true = omega arith
    go false = fetch_given u Read (a / 32) w

pub flush_given : (u b : ℕ) (w : Run) → given (flush u b w) ≤ given w + 1
unfolding flush
flush_given u b w = go (holds (slot_at w.directory (place u b)) b)
  where
    go : (t : Bool) → given (cond t (empty u (place u b) w) w) ≤ given w + 1
    go true = empty_given u (place u b) w
    go false = omega arith

-- ---- a call's orders
pub act_given : (c : Call) (w : Run) → given (act c w) ≤ given w + 4
unfolding act
act_given (Load u a) w = load_given u a w
act_given (Store u a v) w = store_given u a v w
act_given (Flush u b) w = omega (arith, flush_given u b w)

ready_given : (d : Directory) (m k : List ℕ) → given (ready d m k) ≡ 0
unfolding ready
ready_given d m k = refl

pub after_given : (d : Directory) (m k : List ℕ) (c : Call) → given (after d m k c) ≤ 4
unfolding after settle
after_given d m k c = go (eqb (refusal d m k c) 0)
  where
    go : (t : Bool) → given (cond t (settle (act c (ready d m k))) (ready d m k)) ≤ 4
    go true = omega (arith, act_given c (ready d m k), ready_given d m k)
    go false = omega (arith, ready_given d m k)

after_refused : (d : Directory) (m k : List ℕ) (c : Call) → eqb (refusal d m k c) 0 ≡ false → after d m k c ≡ ready d m k
unfolding after
after_refused d m k c t = rw t

-- ---- as the answer has them
take_front : (os : List Order) → length os ≤ 4 → take (length os) (take 4 (os ++ replicate 4 no_order)) ≡ os
take_front [] h = refl
take_front (a ∷ []) h = refl
take_front (a ∷ b ∷ []) h = refl
take_front (a ∷ b ∷ c ∷ []) h = refl
take_front (a ∷ b ∷ c ∷ d ∷ []) h = refl
take_front (a ∷ b ∷ c ∷ d ∷ e ∷ os) h = absurd (omega arith)

-- the orders in a call's answer are the ones that it gave
pub orders_in_lem : (d : Directory) (m k : List ℕ) (c : Call) → orders_in (answer d m k c) ≡ (after d m k c).orders
unfolding orders_in answer packed
orders_in_lem d m k c = take_front (after d m k c).orders (after_given d m k c)

pub answers_orders : (d : Directory) (m k : List ℕ) (c : Call) → AnswersOrders d m k c
unfolding answer packed
answers_orders d m k c =
    record { few = after_given d m k c; counted = ap (λ (os : List Order). length os) (orders_in_lem d m k c); rules = orders_in_lem d m k c }

-- ---- a refused call
ready_left : (d : Directory) (m k : List ℕ)
    → ((ready d m k).orders ≡ []) × ((ready d m k).directory ≡ d) × ((ready d m k).memory ≡ m) × ((ready d m k).cache ≡ k)
unfolding ready
ready_left d m k = (refl, refl, refl, refl)

pub refused : (d : Directory) (m k : List ℕ) (c : Call) → ((answer d m k c).refusal ≡ 0 → ⊥) → Refused d m k c
unfolding answer value_of memory_after cache_after
refused d m k c n =
    let t : eqb (refusal d m k c) 0 ≡ false = ne_eqb (refusal d m k c) 0 n in
    let e : after d m k c ≡ ready d m k = after_refused d m k c t in
    record {
      value = rw t;
      orders = orders_in_lem d m k c ∙ ap (λ (w : Run). w.orders) e ∙ (ready_left d m k).0;
      directory = ap (λ (w : Run). w.directory) e ∙ (ready_left d m k).1;
      memory = ap (λ (w : Run). w.memory) e ∙ (ready_left d m k).2;
      cache = ap (λ (w : Run). w.cache) e ∙ (ready_left d m k).3;
    }

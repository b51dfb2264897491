-- An access part by part: the directory, the stores and the orders after each action, and after a whole access.
use mathlib.Core.Path.{◌≡◌, refl, sym, ap, ◌∙◌}
use mathlib.Core.Bool.{Bool, true, false, cond, ◌&&◌, and-true, and-false, false≢true}
use mathlib.Core.List.{List, [], ◌∷◌, ◌++◌, append_assoc}
use Prim.Native.Nat.{ℕ, ◌+◌, ◌/◌, ◌≤◌, ◌<◌}
use native.Mathlib.Omega.{arith}
use lib.Dec.{ltb}
use lib.ListN.{length}
use borrow.Author.Tests.{ltb-true}
use Rattle.order.specs.declared.Command.{Command}
use Rattle.order.specs.declared.Command.TheVariants.{Read, ModifiedRead, Invalidate, Copyback, MemoryWrite}
use Rattle.order.specs.declared.Order.{Order}
use Rattle.coherence.specs.declared.Slot.{Slot}
use Rattle.coherence.specs.declared.Slot.TheVariants.{Invalid, Shared, Modified}
use Rattle.coherence.specs.declared.Settings.{Settings}
use Rattle.coherence.specs.declared.Directory.{Directory}
use Rattle.coherence.specs.Settings.{through}
use Rattle.coherence.specs.Bytes.{block_at, put_block, word_at, put_word}
use Rattle.coherence.specs.Refusal.{is_address}
use Rattle.coherence.specs.Slots.{place, slot_at, set_slot, block_of, holds, modified, owner_of}
use Rattle.coherence.specs.Access.{Run, ready, give, mark, write_back, copyback, emptied, empty, yield, reads, stolen, asked, ask, fill, fetch, each_unit, expel, own, write, cache_place, load, write_through, store_through, store, flush}
use Rattle.coherence.proofs.SlotLaws.{size, place_lt, holds_invalid}
use Rattle.slots.specs.Directory.{claimed_at_once, yielded_directory, fetched_directory}
use Rattle.orders.specs.Orders.{order, again, eviction_orders, ask_orders, fetch_orders}
use Rattle.blocks.specs.Moves.{copied, word_in, word_put, evicted_memory, yielded_memory, fetched_memory, fetched_cache}
use Rattle.write_through.specs.Through.{through_directory, through_memory, through_cache}
use Rattle.slots.proofs.Sets.{set_over, set_past, owner_past}
use Rattle.slots.proofs.Claims.{expel_is_all, claim_is}
use Rattle.blocks.proofs.StoreLaws.{copied_is, word_is, put_is, length_evicted, length_yielded, length_fetched}
use Rattle.machine.proofs.ClaimLaws.{claim_fetched}
use Rattle.machine.proofs.Refusals.{Sized, Known, address_of}

-- a machine by its parts
abbrev pub machine : Directory → List ℕ → List ℕ → List Order → Run
machine d m c os = record { directory = d; memory = m; cache = c; orders = os }

-- the directory once slot n, which is x, is emptied
unfoldable emptied_directory : ℕ → Slot → Directory → Directory
emptied_directory n Invalid d = d
emptied_directory n (Shared b) d = set_slot d n Invalid
emptied_directory n (Modified b) d = set_slot d n Invalid

not_modified_lem : (x : Slot) (b : ℕ) → holds x b ≡ false → modified x b ≡ false
unfolding holds modified
not_modified_lem Invalid b h = refl
not_modified_lem (Shared c) b h = refl
not_modified_lem (Modified c) b h = h

-- ---- stores of their size
-- a block of one goes to a block of the other
moved : (m c : List ℕ) (n b : ℕ) → Sized m c → n < 64 → b < 64 → copied c n m b ≡ put_block m b (block_at c n)
moved m c n b z l h =
    let p : n < length c / 32 = omega (arith, z.cache) in
    let q : b < length m / 32 = omega (arith, z.memory) in
    copied_is c m n b p q

-- ---- the actions
emptied_is : (u n : ℕ) (x : Slot) (d : Directory) (m c : List ℕ) → Sized m c → n < 64 → block_of x < 64
    → emptied u n x (machine d m c []) ≡ machine (emptied_directory n x d) (evicted_memory n x m c) c (eviction_orders u x)
unfolding block_of emptied emptied_directory evicted_memory eviction_orders mark copyback write_back give order
emptied_is u n Invalid d m c z l h = refl
emptied_is u n (Shared b) d m c z l h = refl
emptied_is u n (Modified b) d m c z l h =
    ap (λ (e : Directory). machine e (put_block m b (block_at c n)) c (order u Copyback b false ∷ [])) (set_over d n (Shared b) Invalid)
    ∙ ap (λ (m' : List ℕ). machine (set_slot d n Invalid) m' c (order u Copyback b false ∷ [])) (sym (moved m c n b z l h))

empty_is : (u n : ℕ) (d : Directory) (m c : List ℕ) → Sized m c → n < 64 → block_of (slot_at d n) < 64
    → empty u n (machine d m c []) ≡ machine (emptied_directory n (slot_at d n) d) (evicted_memory n (slot_at d n) m c) c (eviction_orders u (slot_at d n))
unfolding empty
empty_is u n d m c z l h = emptied_is u n (slot_at d n) d m c z l h

two : (os : List Order) (x y : Order) → os ++ (x ∷ []) ++ (y ∷ []) ≡ os ++ (x ∷ y ∷ [])
two os x y = simp append_assoc

three : (os : List Order) (x y z : Order) → os ++ (x ∷ []) ++ (y ∷ []) ++ (z ∷ []) ≡ os ++ (x ∷ y ∷ z ∷ [])
three os x y z = simp append_assoc

-- asking by the order k; t is whether it is stolen from a holder
ask_is : (t : Bool) (u : ℕ) (k : Command) (b : ℕ) (d : Directory) (m c : List ℕ) (os : List Order) → (d.settings.steal && reads k) ≡ t → Sized m c → b < 64
    → ask u k b (machine d m c os)
    ≡ machine (yielded_directory b (owner_of d b) d) (yielded_memory b (owner_of d b) m c) c (os ++ ask_orders t u k b (owner_of d b))
unfolding ask asked stolen give yield copyback mark write_back yielded_directory yielded_memory ask_orders again order
ask_is t u k b d m c os s z h = rw s (go (owner_of d b))
  where
    w : Run
    w = machine d m c os

    go : (v : ℕ)
        → cond (t && ltb v 4) (yield u k b v w) (give u k b false (yield u k b v w))
        ≡ machine (yielded_directory b v d) (yielded_memory b v m c) c (os ++ ask_orders t u k b v)
    go v = by (ltb v 4) refl t
      where
        left : Directory
        left = set_slot d (place v b) (Shared b)

        y : Run
        y = copyback v (place v b) b (give u k b true w)

        -- what memory then has, whatever the orders are
        to : ltb v 4 ≡ true → (rs : List Order) → machine left (put_block m b (block_at c (place v b))) c rs ≡ machine left (copied c (place v b) m b) c rs
        to e rs = ap (λ (m' : List ℕ). machine left m' c rs) (sym (moved m c (place v b) b z (place_lt v b (ltb-true v 4 e)) h))

        by : (p : Bool) → ltb v 4 ≡ p → (t : Bool)
            → cond (t && p) (cond p y w) (give u k b false (cond p y w))
            ≡ machine (cond p left d) (cond p (copied c (place v b) m b) m) c
            (os ++ cond p (order u k b true ∷ order v Copyback b false ∷ again t u k b) (order u k b false ∷ []))
        by true e true =
            ap (machine left (put_block m b (block_at c (place v b))) c) (two os (order u k b true) (order v Copyback b false))
            ∙ to e (os ++ (order u k b true ∷ order v Copyback b false ∷ []))
        by true e false =
            ap (machine left (put_block m b (block_at c (place v b))) c) (three os (order u k b true) (order v Copyback b false) (order u k b false))
            ∙ to e (os ++ (order u k b true ∷ order v Copyback b false ∷ order u k b false ∷ []))
        by false e true = refl
        by false e false = refl

-- emptying a slot keeps the settings
settings_emptied : (d : Directory) (n : ℕ) (x : Slot) → (emptied_directory n x d).settings ≡ d.settings
unfolding emptied_directory set_slot
settings_emptied d n Invalid = refl
settings_emptied d n (Shared b) = refl
settings_emptied d n (Modified b) = refl

-- emptying a slot that does not hold b moves no owner of b
owner_emptied : (d : Directory) (n b : ℕ) → holds (slot_at d n) b ≡ false → owner_of (emptied_directory n (slot_at d n) d) b ≡ owner_of d b
unfolding modified emptied_directory
owner_emptied d n b h = go (slot_at d n)
  where
    past : owner_of (set_slot d n Invalid) b ≡ owner_of d b
    past = owner_past d n Invalid b (not_modified_lem (slot_at d n) b h) refl

    go : (x : Slot) → owner_of (emptied_directory n x d) b ≡ owner_of d b
    go Invalid = refl
    go (Shared c) = past
    go (Modified c) = past

-- and is not seen once the slot is filled
filled_over : (d : Directory) (n b v : ℕ) (x : Slot) → set_slot (yielded_directory b v (emptied_directory n x d)) n (Shared b) ≡ fetched_directory n b v d
unfolding fetched_directory yielded_directory emptied_directory
filled_over d n b v x = go x (ltb v 4)
  where
    go : (x : Slot) (t : Bool)
        → set_slot (cond t (set_slot (emptied_directory n x d) (place v b) (Shared b)) (emptied_directory n x d)) n (Shared b)
        ≡ set_slot (cond t (set_slot d (place v b) (Shared b)) d) n (Shared b)
    go Invalid t = refl
    go (Shared c) true = set_past d n (place v b) Invalid (Shared b) (Shared b)
    go (Shared c) false = set_over d n Invalid (Shared b)
    go (Modified c) true = set_past d n (place v b) Invalid (Shared b) (Shared b)
    go (Modified c) false = set_over d n Invalid (Shared b)

-- unit u, which does not hold block b, gets it by the order k
fetch_is : (u : ℕ) (k : Command) (b : ℕ) (d : Directory) (m c : List ℕ) (good : Bool) → reads k ≡ true → Known d m c u good → b < 64 → holds (slot_at d (place u b)) b ≡ false
    → let n = place u b in let x = slot_at d n in let v = owner_of d b in
    fetch u k b (ready d m c) ≡ machine (fetched_directory n b v d) (fetched_memory n b x v m c) (fetched_cache n b x v m c) (fetch_orders d.settings.steal u k b x v)
unfolding fetch ready fill fetched_memory fetched_cache fetch_orders
fetch_is u k b d m c good r q l h =
    let n : ℕ = place u b in
    let x : Slot = slot_at d n in
    let e : Directory = emptied_directory n x d in
    let m₁ : List ℕ = evicted_memory n x m c in
    let v : ℕ = owner_of d b in
    let m₂ : List ℕ = fetched_memory n b x v m c in
    let t : Bool = d.settings.steal in
    let os : List Order = fetch_orders t u k b x v in
    let s : (e.settings.steal && reads k) ≡ t = ap (λ (g : Settings). g.steal && reads k) (settings_emptied d n x) ∙ ap (λ (y : Bool). t && y) r ∙ and-true t in
    let z₁ : Sized m₁ c = record { memory = length_evicted n x m c ∙ q.sizes.memory; cache = q.sizes.cache } in
    let z₂ : Sized c m₂ = record { memory = q.sizes.cache; cache = (length_fetched n b x v m c).0 ∙ q.sizes.memory } in
    ap (λ (w : Run). fill n b (ask u k b w)) (empty_is u n d m c q.sizes (place_lt u b q.unit) (q.block b))
    ∙ ap (fill n b) (ask_is t u k b e m₁ c (eviction_orders u x) s z₁ l)
    ∙ ap (λ (v : ℕ). fill n b (machine (yielded_directory b v e) (yielded_memory b v m₁ c) c (eviction_orders u x ++ ask_orders t u k b v))) (owner_emptied d n b h)
    ∙ ap (λ (f : Directory). machine f m₂ (put_block c n (block_at m₂ b)) os) (filled_over d n b v x)
    ∙ ap (λ (c' : List ℕ). machine (fetched_directory n b v d) m₂ c' os) (sym (moved c m₂ b n z₂ l (place_lt u b q.unit)))

-- ---- addresses
block_lt : (a : ℕ) → is_address a ≡ true → a / 32 < 64
block_lt a e = omega (arith, (address_of a e).1)

-- the word at address a in unit u's slot
in_cache : (u a : ℕ) (d : Directory) (m c : List ℕ) (l : List ℕ) → Known d m c u (is_address a) → length l ≡ length c → cache_place u a + 4 ≤ length l
unfolding cache_place place
in_cache u a d m c l q e = omega (arith, q.sizes.cache, q.unit, (address_of a q.target).0)

pub loaded_in : (u a : ℕ) (d : Directory) (m c : List ℕ) (l : List ℕ) → Known d m c u (is_address a) → length l ≡ length c
    → word_in l (cache_place u a) ≡ word_at l (cache_place u a)
loaded_in u a d m c l q e = word_is l (cache_place u a) (in_cache u a d m c l q e)

stored_in : (u a v : ℕ) (d : Directory) (m c : List ℕ) (l : List ℕ) → Known d m c u (is_address a) → length l ≡ length c
    → put_word l (cache_place u a) v ≡ word_put l (cache_place u a) v
stored_in u a v d m c l q e = sym (put_is l (cache_place u a) v (in_cache u a d m c l q e))

-- ---- loads
pub load_held_lem : (u a : ℕ) (d : Directory) (m c : List ℕ) → holds (slot_at d (place u (a / 32))) (a / 32) ≡ true
    → load u a (ready d m c) ≡ machine d m c []
unfolding load ready
load_held_lem u a d m c h = rw h

pub load_missed_lem : (u a : ℕ) (d : Directory) (m c : List ℕ) → Known d m c u (is_address a) → holds (slot_at d (place u (a / 32))) (a / 32) ≡ false
    → let b = a / 32 in let n = place u b in let x = slot_at d n in let v = owner_of d b in
    load u a (ready d m c) ≡ machine (fetched_directory n b v d) (fetched_memory n b x v m c) (fetched_cache n b x v m c) (fetch_orders d.settings.steal u Read b x v)
unfolding load ready reads
load_missed_lem u a d m c q h = rw h (fetch_is u Read (a / 32) d m c (is_address a) refl q (block_lt a q.target) h)

-- ---- stores
pub store_owned : (u a v : ℕ) (d : Directory) (m c : List ℕ) → Known d m c u (is_address a) → through d.settings u ≡ false → modified (slot_at d (place u (a / 32))) (a / 32) ≡ true
    → store u a v (ready d m c) ≡ machine d m (word_put c (cache_place u a) v) []
unfolding store own write ready
store_owned u a v d m c q t h = rw (t, h) (ap (λ (c' : List ℕ). machine d m c' []) (stored_in u a v d m c c q refl))

pub store_shared_lem : (u a v : ℕ) (d : Directory) (m c : List ℕ) → Known d m c u (is_address a) → through d.settings u ≡ false → modified (slot_at d (place u (a / 32))) (a / 32) ≡ false
    → holds (slot_at d (place u (a / 32))) (a / 32) ≡ true
    → store u a v (ready d m c) ≡ machine (claimed_at_once u (a / 32) d) m (word_put c (cache_place u a) v) (order u Invalidate (a / 32) false ∷ [])
unfolding store own write ready give order
store_shared_lem u a v d m c q t g h =
    rw (t, g, h)
    (ap (write u a v) (claim_is u (a / 32) (give u Invalidate (a / 32) false (ready d m c)))
    ∙ ap (λ (c' : List ℕ). machine (claimed_at_once u (a / 32) d) m c' (order u Invalidate (a / 32) false ∷ [])) (stored_in u a v d m c c q refl))

pub store_missed_lem : (u a v : ℕ) (d : Directory) (m c : List ℕ) → Known d m c u (is_address a) → size d ≡ 64 → through d.settings u ≡ false → modified (slot_at d (place u (a / 32))) (a / 32) ≡ false
    → holds (slot_at d (place u (a / 32))) (a / 32) ≡ false
    → let b = a / 32 in let n = place u b in let x = slot_at d n in let o = owner_of d b in
    store u a v (ready d m c)
    ≡ machine (claimed_at_once u b d) (fetched_memory n b x o m c) (word_put (fetched_cache n b x o m c) (cache_place u a) v) (fetch_orders d.settings.steal u ModifiedRead b x o)
unfolding store own write ready reads
store_missed_lem u a v d m c q z t g h =
    let b : ℕ = a / 32 in
    let n : ℕ = place u b in
    let x : Slot = slot_at d n in
    let o : ℕ = owner_of d b in
    let c₁ : List ℕ = fetched_cache n b x o m c in
    rw (t, g, h)
    (ap (write u a v) (claim_is u b (fetch u ModifiedRead b (ready d m c)) ∙ ap (λ (w : Run). machine (claimed_at_once u b w.directory) w.memory w.cache w.orders) (fetch_is u ModifiedRead b d m c (is_address a) refl q (block_lt a q.target) h))
    ∙ ap (λ (c' : List ℕ). machine (claimed_at_once u b (fetched_directory n b o d)) (fetched_memory n b x o m c) c' (fetch_orders d.settings.steal u ModifiedRead b x o))
    (stored_in u a v d m c c₁ q (length_fetched n b x o m c).1)
    ∙ ap (λ (e : Directory). machine e (fetched_memory n b x o m c) (word_put c₁ (cache_place u a) v) (fetch_orders d.settings.steal u ModifiedRead b x o))
    (claim_fetched u b d q.unit z))

-- by a write-through unit
pub store_through_lem : (u a v : ℕ) (d : Directory) (m c : List ℕ) → Known d m c u (is_address a) → through d.settings u ≡ true
    → let b = a / 32 in
    store u a v (ready d m c) ≡ machine (through_directory u b d) (through_memory b a v d m c) (through_cache u b a v d c) (ask_orders false u MemoryWrite b (owner_of d b))
unfolding store store_through write_through write ready reads through_directory through_memory through_cache
store_through_lem u a v d m c q t =
    let b : ℕ = a / 32 in
    let o : ℕ = owner_of d b in
    let e : Directory = through_directory u b d in
    let m₁ : List ℕ = yielded_memory b o m c in
    let os : List Order = ask_orders false u MemoryWrite b o in
    let p : a + 4 ≤ length m₁ = omega (arith, length_yielded b o m c, q.sizes.memory, (address_of a q.target).1) in
    rw t
    (ap (λ (w : Run). write_through u a v (each_unit (expel u b) w)) (ask_is false u MemoryWrite b d m c [] (and-false d.settings.steal) q.sizes (block_lt a q.target))
    ∙ ap (write_through u a v) (expel_is_all u b (machine (yielded_directory b o d) m₁ c os))
    ∙ ap (λ (m' : List ℕ). machine e m' (cond (holds (slot_at e (place u b)) b) (put_word c (cache_place u a) v) c) os) (sym (put_is m₁ a v p))
    ∙ ap (λ (c' : List ℕ). machine e (word_put m₁ a v) (cond (holds (slot_at e (place u b)) b) c' c) os) (stored_in u a v d m c c q refl))

-- ---- flushes
pub flush_held : (u b : ℕ) (d : Directory) (m c : List ℕ) (good : Bool) → Known d m c u good → holds (slot_at d (place u b)) b ≡ true
    → let n = place u b in let x = slot_at d n in
    flush u b (ready d m c) ≡ machine (set_slot d n Invalid) (evicted_memory n x m c) c (eviction_orders u x)
unfolding flush ready emptied_directory
flush_held u b d m c good q h =
    let n : ℕ = place u b in
    let x : Slot = slot_at d n in
    rw h (empty_is u n d m c q.sizes (place_lt u b q.unit) (q.block b) ∙ ap (λ (e : Directory). machine e (evicted_memory n x m c) c (eviction_orders u x)) (valid x h))
  where
    valid : (x : Slot) → holds x b ≡ true → emptied_directory (place u b) x d ≡ set_slot d (place u b) Invalid
    valid Invalid g = absurd (false≢true (sym (holds_invalid b) ∙ g))
    valid (Shared e) g = refl
    valid (Modified e) g = refl

pub flush_missed : (u b : ℕ) (d : Directory) (m c : List ℕ) → holds (slot_at d (place u b)) b ≡ false → flush u b (ready d m c) ≡ machine d m c []
unfolding flush ready
flush_missed u b d m c h = rw h

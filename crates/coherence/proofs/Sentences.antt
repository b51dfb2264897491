-- The definitions of the accesses say the documents' sentences.
use mathlib.Core.Path.{◌≡◌, refl, sym, ap, ◌∙◌}
use mathlib.Core.List.{List, [], ◌∷◌, ◌++◌}
use mathlib.Core.Bool.{Bool, true, false, cond, not, ◌&&◌, and-true, and-false, false≢true}
use mathlib.Core.Logic.{◌⊎◌, inl, inr, ⊎_elim}
use Prim.Native.Nat.{ℕ, ◌+◌, ◌*◌, ◌/◌, ◌%◌, ◌≤◌, ◌<◌}
use native.Mathlib.Omega.{arith}
use lib.ListN.{length}
use lib.Dec.{ltb, eqb}
use borrow.Author.Tests.{leb-true, eqb-true, eq-eqb, ne_eqb, lt-ltb, le-ltb}
use Rattle.order.specs.declared.Command.{Command}
use Rattle.order.specs.declared.Command.TheVariants.{Read, ModifiedRead, Invalidate, Copyback, MemoryWrite}
use Rattle.order.specs.declared.Order.{Order}
use Rattle.coherence.specs.declared.Slot.{Slot}
use Rattle.coherence.specs.declared.Slot.TheVariants.{Invalid, Shared, Modified}
use Rattle.coherence.specs.declared.Settings.{Settings}
use Rattle.coherence.specs.declared.Directory.{Directory}
use Rattle.coherence.specs.declared.Call.{Call}
use Rattle.coherence.specs.declared.Call.TheVariants.{Load, Store, Flush}
use Rattle.coherence.specs.Bytes.{block_at, put_block, word_at, put_word}
use Rattle.coherence.specs.Settings.{through}
use Rattle.coherence.specs.Slots.{place, slot_at, set_slot, slot_of, holds, modified, kept, owner_of, sound, Kinds, SetsTrue, cold_directory}
use Rattle.coherence.specs.Access.{Run, ready, give, mark, write_back, copyback, emptied, empty, yield, reads, stolen, asked, ask, fill, fetch, each_unit, expel, claim, cache_place, write, load, write_through, store_through, store, flush}
use Rattle.coherence.specs.Refusal.{sized, is_unit, is_block, start_refusal, peek_refusal}
use Rattle.coherence.specs.Calls.{unit_of, is_target, refusal, act, loaded, settle, after, value_of, answer, memory_after, cache_after, start_answer, cache_started}
use Rattle.coherence.specs.Peek.{from_cache, newest_block, newest, peeked, peek_from_cache, peek_offset}
use Rattle.coherence.specs.Sentences.{Accepted, left, by, NoneHasEM, NotEM, MissOrders, SlotsLoaded, SlotsStored, SlotsThrough, SlotsFlushed, Leaves, word_place, LoadMissed, StoreShared, StoreMissed, ThroughOrders, StoreThrough, FlushHeld, SentencesHold, PeeksHold, StartsHold}
use Rattle.coherence.proofs.Cases.{eq_or_ne, four}
use Rattle.coherence.proofs.ByteLaws.{length_block, length_put_block, block_same}
use Rattle.coherence.proofs.SlotLaws.{size, size_set, slot_same, slot_other, holds_invalid, modified_holds, shared_holds, holds_is, is_modified, invalid≢modified, shared≢modified, place_lt, place_ne, place_unit, owner_cases, slot_cold}
use Rattle.coherence.proofs.HolderLaws.{Sets, kept_same, sets_kept, held_cold}
use Rattle.coherence.proofs.Rules.{sound_placed, sound_exclusive, sound_sets_lem, tests_rules}
use Rattle.coherence.proofs.RefusalLaws.{call_tests, start_tests, peek_tests, all_pass, sized_say, sized_true}
use Rattle.coherence.proofs.Counts.{own_is, orders_in_lem}
use Rattle.coherence.proofs.Shapes.{answer_settings}

-- ---- an accepted call
accepted_says : (d : Directory) (m k : List ℕ) (c : Call) → refusal d m k c ≡ 0 → (sound d ≡ true) × (unit_of c < 4) × (length m ≡ 2048) × (length k ≡ 2048)
unfolding refusal is_unit
accepted_says d m k c e =
    let q = all_pass (sized m k) (sound d) (is_unit (unit_of c)) (is_target c) (rw (call_tests d m k (unit_of c) (is_target c)) at e) in
    let l : unit_of c ≤ 3 = leb-true (unit_of c) 3 q.2 in
    let z : (length m ≡ 2048) × (length k ≡ 2048) = sized_say m k q.0 in
    (q.1, omega arith, z.0, z.1)

acts : (d : Directory) (m k : List ℕ) (c : Call) → refusal d m k c ≡ 0 → after d m k c ≡ settle (act c (ready d m k))
unfolding after
acts d m k c e = rw (eq-eqb (refusal d m k c) 0 e) refl

-- what the contracts fix is the machine after the call
pub left_is : (d : Directory) (m k : List ℕ) (c : Call) → left d m k c ≡ after d m k c
unfolding left answer memory_after cache_after
left_is d m k c =
    ap (λ (os : List Order). record { directory = (after d m k c).directory; memory = (after d m k c).memory; cache = (after d m k c).cache; orders = os })
    (orders_in_lem d m k c)

-- the sets of an accepted call's directory are true
accepted_sets : (d : Directory) (m k : List ℕ) (c : Call) → length d.holders ≡ 64 → refusal d m k c ≡ 0 → Sets d
accepted_sets d m k c h e = record { number = h; agree = λ b l. sound_sets_lem d b (accepted_says d m k c e).0 l }

-- what the slots are does not hang on the sets
settled_loaded : (d e : Directory) (u b : ℕ) → SlotsLoaded d u b e → SlotsLoaded d u b (kept e)
unfolding kept slot_at
settled_loaded d e u b s = record { own = s.own; holder = s.holder; rest = s.rest }

settled_stored : (d e : Directory) (u b : ℕ) → SlotsStored d u b e → SlotsStored d u b (kept e)
unfolding kept slot_at
settled_stored d e u b s = record { own = s.own; others = s.others; rest = s.rest }

settled_through : (d e : Directory) (u b : ℕ) → SlotsThrough d u b e → SlotsThrough d u b (kept e)
unfolding kept slot_at
settled_through d e u b s = record { own = s.own; others = s.others; rest = s.rest }

settled_flushed : (d e : Directory) (u b : ℕ) → SlotsFlushed d u b e → SlotsFlushed d u b (kept e)
unfolding kept slot_at
settled_flushed d e u b s = record { own = s.own; rest = s.rest }

word_place_lem : (u a : ℕ) → cache_place u a ≡ word_place u a
unfolding cache_place place
word_place_lem u a = omega arith

-- ---- a slot is emptied
module _ (u n : ℕ) (w : Run) where
  empty_cache : (empty u n w).cache ≡ w.cache
  unfolding empty emptied copyback mark write_back give
  empty_cache = go (slot_at w.directory n)
    where
      go : (x : Slot) → (emptied u n x w).cache ≡ w.cache
      go Invalid = refl
      go (Shared c) = refl
      go (Modified c) = refl

  empty_settings : (empty u n w).directory.settings ≡ w.directory.settings
  unfolding empty emptied copyback mark write_back give set_slot
  empty_settings = go (slot_at w.directory n)
    where
      go : (x : Slot) → (emptied u n x w).directory.settings ≡ w.directory.settings
      go Invalid = refl
      go (Shared c) = refl
      go (Modified c) = refl

  empty_size : size (empty u n w).directory ≡ size w.directory
  unfolding empty emptied copyback mark write_back give
  empty_size = go (slot_at w.directory n)
    where
      go : (x : Slot) → size (emptied u n x w).directory ≡ size w.directory
      go Invalid = refl
      go (Shared c) = size_set _ _ _
      go (Modified c) = size_set _ _ _ ∙ size_set _ _ _

  empty_other : (j : ℕ) → (j ≡ n → ⊥) → slot_at (empty u n w).directory j ≡ slot_at w.directory j
  unfolding empty emptied copyback mark write_back give
  empty_other j h = go (slot_at w.directory n)
    where
      go : (x : Slot) → slot_at (emptied u n x w).directory j ≡ slot_at w.directory j
      go Invalid = refl
      go (Shared c) = slot_other _ n j _ h
      go (Modified c) = slot_other _ n j _ h ∙ slot_other _ n j _ h

  empty_own : n < size w.directory → slot_at (empty u n w).directory n ≡ Invalid
  unfolding empty emptied copyback mark write_back give
  empty_own l = go (slot_at w.directory n) refl
    where
      go : (x : Slot) → slot_at w.directory n ≡ x → slot_at (emptied u n x w).directory n ≡ Invalid
      go Invalid e = e
      go (Shared c) e = slot_same _ n _ l
      go (Modified c) e = slot_same _ n _ (rw (size_set w.directory n (Shared c)) l)

  empty_not : NotEM w.directory n → ((empty u n w).orders ≡ w.orders) × ((empty u n w).memory ≡ w.memory)
  unfolding empty emptied copyback mark write_back give
  empty_not h = go (slot_at w.directory n) refl
    where
      go : (x : Slot) → slot_at w.directory n ≡ x → ((emptied u n x w).orders ≡ w.orders) × ((emptied u n x w).memory ≡ w.memory)
      go Invalid e = (refl, refl)
      go (Shared c) e = (refl, refl)
      go (Modified c) e = absurd (h c e)

  empty_em : (c : ℕ) → slot_at w.directory n ≡ Modified c
      → ((empty u n w).orders ≡ w.orders ++ (by u Copyback c false ∷ [])) × ((empty u n w).memory ≡ put_block w.memory c (block_at w.cache n))
  unfolding empty emptied copyback mark write_back give
  empty_em c e = rw e (refl, refl)

-- ---- an order for a block
ask_free : (u : ℕ) (x : Command) (b : ℕ) (w : Run) → NoneHasEM w.directory b → ask u x b w ≡ give u x b false w
unfolding ask asked stolen yield
ask_free u x b w h =
    ⊎_elim
    (λ q. absurd (h (owner_of w.directory b) q.0 q.1))
    (λ q. rw (le-ltb (owner_of w.directory b) 4 q.0, and-false (w.directory.settings.steal && reads x)) refl)
    (owner_cases w.directory b)

-- the one unit that has block b EM
owner_one : (d : Directory) (b v : ℕ) → v < 4 → slot_at d (place v b) ≡ Modified b → ((o : ℕ) → o < 4 → slot_at d (place o b) ≡ Modified b → o ≡ v)
    → owner_of d b ≡ v
owner_one d b v l e h = ⊎_elim (λ q. h (owner_of d b) q.0 q.1) (λ q. absurd (q.1 v l e)) (owner_cases d b)

owner_is : (d : Directory) (b v : ℕ) → sound d ≡ true → v < 4 → slot_at d (place v b) ≡ Modified b → owner_of d b ≡ v
owner_is d b v s g e =
    owner_one d b v g e
    (λ o h y.
    sym (place_unit o b)
    ∙ sound_exclusive d (place o b) (place v b) b s (place_lt o b h) (place_lt v b g) y (modified_holds _ b e)
    ∙ place_unit v b)

-- unit u's order is retried, and unit v copies block b back
abbrev yielded : ℕ → Command → ℕ → ℕ → Run → Run
yielded u x b v w = copyback v (place v b) b (give u x b true w)

ask_held : (u : ℕ) (x : Command) (b : ℕ) (w : Run) (v : ℕ) → v < 4 → owner_of w.directory b ≡ v
    → ask u x b w ≡ cond (w.directory.settings.steal && reads x) (yielded u x b v w) (give u x b false (yielded u x b v w))
unfolding ask asked stolen yield
ask_held u x b w v l e = rw (e, lt-ltb v 4 l, and-true (w.directory.settings.steal && reads x)) refl

-- whether or not it is given again, an order leaves the same but for the orders
ask_leaves : (u : ℕ) (x : Command) (b : ℕ) (w : Run)
    → let y : Run = yield u x b (owner_of w.directory b) w in ((ask u x b w).directory ≡ y.directory) × ((ask u x b w).cache ≡ y.cache)
unfolding ask asked give
ask_leaves u x b w = go (stolen w.directory.settings x (owner_of w.directory b))
  where
    y : Run
    y = yield u x b (owner_of w.directory b) w

    go : (t : Bool) → ((cond t y (give u x b false y)).directory ≡ y.directory) × ((cond t y (give u x b false y)).cache ≡ y.cache)
    go true = (refl, refl)
    go false = (refl, refl)

-- it changes no byte of the caches, and no slot but the holder's
ask_size : (u : ℕ) (x : Command) (b : ℕ) (w : Run) → size (ask u x b w).directory ≡ size w.directory
unfolding yield copyback mark write_back give
ask_size u x b w = ap size (ask_leaves u x b w).0 ∙ go (ltb o 4)
  where
    o : ℕ
    o = owner_of w.directory b

    go : (t : Bool) → size (cond t (yielded u x b o w) w).directory ≡ size w.directory
    go true = size_set _ _ _
    go false = refl

ask_cache : (u : ℕ) (x : Command) (b : ℕ) (w : Run) → (ask u x b w).cache ≡ w.cache
unfolding yield copyback mark write_back give
ask_cache u x b w = (ask_leaves u x b w).1 ∙ go (ltb o 4)
  where
    o : ℕ
    o = owner_of w.directory b

    go : (t : Bool) → (cond t (yielded u x b o w) w).cache ≡ w.cache
    go true = refl
    go false = refl

ask_rest : (u : ℕ) (x : Command) (b : ℕ) (w : Run) (j : ℕ) → (slot_at w.directory j ≡ Modified b → ⊥)
    → slot_at (ask u x b w).directory j ≡ slot_at w.directory j
unfolding yield copyback mark write_back give
ask_rest u x b w j h =
    ap (λ (d : Directory). slot_at d j) (ask_leaves u x b w).0
    ∙ ⊎_elim
    (λ q. rw (lt-ltb o 4 q.0) (slot_other w.directory (place o b) j (Shared b) (λ y. h (ap (slot_at w.directory) y ∙ q.1))))
    (λ q. rw (le-ltb o 4 q.0) refl)
    (owner_cases w.directory b)
  where
    o : ℕ
    o = owner_of w.directory b

-- ---- a block is fetched
module _ (d : Directory) (m k : List ℕ) (u b : ℕ) (x : Command) (r : reads x ≡ true) (l : u < 4) (z : size d ≡ 64) (s : sound d ≡ true)
    (f : holds (slot_at d (place u b)) b ≡ false) where
  abbrev w₁ : Run
  w₁ = empty u (place u b) (ready d m k)

  own₁ : slot_at w₁.directory (place u b) ≡ Invalid
  unfolding ready
  own₁ = empty_own u (place u b) (ready d m k) (rw z (place_lt u b l))

  other₁ : (j : ℕ) → (j ≡ place u b → ⊥) → slot_at w₁.directory j ≡ slot_at d j
  unfolding ready
  other₁ j h = empty_other u (place u b) (ready d m k) j h

  size₁ : size w₁.directory ≡ 64
  unfolding ready
  size₁ = empty_size u (place u b) (ready d m k) ∙ z

  not_own : (v : ℕ) → slot_at d (place v b) ≡ Modified b → v ≡ u → ⊥
  not_own v e q = false≢true (sym f ∙ modified_holds (slot_at d (place u b)) b (rw q at e))

  -- EM in w₁ is EM in d
  before : (v : ℕ) → slot_at w₁.directory (place v b) ≡ Modified b → slot_at d (place v b) ≡ Modified b
  before v e =
      ⊎_elim
      (λ (q : v ≡ u). absurd (invalid≢modified b (sym own₁ ∙ (rw q at e))))
      (λ q. sym (other₁ (place v b) (λ y. place_ne u v b q (sym y))) ∙ e)
      (eq_or_ne v u)

  away : (v : ℕ) → slot_at d (place v b) ≡ Modified b → place v b ≡ place u b → ⊥
  away v e y = place_ne u v b (not_own v e) (sym y)

  asked_free : NoneHasEM d b → ask u x b w₁ ≡ give u x b false w₁
  asked_free h = ask_free u x b w₁ (λ v g e. h v g (before v e))

  owner₁ : (v : ℕ) → v < 4 → slot_at d (place v b) ≡ Modified b → owner_of w₁.directory b ≡ v
  owner₁ v g e =
      owner_one w₁.directory b v g (other₁ (place v b) (away v e) ∙ e)
      (λ o h y.
      sym (place_unit o b)
      ∙ sound_exclusive d (place o b) (place v b) b s (place_lt o b h) (place_lt v b g) (before o y) (modified_holds _ b e)
      ∙ place_unit v b)

  -- it is stolen exactly with steal on
  steal₁ : (w₁.directory.settings.steal && reads x) ≡ d.settings.steal
  unfolding ready
  steal₁ = go (reads x) r ∙ ap (λ (g : Settings). g.steal) (empty_settings u (place u b) (ready d m k))
    where
      go : (t : Bool) → t ≡ true → (w₁.directory.settings.steal && t) ≡ w₁.directory.settings.steal
      go true e = and-true w₁.directory.settings.steal
      go false e = absurd (false≢true e)

  asked_held : (v : ℕ) → v < 4 → slot_at d (place v b) ≡ Modified b → (t : Bool) → d.settings.steal ≡ t
      → ask u x b w₁ ≡ cond t (yielded u x b v w₁) (give u x b false (yielded u x b v w₁))
  asked_held v g e t o =
      ask_held u x b w₁ v g (owner₁ v g e)
      ∙ ap (λ (t : Bool). cond t (yielded u x b v w₁) (give u x b false (yielded u x b v w₁))) (steal₁ ∙ o)

  cache₁ : w₁.cache ≡ k
  unfolding ready
  cache₁ = empty_cache u (place u b) (ready d m k)

  not₁ : NotEM d (place u b) → (w₁.orders ≡ []) × (w₁.memory ≡ m)
  unfolding ready
  not₁ h = empty_not u (place u b) (ready d m k) h

  em₁ : (c : ℕ) → slot_at d (place u b) ≡ Modified c → (w₁.orders ≡ by u Copyback c false ∷ []) × (w₁.memory ≡ put_block m c (block_at k (place u b)))
  unfolding ready
  em₁ c e = empty_em u (place u b) (ready d m k) c e

  free_then : (os : List Order) (n : List ℕ) → (w₁.orders ≡ os) × (w₁.memory ≡ n) → NoneHasEM d b
      → ((ask u x b w₁).orders ≡ os ++ (by u x b false ∷ [])) × ((ask u x b w₁).memory ≡ n)
  unfolding give
  free_then os n q h = rw (asked_free h) (ap (λ (o : List Order). o ++ (by u x b false ∷ [])) q.0, q.1)

  -- what memory has once the holder has copied back
  held_memory : (v : ℕ) → v < 4 → slot_at d (place v b) ≡ Modified b → (ask u x b w₁).memory ≡ put_block w₁.memory b (block_at k (place v b))
  unfolding give copyback mark write_back
  held_memory v g e =
      ap (λ (w : Run). w.memory) (asked_held v g e d.settings.steal refl)
      ∙ go d.settings.steal
      ∙ ap (λ (c : List ℕ). put_block w₁.memory b (block_at c (place v b))) cache₁
    where
      y : Run
      y = yielded u x b v w₁

      go : (t : Bool) → (cond t y (give u x b false y)).memory ≡ put_block w₁.memory b (block_at w₁.cache (place v b))
      go true = refl
      go false = refl

  -- orders os and memory n before
  held_then : (os : List Order) (n : List ℕ) → (w₁.orders ≡ os) × (w₁.memory ≡ n) → (v : ℕ) → v < 4 → slot_at d (place v b) ≡ Modified b
      → (t : Bool) → d.settings.steal ≡ t
      → let ys : List Order = (os ++ (by u x b true ∷ [])) ++ (by v Copyback b false ∷ []) in
      ((ask u x b w₁).orders ≡ cond t ys (ys ++ (by u x b false ∷ []))) × ((ask u x b w₁).memory ≡ put_block n b (block_at k (place v b)))
  unfolding give copyback mark write_back
  held_then os n q v g e t o = (
    ap (λ (w : Run). w.orders) (asked_held v g e t o) ∙ go t,
    held_memory v g e ∙ ap (λ (c : List ℕ). put_block c b (block_at k (place v b))) q.1,
  )
    where
      y : Run
      y = yielded u x b v w₁

      ys : List Order
      ys = (os ++ (by u x b true ∷ [])) ++ (by v Copyback b false ∷ [])

      go : (t : Bool) → (cond t y (give u x b false y)).orders ≡ cond t ys (ys ++ (by u x b false ∷ []))
      go true = ap (λ (o : List Order). (o ++ (by u x b true ∷ [])) ++ (by v Copyback b false ∷ [])) q.0
      go false = ap (λ (o : List Order). ((o ++ (by u x b true ∷ [])) ++ (by v Copyback b false ∷ [])) ++ (by u x b false ∷ [])) q.0

  fetch_orders_lem : MissOrders d m k u b x (fetch u x b (ready d m k)).orders (fetch u x b (ready d m k)).memory
  unfolding fetch fill
  fetch_orders_lem =
      record {
        alone = λ h g. free_then [] m (not₁ h) g;
        evicts = λ c e g. free_then _ _ (em₁ c e) g;
        retried = λ o h v g e. held_then [] m (not₁ h) v g e false o;
        both = λ o c y v g e. held_then _ _ (em₁ c y) v g e false o;
        stolen = λ o h v g e. held_then [] m (not₁ h) v g e true o;
        both_stolen = λ o c y v g e. held_then _ _ (em₁ c y) v g e true o;
      }

  held_slot : (v : ℕ) → v < 4 → slot_at d (place v b) ≡ Modified b → slot_at (ask u x b w₁).directory (place v b) ≡ Shared b
  unfolding yield give copyback mark write_back
  held_slot v g e =
      ap (λ (d : Directory). slot_at d (place v b)) (ask_leaves u x b w₁).0
      ∙ rw (owner₁ v g e, lt-ltb v 4 g) (slot_same w₁.directory (place v b) (Shared b) (rw size₁ (place_lt v b g)))

  rest₁ : (n : ℕ) → (n ≡ place u b → ⊥) → (slot_at d n ≡ Modified b → ⊥) → slot_at (ask u x b w₁).directory n ≡ slot_at d n
  rest₁ n h g = ask_rest u x b w₁ n (λ y. g (sym (other₁ n h) ∙ y)) ∙ other₁ n h

  fetch_slots : SlotsLoaded d u b (fetch u x b (ready d m k)).directory
  unfolding fetch fill
  fetch_slots =
      record {
        own = slot_same _ (place u b) (Shared b) (rw (ask_size u x b w₁, size₁) (place_lt u b l));
        holder = λ v g e. slot_other _ (place u b) (place v b) (Shared b) (away v e) ∙ held_slot v g e;
        rest = λ n h g. slot_other _ (place u b) n (Shared b) h ∙ rest₁ n h g;
      }

  fetch_size : size (fetch u x b (ready d m k)).directory ≡ 64
  unfolding fetch fill
  fetch_size = size_set _ _ _ ∙ ask_size u x b w₁ ∙ size₁

  fetch_cache : (fetch u x b (ready d m k)).cache ≡ put_block k (place u b) (block_at (fetch u x b (ready d m k)).memory b)
  unfolding fetch fill
  fetch_cache = ap (λ (r : List ℕ). put_block r (place u b) (block_at (ask u x b w₁).memory b)) (ask_cache u x b w₁ ∙ cache₁)

  -- the bytes that the slot takes are the holder's
  module _ (p : length m ≡ 2048) (q : length k ≡ 2048) where
    memory₁ : length w₁.memory ≡ 2048
    unfolding ready
    memory₁ = go (slot_at d (place u b)) refl
      where
        go : (x : Slot) → slot_at d (place u b) ≡ x → length w₁.memory ≡ 2048
        go Invalid e = ap length (not₁ (λ c y. invalid≢modified c (sym e ∙ y))).1 ∙ p
        go (Shared a) e = ap length (not₁ (λ c y. shared≢modified a c (sym e ∙ y))).1 ∙ p
        go (Modified c) e =
            let n : place u b < 64 = place_lt u b l in
            let h : c ≤ 63 = (sound_placed d (place u b) c s n (modified_holds _ c e)).0 in
            ap length (em₁ c e).1 ∙ length_put_block m c (block_at k (place u b)) (omega arith) (length_block k (place u b) (omega arith)) ∙ p

    fetch_taken : (v : ℕ) → v < 4 → slot_at d (place v b) ≡ Modified b → (fetch u x b (ready d m k)).cache ≡ put_block k (place u b) (block_at k (place v b))
    unfolding fetch fill
    fetch_taken v g e =
        let n : place v b < 64 = place_lt v b g in
        let h : b ≤ 63 = (sound_placed d (place v b) b s n (modified_holds _ b e)).0 in
        fetch_cache
        ∙ ap (λ (c : List ℕ). put_block k (place u b) (block_at c b)) (held_memory v g e)
        ∙ ap (put_block k (place u b)) (block_same w₁.memory b (block_at k (place v b)) (omega (arith, memory₁)) (length_block k (place v b) (omega arith)))

-- ---- a block is claimed
-- each slot is as it was, or is invalid and held block b
pub record Expelled (b : ℕ) (w w' : Run) : Type 0 where
  pub orders : w'.orders ≡ w.orders
  pub memory : w'.memory ≡ w.memory
  pub cache : w'.cache ≡ w.cache
  pub sizes : size w'.directory ≡ size w.directory
  pub drops : (j : ℕ) → (slot_at w'.directory j ≡ slot_at w.directory j)
      ⊎ ((slot_at w'.directory j ≡ Invalid) × (holds (slot_at w.directory j) b ≡ true))

expelled_none : (b : ℕ) (w : Run) → Expelled b w w
expelled_none b w = record { orders = refl; memory = refl; cache = refl; sizes = refl; drops = λ j. inl refl }

not_held : (b : ℕ) (x : Slot) → x ≡ Invalid → holds x b ≡ true → ⊥
not_held b x e t = false≢true (sym (holds_invalid b) ∙ (rw e at t))

expelled_then : (b : ℕ) (w w' w'' : Run) → Expelled b w w' → Expelled b w' w'' → Expelled b w w''
expelled_then b w w' w'' g h =
    record {
      orders = h.orders ∙ g.orders;
      memory = h.memory ∙ g.memory;
      cache = h.cache ∙ g.cache;
      sizes = h.sizes ∙ g.sizes;
      drops = λ j. ⊎_elim
          (λ p. ⊎_elim (λ q. inl (p ∙ q)) (λ q. inr (p ∙ q.0, q.1)) (g.drops j))
          (λ p. ⊎_elim
          (λ q. inr (p.0, ap (λ (y : Slot). holds y b) (sym q) ∙ p.1))
          (λ q. absurd (not_held b _ q.0 p.1))
          (g.drops j))
          (h.drops j);
    }

-- what was gone stays gone
still_gone : (b : ℕ) (w w' : Run) (j : ℕ) → Expelled b w w' → (holds (slot_at w.directory j) b ≡ true → ⊥)
    → holds (slot_at w'.directory j) b ≡ true → ⊥
still_gone b w w' j g h t =
    ⊎_elim (λ p. h (ap (λ (y : Slot). holds y b) (sym p) ∙ t)) (λ p. not_held b _ p.0 t) (g.drops j)

expel_does : (u b v : ℕ) (w : Run) → v < 4 → size w.directory ≡ 64
    → Expelled b w (expel u b v w) × ((v ≡ u → ⊥) → holds (slot_at (expel u b v w).directory (place v b)) b ≡ true → ⊥)
unfolding expel mark
expel_does u b v w l z = go (eqb v u) (holds (slot_at w.directory (place v b)) b) refl refl
  where
    n : ℕ
    n = place v b

    to : Bool → Run
    to t = cond t (mark n Invalid w) w

    same : slot_at (mark n Invalid w).directory n ≡ Invalid
    same = slot_same w.directory n Invalid (rw z (place_lt v b l))

    go : (s t : Bool) → eqb v u ≡ s → holds (slot_at w.directory n) b ≡ t
        → Expelled b w (to (not s && t)) × ((v ≡ u → ⊥) → holds (slot_at (to (not s && t)).directory n) b ≡ true → ⊥)
    go true t f g = (expelled_none b w, λ q h. q (eqb-true v u f))
    go false false f g = (expelled_none b w, λ q h. false≢true (sym g ∙ h))
    go false true f g = (
      record {
        orders = refl;
        memory = refl;
        cache = refl;
        sizes = size_set w.directory n Invalid;
        drops = λ j. ⊎_elim
            (λ (q : j ≡ n). inr (ap (slot_at (mark n Invalid w).directory) q ∙ same, rw q g))
            (λ q. inl (slot_other w.directory n j Invalid q))
            (eq_or_ne j n);
      },
      λ q h. not_held b _ same h,
    )

each_does : (u b : ℕ) (w : Run) → size w.directory ≡ 64
    → Expelled b w (each_unit (expel u b) w)
    × ((v : ℕ) → v < 4 → (v ≡ u → ⊥) → holds (slot_at (each_unit (expel u b) w).directory (place v b)) b ≡ true → ⊥)
unfolding each_unit
each_does u b w z =
    let v₁ : Run = expel u b 0 w in
    let v₂ : Run = expel u b 1 v₁ in
    let v₃ : Run = expel u b 2 v₂ in
    let v₄ : Run = expel u b 3 v₃ in
    let g₁ : Expelled b w v₁ × ((0 ≡ u → ⊥) → holds (slot_at v₁.directory (place 0 b)) b ≡ true → ⊥) = expel_does u b 0 w (omega arith) z in
    let z₁ : size v₁.directory ≡ 64 = g₁.0.sizes ∙ z in
    let g₂ : Expelled b v₁ v₂ × ((1 ≡ u → ⊥) → holds (slot_at v₂.directory (place 1 b)) b ≡ true → ⊥) = expel_does u b 1 v₁ (omega arith) z₁ in
    let z₂ : size v₂.directory ≡ 64 = g₂.0.sizes ∙ z₁ in
    let g₃ : Expelled b v₂ v₃ × ((2 ≡ u → ⊥) → holds (slot_at v₃.directory (place 2 b)) b ≡ true → ⊥) = expel_does u b 2 v₂ (omega arith) z₂ in
    let z₃ : size v₃.directory ≡ 64 = g₃.0.sizes ∙ z₂ in
    let g₄ : Expelled b v₃ v₄ × ((3 ≡ u → ⊥) → holds (slot_at v₄.directory (place 3 b)) b ≡ true → ⊥) = expel_does u b 3 v₃ (omega arith) z₃ in
    let h₃ : Expelled b v₂ v₄ = expelled_then b v₂ v₃ v₄ g₃.0 g₄.0 in
    let h₂ : Expelled b v₁ v₄ = expelled_then b v₁ v₂ v₄ g₂.0 h₃ in (
      expelled_then b w v₁ v₄ g₁.0 h₂,
      λ v l.
          four (λ i. (i ≡ u → ⊥) → holds (slot_at v₄.directory (place i b)) b ≡ true → ⊥)
          (λ q. still_gone b v₁ v₄ (place 0 b) h₂ (g₁.1 q))
          (λ q. still_gone b v₂ v₄ (place 1 b) h₃ (g₂.1 q))
          (λ q. still_gone b v₃ v₄ (place 2 b) g₄.0 (g₃.1 q))
          g₄.1 v l,
    )

claim_does : (u b : ℕ) (w : Run) → size w.directory ≡ 64
    → ((claim u b w).orders ≡ w.orders) × ((claim u b w).memory ≡ w.memory) × ((claim u b w).cache ≡ w.cache)
unfolding claim mark
claim_does u b w z = let g : Expelled b w (each_unit (expel u b) w) = (each_does u b w z).0 in (g.orders, g.memory, g.cache)

each_others : (u b : ℕ) (w : Run) → size w.directory ≡ 64 → (v : ℕ) → v < 4 → (v ≡ u → ⊥) → holds (slot_at w.directory (place v b)) b ≡ true
    → slot_at (each_unit (expel u b) w).directory (place v b) ≡ Invalid
each_others u b w z v h q t =
    let g : Expelled b w (each_unit (expel u b) w)
    × ((v : ℕ) → v < 4 → (v ≡ u → ⊥) → holds (slot_at (each_unit (expel u b) w).directory (place v b)) b ≡ true → ⊥) = each_does u b w z in
    ⊎_elim (λ p. absurd (g.1 v h q (ap (λ (y : Slot). holds y b) p ∙ t))) (λ p. p.0) (g.0.drops (place v b))

each_rest : (u b : ℕ) (w : Run) → size w.directory ≡ 64 → (n : ℕ) → holds (slot_at w.directory n) b ≡ false
    → slot_at (each_unit (expel u b) w).directory n ≡ slot_at w.directory n
each_rest u b w z n f = ⊎_elim (λ p. p) (λ p. absurd (false≢true (sym f ∙ p.1))) ((each_does u b w z).0.drops n)

-- unit u's own slots
expel_own : (u b v s : ℕ) (w : Run) → s < 16 → slot_at (expel u b v w).directory (16 * u + s) ≡ slot_at w.directory (16 * u + s)
unfolding expel mark place
expel_own u b v s w l = ⊎_elim
    (λ (q : v ≡ u). rw (eq-eqb v u q) refl)
    (λ (q : v ≡ u → ⊥). go (not (eqb v u) && holds (slot_at w.directory (place v b)) b) q)
    (eq_or_ne v u)
  where
    go : (t : Bool) → (v ≡ u → ⊥) → slot_at (cond t (mark (place v b) Invalid w) w).directory (16 * u + s) ≡ slot_at w.directory (16 * u + s)
    go true q = slot_other w.directory (16 * v + b % 16) (16 * u + s) Invalid (λ y. q (omega arith))
    go false q = refl

each_own : (u b s : ℕ) (w : Run) → s < 16 → slot_at (each_unit (expel u b) w).directory (16 * u + s) ≡ slot_at w.directory (16 * u + s)
unfolding each_unit
each_own u b s w l = expel_own u b 3 s _ l ∙ expel_own u b 2 s _ l ∙ expel_own u b 1 s _ l ∙ expel_own u b 0 s w l

-- the slots after a claim, where w has block b wherever d has it, and all else but u's slot as d
claim_slots : (d : Directory) (u b : ℕ) (w : Run) → u < 4 → size w.directory ≡ 64
    → ((v : ℕ) → v < 4 → (v ≡ u → ⊥) → holds (slot_at d (place v b)) b ≡ true → holds (slot_at w.directory (place v b)) b ≡ true)
    → ((n : ℕ) → (n ≡ place u b → ⊥) → holds (slot_at d n) b ≡ false → slot_at w.directory n ≡ slot_at d n)
    → SlotsStored d u b (claim u b w).directory
unfolding claim mark
claim_slots d u b w l z held kept =
    let v₁ : Run = each_unit (expel u b) w in
    record {
      own = slot_same v₁.directory (place u b) (Modified b) (rw ((each_does u b w z).0.sizes, z) (place_lt u b l));
      others = λ v h q t.
          slot_other v₁.directory (place u b) (place v b) (Modified b) (λ y. place_ne u v b q (sym y)) ∙ each_others u b w z v h q (held v h q t);
      rest = λ n q f.
          slot_other v₁.directory (place u b) n (Modified b) q
          ∙ each_rest u b w z n (ap (λ (y : Slot). holds y b) (kept n q f) ∙ f)
          ∙ kept n q f;
    }

-- ---- the accesses
module _ (d : Directory) (m k : List ℕ) (z : size d ≡ 64) (z₂ : length d.holders ≡ 64) where
  load_held_lem : (u a : ℕ) → refusal d m k (Load u a) ≡ 0 → holds (slot_at d (place u (a / 32))) (a / 32) ≡ true
      → Leaves d m [] k (after d m k (Load u a))
  unfolding act load ready settle
  load_held_lem u a r e =
      rw (acts d m k (Load u a) r, e)
      (record { orders = refl; directory = kept_same d (accepted_sets d m k (Load u a) z₂ r); memory = refl; cache = refl })

  misses : (u a : ℕ) → holds (slot_at d (place u (a / 32))) (a / 32) ≡ false → act (Load u a) (ready d m k) ≡ fetch u Read (a / 32) (ready d m k)
  unfolding act load ready
  misses u a e = rw e refl

  load_missed_lem : (u a : ℕ) → refusal d m k (Load u a) ≡ 0 → holds (slot_at d (place u (a / 32))) (a / 32) ≡ false
      → LoadMissed d m k u (a / 32) (after d m k (Load u a))
  unfolding unit_of reads settle
  load_missed_lem u a r e =
      let q : (sound d ≡ true) × (u < 4) × (length m ≡ 2048) × (length k ≡ 2048) = accepted_says d m k (Load u a) r in
      rw (acts d m k (Load u a) r, misses u a e)
      (record {
        orders = fetch_orders_lem d m k u (a / 32) Read refl q.1 z q.0 e;
        slots = settled_loaded d _ u (a / 32) (fetch_slots d m k u (a / 32) Read refl q.1 z q.0 e);
        cache = fetch_cache d m k u (a / 32) Read refl q.1 z q.0 e;
        taken = fetch_taken d m k u (a / 32) Read refl q.1 z q.0 e q.2 q.3;
      })

  store_modified_lem : (u a v : ℕ) → refusal d m k (Store u a v) ≡ 0 → through d.settings u ≡ false → slot_at d (place u (a / 32)) ≡ Modified (a / 32)
      → Leaves d m [] (put_word k (word_place u a) v) (after d m k (Store u a v))
  unfolding act store write ready settle
  store_modified_lem u a v r c e =
      rw (acts d m k (Store u a v) r, c, own_is u (a / 32) (ready d m k), is_modified (slot_at d (place u (a / 32))) (a / 32) e)
      (record {
        orders = refl;
        directory = kept_same d (accepted_sets d m k (Store u a v) z₂ r);
        memory = refl;
        cache = ap (λ (p : ℕ). put_word k p v) (word_place_lem u a);
      })

  not_modified_lem : (u b : ℕ) → slot_at d (place u b) ≡ Shared b → modified (slot_at d (place u b)) b ≡ false
  unfolding modified
  not_modified_lem u b e = rw e refl

  missed_modified : (u b : ℕ) → holds (slot_at d (place u b)) b ≡ false → modified (slot_at d (place u b)) b ≡ false
  unfolding modified holds
  missed_modified u b e = go (slot_at d (place u b)) e
    where
      go : (x : Slot) → holds x b ≡ false → modified x b ≡ false
      go Invalid f = refl
      go (Shared c) f = refl
      go (Modified c) f = f

  shares : (u a v : ℕ) → through d.settings u ≡ false → slot_at d (place u (a / 32)) ≡ Shared (a / 32)
      → act (Store u a v) (ready d m k) ≡ write u a v (claim u (a / 32) (give u Invalidate (a / 32) false (ready d m k)))
  unfolding act store ready
  shares u a v c e = rw (c, own_is u (a / 32) (ready d m k), not_modified_lem u (a / 32) e, shared_holds (slot_at d (place u (a / 32))) (a / 32) e) refl

  store_shared_lem : (u a v : ℕ) → refusal d m k (Store u a v) ≡ 0 → through d.settings u ≡ false → slot_at d (place u (a / 32)) ≡ Shared (a / 32)
      → StoreShared d m k u a v (after d m k (Store u a v))
  unfolding unit_of write give ready settle
  store_shared_lem u a v r y e =
      let b : ℕ = a / 32 in
      let w : Run = give u Invalidate b false (ready d m k) in
      let q : (sound d ≡ true) × (u < 4) × (length m ≡ 2048) × (length k ≡ 2048) = accepted_says d m k (Store u a v) r in
      let c : ((claim u b w).orders ≡ w.orders) × ((claim u b w).memory ≡ w.memory) × ((claim u b w).cache ≡ w.cache) = claim_does u b w z in
      rw (acts d m k (Store u a v) r, shares u a v y e)
      (record {
        orders = c.0;
        slots = settled_stored d _ u b (claim_slots d u b w q.1 z (λ x h y t. t) (λ n h t. refl));
        memory = c.1;
        cache = ap (λ (x : List ℕ). put_word x (cache_place u a) v) c.2 ∙ ap (λ (p : ℕ). put_word k p v) (word_place_lem u a);
      })

  fetches : (u a v : ℕ) → through d.settings u ≡ false → holds (slot_at d (place u (a / 32))) (a / 32) ≡ false
      → act (Store u a v) (ready d m k) ≡ write u a v (claim u (a / 32) (fetch u ModifiedRead (a / 32) (ready d m k)))
  unfolding act store ready
  fetches u a v c e = rw (c, own_is u (a / 32) (ready d m k), missed_modified u (a / 32) e, e) refl

  store_missed_lem : (u a v : ℕ) → refusal d m k (Store u a v) ≡ 0 → through d.settings u ≡ false → holds (slot_at d (place u (a / 32))) (a / 32) ≡ false
      → StoreMissed d m k u a v (after d m k (Store u a v))
  unfolding unit_of write reads settle
  store_missed_lem u a v r i e =
      let b : ℕ = a / 32 in
      let w : Run = fetch u ModifiedRead b (ready d m k) in
      let q : (sound d ≡ true) × (u < 4) × (length m ≡ 2048) × (length k ≡ 2048) = accepted_says d m k (Store u a v) r in
      let y : size w.directory ≡ 64 = fetch_size d m k u b ModifiedRead refl q.1 z q.0 e in
      let s : SlotsLoaded d u b w.directory = fetch_slots d m k u b ModifiedRead refl q.1 z q.0 e in
      let o : MissOrders d m k u b ModifiedRead w.orders w.memory = fetch_orders_lem d m k u b ModifiedRead refl q.1 z q.0 e in
      let h : w.cache ≡ put_block k (place u b) (block_at w.memory b) = fetch_cache d m k u b ModifiedRead refl q.1 z q.0 e in
      let c : ((claim u b w).orders ≡ w.orders) × ((claim u b w).memory ≡ w.memory) × ((claim u b w).cache ≡ w.cache) = claim_does u b w y in
      rw (acts d m k (Store u a v) r, fetches u a v i e)
      (record {
        orders = rw (c.0, c.1) o;
        slots =
            settled_stored d _ u b
            (claim_slots d u b w q.1 y
            (λ x l n t.
            ⊎_elim
            (λ p. shared_holds _ b (s.rest (place x b) (λ i. place_ne u x b n (sym i)) (λ i. shared≢modified b b (sym p ∙ i)) ∙ p))
            (λ p. shared_holds _ b (s.holder x l p))
            (holds_is _ b t))
            (λ n i t. s.rest n i (λ p. false≢true (sym t ∙ modified_holds _ b p))));
        cache =
            ap (λ (x : List ℕ). put_word x (cache_place u a) v) (c.2 ∙ h ∙ ap (λ (x : List ℕ). put_block k (place u b) (block_at x b)) (sym c.1))
            ∙ ap (λ (p : ℕ). put_word (put_block k (place u b) (block_at (claim u b w).memory b)) p v) (word_place_lem u a);
        taken = λ h g y.
            ap (λ (x : List ℕ). put_word x (cache_place u a) v)
            (c.2 ∙ fetch_taken d m k u b ModifiedRead refl q.1 z q.0 e q.2 q.3 h g y)
            ∙ ap (λ (p : ℕ). put_word (put_block k (place u b) (block_at k (place h b))) p v) (word_place_lem u a);
      })

  -- a write-through unit has nothing EM
  not_own_em : (u b s : ℕ) → u < 4 → sound d ≡ true → through d.settings u ≡ true → s < 16 → slot_at d (16 * u + s) ≡ Modified b → ⊥
  unfolding slot_of Kinds
  not_own_em u b s l q t h e = false≢true (sym (((tests_rules d).whole.enough q).1 u s b l h e) ∙ t)

  -- the machine once write-through unit u has asked for block b: its order is given again whatever the settings
  module _ (u b : ℕ) (l : u < 4) (q : sound d ≡ true) (t : through d.settings u ≡ true) where
    abbrev w₂ : Run
    w₂ = ask u MemoryWrite b (ready d m k)

    size₂ : size w₂.directory ≡ 64
    unfolding ready
    size₂ = ask_size u MemoryWrite b (ready d m k) ∙ z

    held₂ : (v : ℕ) → v < 4 → slot_at d (place v b) ≡ Modified b → w₂ ≡ give u MemoryWrite b false (yielded u MemoryWrite b v (ready d m k))
    unfolding ready reads
    held₂ v g e =
        ask_held u MemoryWrite b (ready d m k) v g (owner_is d b v q g e)
        ∙ ap (λ (t : Bool). cond t (yielded u MemoryWrite b v (ready d m k)) (give u MemoryWrite b false (yielded u MemoryWrite b v (ready d m k))))
        (and-false d.settings.steal)

    free₂ : NoneHasEM d b → w₂ ≡ give u MemoryWrite b false (ready d m k)
    unfolding ready
    free₂ h = ask_free u MemoryWrite b (ready d m k) h

    rest₂ : (n : ℕ) → (slot_at d n ≡ Modified b → ⊥) → slot_at w₂.directory n ≡ slot_at d n
    unfolding ready
    rest₂ n h = ask_rest u MemoryWrite b (ready d m k) n h

    -- who held block b holds it then
    holders₂ : (v : ℕ) → v < 4 → holds (slot_at d (place v b)) b ≡ true → holds (slot_at w₂.directory (place v b)) b ≡ true
    unfolding give copyback mark write_back ready
    holders₂ v g h = ⊎_elim
        (λ e. shared_holds _ b (rest₂ (place v b) (λ y. shared≢modified b b (sym e ∙ y)) ∙ e))
        (λ e. shared_holds _ b (rw (held₂ v g e) (slot_same d (place v b) (Shared b) (rw z (place_lt v b g)))))
        (holds_is _ b h)

    through_slots : SlotsThrough d u b (each_unit (expel u b) w₂).directory
    through_slots =
        record {
          own = λ s h. each_own u b s w₂ h ∙ rest₂ (16 * u + s) (not_own_em u b s l q t h);
          others = λ v g n h. each_others u b w₂ size₂ v g n (holders₂ v g h);
          rest = λ n f.
              let e : slot_at w₂.directory n ≡ slot_at d n = rest₂ n (λ y. false≢true (sym f ∙ modified_holds _ b y)) in
              each_rest u b w₂ size₂ n (ap (λ (y : Slot). holds y b) e ∙ f) ∙ e;
        }

    own_slot : slot_at (each_unit (expel u b) w₂).directory (place u b) ≡ slot_at d (place u b)
    unfolding place
    own_slot = through_slots.own (b % 16) (omega arith)

  writes : (u a v : ℕ) → through d.settings u ≡ true → act (Store u a v) (ready d m k) ≡ store_through u a v (ready d m k)
  unfolding act store ready
  writes u a v t = rw t refl

  -- its orders, and what memory has before the word
  gives : (u a v : ℕ) → u < 4 → sound d ≡ true → through d.settings u ≡ true
      → ThroughOrders d m k u a v (ask u MemoryWrite (a / 32) (ready d m k)).orders (put_word (ask u MemoryWrite (a / 32) (ready d m k)).memory a v)
  unfolding give copyback mark write_back ready
  gives u a v l q t =
      record {
        alone = λ h. rw (free₂ u (a / 32) l q t h) (refl, refl);
        retried = λ x g e. rw (held₂ u (a / 32) l q t x g e) (refl, refl);
      }

  store_through_lem : (u a v : ℕ) → refusal d m k (Store u a v) ≡ 0 → through d.settings u ≡ true → StoreThrough d m k u a v (after d m k (Store u a v))
  unfolding unit_of store_through write_through write ready settle
  store_through_lem u a v r t =
      let b : ℕ = a / 32 in
      let q : (sound d ≡ true) × (u < 4) × (length m ≡ 2048) × (length k ≡ 2048) = accepted_says d m k (Store u a v) r in
      let x : Run = ask u MemoryWrite b (ready d m k) in
      let g : Expelled b x (each_unit (expel u b) x) = (each_does u b x (size₂ u b q.1 q.0 t)).0 in
      rw (acts d m k (Store u a v) r, writes u a v t)
      (record {
        orders = rw (g.orders, g.memory) (gives u a v q.1 q.0 t);
        slots = settled_through d _ u b (through_slots u b q.1 q.0 t);
        held = λ h.
            rw (own_slot u b q.1 q.0 t, h)
            (ap (λ (y : List ℕ). put_word y (cache_place u a) v) (g.cache ∙ ask_cache u MemoryWrite b (ready d m k)) ∙ ap (λ (p : ℕ). put_word k p v) (word_place_lem u a));
        missed = λ h. rw (own_slot u b q.1 q.0 t, h) (g.cache ∙ ask_cache u MemoryWrite b (ready d m k));
      })

  flush_slots : (u b : ℕ) → u < 4 → SlotsFlushed d u b (empty u (place u b) (ready d m k)).directory
  unfolding ready
  flush_slots u b l =
      record {
        own = empty_own u (place u b) (ready d m k) (rw z (place_lt u b l));
        rest = λ n h. empty_other u (place u b) (ready d m k) n h;
      }

  flushes : (u b : ℕ) → holds (slot_at d (place u b)) b ≡ true → act (Flush u b) (ready d m k) ≡ empty u (place u b) (ready d m k)
  unfolding act flush ready
  flushes u b e = rw e refl

  flush_modified_lem : (u b : ℕ) → refusal d m k (Flush u b) ≡ 0 → slot_at d (place u b) ≡ Modified b
      → FlushHeld d k u b (by u Copyback b false ∷ []) (put_block m b (block_at k (place u b))) (after d m k (Flush u b))
  unfolding unit_of ready settle
  flush_modified_lem u b r e =
      let q : (sound d ≡ true) × (u < 4) × (length m ≡ 2048) × (length k ≡ 2048) = accepted_says d m k (Flush u b) r in
      rw (acts d m k (Flush u b) r, flushes u b (modified_holds _ b e))
      (record {
        orders = (empty_em u (place u b) (ready d m k) b e).0;
        slots = settled_flushed d _ u b (flush_slots u b q.1);
        memory = (empty_em u (place u b) (ready d m k) b e).1;
        cache = empty_cache u (place u b) (ready d m k);
      })

  flush_shared_lem : (u b : ℕ) → refusal d m k (Flush u b) ≡ 0 → slot_at d (place u b) ≡ Shared b
      → FlushHeld d k u b [] m (after d m k (Flush u b))
  unfolding unit_of ready settle
  flush_shared_lem u b r e =
      let q : (sound d ≡ true) × (u < 4) × (length m ≡ 2048) × (length k ≡ 2048) = accepted_says d m k (Flush u b) r in
      let n : NotEM d (place u b) = λ c y. shared≢modified b c (sym e ∙ y) in
      rw (acts d m k (Flush u b) r, flushes u b (shared_holds _ b e))
      (record {
        orders = (empty_not u (place u b) (ready d m k) n).0;
        slots = settled_flushed d _ u b (flush_slots u b q.1);
        memory = (empty_not u (place u b) (ready d m k) n).1;
        cache = empty_cache u (place u b) (ready d m k);
      })

  flush_other_lem : (u b : ℕ) → refusal d m k (Flush u b) ≡ 0 → holds (slot_at d (place u b)) b ≡ false
      → Leaves d m [] k (after d m k (Flush u b))
  unfolding act flush ready settle
  flush_other_lem u b r e =
      rw (acts d m k (Flush u b) r, e)
      (record { orders = refl; directory = kept_same d (accepted_sets d m k (Flush u b) z₂ r); memory = refl; cache = refl })

  load_value : (u a : ℕ) → Accepted d m k (Load u a) → (answer d m k (Load u a)).value ≡ word_at (cache_after d m k (Load u a)) (word_place u a)
  unfolding answer value_of loaded cache_after
  load_value u a r =
      rw (eq-eqb (refusal d m k (Load u a)) 0 r) (ap (word_at (after d m k (Load u a)).cache) (word_place_lem u a))

  either : (t : Bool) → ◌≡◌ {A = ℕ} (cond t 0 0) 0
  either true = refl
  either false = refl

  store_value : (u a v : ℕ) → (answer d m k (Store u a v)).value ≡ 0
  unfolding answer value_of loaded
  store_value u a v = either (eqb (refusal d m k (Store u a v)) 0)

  flush_value : (u b : ℕ) → (answer d m k (Flush u b)).value ≡ 0
  unfolding answer value_of loaded
  flush_value u b = either (eqb (refusal d m k (Flush u b)) 0)

  sets_left : (c : Call) → Accepted d m k c → SetsTrue (answer d m k c).directory
  unfolding answer settle SetsTrue
  sets_left c r b l = rw (acts d m k c r) ((sets_kept (act c (ready d m k)).directory).agree b (omega arith))

pub sentences : SentencesHold
unfolding SentencesHold size answer
sentences d m k z z₂ =
    record {
      load_held = λ u a r e. rw (left_is d m k (Load u a)) (load_held_lem d m k z z₂ u a r e);
      store_modified = λ u a v r t e. rw (left_is d m k (Store u a v)) (store_modified_lem d m k z z₂ u a v r t e);
      store_shared = λ u a v r t e. rw (left_is d m k (Store u a v)) (store_shared_lem d m k z z₂ u a v r t e);
      load_missed = λ u a r e. rw (left_is d m k (Load u a)) (load_missed_lem d m k z z₂ u a r e);
      store_missed = λ u a v r t e. rw (left_is d m k (Store u a v)) (store_missed_lem d m k z z₂ u a v r t e);
      store_through = λ u a v r t. rw (left_is d m k (Store u a v)) (store_through_lem d m k z z₂ u a v r t);
      flush_modified = λ u b r e. rw (left_is d m k (Flush u b)) (flush_modified_lem d m k z z₂ u b r e);
      flush_shared = λ u b r e. rw (left_is d m k (Flush u b)) (flush_shared_lem d m k z z₂ u b r e);
      flush_other = λ u b r e. rw (left_is d m k (Flush u b)) (flush_other_lem d m k z z₂ u b r e);
      kept = answer_settings d m k;
      holders = sets_left d m k z z₂;
      loaded = load_value d m k z z₂;
      stored = store_value d m k z z₂;
      flushed = flush_value d m k z z₂;
    }

-- ---- peek
peek_sound : (d : Directory) (m k : List ℕ) (b : ℕ) → peek_refusal d m k b ≡ 0 → sound d ≡ true
peek_sound d m k b e = go (sized m k) (sound d) (is_block b) (rw (peek_tests d m k b) at e)
  where
    go : (s t g : Bool) → ◌≡◌ {A = ℕ} (cond s (cond t (cond g 0 4) 2) 1) 0 → t ≡ true
    go true true g e = refl
    go true false g e = absurd (omega arith)
    go false t g e = absurd (omega arith)

slot_offset : (v b : ℕ) → 32 * place v b ≡ 512 * v + 32 * (b % 16)
unfolding place
slot_offset v b = omega arith

peek_cached : (d : Directory) (m k : List ℕ) (b : ℕ) → peek_refusal d m k b ≡ 0 → (v : ℕ) → v < 4 → slot_at d (place v b) ≡ Modified b
    → (peeked d m k b ≡ block_at k (place v b)) × (peek_from_cache d m k b ≡ true) × (peek_offset d m k b ≡ 512 * v + 32 * (b % 16))
unfolding peeked peek_from_cache peek_offset newest newest_block from_cache
peek_cached d m k b r v g e =
    rw (eq-eqb (peek_refusal d m k b) 0 r, owner_is d b v (peek_sound d m k b r) g e, lt-ltb v 4 g) (refl, refl, slot_offset v b)

peek_other : (d : Directory) (m k : List ℕ) (b : ℕ) → peek_refusal d m k b ≡ 0 → NoneHasEM d b
    → (peeked d m k b ≡ block_at m b) × (peek_from_cache d m k b ≡ false) × (peek_offset d m k b ≡ 32 * b)
unfolding peeked peek_from_cache peek_offset newest newest_block from_cache
peek_other d m k b r h =
    ⊎_elim
    (λ q. absurd (h (owner_of d b) q.0 q.1))
    (λ q. rw (eq-eqb (peek_refusal d m k b) 0 r, le-ltb (owner_of d b) 4 q.0) (refl, refl, refl))
    (owner_cases d b)

peek_refused : (d : Directory) (m k : List ℕ) (b : ℕ) → (peek_refusal d m k b ≡ 0 → ⊥)
    → (peeked d m k b ≡ []) × (peek_from_cache d m k b ≡ false) × (peek_offset d m k b ≡ 0)
unfolding peeked peek_from_cache peek_offset
peek_refused d m k b h = rw (ne_eqb (peek_refusal d m k b) 0 h) (refl, refl, refl)

pub peeks_hold : PeeksHold
unfolding PeeksHold
peeks_hold d m k b = record { cached = peek_cached d m k b; other = peek_other d m k b; refused = peek_refused d m k b }

-- ---- cold start
start_accepts : (m k : List ℕ) → length m ≡ 2048 → length k ≡ 2048 → start_refusal m k ≡ 0
start_accepts m k e f = start_tests m k ∙ rw (sized_true m k e f) refl

start_refuses : (m k : List ℕ) → (length m ≡ 2048 → length k ≡ 2048 → ⊥) → start_refusal m k ≡ 1
start_refuses m k h = start_tests m k ∙ go (sized m k) refl
  where
    go : (t : Bool) → sized m k ≡ t → ◌≡◌ {A = ℕ} (cond t 0 1) 1
    go true e = absurd (h (sized_say m k e).0 (sized_say m k e).1)
    go false e = refl

pub starts_hold : StartsHold
unfolding StartsHold start_answer cache_started cold_directory
starts_hold g m k =
    record {
      slots = λ n. slot_cold g n;
      settings = refl;
      sets = λ b. held_cold g b;
      accepted = λ e f. rw (start_accepts m k e f) (refl, refl);
      refused = λ h. rw (start_refuses m k h) (refl, refl);
    }

-- Loads, stores and flushes keep the invariant, and what they cost: a load at most 1, a store at most 1 + e, a flush nothing. A load's word is the
-- plain memory's.
use mathlib.Core.Path.{◌≡◌, refl, sym, ap, ◌∙◌}
use mathlib.Core.List.{List}
use mathlib.Core.Bool.{Bool, true, false, cond, not, ◌&&◌, false≢true}
use mathlib.Core.Logic.{⊎_elim}
use Prim.Native.Nat.{ℕ, ◌+◌, ◌*◌, ◌/◌, ◌%◌, ◌≤◌, ◌<◌}
use native.Mathlib.Omega.{arith}
use lib.ListN.{length}
use lib.Dec.{eqb}
use borrow.Author.Tests.{eqb-true, eqb-false, eq-eqb, ne_eqb}
use Rattle.order.specs.declared.Command.{Command}
use Rattle.order.specs.declared.Command.TheVariants.{Read, ModifiedRead, Invalidate, MemoryWrite}
use Rattle.coherence.specs.declared.Slot.{Slot}
use Rattle.coherence.specs.declared.Slot.TheVariants.{Invalid, Shared, Modified}
use Rattle.coherence.specs.declared.Directory.{Directory}
use Rattle.coherence.specs.Bytes.{block_at, put_block, word_at, put_word}
use Rattle.coherence.specs.Settings.{through}
use Rattle.coherence.specs.Slots.{place, slot_at, holds, modified}
use Rattle.coherence.specs.Access.{Run, give, mark, empty, each_unit, reads, ask, fill, fetch, expel, claim, cache_place, write, load, own, write_through, store_through, store, flush}
use Rattle.coherence.specs.Snapshot.{replaced}
use Rattle.coherence.proofs.Cases.{true_or_false, eq_or_ne}
use Rattle.coherence.proofs.ByteLaws.{length_block, length_put_block, length_put_word, block_same, block_other, word_same, word_other, word_block, word_in_block, word_elsewhere}
use Rattle.coherence.proofs.SlotLaws.{size, slot_same, modified_is, is_modified, holds_is, modified_holds, shared_holds, holds_shared, holds_modified, holds_one, holds_invalid, invalid≢modified, shared≢modified, modified_one, place_lt, place_mod, place_unit, place_ne}
use Rattle.coherence.proofs.Weights.{Enough, weight, debt_set}
use Rattle.coherence.proofs.Counts.{own_is}
use Rattle.coherence.proofs.Invariant.{Beside, change}
use Rattle.coherence.proofs.Actions.{Keeps, cost, Good, good_none, held_place, give_keeps, give_cost, mark_cost, mark_same, mark_other, mark_keeps, drop_good, empty_good, each_good, Asks, ask_keeps}

-- ---- a block is fetched
fill_cost : (e n b : ℕ) (w : Run) → n < size w.directory → cost e (fill n b w) ≤ cost e w
unfolding fill cost
fill_cost e n b w h = omega (arith, debt_set e w.directory n (Shared b) h)

fill_keeps : (p : Beside) (n b : ℕ) (w : Run) → n < 64 → b < 64 → b % 16 ≡ n % 16
    → ((c : ℕ) → slot_at w.directory n ≡ Modified c → ⊥) → ((j : ℕ) → slot_at w.directory j ≡ Modified b → ⊥) → Keeps p w
    → Keeps p (fill n b w) × (slot_at (fill n b w).directory n ≡ Shared b)
unfolding fill
fill_keeps p n b w l k q f g i =
    let s : n < size w.directory = rw i.lawful.slots l in
    let r : 32 * n + 32 ≤ length w.cache = omega (arith, i.store) in
    let x : List ℕ = block_at w.memory b in
    let z : length x ≡ 32 = length_block w.memory b (omega (arith, i.memory)) in (
      change p w.directory w.memory w.memory w.cache (put_block w.cache n x) n (Shared b) i
          (record {
            place = l;
            memory = i.memory;
            store = length_put_block w.cache n x r z ∙ i.store;
            others = λ j d. block_other w.cache n j x r z d;
            fits = λ c e. rw (← holds_shared b c e) (k, q);
            copy = λ c e. block_same w.cache n x r z ∙ rw (← holds_shared b c e) (i.home b k g);
            taken = λ c j d e t. shared≢modified b c e;
            owned = λ c j d t e. g j (rw (holds_shared b c t) e);
            kept = λ c e. refl;
            home = λ c m e d. absurd (f c e);
            under = λ c e. absurd (shared≢modified b c e);
            kind = λ c e. absurd (shared≢modified b c e);
          }),
      slot_same w.directory n (Shared b) s,
    )

pub fetch_keeps : (e : ℕ) (p : Beside) → Enough e p.settings → (u : ℕ) (k : Command) (b : ℕ) (w : Run) → reads k ≡ true → u < 4 → b < 64 → Keeps p w
    → Keeps p (fetch u k b w) × (cost e (fetch u k b w) ≤ cost e w + 1) × (slot_at (fetch u k b w).directory (place u b) ≡ Shared b)
unfolding fetch
fetch_keeps e p enough u k b w r l m i =
    let n : ℕ = place u b in
    let h : n < 64 = place_lt u b l in
    let w₁ : Run = empty u n w in
    let w₂ : Run = ask u k b w₁ in
    let g : Good e p w w₁ × (slot_at w₁.directory n ≡ Invalid) = empty_good e enough.0 p u n w h i in
    let a : Asks p b w₁ w₂ × (cost e w₂ ≤ cost e w₁ + cond (reads k) 1 (1 + e)) = ask_keeps e p enough u k b w₁ g.0.keeps in
    let c : cost e w₂ ≤ cost e w₁ + 1 = rw r at a.1 in
    let f : Keeps p (fill n b w₂) × (slot_at (fill n b w₂).directory n ≡ Shared b) =
    fill_keeps p n b w₂ h m (place_mod u b) (λ c z. invalid≢modified c (sym g.1 ∙ a.0.fewer.em n c z)) a.0.free a.0.keeps in
    let s : n < size w₂.directory = rw a.0.keeps.lawful.slots h in
    (f.0, omega (arith, g.0.cost, fill_cost e n b w₂ s), f.1)

reads_read : reads Read ≡ true
unfolding reads
reads_read = refl

reads_modified : reads ModifiedRead ≡ true
unfolding reads
reads_modified = refl

-- ---- the other holders become I
-- no unit has block b EM, and unit u's slot of it is x
abbrev Clear : ℕ → ℕ → Slot → Run → Type 0
Clear u b x w = ((n : ℕ) → slot_at w.directory n ≡ Modified b → ⊥) × (slot_at w.directory (place u b) ≡ x)

expel_good : (e : ℕ) (p : Beside) (u b v : ℕ) (x : Slot) (w : Run) → v < 4 → Keeps p w → Clear u b x w
    → Good e p w (expel u b v w) × Clear u b x (expel u b v w)
    × ((v ≡ u → ⊥) → holds (slot_at (expel u b v w).directory (place v b)) b ≡ true → ⊥)
unfolding expel
expel_good e p u b v x w l i z = go (eqb v u) (holds (slot_at w.directory (place v b)) b) refl refl
  where
    n : ℕ
    n = place v b

    to : Bool → Run
    to t = cond t (mark n Invalid w) w

    go : (s t : Bool) → eqb v u ≡ s → holds (slot_at w.directory n) b ≡ t
        → Good e p w (to (not s && t)) × Clear u b x (to (not s && t))
        × ((v ≡ u → ⊥) → holds (slot_at (to (not s && t)).directory n) b ≡ true → ⊥)
    go true t f g = (good_none i, z, λ q h. q (eqb-true v u f))
    go false false f g = (good_none i, z, λ q h. false≢true (sym g ∙ h))
    go false true f g =
        let d : Good e p w (mark n Invalid w) =
        drop_good e p n w (place_lt v b l) (λ c y. z.0 n (y ∙ ap Modified (holds_modified c b (rw y at g)))) i in (
          d,
          (λ j y. z.0 j (d.fewer.em j b y), mark_other n (place u b) Invalid w (place_ne u v b (eqb-false v u f)) ∙ z.1),
          λ q h. false≢true (sym (holds_invalid b) ∙ (rw (mark_same n Invalid w (rw i.lawful.slots (place_lt v b l))) at h)),
        )

-- at most unit u holds block b then
expel_all : (e : ℕ) (p : Beside) (u b : ℕ) (x : Slot) (w : Run) → Keeps p w → Clear u b x w
    → Good e p w (each_unit (expel u b) w) × Clear u b x (each_unit (expel u b) w)
    × ((n : ℕ) → (n ≡ place u b → ⊥) → holds (slot_at (each_unit (expel u b) w).directory n) b ≡ true → ⊥)
expel_all e p u b x w i z =
    let w₁ : Run = each_unit (expel u b) w in
    let g : Good e p w w₁ × Clear u b x w₁ × ((v : ℕ) → v < 4 → (v ≡ u → ⊥) → holds (slot_at w₁.directory (place v b)) b ≡ true → ⊥) =
    each_good e p (expel u b) (Clear u b x) (λ v d. (v ≡ u → ⊥) → holds (slot_at d (place v b)) b ≡ true → ⊥)
    (λ v y m j f. expel_good e p u b v x y m j f)
    (λ v d d' f y q t. y q (f.held (place v b) b t))
    w i z in (
      g.0,
      g.1,
      λ n d t.
          let r : (n / 16 < 4) × (n ≡ place (n / 16) b) = held_place p w₁.directory w₁.memory w₁.cache n b g.0.keeps t in
          g.2 (n / 16) r.0 (λ v. d (r.1 ∙ ap (λ (m : ℕ). place m b) v)) (rw r.1 at t),
    )

-- ---- a block is claimed

-- block b is taken: what it was is what the plain memory has
unfoldable pub take_over : Beside → ℕ → Beside
take_over p b = record { plain = p.plain; taken = replaced p.taken b (block_at p.plain b); settings = p.settings }

take_over_keeps : (p : Beside) (b : ℕ) (w : Run) → ((n : ℕ) → slot_at w.directory n ≡ Modified b → ⊥) → Keeps p w → Keeps (take_over p b) w
unfolding take_over replaced
take_over_keeps p b w f i =
    record {
      lawful = i.lawful;
      memory = i.memory;
      store = i.store;
      copy = i.copy;
      home = i.home;
      under = λ n c e. rw (ne_eqb c b (λ z. f n (rw z at e))) (i.under n c e);
    }

take_over_taken : (p : Beside) (b : ℕ) → (take_over p b).taken b ≡ block_at p.plain b
unfolding take_over replaced
take_over_taken p b = rw (eq-eqb b b refl)

take_over_settings : (p : Beside) (b : ℕ) → (take_over p b).settings ≡ p.settings
unfolding take_over
take_over_settings p b = refl

pub claim_keeps : (e : ℕ) (p : Beside) (u b : ℕ) (w : Run) → u < 4 → through p.settings u ≡ false → slot_at w.directory (place u b) ≡ Shared b → Keeps p w
    → Keeps (take_over p b) (claim u b w) × (cost e (claim u b w) ≤ cost e w + e) × (slot_at (claim u b w).directory (place u b) ≡ Modified b)
unfolding claim
claim_keeps e p u b w l o f i =
    let n : ℕ = place u b in
    let h : n < 64 = place_lt u b l in
    let w₁ : Run = each_unit (expel u b) w in
    let none : (k : ℕ) → slot_at w.directory k ≡ Modified b → ⊥ =
    λ k z. shared≢modified b b (sym f ∙ ap (slot_at w.directory) (i.lawful.lone k n b z (shared_holds _ b f)) ∙ z) in
    let g : Good e p w w₁ × Clear u b (Shared b) w₁ × ((k : ℕ) → (k ≡ n → ⊥) → holds (slot_at w₁.directory k) b ≡ true → ⊥) =
    expel_all e p u b (Shared b) w i (none, f) in
    let i₁ : Keeps p w₁ = g.0.keeps in
    let t : holds (slot_at w₁.directory n) b ≡ true = shared_holds _ b g.1.1 in
    let j : Keeps (take_over p b) w₁ = take_over_keeps p b w₁ g.1.0 i₁ in
    let s : n < size w₁.directory = rw j.lawful.slots h in
    let c : cost e (mark n (Modified b) w₁) + weight e (slot_at w₁.directory n) ≡ cost e w₁ + e = mark_cost e n (Modified b) w₁ s in (
      mark_keeps (take_over p b) n (Modified b) w₁ j
          (record {
            place = h;
            memory = j.memory;
            store = j.store;
            others = λ k d. refl;
            fits = λ a z. rw (← holds_modified b a z) ((j.lawful.placed n b t).1, (j.lawful.placed n b t).2);
            copy = λ a z. rw (← holds_modified b a z) (j.copy n b t);
            taken = λ a k d z y. g.2 k d (rw (sym (modified_one (Modified b) b a refl z)) at y);
            owned = λ a k d z y. d (sym (j.lawful.lone k n b (rw (sym (holds_modified b a z)) at y) t));
            kept = λ a z. refl;
            home = λ a m z d. absurd (shared≢modified b a (sym g.1.1 ∙ z));
            under = λ a z.
                rw (← modified_one (Modified b) b a refl z)
                (i₁.home b (i₁.lawful.placed n b t).1 g.1.0 ∙ sym (take_over_taken p b));
            kind = λ a z. rw (take_over_settings p b, place_unit u b) o;
          }),
      omega (arith, g.0.cost),
      mark_same n (Modified b) w₁ s,
    )

-- ---- words
offset : (a : ℕ) → a % 4 ≡ 0 → a % 32 + 4 ≤ 32
offset a h = omega arith

-- a held word is the plain memory's
pub word_held : (p : Beside) (u a : ℕ) (w : Run) → a % 4 ≡ 0 → Keeps p w → holds (slot_at w.directory (place u (a / 32))) (a / 32) ≡ true
    → word_at w.cache (cache_place u a) ≡ word_at p.plain a
unfolding cache_place
word_held p u a w h i t =
    word_block w.cache (place u (a / 32)) (a % 32) (offset a h)
    ∙ ap (λ (x : List ℕ). word_at x (a % 32)) (i.copy (place u (a / 32)) (a / 32) t)
    ∙ sym (word_in_block p.plain a h)

-- the plain memory with a word put, its taken blocks as they were
unfoldable pub written : Beside → ℕ → ℕ → Beside
written p a v = record { plain = put_word p.plain a v; taken = p.taken; settings = p.settings }

write_keeps : (p : Beside) (u a v : ℕ) (w : Run) → a % 4 ≡ 0 → slot_at w.directory (place u (a / 32)) ≡ Modified (a / 32) → Keeps p w
    → Keeps (written p a v) (write u a v w)
unfolding write cache_place written
write_keeps p u a v w h e i =
    let k : ℕ = place u (a / 32) in
    let t : holds (slot_at w.directory k) (a / 32) ≡ true = modified_holds _ (a / 32) e in
    record {
      lawful = i.lawful;
      memory = i.memory;
      store = length_put_word w.cache (32 * k + a % 32) v ∙ i.store;
      copy = λ n b g. ⊎_elim
          (λ (q : n ≡ k).
          let r : a / 32 ≡ b = holds_modified (a / 32) b (rw (q, e) at g) in
          rw (q, ← r)
          (word_same w.cache k (a % 32) v (offset a h)
          ∙ ap (λ (x : List ℕ). put_word x (a % 32) v) (i.copy k (a / 32) t)
          ∙ sym (word_elsewhere p.plain a v h).0))
          (λ q.
          word_other w.cache k n (a % 32) v (offset a h) q
          ∙ i.copy n b g
          ∙ sym ((word_elsewhere p.plain a v h).1 b (λ r. q (i.lawful.lone k n (a / 32) e (rw r at g)))))
          (eq_or_ne n k);
      home = λ b l f. i.home b l f ∙ sym ((word_elsewhere p.plain a v h).1 b (λ r. f k (rw r e)));
      under = i.under;
    }

-- a word goes to memory, and to unit u's copy if u holds its block. No unit has the block EM, and no other unit holds it
write_through_keeps : (p : Beside) (u a v : ℕ) (w : Run) → a % 4 ≡ 0 → a ≤ 2044
    → ((n : ℕ) → slot_at w.directory n ≡ Modified (a / 32) → ⊥)
    → ((n : ℕ) → (n ≡ place u (a / 32) → ⊥) → holds (slot_at w.directory n) (a / 32) ≡ true → ⊥)
    → Keeps p w → Keeps (written p a v) (write_through u a v w)
unfolding write_through write cache_place written
write_through_keeps p u a v w h m none only i =
    record {
      lawful = i.lawful;
      memory = length_put_word w.memory a v ∙ i.memory;
      store = size_of (holds (slot_at w.directory k) b);
      copy = λ n c g. ⊎_elim
          (λ (q : c ≡ b).
          let y : holds (slot_at w.directory n) b ≡ true = rw q at g in
          let r : n ≡ k = ⊎_elim (λ z. z) (λ z. absurd (only n z y)) (eq_or_ne n k) in
          rw (r, q) (held (rw r at y)))
          (λ q. other n c q g (holds (slot_at w.directory k) b) refl ∙ i.copy n c g ∙ sym ((word_elsewhere p.plain a v h).1 c q))
          (eq_or_ne c b);
      home = λ c l f. ⊎_elim
          (λ q.
          rw q
          ((word_elsewhere w.memory a v h).0
          ∙ ap (λ (x : List ℕ). put_word x (a % 32) v) (i.home b (omega arith) none)
          ∙ sym (word_elsewhere p.plain a v h).0))
          (λ q. (word_elsewhere w.memory a v h).1 c q ∙ i.home c l f ∙ sym ((word_elsewhere p.plain a v h).1 c q))
          (eq_or_ne c b);
      under = λ n c z. (word_elsewhere w.memory a v h).1 c (λ q. none n (rw q at z)) ∙ i.under n c z;
    }
  where
    b : ℕ
    b = a / 32

    k : ℕ
    k = place u b

    to : Bool → List ℕ
    to t = cond t (put_word w.cache (32 * k + a % 32) v) w.cache

    size_of : (t : Bool) → length (to t) ≡ 2048
    size_of true = length_put_word w.cache (32 * k + a % 32) v ∙ i.store
    size_of false = i.store

    held : holds (slot_at w.directory k) b ≡ true → block_at (to (holds (slot_at w.directory k) b)) k ≡ block_at (put_word p.plain a v) b
    held t =
        ap (λ (x : Bool). block_at (to x) k) t
        ∙ word_same w.cache k (a % 32) v (offset a h)
        ∙ ap (λ (x : List ℕ). put_word x (a % 32) v) (i.copy k b t)
        ∙ sym (word_elsewhere p.plain a v h).0

    other : (n c : ℕ) → (c ≡ b → ⊥) → holds (slot_at w.directory n) c ≡ true → (t : Bool) → holds (slot_at w.directory k) b ≡ t
        → block_at (to t) n ≡ block_at w.cache n
    other n c q g false z = refl
    other n c q g true z =
        word_other w.cache k n (a % 32) v (offset a h) (λ r. q (holds_one (slot_at w.directory k) c b (rw r at g) z))

-- ---- the accesses
pub load_keeps : (e : ℕ) (p : Beside) → Enough e p.settings → (u a : ℕ) (w : Run) → u < 4 → a % 4 ≡ 0 → a ≤ 2044 → Keeps p w
    → Keeps p (load u a w) × (cost e (load u a w) ≤ cost e w + 1) × (word_at (load u a w).cache (cache_place u a) ≡ word_at p.plain a)
unfolding load
load_keeps e p enough u a w l h m i = go (holds (slot_at w.directory (place u (a / 32))) (a / 32)) refl
  where
    f : Run
    f = fetch u Read (a / 32) w

    go : (t : Bool) → holds (slot_at w.directory (place u (a / 32))) (a / 32) ≡ t
        → Keeps p (cond t w f) × (cost e (cond t w f) ≤ cost e w + 1) × (word_at (cond t w f).cache (cache_place u a) ≡ word_at p.plain a)
    go true z = (i, omega arith, word_held p u a w h i z)
    go false z =
        let g : Keeps p f × (cost e f ≤ cost e w + 1) × (slot_at f.directory (place u (a / 32)) ≡ Shared (a / 32)) =
        fetch_keeps e p enough u Read (a / 32) w reads_read l (omega arith) i in
        (g.0, g.1, word_held p u a f h g.0 (shared_holds _ (a / 32) g.2))

own_keeps : (e : ℕ) (p : Beside) → Enough e p.settings → (u b : ℕ) (w : Run) → u < 4 → b < 64 → through p.settings u ≡ false → Keeps p w
    → Keeps (cond (modified (slot_at w.directory (place u b)) b) p (take_over p b)) (own u b w)
    × (cost e (own u b w) ≤ cost e w + (1 + e)) × (slot_at (own u b w).directory (place u b) ≡ Modified b)
unfolding give
own_keeps e p enough u b w l m o i = rw (own_is u b w) (go (modified (slot_at w.directory n) b) (holds (slot_at w.directory n) b) refl refl)
  where
    n : ℕ
    n = place u b

    w₁ : Run
    w₁ = give u Invalidate b false w

    w₂ : Run
    w₂ = fetch u ModifiedRead b w

    Owns : Bool → Run → Type 0
    Owns s x = Keeps (cond s p (take_over p b)) x × (cost e x ≤ cost e w + (1 + e)) × (slot_at x.directory n ≡ Modified b)

    go : (s t : Bool) → modified (slot_at w.directory n) b ≡ s → holds (slot_at w.directory n) b ≡ t → Owns s (cond s w (claim u b (cond t w₁ w₂)))
    go true t y f = (i, omega arith, modified_is _ b y)
    go false true y f =
        let s : slot_at w.directory n ≡ Shared b = ⊎_elim (λ q. q) (λ q. absurd (false≢true (sym y ∙ is_modified _ b q))) (holds_is _ b f) in
        let g : Keeps (take_over p b) (claim u b w₁) × (cost e (claim u b w₁) ≤ cost e w₁ + e) × (slot_at (claim u b w₁).directory n ≡ Modified b) =
        claim_keeps e p u b w₁ l o s (give_keeps p u Invalidate b false w i) in
        (g.0, omega (arith, g.1, give_cost e u Invalidate b false w), g.2)
    go false false y f =
        let h : Keeps p w₂ × (cost e w₂ ≤ cost e w + 1) × (slot_at w₂.directory n ≡ Shared b) = fetch_keeps e p enough u ModifiedRead b w reads_modified l m i in
        let g : Keeps (take_over p b) (claim u b w₂) × (cost e (claim u b w₂) ≤ cost e w₂ + e) × (slot_at (claim u b w₂).directory n ≡ Modified b) =
        claim_keeps e p u b w₂ l o h.2 h.0 in
        (g.0, omega arith, g.2)

-- "A write-through unit is only I or SU"
through_not_em : (p : Beside) (u b : ℕ) (w : Run) → through p.settings u ≡ true → Keeps p w → modified (slot_at w.directory (place u b)) b ≡ false
through_not_em p u b w o i = ⊎_elim
    (λ t. absurd (false≢true (sym (rw (place_unit u b) at (i.lawful.kinds (place u b) b (modified_is _ b t))) ∙ o)))
    (λ t. t)
    (true_or_false (modified (slot_at w.directory (place u b)) b))

write_cost : (e u a v : ℕ) (w : Run) → cost e (write u a v w) ≡ cost e w
unfolding write cost
write_cost e u a v w = refl

write_through_cost : (e u a v : ℕ) (w : Run) → cost e (write_through u a v w) ≡ cost e w
unfolding write_through cost
write_through_cost e u a v w = refl

store_through_keeps : (e : ℕ) (p : Beside) → Enough e p.settings → (u a v : ℕ) (w : Run) → a % 4 ≡ 0 → a ≤ 2044 → Keeps p w
    → Keeps (written (take_over p (a / 32)) a v) (store_through u a v w) × (cost e (store_through u a v w) ≤ cost e w + (1 + e))
unfolding store_through reads
store_through_keeps e p enough u a v w h m i =
    let b : ℕ = a / 32 in
    let w₁ : Run = ask u MemoryWrite b w in
    let w₂ : Run = each_unit (expel u b) w₁ in
    let q : Asks p b w w₁ × (cost e w₁ ≤ cost e w + (1 + e)) = ask_keeps e p enough u MemoryWrite b w i in
    let x : Slot = slot_at w₁.directory (place u b) in
    let r : Good e p w₁ w₂ × Clear u b x w₂ × ((n : ℕ) → (n ≡ place u b → ⊥) → holds (slot_at w₂.directory n) b ≡ true → ⊥) =
    expel_all e p u b x w₁ q.0.keeps (q.0.free, refl) in (
      write_through_keeps (take_over p b) u a v w₂ h m r.1.0 r.2 (take_over_keeps p b w₂ r.1.0 r.0.keeps),
      omega (arith, write_through_cost e u a v w₂, r.0.cost, q.1),
    )

-- a store by unit u into block b, in the directory d
unfoldable pub storing : Directory → ℕ → ℕ → Beside → Beside
storing d u b p = cond (modified (slot_at d (place u b)) b) p (take_over p b)

pub store_keeps : (e : ℕ) (p : Beside) → Enough e p.settings → (u a v : ℕ) (w : Run) → u < 4 → a % 4 ≡ 0 → a ≤ 2044 → Keeps p w
    → Keeps (written (storing w.directory u (a / 32) p) a v) (store u a v w) × (cost e (store u a v w) ≤ cost e w + (1 + e))
unfolding store storing
store_keeps e p enough u a v w l h m i = go (through w.directory.settings u) refl
  where
    b : ℕ
    b = a / 32

    p' : Beside
    p' = cond (modified (slot_at w.directory (place u b)) b) p (take_over p b)

    w₁ : Run
    w₁ = write u a v (own u b w)

    w₂ : Run
    w₂ = store_through u a v w

    go : (t : Bool) → through w.directory.settings u ≡ t → Keeps (written p' a v) (cond t w₂ w₁) × (cost e (cond t w₂ w₁) ≤ cost e w + (1 + e))
    go true z =
        let f : modified (slot_at w.directory (place u b)) b ≡ false = through_not_em p u b w (rw i.lawful.chosen at z) i in
        rw f (store_through_keeps e p enough u a v w h m i)
    go false z =
        let g = own_keeps e p enough u b w l (omega arith) (rw i.lawful.chosen at z) i in
        (write_keeps p' u a v (own u b w) h g.2 g.0, omega (arith, write_cost e u a v (own u b w), g.1))

pub flush_keeps : (e : ℕ) (p : Beside) → Enough e p.settings → (u b : ℕ) (w : Run) → u < 4 → Keeps p w
    → Keeps p (flush u b w) × (cost e (flush u b w) ≤ cost e w)
unfolding flush
flush_keeps e p enough u b w l i = go (holds (slot_at w.directory (place u b)) b)
  where
    f : Run
    f = empty u (place u b) w

    go : (t : Bool) → Keeps p (cond t f w) × (cost e (cond t f w) ≤ cost e w)
    go true =
        let g : Good e p w f × (slot_at f.directory (place u b) ≡ Invalid) = empty_good e enough.0 p u (place u b) w (place_lt u b l) i in
        (g.0.keeps, g.0.cost)
    go false = (i, omega arith)

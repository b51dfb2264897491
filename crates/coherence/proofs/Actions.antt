-- Each bus action keeps the invariant, and what it costs: an order costs 1, and a block that ceases to be EM gives back the weight e. A copyback
-- costs 1 - e, so emptying a slot costs nothing where e is at least 1; a read costs at most 1, retried or not, where e is enough for the settings.
use mathlib.Core.Path.{◌≡◌, refl, sym, ap, ◌∙◌}
use mathlib.Core.List.{List}
use mathlib.Core.Bool.{Bool, true, false, cond, ◌&&◌, false≢true}
use mathlib.Core.Logic.{⊎_elim}
use Prim.Native.Nat.{ℕ, ◌+◌, ◌*◌, ◌/◌, ◌%◌, ◌≤◌, ◌<◌}
use native.Mathlib.Omega.{arith}
use lib.ListN.{length, length-append}
use lib.Dec.{ltb}
use borrow.Author.Tests.{lt-ltb, le-ltb}
use Rattle.order.specs.declared.Command.{Command}
use Rattle.order.specs.declared.Command.TheVariants.{Copyback}
use Rattle.coherence.specs.declared.Slot.{Slot}
use Rattle.coherence.specs.declared.Slot.TheVariants.{Invalid, Shared, Modified}
use Rattle.coherence.specs.declared.Settings.{Settings}
use Rattle.coherence.specs.declared.Directory.{Directory}
use Rattle.coherence.specs.Bytes.{block_at, put_block}
use Rattle.coherence.specs.Slots.{place, slot_at, holds, owner_of}
use Rattle.coherence.specs.Access.{Run, give, mark, write_back, copyback, emptied, empty, each_unit, yield, reads, stolen, asked, ask}
use Rattle.coherence.proofs.Cases.{eq_or_ne, four}
use Rattle.coherence.proofs.ByteLaws.{length_block, length_put_block, block_same, block_other}
use Rattle.coherence.proofs.SlotLaws.{size, slot_same, slot_other, holds_invalid, modified_holds, holds_shared, invalid≢modified, shared≢modified, modified_one, place_of, owner_cases}
use Rattle.coherence.proofs.Weights.{Enough, weight, debt, debt_set}
use Rattle.coherence.proofs.Invariant.{Beside, Inv, Change, change}

abbrev pub Keeps : Beside → Run → Type 0
Keeps p w = Inv p w.directory w.memory w.cache

-- the orders given, and those that the EM slots may still cost
unfoldable pub cost : ℕ → Run → ℕ
cost e w = length w.orders + debt e w.directory

-- no slot of d' holds, or has EM, what it does not in d
pub record Fewer (d d' : Directory) : Type 0 where
  pub em : (j b : ℕ) → slot_at d' j ≡ Modified b → slot_at d j ≡ Modified b
  pub held : (j b : ℕ) → holds (slot_at d' j) b ≡ true → holds (slot_at d j) b ≡ true

fewer_none : (d : Directory) → Fewer d d
fewer_none d = record { em = λ j b q. q; held = λ j b q. q }

-- from w to w' at no cost
pub record Good (e : ℕ) (p : Beside) (w w' : Run) : Type 0 where
  pub keeps : Keeps p w'
  pub cost : cost e w' ≤ cost e w
  pub fewer : Fewer w.directory w'.directory

pub good_none : {e : ℕ} {p : Beside} {w : Run} → Keeps p w → Good e p w w
good_none {e} {p} {w} i = record { keeps = i; cost = omega arith; fewer = fewer_none w.directory }

pub good_then : {e : ℕ} {p : Beside} {w w' w'' : Run} → Good e p w w' → Good e p w' w'' → Good e p w w''
good_then g h =
    record {
      keeps = h.keeps;
      cost = omega arith;
      fewer =
          record {
            em = λ j b q. g.fewer.em j b (h.fewer.em j b q);
            held = λ j b q. g.fewer.held j b (h.fewer.held j b q);
          };
    }

not_invalid : (b : ℕ) → holds Invalid b ≡ true → ⊥
not_invalid b t = false≢true (sym (holds_invalid b) ∙ t)

-- ---- an order
pub give_keeps : (p : Beside) (u : ℕ) (k : Command) (b : ℕ) (t : Bool) (w : Run) → Keeps p w → Keeps p (give u k b t w)
unfolding give
give_keeps p u k b t w i = i

pub give_cost : (e u : ℕ) (k : Command) (b : ℕ) (t : Bool) (w : Run) → cost e (give u k b t w) ≡ cost e w + 1
unfolding give cost
give_cost e u k b t w = simp length-append (omega arith)

-- ---- a slot is marked
pub mark_cost : (e n : ℕ) (x : Slot) (w : Run) → n < size w.directory
    → cost e (mark n x w) + weight e (slot_at w.directory n) ≡ cost e w + weight e x
unfolding mark cost
mark_cost e n x w h = omega (arith, debt_set e w.directory n x h)

pub mark_same : (n : ℕ) (x : Slot) (w : Run) → n < size w.directory → slot_at (mark n x w).directory n ≡ x
unfolding mark
mark_same n x w h = slot_same w.directory n x h

pub mark_other : (n j : ℕ) (x : Slot) (w : Run) → (j ≡ n → ⊥) → slot_at (mark n x w).directory j ≡ slot_at w.directory j
unfolding mark
mark_other n j x w h = slot_other w.directory n j x h

pub mark_keeps : (p : Beside) (n : ℕ) (x : Slot) (w : Run) → Keeps p w
    → Change p w.directory w.memory w.memory w.cache w.cache n x → Keeps p (mark n x w)
unfolding mark
mark_keeps p n x w i h = change p w.directory w.memory w.memory w.cache w.cache n x i h

mark_fewer : (n : ℕ) (x : Slot) (w : Run) → n < size w.directory
    → ((b : ℕ) → x ≡ Modified b → slot_at w.directory n ≡ Modified b)
    → ((b : ℕ) → holds x b ≡ true → holds (slot_at w.directory n) b ≡ true)
    → Fewer w.directory (mark n x w).directory
mark_fewer n x w l f g =
    record {
      em = λ j b e. ⊎_elim
          (λ q. rw q (f b (sym (mark_same n x w l) ∙ (rw q at e))))
          (λ q. sym (mark_other n j x w q) ∙ e)
          (eq_or_ne j n);
      held = λ j b e. ⊎_elim
          (λ q. rw q (g b (rw (q, mark_same n x w l) at e)))
          (λ q. rw (mark_other n j x w q) at e)
          (eq_or_ne j n);
    }

-- a slot that is not EM is made invalid
pub drop_good : (e : ℕ) (p : Beside) (n : ℕ) (w : Run) → n < 64 → ((b : ℕ) → slot_at w.directory n ≡ Modified b → ⊥) → Keeps p w
    → Good e p w (mark n Invalid w)
drop_good e p n w l f i =
    let s : n < size w.directory = rw i.lawful.slots l in
    record {
      keeps =
          mark_keeps p n Invalid w i
          (record {
            place = l;
            memory = i.memory;
            store = i.store;
            others = λ j q. refl;
            fits = λ b t. absurd (not_invalid b t);
            copy = λ b t. absurd (not_invalid b t);
            taken = λ b j q z t. invalid≢modified b z;
            owned = λ b j q t z. not_invalid b t;
            kept = λ b z. refl;
            home = λ b k z q. absurd (f b z);
            under = λ b z. absurd (invalid≢modified b z);
            kind = λ b z. absurd (invalid≢modified b z);
          });
      cost = omega (arith, mark_cost e n Invalid w s);
      fewer = mark_fewer n Invalid w s (λ b z. absurd (invalid≢modified b z)) (λ b t. absurd (not_invalid b t));
    }

-- ---- a copyback
copyback_keeps : (p : Beside) (u n b : ℕ) (w : Run) → slot_at w.directory n ≡ Modified b → Keeps p w → Keeps p (copyback u n b w)
unfolding copyback mark write_back give
copyback_keeps p u n b w e i =
    let t : holds (slot_at w.directory n) b ≡ true = modified_holds (slot_at w.directory n) b e in
    let q : (n < 64) × (b < 64) × (b % 16 ≡ n % 16) = i.lawful.placed n b t in
    let x : List ℕ = block_at w.cache n in
    let r : 32 * b + 32 ≤ length w.memory = omega (arith, i.memory) in
    let k : length x ≡ 32 = length_block w.cache n (omega (arith, i.store)) in
    change p w.directory w.memory (put_block w.memory b x) w.cache w.cache n (Shared b) i
    (record {
      place = q.0;
      memory = length_put_block w.memory b x r k ∙ i.memory;
      store = i.store;
      others = λ j z. refl;
      fits = λ c z. rw (← holds_shared b c z) (q.1, q.2);
      copy = λ c z. rw (← holds_shared b c z) (i.copy n b t);
      taken = λ c j z f g. shared≢modified b c f;
      owned = λ c j z f g. z (sym (i.lawful.lone j n c g (rw (holds_shared b c f) at t)));
      kept = λ c f. block_other w.memory b c x r k (λ z. f (rw z e));
      home = λ c l f g. rw (← modified_one (slot_at w.directory n) b c e f) (block_same w.memory b x r k ∙ i.copy n b t);
      under = λ c z. absurd (shared≢modified b c z);
      kind = λ c z. absurd (shared≢modified b c z);
    })

write_back_cost : (e n b : ℕ) (w : Run) → cost e (write_back n b w) ≡ cost e w
unfolding write_back cost
write_back_cost e n b w = refl

pub copyback_good : (e : ℕ) → 1 ≤ e → (p : Beside) (u n b : ℕ) (w : Run) → slot_at w.directory n ≡ Modified b → Keeps p w
    → Good e p w (copyback u n b w) × (cost e (copyback u n b w) + e ≡ cost e w + 1) × (slot_at (copyback u n b w).directory n ≡ Shared b)
unfolding copyback give write_back
copyback_good e one p u n b w f i =
    let w₁ : Run = give u Copyback b false w in
    let w₂ : Run = write_back n b w₁ in
    let t : holds (slot_at w.directory n) b ≡ true = modified_holds (slot_at w.directory n) b f in
    let s : n < size w.directory = rw i.lawful.slots (i.lawful.placed n b t).0 in
    let c₁ : cost e w₁ ≡ cost e w + 1 = give_cost e u Copyback b false w in
    let c₂ : cost e w₂ ≡ cost e w₁ = write_back_cost e n b w₁ in
    let c₃ : cost e (mark n (Shared b) w₂) + weight e (slot_at w.directory n) ≡ cost e w₂ + 0 = mark_cost e n (Shared b) w₂ s in
    let c₄ : weight e (slot_at w.directory n) ≡ e = ap (weight e) f in (
      record {
        keeps = copyback_keeps p u n b w f i;
        cost = omega arith;
        fewer = mark_fewer n (Shared b) w₂ s (λ c z. absurd (shared≢modified b c z)) (λ c z. rw (holds_shared b c z) at t);
      },
      omega arith,
      mark_same n (Shared b) w₂ s,
    )

-- ---- a slot is emptied
pub empty_good : (e : ℕ) → 1 ≤ e → (p : Beside) (u n : ℕ) (w : Run) → n < 64 → Keeps p w
    → Good e p w (empty u n w) × (slot_at (empty u n w).directory n ≡ Invalid)
unfolding empty emptied
empty_good e one p u n w l i = go (slot_at w.directory n) refl
  where
    go : (x : Slot) → slot_at w.directory n ≡ x → Good e p w (emptied u n x w) × (slot_at (emptied u n x w).directory n ≡ Invalid)
    go Invalid f = (good_none i, f)
    go (Shared b) f = (drop_good e p n w l (λ c z. shared≢modified b c (sym f ∙ z)) i, mark_same n Invalid w (rw i.lawful.slots l))
    go (Modified b) f =
        let g : Good e p w (copyback u n b w) × (cost e (copyback u n b w) + e ≡ cost e w + 1) × (slot_at (copyback u n b w).directory n ≡ Shared b) =
        copyback_good e one p u n b w f i in (
          good_then g.0 (drop_good e p n (copyback u n b w) l (λ c z. shared≢modified b c (sym g.2 ∙ z)) g.0.keeps),
          mark_same n Invalid (copyback u n b w) (rw g.0.keeps.lawful.slots l),
        )

-- ---- each unit in turn
pub each_good : (e : ℕ) (p : Beside) (f : ℕ → Run → Run) (Pre : Run → Type 0) (Done : ℕ → Directory → Type 0)
    → ((v : ℕ) (w : Run) → v < 4 → Keeps p w → Pre w → Good e p w (f v w) × Pre (f v w) × Done v (f v w).directory)
    → ((v : ℕ) (d d' : Directory) → Fewer d d' → Done v d → Done v d')
    → (w : Run) → Keeps p w → Pre w
    → Good e p w (each_unit f w) × Pre (each_unit f w) × ((v : ℕ) → v < 4 → Done v (each_unit f w).directory)
unfolding each_unit
each_good e p f Pre Done one stay w i q =
    let w₁ : Run = f 0 w in
    let w₂ : Run = f 1 w₁ in
    let w₃ : Run = f 2 w₂ in
    let w₄ : Run = f 3 w₃ in
    let g₁ : Good e p w w₁ × Pre w₁ × Done 0 w₁.directory = one 0 w (omega arith) i q in
    let g₂ : Good e p w₁ w₂ × Pre w₂ × Done 1 w₂.directory = one 1 w₁ (omega arith) g₁.0.keeps g₁.1 in
    let g₃ : Good e p w₂ w₃ × Pre w₃ × Done 2 w₃.directory = one 2 w₂ (omega arith) g₂.0.keeps g₂.1 in
    let g₄ : Good e p w₃ w₄ × Pre w₄ × Done 3 w₄.directory = one 3 w₃ (omega arith) g₃.0.keeps g₃.1 in
    let h₃ : Good e p w₂ w₄ = good_then g₃.0 g₄.0 in
    let h₂ : Good e p w₁ w₄ = good_then g₂.0 h₃ in (
      good_then g₁.0 h₂,
      g₄.1,
      λ v l.
          four (λ k. Done k w₄.directory) (stay 0 _ _ h₂.fewer g₁.2) (stay 1 _ _ h₃.fewer g₂.2)
          (stay 2 _ _ g₄.0.fewer g₃.2) g₄.2 v l,
    )

-- a held block is at one of its four places
pub held_place : (p : Beside) (d : Directory) (m c : List ℕ) (n b : ℕ) → Inv p d m c → holds (slot_at d n) b ≡ true
    → (n / 16 < 4) × (n ≡ place (n / 16) b)
held_place p d m c n b i t = let q : (n < 64) × (b < 64) × (b % 16 ≡ n % 16) = i.lawful.placed n b t in place_of n b q.0 q.2

-- a block that is EM in none of its four places is EM nowhere
pub none_em : (p : Beside) (d : Directory) (m c : List ℕ) (b : ℕ) → Inv p d m c → ((v : ℕ) → v < 4 → slot_at d (place v b) ≡ Modified b → ⊥)
    → (n : ℕ) → slot_at d n ≡ Modified b → ⊥
none_em p d m c b i h n z =
    let r : (n / 16 < 4) × (n ≡ place (n / 16) b) = held_place p d m c n b i (modified_holds _ b z) in
    h (n / 16) r.0 (ap (slot_at d) (sym r.1) ∙ z)

-- ---- a holder gives way, and an order is given
-- from w to w' block b is asked for: no unit has it EM then
pub record Asks (p : Beside) (b : ℕ) (w w' : Run) : Type 0 where
  pub keeps : Keeps p w'
  pub fewer : Fewer w.directory w'.directory
  pub free : (n : ℕ) → slot_at w'.directory n ≡ Modified b → ⊥

-- where unit v has block b EM, for two orders and one EM slot less
yield_keeps : (e : ℕ) → 1 ≤ e → (p : Beside) (u : ℕ) (k : Command) (b : ℕ) (w : Run) (v : ℕ) → owner_of w.directory b ≡ v → Keeps p w
    → Asks p b w (yield u k b v w)
    × (ltb v 4 ≡ true → cost e (yield u k b v w) + e ≡ cost e w + 2) × (ltb v 4 ≡ false → cost e (yield u k b v w) ≡ cost e w)
unfolding yield give
yield_keeps e one p u k b w v x i = ⊎_elim owned free (rw x at (owner_cases w.directory b))
  where
    w₁ : Run
    w₁ = give u k b true w

    w₂ : Run
    w₂ = copyback v (place v b) b w₁

    Yields : Bool → Type 0
    Yields t =
        Asks p b w (cond t w₂ w) × (t ≡ true → cost e (cond t w₂ w) + e ≡ cost e w + 2) × (t ≡ false → cost e (cond t w₂ w) ≡ cost e w)

    owned : (v < 4) × (slot_at w.directory (place v b) ≡ Modified b) → Yields (ltb v 4)
    owned h =
        let g : Good e p w₁ w₂ × (cost e w₂ + e ≡ cost e w₁ + 1) × (slot_at w₂.directory (place v b) ≡ Shared b) =
        copyback_good e one p v (place v b) b w₁ h.1 (give_keeps p u k b true w i) in
        let c : cost e w₁ ≡ cost e w + 1 = give_cost e u k b true w in
        rw (lt-ltb v 4 h.0) (
          record {
            keeps = g.0.keeps;
            fewer = g.0.fewer;
            free = λ n z.
                let q : n ≡ place v b = i.lawful.lone (place v b) n b h.1 (modified_holds _ b (g.0.fewer.em n b z)) in
                shared≢modified b b (sym g.2 ∙ ap (slot_at w₂.directory) (sym q) ∙ z);
          },
          λ t. omega (arith, g.1),
          λ t. absurd (false≢true (sym t)),
        )

    free : (4 ≤ v) × ((y : ℕ) → y < 4 → slot_at w.directory (place y b) ≡ Modified b → ⊥) → Yields (ltb v 4)
    free h =
        rw (le-ltb v 4 h.0) (
          record {
            keeps = i;
            fewer = fewer_none w.directory;
            free = none_em p w.directory w.memory w.cache b i h.1;
          },
          λ t. absurd (false≢true t),
          λ t. refl,
        )

-- a read costs 1, a memory write as much as a store
pub ask_keeps : (e : ℕ) (p : Beside) → Enough e p.settings → (u : ℕ) (k : Command) (b : ℕ) (w : Run) → Keeps p w
    → Asks p b w (ask u k b w) × (cost e (ask u k b w) ≤ cost e w + cond (reads k) 1 (1 + e))
unfolding ask asked stolen give
ask_keeps e p enough u k b w i =
    go w.directory.settings.steal (reads k) (ltb v 4) refl (g.1, g.2)
  where
    v : ℕ
    v = owner_of w.directory b

    y : Run
    y = yield u k b v w

    y₁ : Run
    y₁ = give u k b false y

    g : Asks p b w y × (ltb v 4 ≡ true → cost e y + e ≡ cost e w + 2) × (ltb v 4 ≡ false → cost e y ≡ cost e w)
    g = yield_keeps e enough.0 p u k b w v refl i

    again : Asks p b w y₁
    again = record { keeps = g.0.keeps; fewer = g.0.fewer; free = g.0.free }

    Costs : Bool → Type 0
    Costs t = (t ≡ true → cost e y + e ≡ cost e w + 2) × (t ≡ false → cost e y ≡ cost e w)

    paid : (r t : Bool) → (r ≡ true → t ≡ true → 2 ≤ e) → Costs t → cost e y₁ ≤ cost e w + cond r 1 (1 + e)
    paid true true two f = omega (arith, give_cost e u k b false y, two refl refl, f.0 refl)
    paid false true two f = omega (arith, give_cost e u k b false y, enough.0, f.0 refl)
    paid true false two f = omega (arith, give_cost e u k b false y, f.1 refl)
    paid false false two f = omega (arith, give_cost e u k b false y, f.1 refl)

    off : w.directory.settings.steal ≡ false → 2 ≤ e
    off z = enough.1 (sym (ap (λ (g : Settings). g.steal) i.lawful.chosen) ∙ z)

    go : (s r t : Bool) → w.directory.settings.steal ≡ s → Costs t
        → Asks p b w (cond (s && r && t) y y₁) × (cost e (cond (s && r && t) y y₁) ≤ cost e w + cond r 1 (1 + e))
    go true true true z f = (g.0, omega (arith, enough.0, f.0 refl))
    go true true false z f = (again, paid true false (λ q x. absurd (false≢true x)) f)
    go true false t z f = (again, paid false t (λ q x. absurd (false≢true q)) f)
    go false r t z f = (again, paid r t (λ q x. off z) f)

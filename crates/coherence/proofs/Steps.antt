-- One call keeps the invariant, answers as the plain memory does, and costs no more than it is charged; and so does a list of calls. These two are
-- what demand 3 and its companions follow from.
use mathlib.Core.Path.{◌≡◌, refl, sym, ap, ap₂, ◌∙◌}
use mathlib.Core.List.{List, [], ◌∷◌, map}
use mathlib.Core.Bool.{Bool, true, false, cond, ◌&&◌}
use Prim.Native.Nat.{ℕ, ◌+◌, ◌*◌, ◌/◌, ◌%◌, ◌≤◌, ◌<◌}
use native.Mathlib.Omega.{arith}
use lib.ListN.{length}
use lib.Dec.{eqb}
use Rattle.coherence.specs.declared.Settings.{Settings}
use Rattle.coherence.specs.declared.Directory.{Directory}
use Rattle.coherence.specs.declared.Call.{Call}
use Rattle.coherence.specs.declared.Call.TheVariants.{Load, Store, Flush}
use Rattle.coherence.specs.Answer.{Answer}
use Rattle.coherence.specs.Bytes.{block_at, put_word}
use Rattle.coherence.specs.Slots.{place, slot_at, slot_of, modified, sound, Exclusive}
use Rattle.coherence.specs.Access.{Run, ready, flush}
use Rattle.coherence.specs.Refusal.{is_unit}
use Rattle.coherence.specs.Calls.{unit_of, is_target, refusal, act, loaded, settle, after, value_of, answer, memory_after, cache_after}
use Rattle.coherence.specs.PlainMemory.{Reply, plain_accepts, plain_put, plain_number, plain_after, plain_reply, plain_replies, plain_after_all}
use Rattle.coherence.specs.Demand3.{Answered, Ran, reply, orders_in, orders_given, accepted_of, Each}
use Rattle.coherence.specs.Snapshot.{replaced, taken_by, taken_after, taken_after_all}
use Rattle.coherence.proofs.PlainLaws.{own_words, load_accepted, store_accepted, flush_accepted}
use Rattle.coherence.proofs.HolderLaws.{Sets}
use Rattle.coherence.proofs.Rules.{slots_test, kinds_test, sets_test, sound_of}
use Rattle.coherence.proofs.RefusalLaws.{call_tests, sized_true}
use Rattle.coherence.proofs.Counts.{orders_in_lem}
use Rattle.coherence.proofs.Weights.{Enough, debt, debt_kept}
use Rattle.coherence.proofs.Invariant.{Beside, Lawful, Rests, rests}
use Rattle.coherence.proofs.Actions.{Keeps, cost}
use Rattle.coherence.proofs.Accesses.{take_over, written, storing, load_keeps, store_keeps, flush_keeps}

-- ---- what the invariant says of the directory
pub lawful_sound : (g : Settings) (d : Directory) → Lawful g d → Sets d → sound d ≡ true
lawful_sound g d i s =
    sound_of d
    (slots_test d
    (λ n b l t. let q : (n < 64) × (b < 64) × (b % 16 ≡ n % 16) = i.placed n b t in (omega arith, q.2))
    (λ n j b l h e t. ap (λ (x : ℕ). x / 16) (sym (i.lone n j b e t))))
    (kinds_test d (λ n b l e. rw i.chosen (i.kinds n b e)))
    (sets_test d s.agree)

pub lawful_exclusive : (g : Settings) (d : Directory) → Lawful g d → Exclusive d
unfolding Exclusive slot_of
lawful_exclusive g d i u v s t b lu lv ls lt e f =
    let q : 16 * v + t ≡ 16 * u + s = i.lone (16 * u + s) (16 * v + t) b e f in omega arith

-- the machine accepts a call exactly if the plain memory does
rests_accepts : (p : Beside) (d : Directory) (m k : List ℕ) → Rests p d m k → (c : Call) → eqb (refusal d m k c) 0 ≡ plain_accepts c
unfolding refusal
rests_accepts p d m k i c =
    rw (call_tests d m k (unit_of c) (is_target c), sized_true m k i.inv.memory i.inv.store, lawful_sound p.settings d i.inv.lawful i.sets)
    (two (is_unit (unit_of c)) (is_target c) ∙ own_words c)
  where
    two : (s t : Bool) → eqb (cond s (cond t 0 4) 3) 0 ≡ (s && t)
    two true true = refl
    two true false = refl
    two false t = refl

-- ---- one call
-- the plain memory and its taken blocks after a call, accepted or not, in the directory d
unfoldable pub beside_after : Directory → Call → Beside → Beside
beside_after d c p = record { plain = plain_after c p.plain; taken = taken_after d c p.plain p.taken; settings = p.settings }

unfoldable pub beside_by : Directory → Call → Beside → Beside
beside_by d c p = record { plain = plain_put c p.plain; taken = taken_by d c p.plain p.taken; settings = p.settings }

-- what a call may cost: 1 for a load, 1 + e for a store
unfoldable pub charge : ℕ → Call → ℕ
charge e (Load u a) = 1
charge e (Store u a v) = 1 + e
charge e (Flush u b) = 0

stored : (d : Directory) (u a v : ℕ) (p : Beside) → written (storing d u (a / 32) p) a v ≡ beside_by d (Store u a v) p
unfolding written storing take_over beside_by plain_put taken_by
stored d u a v p = go (modified (slot_at d (place u (a / 32))) (a / 32))
  where
    go : (t : Bool) → written (cond t p (take_over p (a / 32))) a v
        ≡ record {
          plain = put_word p.plain a v;
          taken = cond t p.taken (replaced p.taken (a / 32) (block_at p.plain (a / 32)));
          settings = p.settings;
        }
    go true = refl
    go false = refl

acts : (e : ℕ) (p : Beside) → Enough e p.settings → (c : Call) (w : Run) → plain_accepts c ≡ true → Keeps p w
    → Keeps (beside_by w.directory c p) (act c w) × (cost e (act c w) ≤ cost e w + charge e c) × (loaded c (act c w) ≡ plain_number c p.plain)
unfolding act loaded charge beside_by plain_put taken_by plain_number
acts e p enough (Load u a) w z i =
    let q : (u ≤ 3) × (a % 4 ≡ 0) × (a ≤ 2044) = load_accepted u a z in
    load_keeps e p enough u a w (omega arith) q.1 q.2 i
acts e p enough (Store u a v) w z i =
    let q : (u ≤ 3) × (a % 4 ≡ 0) × (a ≤ 2044) = store_accepted u a v z in
    let g = store_keeps e p enough u a v w (omega arith) q.1 q.2 i in
    (rw (stored w.directory u a v p) at g.0, g.1, refl)
acts e p enough (Flush u b) w z i =
    let q : (u ≤ 3) × (b ≤ 63) = flush_accepted u b z in
    let g : Keeps p (flush u b w) × (cost e (flush u b w) ≤ cost e w) = flush_keeps e p enough u b w (omega arith) i in
    (g.0, omega arith, refl)

-- what the call c comes to, given d, m and k
pub record Stepped (e : ℕ) (p : Beside) (d : Directory) (m k : List ℕ) (c : Call) : Type 0 where
  pub keeps : Rests (beside_after d c p) (answer d m k c).directory (memory_after d m k c) (cache_after d m k c)
  pub says : reply (answer d m k c) ≡ plain_reply c p.plain
  pub cost : length (orders_in (answer d m k c)) + debt e (answer d m k c).directory ≤ cond (plain_accepts c) (charge e c) 0 + debt e d

-- the same of the machine that it leaves
record Left (e : ℕ) (p : Beside) (d : Directory) (c : Call) (n v : ℕ) (w : Run) : Type 0 where
  keeps : Rests (beside_after d c p) w.directory w.memory w.cache
  accepted : eqb n 0 ≡ plain_accepts c
  number : v ≡ (plain_reply c p.plain).number
  cost : length w.orders + debt e w.directory ≤ cond (plain_accepts c) (charge e c) 0 + debt e d

pub loaded_settled : (c : Call) (w : Run) → loaded c (settle w) ≡ loaded c w
unfolding loaded settle
loaded_settled (Load u a) w = refl
loaded_settled (Store u a v) w = refl
loaded_settled (Flush u b) w = refl

left : (e : ℕ) (p : Beside) → Enough e p.settings → (d : Directory) (m k : List ℕ) (c : Call) → Rests p d m k
    → Left e p d c (refusal d m k c) (value_of d m k c) (after d m k c)
unfolding value_of after settle ready cost beside_after beside_by plain_after taken_after plain_reply
left e p enough d m k c i = go (eqb (refusal d m k c) 0) refl
  where
    w : Run
    w = ready d m k

    go : (t : Bool) → eqb (refusal d m k c) 0 ≡ t
        → Left e p d c (refusal d m k c) (cond t (loaded c (cond t (settle (act c w)) w)) 0) (cond t (settle (act c w)) w)
    go true z =
        let a : plain_accepts c ≡ true = sym (rests_accepts p d m k i c) ∙ z in
        let h : Keeps (beside_by d c p) (act c w) × (cost e (act c w) ≤ cost e w + charge e c) × (loaded c (act c w) ≡ plain_number c p.plain) =
        acts e p enough c w a i.inv in
        record {
          keeps = rw a (rests _ (act c w).directory (act c w).memory (act c w).cache h.0);
          accepted = rests_accepts p d m k i c;
          number = rw a (loaded_settled c (act c w) ∙ h.2);
          cost = rw a (omega (arith, h.1, debt_kept e (act c w).directory));
        }
    go false z =
        let a : plain_accepts c ≡ false = sym (rests_accepts p d m k i c) ∙ z in
        record { keeps = rw a i; accepted = rests_accepts p d m k i c; number = rw a; cost = rw a (omega arith) }

reply_is : (r : Answer) (x : Reply) → eqb r.refusal 0 ≡ x.accepted → r.value ≡ x.number → reply r ≡ x
unfolding reply
reply_is r x e f = λ i. record { accepted = e i; number = f i }

plain_accepted : (c : Call) (p : List ℕ) → (plain_reply c p).accepted ≡ plain_accepts c
unfolding plain_reply
plain_accepted c p = refl

pub step : (e : ℕ) (p : Beside) → Enough e p.settings → (d : Directory) (m k : List ℕ) (c : Call) → Rests p d m k → Stepped e p d m k c
unfolding answer memory_after cache_after
step e p enough d m k c i =
    let l : Left e p d c (refusal d m k c) (value_of d m k c) (after d m k c) = left e p enough d m k c i in
    record {
      keeps = l.keeps;
      says = reply_is (answer d m k c) (plain_reply c p.plain) (l.accepted ∙ sym (plain_accepted c p.plain)) l.number;
      cost = rw (orders_in_lem d m k c) l.cost;
    }

-- ---- a list of calls
unfoldable pub beside_after_all : Directory → Beside → List Call → List Answer → Beside
beside_after_all d p cs rs = record { plain = plain_after_all p.plain cs; taken = taken_after_all d p.plain p.taken cs rs; settings = p.settings }

pub record Over (e : ℕ) (p : Beside) (d : Directory) (cs : List Call) (rs : List Answer) (d' : Directory) (m' k' : List ℕ) : Type 0 where
  pub keeps : Rests (beside_after_all d p cs rs) d' m' k'
  pub says : map reply rs ≡ plain_replies p.plain cs
  pub lawful : Each (λ r. Lawful p.settings r.directory) rs
  pub cost : orders_given rs + debt e d' ≤ accepted_of (charge e) cs + debt e d

pub run : (e : ℕ) (p : Beside) → Enough e p.settings → (d : Directory) (m k : List ℕ) (cs : List Call) (rs : List Answer) (d' : Directory) (m' k' : List ℕ)
    → Rests p d m k → Ran d m k cs rs d' m' k' → Over e p d cs rs d' m' k'
unfolding Ran Each orders_given accepted_of plain_replies plain_after_all taken_after_all beside_after_all beside_after
run e p enough d m k [] [] d' m' k' i h =
    record { keeps = rw (h.0, h.1, h.2) i; says = refl; lawful = tt; cost = rw h.0 (omega arith) }
run e p enough d m k [] (r ∷ rs) d' m' k' i h = absurd h
run e p enough d m k (c ∷ cs) [] d' m' k' i h = absurd h
run e p enough d m k (c ∷ cs) (r ∷ rs) d' m' k' i h =
    let a : Answered d m k c r h.0 h.1 = h.2 in
    let s : Stepped e p d m k c = step e p enough d m k c i in
    let j : Rests (beside_after d c p) r.directory h.0 h.1 = rw (a.answers, a.memory, a.cache) s.keeps in
    let o : Over e (beside_after d c p) r.directory cs rs d' m' k' = run e (beside_after d c p) enough r.directory h.0 h.1 cs rs d' m' k' j h.3 in
    let x : length (orders_in r) + debt e r.directory ≤ cond (plain_accepts c) (charge e c) 0 + debt e d = rw a.answers s.cost in
    record {
      keeps = o.keeps;
      says = ap₂ ◌∷◌ (ap reply a.answers ∙ s.says) o.says;
      lawful = (j.inv.lawful, o.lawful);
      cost = omega (arith, o.cost);
    }

-- A list of accesses as numbers: what it gives whatever the numbers are, and that the numbers of a list give what the list gives.
use Prim.Native.Nat.{ℕ, zero, suc, ◌+◌, ◌-◌, ◌*◌, ◌/◌, ◌%◌, ◌≤◌, ◌<◌}
use native.Mathlib.Omega.{arith}
use mathlib.Core.Path.{◌≡◌, refl, ap, sym, ◌∙◌}
use mathlib.Core.Bool.{Bool, true, false, cond, ◌&&◌}
use mathlib.Core.List.{List, [], ◌∷◌, ◌++◌}
use lib.Dec.{eqb, leb}
use lib.ListN.{length, get_or}
use borrow.Author.Tests.{ne_eqb, eqb-true, eqb-false, leb-true, le-leb, lt-leb}
use Rattle.coherence.specs.declared.Directory.{Directory}
use Rattle.coherence.specs.declared.Call.{Call}
use Rattle.coherence.specs.declared.Call.TheVariants.{Load, Store, Flush}
use Rattle.coherence.specs.Access.{ready}
use Rattle.coherence.specs.Calls.{refusal, answer, memory_after, cache_after, after_all}
use Rattle.coherence.proofs.Shapes.{answer_slots, answer_settings, answer_sets}
use Rattle.crossing.proofs.CappedLaws.{caps}
use Rattle.batch_rules.specs.declared.Access.{Access}
use Rattle.batch_rules.specs.Outcome.{Outcome}
use Rattle.batch_rules.specs.Batch.{Batch, batch, calls_of, before, made, ran, none, opened, batch_result}
use Rattle.batch_rules.specs.Numbers.{is_kind, call_from, kind_at, access_at, count_of, known, unknown, refused_by, opened_numbers, ran_numbers, numbers_result, access_numbers, numbers_of, Fit, AllFit, NumbersSay}
use Rattle.batch_rules.proofs.RanLaws.{ran_none, ran_still}
use Rattle.std.proofs.Math.Bool.{and-false}
use Rattle.batch_rules.proofs.SplitLaws.{ran_index, ran_orders}

pub known_few : (ns : List ℕ) (i t : ℕ) → length (known ns i t) ≤ t
unfolding known
known_few ns i zero = omega arith
known_few ns i (suc t) = go (is_kind (kind_at ns i)) (known_few ns (suc i) t)
  where
    go : (b : Bool) → length (known ns (suc i) t) ≤ t → length (cond b (access_at ns i ∷ known ns (suc i) t) []) ≤ suc t
    go true h = omega (arith, h)
    go false h = omega arith

-- ---- refusals

pub refused_still : (n : ℕ) (s : Outcome) → (s.refusal ≡ 0 → ⊥) → refused_by n s ≡ s
unfolding refused_by
refused_still n s h = rw (ne_eqb _ _ h) refl

pub refused_none : (s : Outcome) → refused_by 0 s ≡ s
unfolding refused_by
refused_none s = go (eqb s.refusal 0) refl
  where
    same : (r : ℕ) → r ≡ s.refusal → ◌≡◌ {A = Outcome} (record { refusal = r; index = s.index; orders = s.orders; directory = s.directory }) s
    same r e = rw e refl

    go : (t : Bool) → eqb s.refusal 0 ≡ t → ◌≡◌ {A = Outcome} (record { refusal = cond t 0 s.refusal; index = s.index; orders = s.orders; directory = s.directory }) s
    go true e = same 0 (sym (eqb-true _ _ e))
    go false e = refl

pub numbers_still : (s : Outcome) (vs m k ns : List ℕ) → (s.refusal ≡ 0 → ⊥) → ran_numbers s vs m k ns ≡ batch s vs m k
unfolding ran_numbers
numbers_still s vs m k ns h = rw (ran_still s vs m k (known ns s.index (count_of ns - s.index)) h) (ap (λ (x : Outcome). batch x vs m k) (refused_still _ s h))

-- no access is left
pub numbers_none : (s : Outcome) (vs m k ns : List ℕ) → count_of ns ≤ s.index → ran_numbers s vs m k ns ≡ batch s vs m k
unfolding ran_numbers known unknown
numbers_none s vs m k ns h =
    let z : count_of ns - s.index ≡ 0 = omega (arith, h) in
    rw (z, ran_none s vs m k) (ap (λ (x : Outcome). batch x vs m k) (refused_none s))

-- ---- the call's own tests

-- a list that is not refused at once has whole accesses, and room for them
pub opened_fits : (d : Directory) (numbers room : ℕ) → (opened_numbers d numbers room).refusal ≡ 0 → (numbers / 4 ≤ room) × (numbers / 4 ≤ 65536) × (opened_numbers d numbers room ≡ none 0 d)
unfolding opened_numbers refused_by opened none
opened_fits d numbers room z =
    let f = go (leb (numbers / 4) 65536) (leb (numbers / 4) room) refl refl z in
    (f.0, f.1, rw z refl)
  where
    go : (s t : Bool) → leb (numbers / 4) 65536 ≡ s → leb (numbers / 4) room ≡ t
        → ◌≡◌ {A = ℕ} (cond (eqb (cond (s && t) 0 9) 0) (cond (eqb (numbers % 4) 0) 0 8) (cond (s && t) 0 9)) 0 → (numbers / 4 ≤ room) × (numbers / 4 ≤ 65536)
    go true true e f z = (leb-true _ _ f, leb-true _ _ e)
    go true false e f z = absurd (let y : ◌≡◌ {A = ℕ} 9 0 = z in omega (arith, y))
    go false t e f z = absurd (let y : ◌≡◌ {A = ℕ} 9 0 = z in omega (arith, y))

-- ---- what was made
before_accepted : (d : Directory) (m k : List ℕ) (cs : List Call) → 0 < length (before d m k cs) → (c : Call) × (refusal d m k c ≡ 0)
unfolding before
before_accepted d m k [] h = absurd (omega (arith, h))
before_accepted d m k (c ∷ cs) h = go (eqb (refusal d m k c) 0) _ refl h
  where
    go : (t : Bool) (rest : List Call) → eqb (refusal d m k c) 0 ≡ t → 0 < length (cond t (c ∷ rest) []) → (c : Call) × (refusal d m k c ≡ 0)
    go true rest e h = (c, eqb-true _ _ e)
    go false rest e h = absurd (omega (arith, h))

ran_first : (vs : List ℕ) (d : Directory) (m k : List ℕ) (l : List Access) → 0 < (ran (none 0 d) vs m k l).outcome.index → (c : Call) × (refusal d m k c ≡ 0)
unfolding ran made none
ran_first vs d m k l h = before_accepted d m k (calls_of l) (omega (arith, h))

-- a directory has as many slots and sets as before, and its settings
pub record Shaped (d e : Directory) : Type 0 where
  pub slots : length e.slots ≡ length d.slots
  pub settings : e.settings ≡ d.settings
  pub sets : length d.holders ≡ 64 → length e.holders ≡ 64

shaped : (d : Directory) (m k : List ℕ) (cs : List Call) → Shaped d (after_all d m k cs).directory
unfolding after_all ready
shaped d m k [] = record { slots = refl; settings = refl; sets = λ h. h }
shaped d m k (c ∷ cs) =
    let r : Shaped (answer d m k c).directory (after_all (answer d m k c).directory (memory_after d m k c) (cache_after d m k c) cs).directory = shaped (answer d m k c).directory (memory_after d m k c) (cache_after d m k c) cs in
    record { slots = r.slots ∙ answer_slots d m k c; settings = r.settings ∙ answer_settings d m k c; sets = λ h. r.sets (answer_sets d m k c h) }

ran_shaped : (vs : List ℕ) (d : Directory) (m k : List ℕ) (l : List Access) → Shaped d (ran (none 0 d) vs m k l).outcome.directory
unfolding ran made none
ran_shaped vs d m k l = shaped d m k (before d m k (calls_of l))

unmade : (d : Directory) (m k : List ℕ) (cs : List Call) → length cs ≡ 0 → (after_all d m k cs).directory ≡ d
unfolding after_all ready
unmade d m k [] e = refl
unmade d m k (c ∷ cs) e = absurd (omega (arith, e))

ran_unmade : (vs : List ℕ) (d : Directory) (m k : List ℕ) (l : List Access) → (ran (none 0 d) vs m k l).outcome.index ≡ 0 → (ran (none 0 d) vs m k l).outcome.directory ≡ d
unfolding ran made none
ran_unmade vs d m k l e = unmade d m k (before d m k (calls_of l)) (omega (arith, e))

pub record Bounds (d : Directory) (m k : List ℕ) (w : Batch) : Type 0 where
  pub index : w.outcome.index ≤ 65536
  pub orders : w.outcome.orders ≤ 262144
  -- some access was accepted, if any was made; if none was, the directory stays
  pub first : 0 < w.outcome.index → (c : Call) × (refusal d m k c ≡ 0)
  pub stays : w.outcome.index ≡ 0 → w.outcome.directory ≡ d
  pub shape : Shaped d w.outcome.directory

bounds_fit : (ns vs : List ℕ) (d : Directory) (m k : List ℕ) → length ns / 4 ≤ 65536 → Bounds d m k (ran_numbers (none 0 d) vs m k ns)
unfolding ran_numbers refused_by count_of none
bounds_fit ns vs d m k h =
    let l : List Access = known ns 0 (length ns / 4 - 0) in
    let f : length l ≤ length ns / 4 - 0 = known_few ns 0 (length ns / 4 - 0) in
    let i : (ran (none 0 d) vs m k l).outcome.index ≤ length l = ran_index vs d m k l in
    let o : (ran (none 0 d) vs m k l).outcome.orders ≤ 4 * (ran (none 0 d) vs m k l).outcome.index = ran_orders vs d m k l in
    record { index = omega (arith, h, f, i); orders = omega (arith, h, f, i, o); first = ran_first vs d m k l; stays = ran_unmade vs d m k l; shape = ran_shaped vs d m k l }

bounds_none : (d : Directory) (m k : List ℕ) (numbers room : ℕ) (vs : List ℕ) → Bounds d m k (batch (opened_numbers d numbers room) vs m k)
unfolding opened_numbers refused_by opened none
bounds_none d m k numbers room vs = record { index = omega arith; orders = omega arith; first = λ h. absurd (omega (arith, h)); stays = λ e. refl; shape = record { slots = refl; settings = refl; sets = λ h. h } }

pub numbers_bounds : (ns vs : List ℕ) (d : Directory) (m k : List ℕ) → Bounds d m k (numbers_result ns vs d m k)
unfolding numbers_result ran_numbers refused_by
numbers_bounds ns vs d m k = go (eqb s.refusal 0) refl
  where
    s : Outcome
    s = opened_numbers d (length ns) (length vs)

    go : (t : Bool) → eqb s.refusal 0 ≡ t → Bounds d m k (ran_numbers s vs m k ns)
    go true e =
        let f = opened_fits d (length ns) (length vs) (eqb-true _ _ e) in
        rw f.2 (bounds_fit ns vs d m k f.1)
    go false e = rw (numbers_still s vs m k ns (eqb-false _ _ e)) (bounds_none d m k (length ns) (length vs) vs)

-- ---- the numbers of a list
module _ (n₀ n₁ n₂ n₃ : ℕ) (ns : List ℕ) where
  next : (i j : ℕ) → get_or (n₀ ∷ n₁ ∷ n₂ ∷ n₃ ∷ ns) (4 * suc i + j) 0 ≡ get_or ns (4 * i + j) 0
  next i j = let e : 4 * suc i + j ≡ suc (suc (suc (suc (4 * i + j)))) = omega arith in rw e refl

  next_kind : (i : ℕ) → kind_at (n₀ ∷ n₁ ∷ n₂ ∷ n₃ ∷ ns) (suc i) ≡ kind_at ns i
  unfolding kind_at
  next_kind i = let e : 4 * suc i ≡ suc (suc (suc (suc (4 * i)))) = omega arith in rw e refl

  next_access : (i : ℕ) → access_at (n₀ ∷ n₁ ∷ n₂ ∷ n₃ ∷ ns) (suc i) ≡ access_at ns i
  unfolding access_at
  next_access i = rw (next_kind i, next i 1, next i 2, next i 3) refl

  next_known : (i t : ℕ) → known (n₀ ∷ n₁ ∷ n₂ ∷ n₃ ∷ ns) (suc i) t ≡ known ns i t
  unfolding known
  next_known i zero = refl
  next_known i (suc t) = rw (next_kind i, next_access i, next_known (suc i) t) refl

  next_unknown : (i t : ℕ) → unknown (n₀ ∷ n₁ ∷ n₂ ∷ n₃ ∷ ns) (suc i) t ≡ unknown ns i t
  unfolding unknown
  next_unknown i zero = refl
  next_unknown i (suc t) = rw (next_kind i, next_unknown (suc i) t) refl

pub record Means (l : List Access) (ns : List ℕ) : Type 0 where
  pub accesses : known ns 0 (length l) ≡ l
  pub refusal : unknown ns 0 (length l) ≡ 0
  pub count : length ns ≡ 4 * length l

-- one access more in front
means_next : (a : Access) (n₀ n₁ n₂ n₃ : ℕ) (l : List Access) (ns : List ℕ) → is_kind n₀ ≡ true → call_from n₀ n₁ n₂ n₃ ≡ a.call → Means l ns → Means (a ∷ l) (n₀ ∷ n₁ ∷ n₂ ∷ n₃ ∷ ns)
unfolding known unknown access_at kind_at
means_next a n₀ n₁ n₂ n₃ l ns e f h =
    record {
      accesses = rw (e, f, next_known n₀ n₁ n₂ n₃ ns 0 (length l)) (ap (λ (x : List Access). a ∷ x) h.accesses);
      refusal = rw (e, next_unknown n₀ n₁ n₂ n₃ ns 0 (length l)) h.refusal;
      count = omega (arith, h.count);
    }

means_call : (a : Access) (l : List Access) (ns : List ℕ) (c : Call) → a.call ≡ c → Fit c → Means l ns → Means (a ∷ l) (access_numbers c ++ ns)
unfolding access_numbers Fit is_kind call_from
means_call a l ns (Load u x) e f h = means_next a 0 u x 0 l ns refl (rw ((caps 255).keeps u f) (sym e)) h
means_call a l ns (Store u x v) e f h = means_next a 1 u x v l ns refl (rw ((caps 255).keeps u f) (sym e)) h
means_call a l ns (Flush u b) e f h = means_next a 2 u b 0 l ns refl (rw ((caps 255).keeps u f.0, (caps 255).keeps b f.1) (sym e)) h

means : (l : List Access) → AllFit l → Means l (numbers_of l)
unfolding numbers_of AllFit known unknown
means [] h = record { accesses = refl; refusal = refl; count = refl }
means (a ∷ l) h = means_call a l (numbers_of l) a.call refl h.0 (means l h.1)

-- ---- what the numbers say
module _ (vs : List ℕ) (d : Directory) (m k : List ℕ) where
  -- refused before the first access
  numbers_closed : (ns : List ℕ) (n : ℕ) → opened_numbers d (length ns) (length vs) ≡ none n d → (n ≡ 0 → ⊥) → numbers_result ns vs d m k ≡ batch (none n d) vs m k
  unfolding numbers_result none
  numbers_closed ns n e h = rw e (numbers_still (none n d) vs m k ns h)

  ran_list : (n : ℕ) (l : List Access) (ns : List ℕ) → Means l ns → ran_numbers (none n d) vs m k ns ≡ ran (none n d) vs m k l
  unfolding ran_numbers count_of none
  ran_list n l ns w =
      let t : length ns / 4 - 0 ≡ length l = omega (arith, w.count) in
      rw (t, w.accesses, w.refusal) (ap (λ (x : Outcome). batch x r.values r.memory r.cache) (refused_none r.outcome))
    where
      r : Batch
      r = ran (none n d) vs m k l

  numbers_list : (l : List Access) → AllFit l → numbers_result (numbers_of l) vs d m k ≡ batch_result l vs d m k
  unfolding numbers_result opened_numbers opened batch_result
  numbers_list l h =
      let w : Means l (numbers_of l) = means l h in
      let n : length (numbers_of l) / 4 ≡ length l = omega (arith, w.count) in
      let z : length (numbers_of l) % 4 ≡ 0 = omega (arith, w.count) in
      rw (n, z, refused_none (none (cond (leb (length l) 65536 && leb (length l) (length vs)) 0 9) d)) (ran_list _ l (numbers_of l) w)

  no_room_lem : (ns : List ℕ) → (leb (count_of ns) 65536 && leb (count_of ns) (length vs)) ≡ false → opened_numbers d (length ns) (length vs) ≡ none 9 d
  unfolding opened_numbers refused_by opened none count_of
  no_room_lem ns e = rw e refl

  numbers_cut : (ns : List ℕ) → count_of ns ≤ 65536 → count_of ns ≤ length vs → (length ns % 4 ≡ 0 → ⊥) → opened_numbers d (length ns) (length vs) ≡ none 8 d
  unfolding opened_numbers refused_by opened none count_of
  numbers_cut ns h h' e = rw (le-leb _ _ h, le-leb _ _ h', ne_eqb _ _ e) refl

  pub numbers_say : NumbersSay vs d m k
  numbers_say =
      record {
        list = numbers_list;
        long = λ ns h. numbers_closed ns 9 (no_room_lem ns (rw (lt-leb _ _ h) refl)) (λ z. omega (arith, z));
        short = λ ns h. numbers_closed ns 9 (no_room_lem ns (rw (lt-leb _ _ h) (and-false (leb (count_of ns) 65536)))) (λ z. omega (arith, z));
        cut = λ ns h h' e. numbers_closed ns 8 (numbers_cut ns h h' e) (λ z. omega (arith, z));
      }

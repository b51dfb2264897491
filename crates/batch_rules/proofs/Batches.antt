-- Demand 3 holds of lists of calls with lists of accesses.
use Prim.Native.Nat.{ℕ, suc, ◌+◌, ◌≤◌}
use native.Mathlib.Nat.{zero-add}
use native.Mathlib.Omega.{arith}
use mathlib.Core.Path.{◌≡◌, refl, ap, ap₂, sym, subst, ◌∙◌}
use mathlib.Core.Bool.{Bool, true, false, cond}
use mathlib.Core.List.{List, [], ◌∷◌, ◌++◌, map}
use lib.Dec.{eqb}
use lib.ListN.{length, take, drop}
use lib.Seq.{sets, sets-eq, take_at}
use borrow.Author.Tests.{ne_eqb, eqb-false}
use Rattle.coherence.specs.declared.Directory.{Directory}
use Rattle.coherence.specs.declared.Call.{Call}
use Rattle.coherence.specs.Answer.{Answer}
use Rattle.coherence.specs.Refusal.{sized, is_unit}
use Rattle.coherence.specs.Slots.{sound}
use Rattle.coherence.specs.Access.{ready}
use Rattle.coherence.specs.Calls.{refusal, answer, memory_after, cache_after, answers, after_all, unit_of, is_target}
use Rattle.coherence.specs.Demand3.{Session, Demand3, Demand3Holds, Refused, Ran, reply, orders_in, orders_given}
use Rattle.coherence.proofs.RefusalLaws.{call_tests}
use Rattle.coherence.proofs.Counts.{refused}
use Rattle.coherence.proofs.Sessions.{ran_some}
use Rattle.coherence.proofs.Theorem.{demand3}
use Rattle.batch_rules.specs.declared.Access.{Access}
use Rattle.batch_rules.specs.Batch.{Batch, batch, calls_of, before, number, made, none, batch_result}
use Rattle.batch_rules.specs.Batches.{Listed, BatchesRan, tried, tried_all, values_told, orders_told, numbers_accepted, BatchesHold}
use Rattle.batch_rules.proofs.Before.{before_first, calls_counted, values_counted}
use Rattle.batch_rules.proofs.Sentences.{fits, room, is_made, is_none}

-- ---- the calls up to the first refused one, and that one
unfoldable attempts : Directory → List ℕ → List ℕ → List Call → List Call
attempts d m k [] = []
attempts d m k (c ∷ cs) =
    cond
    (eqb (refusal d m k c) 0)
    (c ∷ attempts (answer d m k c).directory (memory_after d m k c) (cache_after d m k c) cs)
    (c ∷ [])

-- the values of the accepted answers
abbrev values_in : List Answer → List ℕ
values_in rs = numbers_accepted (map reply rs)

told : (d : Directory) (m k : List ℕ) (c : Call) → (answer d m k c).refusal ≡ refusal d m k c
unfolding answer
told d m k c = refl

record Attempts (d : Directory) (m k : List ℕ) (cs : List Call) : Type 0 where
  pub taken : attempts d m k cs ≡ take (length (before d m k cs) + 1) cs
  pub leaves : after_all d m k (attempts d m k cs) ≡ after_all d m k (before d m k cs)
  pub orders : orders_given (answers d m k (attempts d m k cs)) ≡ orders_given (answers d m k (before d m k cs))
  pub values : values_in (answers d m k (attempts d m k cs)) ≡ map (λ r. r.value) (answers d m k (before d m k cs))

attempted : (d : Directory) (m k : List ℕ) (cs : List Call) → Attempts d m k cs
unfolding attempts before answers after_all ready orders_given numbers_accepted reply
attempted d m k [] = record { taken = refl; leaves = refl; orders = refl; values = refl }
attempted d m k (c ∷ cs) = go (eqb (refusal d m k c) 0) refl (attempted (answer d m k c).directory (memory_after d m k c) (cache_after d m k c) cs)
  where
    same : (answer d m k c).refusal ≡ refusal d m k c
    same = told d m k c

    go : (t : Bool) → eqb (refusal d m k c) 0 ≡ t → Attempts (answer d m k c).directory (memory_after d m k c) (cache_after d m k c) cs → Attempts d m k (c ∷ cs)
    go true e h =
        let n : (x : ℕ) → suc x + 1 ≡ suc (x + 1) = λ x. omega arith in
        record {
          taken = rw e (ap (λ (x : List Call). c ∷ x) h.taken ∙ ap (λ (x : ℕ). take x (c ∷ cs)) (sym (n (length (before (answer d m k c).directory (memory_after d m k c) (cache_after d m k c) cs)))));
          leaves = rw e h.leaves;
          orders = rw e (ap (λ (n : ℕ). length (orders_in (answer d m k c)) + n) h.orders);
          values = rw (e, same, e) (ap (λ (x : List ℕ). (answer d m k c).value ∷ x) h.values);
        }
    go false e h =
        let q : Refused d m k c = refused d m k c (λ z. eqb-false _ _ e (sym same ∙ z)) in
        record {
          taken = rw e refl;
          leaves = rw (e, q.directory, q.memory, q.cache) refl;
          orders = rw (e, q.orders) refl;
          values = rw (e, same, e) refl;
        }

-- ---- one call with a list
tests : (d : Directory) (m k : List ℕ) (c : Call) → refusal d m k c ≡ cond (sized m k) (cond (sound d) (cond (is_unit (unit_of c)) (cond (is_target c) 0 4) 3) 2) 1
unfolding refusal
tests d m k c = call_tests d m k (unit_of c) (is_target c)

number_few : (d : Directory) (m k : List ℕ) (cs : List Call) → number d m k cs ≤ 4
unfolding number
number_few d m k [] = omega arith
number_few d m k (c ∷ cs) = go (eqb (refusal d m k c) 0) (number_few (answer d m k c).directory (memory_after d m k c) (cache_after d m k c) cs)
  where
    few : (a b c d : Bool) → cond a (cond b (cond c (cond d 0 4) 3) 2) 1 ≤ 4
    few true true true true = omega arith
    few true true true false = omega arith
    few true true false d = omega arith
    few true false c d = omega arith
    few false b c d = omega arith

    go : (t : Bool) {n : ℕ} → n ≤ 4 → cond t n (refusal d m k c) ≤ 4
    go true h = h
    go false h = rw (tests d m k c) (few (sized m k) (sound d) (is_unit (unit_of c)) (is_target c))

-- the calls cs made singly leave e, m' and k', give the values vs to those that are accepted, and give n orders
record Same (d : Directory) (m k : List ℕ) (cs : List Call) (vs : List ℕ) (n : ℕ) (e : Directory) (m' k' : List ℕ) : Type 0 where
  pub leaves : after_all d m k cs ≡ ready e m' k'
  pub values : values_in (answers d m k cs) ≡ vs
  pub orders : orders_given (answers d m k cs) ≡ n

after_ready : (d : Directory) (m k : List ℕ) (cs : List Call) → after_all d m k cs ≡ ready (after_all d m k cs).directory (after_all d m k cs).memory (after_all d m k cs).cache
unfolding after_all ready
after_ready d m k [] = refl
after_ready d m k (c ∷ cs) = after_ready (answer d m k c).directory (memory_after d m k c) (cache_after d m k c) cs

abbrev call : List Access → List ℕ → Batch → Listed
call l vs w = record { list = l; lent = vs; left = w.values; outcome = w.outcome }

module _ (l : List Access) (vs : List ℕ) (d : Directory) (m k : List ℕ) where
  abbrev SameOf : Batch → Type 0
  SameOf w = Same d m k (tried (call l vs w)) (take w.outcome.index w.values) w.outcome.orders w.outcome.directory w.memory w.cache

  abbrev b : List Call
  b = before d m k (calls_of l)

  abbrev v : List ℕ
  v = map (λ (r : Answer). r.value) (answers d m k b)

  none_same : SameOf (batch (none 9 d) vs m k)
  unfolding tried none answers after_all orders_given numbers_accepted
  none_same = record { leaves = refl; values = refl; orders = refl }

  front : fits l vs d m k ≡ true → take (length b) (sets vs 0 v) ≡ v
  front e =
      let f : length b ≤ length (calls_of l) = (before_first d m k (calls_of l)).few in
      let c : length v ≡ length b = values_counted d m k b in
      ap (take (length b)) (sets-eq v vs 0 (omega (arith, c, f, calls_counted l, room l vs d m k e))) ∙ take_at v (drop (0 + length v) vs) (length b) c

  made_same : fits l vs d m k ≡ true → SameOf (made (none 0 d) vs m k b (number d m k (calls_of l)))
  unfolding tried made none
  made_same e =
      let a : Attempts d m k (calls_of l) = attempted d m k (calls_of l) in
      let f : number d m k (calls_of l) ≤ 4 = number_few d m k (calls_of l) in
      let n : eqb (number d m k (calls_of l)) 9 ≡ false = ne_eqb (number d m k (calls_of l)) 9 (λ (z : number d m k (calls_of l) ≡ 9). omega (arith, z, f)) in
      rw (zero-add (length b), zero-add (orders_given (answers d m k b)), n, ← a.taken)
      (record { leaves = a.leaves ∙ after_ready d m k b; values = a.values ∙ sym (front e); orders = a.orders })

  one : (w : Batch) → w ≡ batch_result l vs d m k → SameOf w
  one w is = subst SameOf (sym is) (go (fits l vs d m k) refl)
    where
      go : (t : Bool) → fits l vs d m k ≡ t → SameOf (batch_result l vs d m k)
      go true e = subst SameOf (sym (is_made l vs d m k e)) (made_same e)
      go false e = subst SameOf (sym (is_none l vs d m k e)) none_same

-- ---- calls one after the other
answers_append : (d : Directory) (m k : List ℕ) (cs cs' : List Call)
    → answers d m k (cs ++ cs') ≡ answers d m k cs ++ answers (after_all d m k cs).directory (after_all d m k cs).memory (after_all d m k cs).cache cs'
unfolding answers after_all ready
answers_append d m k [] cs' = refl
answers_append d m k (c ∷ cs) cs' = ap (λ (x : List Answer). answer d m k c ∷ x) (answers_append (answer d m k c).directory (memory_after d m k c) (cache_after d m k c) cs cs')

after_append : (d : Directory) (m k : List ℕ) (cs cs' : List Call)
    → after_all d m k (cs ++ cs') ≡ after_all (after_all d m k cs).directory (after_all d m k cs).memory (after_all d m k cs).cache cs'
unfolding after_all ready
after_append d m k [] cs' = refl
after_append d m k (c ∷ cs) cs' = after_append (answer d m k c).directory (memory_after d m k c) (cache_after d m k c) cs cs'

values_append : (rs rs' : List Answer) → values_in (rs ++ rs') ≡ values_in rs ++ values_in rs'
unfolding numbers_accepted
values_append [] rs' = refl
values_append (r ∷ rs) rs' = go (reply r).accepted (values_append rs rs')
  where
    go : (t : Bool) → values_in (rs ++ rs') ≡ values_in rs ++ values_in rs'
        → cond t ((reply r).number ∷ values_in (rs ++ rs')) (values_in (rs ++ rs')) ≡ cond t ((reply r).number ∷ values_in rs) (values_in rs) ++ values_in rs'
    go true h = ap (λ (x : List ℕ). (reply r).number ∷ x) h
    go false h = h

orders_append : (rs rs' : List Answer) → orders_given (rs ++ rs') ≡ orders_given rs + orders_given rs'
unfolding orders_given
orders_append [] rs' = sym (zero-add _)
orders_append (r ∷ rs) rs' = let h = orders_append rs rs' in omega (arith, h)

same_append : (d : Directory) (m k : List ℕ) (cs cs' : List Call) (vs vs' : List ℕ) (n n' : ℕ) (d₁ : Directory) (m₁ k₁ : List ℕ) (d₂ : Directory) (m₂ k₂ : List ℕ)
    → Same d m k cs vs n d₁ m₁ k₁ → Same d₁ m₁ k₁ cs' vs' n' d₂ m₂ k₂ → Same d m k (cs ++ cs') (vs ++ vs') (n + n') d₂ m₂ k₂
unfolding ready
same_append d m k cs cs' vs vs' n n' d₁ m₁ k₁ d₂ m₂ k₂ p q =
    record {
      leaves = after_append d m k cs cs' ∙ rw p.leaves q.leaves;
      values = ap (λ (x : List Answer). values_in x) (answers_append d m k cs cs') ∙ rw p.leaves (values_append (answers d m k cs) (answers d₁ m₁ k₁ cs') ∙ ap₂ ◌++◌ p.values q.values);
      orders = ap orders_given (answers_append d m k cs cs') ∙ rw p.leaves (orders_append (answers d m k cs) (answers d₁ m₁ k₁ cs') ∙ ap₂ ◌+◌ p.orders q.orders);
    }

same_all : (d : Directory) (m k : List ℕ) (bs : List Listed) (e : Directory) (m' k' : List ℕ)
    → BatchesRan d m k bs e m' k' → Same d m k (tried_all bs) (values_told bs) (orders_told bs) e m' k'
unfolding BatchesRan tried_all values_told orders_told answers after_all orders_given numbers_accepted
same_all d m k [] e m' k' h = rw (h.0, h.1, h.2) (record { leaves = refl; values = refl; orders = refl })
same_all d m k (b ∷ bs) e m' k' h =
    same_append d m k (tried b) (tried_all bs) _ _ _ _ _ _ _ e m' k'
    (one b.list b.lent d m k (batch b.outcome b.left h.0 h.1) h.2)
    (same_all b.outcome.directory h.0 h.1 bs e m' k' h.3)

-- ---- demand 3
pub batches_hold : BatchesHold
unfolding BatchesHold Demand3Holds ready
batches_hold g m k cleared s bs e m' k' started accepts ran =
    let cs : List Call = tried_all bs in
    let rs : List Answer = answers s.directory m cleared cs in
    let p : Same s.directory m cleared cs (values_told bs) (orders_told bs) e m' k' = same_all s.directory m cleared bs e m' k' ran in
    let r : Ran s.directory m cleared cs rs e m' k' = rw p.leaves at (ran_some s.directory m cleared cs) in
    let q : Session g m s cs rs e m' k' = record { lent = k; cleared = cleared; started = started; accepts = accepts; ran = r } in
    let t : Demand3 g m s cs rs = demand3 g m s cs rs e m' k' q in
    record {
      answers = rs;
      session = q;
      demand3 = t;
      plain = sym p.values ∙ ap numbers_accepted t.plain;
      bill = omega (arith, p.orders, t.bill);
    }

-- The calls before the first refused one, and what they leave.
use Prim.Native.Nat.{ℕ, suc, ◌*◌, ◌≤◌}
use native.Mathlib.Omega.{arith}
use mathlib.Core.Path.{◌≡◌, refl, ap}
use mathlib.Core.Bool.{Bool, true, false}
use mathlib.Core.List.{List, [], ◌∷◌, map}
use lib.Dec.{eqb}
use lib.ListN.{length, take, drop, length-map}
use borrow.Author.Tests.{eqb-true, eqb-false}
use Rattle.coherence.specs.declared.Directory.{Directory}
use Rattle.coherence.specs.declared.Call.{Call}
use Rattle.coherence.specs.Answer.{Answer}
use Rattle.coherence.specs.Access.{ready}
use Rattle.coherence.specs.Calls.{refusal, answer, memory_after, cache_after, answers, after_all}
use Rattle.coherence.specs.Demand3.{Each, orders_in, orders_given}
use Rattle.coherence.proofs.Counts.{answers_orders}
use Rattle.batch_rules.specs.declared.Access.{Access}
use Rattle.batch_rules.specs.Batch.{calls_of, before, number}

pub calls_counted : (l : List Access) → length (calls_of l) ≡ length l
unfolding calls_of
calls_counted l = length-map l (λ a. a.call)

pub values_counted : (d : Directory) (m k : List ℕ) (cs : List Call) → length (map (λ (r : Answer). r.value) (answers d m k cs)) ≡ length cs
unfolding answers
values_counted d m k [] = refl
values_counted d m k (c ∷ cs) = ap suc (values_counted (answer d m k c).directory (memory_after d m k c) (cache_after d m k c) cs)

pub orders_few : (d : Directory) (m k : List ℕ) (cs : List Call) → orders_given (answers d m k cs) ≤ 4 * length cs
unfolding answers orders_given
orders_few d m k [] = omega arith
orders_few d m k (c ∷ cs) =
    let n : length (orders_in (answer d m k c)) ≡ (answer d m k c).orders.count = (answers_orders d m k c).counted in
    let f : (answer d m k c).orders.count ≤ 4 = (answers_orders d m k c).few in
    let r : orders_given (answers (answer d m k c).directory (memory_after d m k c) (cache_after d m k c) cs) ≤ 4 * length cs = orders_few (answer d m k c).directory (memory_after d m k c) (cache_after d m k c) cs in
    omega (arith, n, f, r)

pub record Before (d : Directory) (m k : List ℕ) (cs : List Call) : Type 0 where
  pub taken : before d m k cs ≡ take (length (before d m k cs)) cs
  pub few : length (before d m k cs) ≤ length cs
  pub accepts : Each (λ r. r.refusal ≡ 0) (answers d m k (before d m k cs))
  pub whole : number d m k cs ≡ 0 → before d m k cs ≡ cs
  -- the refused one, and the machine that it finds
  pub stops : (number d m k cs ≡ 0 → ⊥)
      → (c : Call) × (rest : List Call) × (drop (length (before d m k cs)) cs ≡ c ∷ rest)
      × (number d m k cs ≡ refusal (after_all d m k (before d m k cs)).directory (after_all d m k (before d m k cs)).memory (after_all d m k (before d m k cs)).cache c)

pub before_first : (d : Directory) (m k : List ℕ) (cs : List Call) → Before d m k cs
unfolding before number answers after_all ready Each answer
before_first d m k [] = record { taken = refl; few = omega arith; accepts = tt; whole = λ z. refl; stops = λ z. absurd (z refl) }
before_first d m k (c ∷ cs) = go (eqb (refusal d m k c) 0) refl (before_first (answer d m k c).directory (memory_after d m k c) (cache_after d m k c) cs)
  where
    go : (t : Bool) → eqb (refusal d m k c) 0 ≡ t → Before (answer d m k c).directory (memory_after d m k c) (cache_after d m k c) cs → Before d m k (c ∷ cs)
    go true e h =
        record {
          taken = rw e (ap (λ (x : List Call). c ∷ x) h.taken);
          few = rw e (omega (arith, h.few));
          accepts = rw e (eqb-true _ _ e, h.accepts);
          whole = λ z. rw e (ap (λ (x : List Call). c ∷ x) (h.whole (rw e at z)));
          stops = λ z. rw e (h.stops (rw e at z));
        }
    go false e h =
        record {
          taken = rw e refl;
          few = rw e (omega arith);
          accepts = rw e tt;
          whole = λ z. absurd (eqb-false _ _ e (rw e at z));
          stops = λ z. rw e (c, cs, refl, refl);
        }

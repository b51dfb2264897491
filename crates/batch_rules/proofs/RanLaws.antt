-- What a list makes of an outcome, access by access.
use Prim.Native.Nat.{ℕ, suc, ◌+◌, ◌≤◌}
use native.Mathlib.Nat.{add-zero}
use native.Mathlib.Numerals.{add-one}
use native.Mathlib.Omega.{arith}
use mathlib.Core.Path.{◌≡◌, refl, ap, sym, ◌∙◌}
use mathlib.Core.Bool.{Bool, true, false, cond}
use mathlib.Core.List.{List, [], ◌∷◌}
use lib.Dec.{eqb}
use lib.ListN.{length, set}
use borrow.Author.Tests.{eq-eqb, ne_eqb, eqb-true}
use Rattle.coherence.specs.declared.Directory.{Directory}
use Rattle.coherence.specs.declared.Call.{Call}
use Rattle.coherence.specs.Answer.{Answer}
use Rattle.coherence.specs.Access.{ready}
use Rattle.coherence.specs.Calls.{refusal, answer, memory_after, cache_after, answers, after_all}
use Rattle.coherence.specs.Demand3.{Refused, orders_in, orders_given}
use Rattle.coherence.proofs.Counts.{answers_orders, refused}
use Rattle.batch_rules.specs.declared.Access.{Access}
use Rattle.batch_rules.specs.Outcome.{Outcome}
use Rattle.batch_rules.specs.Batch.{batch, calls_of, before, number, made, ran}

pub answered_few : (r : Answer) (d : Directory) (m k : List ℕ) (c : Call) → r ≡ answer d m k c → r.orders.count ≤ 4
answered_few r d m k c e = rw e (answers_orders d m k c).few

-- the parts of an outcome are the outcome
whole : (s : Outcome) (r i o : ℕ) → r ≡ s.refusal → i ≡ s.index → o ≡ s.orders
    → ◌≡◌ {A = Outcome} (record { refusal = r; index = i; orders = o; directory = s.directory }) s
whole s r i o er ei eo = rw (er, ei, eo) refl

-- ---- no access is left
pub ran_none : (s : Outcome) (vs m k : List ℕ) → ran s vs m k [] ≡ batch s vs m k
unfolding ran made before number calls_of answers after_all ready orders_given
ran_none s vs m k = go (eqb s.refusal 0) refl
  where
    go : (t : Bool) → eqb s.refusal 0 ≡ t → cond t (made s vs m k [] 0) (batch s vs m k) ≡ batch s vs m k
    go true e = ap (λ (x : Outcome). batch x vs m k) (whole s 0 (s.index + 0) (s.orders + 0) (sym (eqb-true _ _ e)) (add-zero _) (add-zero _))
    go false e = refl

-- ---- after a refusal
pub ran_still : (s : Outcome) (vs m k : List ℕ) (l : List Access) → (s.refusal ≡ 0 → ⊥) → ran s vs m k l ≡ batch s vs m k
unfolding ran
ran_still s vs m k l h = rw (ne_eqb _ _ h) refl

-- ---- one access
module _ (a : Access) (s : Outcome) (vs m k : List ℕ) (r : Answer) (m' k' : List ℕ) (l : List Access) (fresh : s.refusal ≡ 0)
    (er : r ≡ answer s.directory m k a.call) (em : m' ≡ memory_after s.directory m k a.call) (ek : k' ≡ cache_after s.directory m k a.call) where
  accepts : r.refusal ≡ refusal s.directory m k a.call
  unfolding answer
  accepts = ap (λ (x : Answer). x.refusal) er

  -- refused
  pub ran_refused : (r.refusal ≡ 0 → ⊥)
      → ran s vs m k (a ∷ l) ≡ ran (record { refusal = r.refusal; index = s.index; orders = s.orders; directory = r.directory }) vs m' k' l
  unfolding ran made calls_of before number answers after_all ready orders_given
  ran_refused h =
      let z : refusal s.directory m k a.call ≡ 0 → ⊥ = λ e. h (accepts ∙ e) in
      let q : Refused s.directory m k a.call = refused s.directory m k a.call (λ e. h (ap (λ (x : Answer). x.refusal) er ∙ e)) in
      let d : r.directory ≡ s.directory = ap (λ (x : Answer). x.directory) er ∙ q.directory in
      let em' : m' ≡ m = em ∙ q.memory in
      let ek' : k' ≡ k = ek ∙ q.cache in
      rw (eq-eqb _ _ fresh, ne_eqb _ _ z, ne_eqb _ _ h, d, em', ek', accepts, add-zero s.index, add-zero s.orders)

  -- accepted
  pub ran_accepted : r.refusal ≡ 0
      → ran s vs m k (a ∷ l)
      ≡ ran (record { refusal = 0; index = s.index + 1; orders = s.orders + r.orders.count; directory = r.directory }) (set vs s.index r.value) m' k' l
  unfolding ran made calls_of before number answers after_all orders_given
  ran_accepted h =
      let z : refusal s.directory m k a.call ≡ 0 = sym accepts ∙ h in
      let n : r.orders.count ≡ length (orders_in (answer s.directory m k a.call)) = ap (λ (x : Answer). x.orders.count) er ∙ sym (answers_orders s.directory m k a.call).counted in
      let d : r.directory ≡ (answer s.directory m k a.call).directory = ap (λ (x : Answer). x.directory) er in
      let v : r.value ≡ (answer s.directory m k a.call).value = ap (λ (x : Answer). x.value) er in
      let i : (x : ℕ) → s.index + suc x ≡ suc s.index + x = λ x. omega arith in
      let o : (x y : ℕ) → s.orders + (x + y) ≡ s.orders + x + y = λ x y. omega arith in
      rw (eq-eqb _ _ fresh, eq-eqb _ _ z, d, em, ek, n, v, add-one s.index, i, o)

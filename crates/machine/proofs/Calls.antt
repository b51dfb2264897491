-- A call's answer and the stores that it leaves, from what its access comes to.
use mathlib.Core.Path.{◌≡◌, ap, sym, ◌∙◌}
use mathlib.Core.List.{List}
use Prim.Native.Nat.{ℕ}
use native.Mathlib.Omega.{arith}
use borrow.Author.Tests.{eq-eqb, ne_eqb}
use Rattle.std.specs.Prelude.{Ok, Err}
use Rattle.order.specs.declared.Refusal.{Refusal}
use Rattle.order.specs.Refusal.{refusal_number}
use Rattle.coherence.specs.declared.Directory.{Directory}
use Rattle.coherence.specs.declared.Orders.{Orders}
use Rattle.coherence.specs.declared.Accepted.{Accepted}
use Rattle.coherence.specs.declared.Call.{Call}
use Rattle.coherence.specs.Access.{Run, ready}
use Rattle.coherence.specs.Slots.{kept}
use Rattle.coherence.specs.Calls.{refusal, act, loaded, settle, after, value_of, packed, told, answer, memory_after, cache_after}
use Rattle.coherence.specs.Sentences.{left}
use Rattle.order.proofs.RefusalLaws.{number_pos}
use Rattle.coherence.proofs.Steps.{loaded_settled}
use Rattle.orders.specs.Orders.{accepted_answer}

after_accepted : (d : Directory) (m k : List ℕ) (c : Call) → refusal d m k c ≡ 0 → after d m k c ≡ settle (act c (ready d m k))
unfolding after
after_accepted d m k c e = rw (eq-eqb _ _ e)

value_accepted : (d : Directory) (m k : List ℕ) (c : Call) → refusal d m k c ≡ 0 → value_of d m k c ≡ loaded c (after d m k c)
unfolding value_of
value_accepted d m k c e = rw (eq-eqb _ _ e)

after_refused : (d : Directory) (m k : List ℕ) (c : Call) → (refusal d m k c ≡ 0 → ⊥) → after d m k c ≡ ready d m k
unfolding after
after_refused d m k c e = rw (ne_eqb _ _ e)

value_refused : (d : Directory) (m k : List ℕ) (c : Call) → (refusal d m k c ≡ 0 → ⊥) → value_of d m k c ≡ 0
unfolding value_of
value_refused d m k c e = rw (ne_eqb _ _ e)

-- an accepted call, whose access comes to w
pub comes_to : (d : Directory) (m k : List ℕ) (c : Call) {w : Run} {r : Accepted} {v : ℕ} {o : Orders} {e : Directory} {m' k' : List ℕ}
    → refusal d m k c ≡ 0 → act c (ready d m k) ≡ w → r ≡ accepted_answer v o e
    → v ≡ loaded c w → o ≡ packed w.orders → e ≡ kept w.directory → m' ≡ w.memory → k' ≡ w.cache
    → (told d (Ok r) ≡ answer d m k c) × (m' ≡ memory_after d m k c) × (k' ≡ cache_after d m k c)
unfolding accepted_answer answer memory_after cache_after settle
comes_to d m k c {w} z does r v o e p q =
    let t : settle w ≡ after d m k c = sym (after_accepted d m k c z ∙ ap settle does) in
    let v₁ = v ∙ sym (loaded_settled c w) ∙ ap (loaded c) t ∙ sym (value_accepted d m k c z) in (
      ap (λ (x : Accepted). told d (Ok x)) r ∙ (λ i. record { refusal = sym z i; value = v₁ i; orders = (o ∙ ap (λ (w : Run). packed w.orders) t) i; directory = (e ∙ ap (λ (w : Run). w.directory) t) i }),
      p ∙ ap (λ (w : Run). w.memory) t,
      q ∙ ap (λ (w : Run). w.cache) t,
    )

-- the directory that it leaves
pub directory_left_lem : (d : Directory) (m k : List ℕ) (c : Call) {w : Run} → refusal d m k c ≡ 0 → act c (ready d m k) ≡ w → (left d m k c).directory ≡ kept w.directory
unfolding left answer settle
directory_left_lem d m k c z does = ap (λ (x : Run). x.directory) (after_accepted d m k c z ∙ ap settle does)

-- a refused call
pub refuses : (d : Directory) (m k : List ℕ) (c : Call) (x : Refusal) → refusal_number x ≡ refusal d m k c
    → (told d (Err x) ≡ answer d m k c) × (m ≡ memory_after d m k c) × (k ≡ cache_after d m k c)
unfolding ready answer memory_after cache_after
refuses d m k c x e =
    let z : refusal d m k c ≡ 0 → ⊥ = λ q. let f : refusal_number x ≡ 0 = e ∙ q in omega (arith, f, number_pos x) in
    let t : ready d m k ≡ after d m k c = sym (after_refused d m k c z) in
    let v = sym (value_refused d m k c z) in (
      (λ i. record { refusal = e i; value = v i; orders = packed (t i).orders; directory = (t i).directory }),
      ap (λ (w : Run). w.memory) t,
      ap (λ (w : Run). w.cache) t,
    )

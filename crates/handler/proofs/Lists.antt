-- The members of a list that pass a test, and a test that each of them passes.
use mathlib.Core.Path.{◌≡◌, refl, sym, ◌∙◌}
use mathlib.Core.Bool.{Bool, true, false, cond, and-eq-true_iff, false≢true}
use mathlib.Core.List.{List, ◌∷◌}
use Rattle.handler.specs.Waiting.{only, each}

module _ {A : Type 0} (t : A → Bool) (x : A) (xs : List A) where
  pub only_passed : t x ≡ true → only t (x ∷ xs) ≡ x ∷ only t xs
  unfolding only
  only_passed e = rw e

  pub only_failed : t x ≡ false → only t (x ∷ xs) ≡ only t xs
  unfolding only
  only_failed e = rw e

  -- if each that passes t passes p, the first does so, and each of the others
  pub each_parts : (p : A → Bool) → each p (only t (x ∷ xs)) ≡ true → (t x ≡ true → p x ≡ true) × (each p (only t xs) ≡ true)
  unfolding only each
  each_parts p = on (t x) refl
    where
      on : (b : Bool) → t x ≡ b → each p (cond b (x ∷ only t xs) (only t xs)) ≡ true → (t x ≡ true → p x ≡ true) × (each p (only t xs) ≡ true)
      on true e h = let q : (p x ≡ true) × (each p (only t xs) ≡ true) = (and-eq-true_iff (p x) (each p (only t xs))).0 h in (λ f. q.0, q.1)
      on false e h = (λ f. absurd (false≢true (sym e ∙ f)), h)

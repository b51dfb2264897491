-- A test of every number below a bound.
use mathlib.Core.Path.{◌≡◌, refl, ap, ◌∙◌}
use mathlib.Core.Bool.{Bool, true, false, ◌&&◌, false≢true}
use mathlib.Core.Logic.{⊎_elim}
use Prim.Native.Nat.{ℕ, zero, suc, ◌<◌}
use native.Mathlib.Omega.{arith}
use native.Mathlib.Nat.{not-suc-le-zero, le_of_suc-le-suc, eq-or-lt_of_le}
use Rattle.coherence.specs.Slots.{all_below}

pub both : (a b : Bool) → (a && b) ≡ true → (a ≡ true) × (b ≡ true)
both true b e = (refl, e)
both false b e = (e, absurd (false≢true e))

-- f holds at each number below the bound
pub below_at : (f : ℕ → Bool) (n i : ℕ) → all_below n f ≡ true → i < n → f i ≡ true
unfolding all_below
below_at f zero i e h = absurd (not-suc-le-zero h)
below_at f (suc n) i e h = ⊎_elim
    (λ q. ap f q ∙ (both (all_below n f) (f n) e).1)
    (λ l. below_at f n i (both (all_below n f) (f n) e).0 l)
    (eq-or-lt_of_le (le_of_suc-le-suc h))

-- a test of every number below n
pub all_below_lem : (n : ℕ) (f : ℕ → Bool) → ((k : ℕ) → k < n → f k ≡ true) → all_below n f ≡ true
unfolding all_below
all_below_lem zero f h = refl
all_below_lem (suc n) f h = rw (all_below_lem n f (λ k l. h k (omega arith)), h n (omega arith))

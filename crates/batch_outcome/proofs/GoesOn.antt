-- What the test of a turn over a list says.
use Prim.Native.Nat.{ℕ, ◌<◌}
use mathlib.Core.Path.{◌≡◌, refl}
use mathlib.Core.Bool.{Bool, true, false, ◌&&◌, false≢true}
use lib.Dec.{eqb, ltb}
use borrow.Author.Tests.{eqb-true, ltb-true}
use Rattle.batch_rules.specs.Outcome.{Outcome}

abbrev pub goes : Outcome → ℕ → Bool
goes s n = eqb s.refusal 0 && ltb s.index n

module _ (s : Outcome) (n : ℕ) (e : goes s n ≡ true) where
  -- nothing is refused
  pub goes_fresh : s.refusal ≡ 0
  goes_fresh = go (eqb s.refusal 0) refl e
    where
      go : (a : Bool) → eqb s.refusal 0 ≡ a → (a && ltb s.index n) ≡ true → s.refusal ≡ 0
      go true f z = eqb-true _ _ f
      go false f z = absurd (false≢true z)

  -- and an access is left
  pub goes_inside : s.index < n
  goes_inside = go (eqb s.refusal 0) e
    where
      go : (a : Bool) → (a && ltb s.index n) ≡ true → s.index < n
      go true z = ltb-true _ _ z
      go false z = absurd (false≢true z)

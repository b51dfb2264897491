-- What the test of a range says, both ways.
use Prim.Native.Nat.{ℕ, ◌≤◌, ◌<◌}
use mathlib.Core.Bool.{Bool, true, false, ◌&&◌, and-false, false≢true}
use mathlib.Core.Path.{◌≡◌, refl}
use lib.Dec.{leb}
use borrow.Author.Tests.{le-leb, lt-leb, leb-true}
use Rattle.numeric.specs.Range.{within}

pub within_in : (first last n : ℕ) → first ≤ n → n ≤ last → within first last n ≡ true
unfolding within
within_in first last n l u = rw (le-leb first n l, le-leb n last u)

pub within_under : (first last n : ℕ) → n < first → within first last n ≡ false
unfolding within
within_under first last n l = rw (lt-leb first n l)

pub within_over : (first last n : ℕ) → last < n → within first last n ≡ false
unfolding within
within_over first last n u = rw (lt-leb n last u) (and-false (leb first n))

pub within_true : (first last n : ℕ) → within first last n ≡ true → (first ≤ n) × (n ≤ last)
unfolding within
within_true first last n e = go (leb first n) refl e
  where
    go : (t : Bool) → leb first n ≡ t → (t && leb n last) ≡ true → (first ≤ n) × (n ≤ last)
    go true l u = (leb-true first n l, leb-true n last u)
    go false l u = absurd (false≢true u)

-- A capped number passes the tests that the number itself passes.
use Prim.Native.Nat.{ℕ, ◌≤◌, ◌<◌}
use mathlib.Core.Path.{◌≡◌, refl, sym, ◌∙◌}
use mathlib.Core.Bool.{Bool, true, false}
use native.Mathlib.Omega.{arith}
use lib.Dec.{leb}
use borrow.Author.Tests.{le-leb, lt-leb, leb-true, leb-false}
use Rattle.crossing.specs.Capped.{capped, Caps}

keeps : (most n : ℕ) → n ≤ most → capped most n ≡ n
unfolding capped
keeps most n h = rw (le-leb n most h)

tested : (most x n : ℕ) → x < most → leb (capped most n) x ≡ leb n x
unfolding capped
tested most x n h = go (leb n most) refl
  where
    go : (p : Bool) → leb n most ≡ p → leb (capped most n) x ≡ leb n x
    go true e = rw e
    go false e = rw e (lt-leb most x h ∙ sym (lt-leb n x (let l = leb-false n most e in omega arith)))

pub caps : (most : ℕ) → Caps most
caps most = record { keeps = keeps most; tested = tested most }

-- a capped number is at most the bound
pub bounded : (most n : ℕ) → capped most n ≤ most
unfolding capped
bounded most n = go (leb n most) refl
  where
    go : (p : Bool) → leb n most ≡ p → capped most n ≤ most
    go true e = rw e (leb-true n most e)
    go false e = rw e (omega arith)

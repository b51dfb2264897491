-- A lock and its number determine each other.
use Prim.Native.Nat.{ℕ, ◌≤◌}
use mathlib.Core.Path.{◌≡◌, refl, sym, ◌∙◌}
use mathlib.Core.Bool.{Bool, true, false, cond}
use native.Mathlib.Omega.{arith}
use lib.Dec.{eqb}
use borrow.Author.Tests.{leb-true, le-leb, eqb-true, ne_eqb}
use Rattle.std.specs.Prelude.{Option, None, Some}
use Rattle.handler.specs.Handler.{lock_allowed}
use Rattle.crossing.specs.Capped.{capped}
use Rattle.crossing.proofs.CappedLaws.{caps}
use Rattle.capi_handler.specs.State.{lock_number, lock_from}

pub byte : (n : ℕ) → n ≤ 7 → capped 255 n ≡ n
byte n h = (caps 255).keeps n (omega arith)

-- what is capped to at most 7 was not capped
pub uncapped : (n : ℕ) → capped 255 n ≤ 7 → capped 255 n ≡ n
uncapped n h = byte n (leb-true n 7 (sym ((caps 255).tested 7 n (omega arith)) ∙ le-leb (capped 255 n) 7 h))

pub lock_back : (x : Option ℕ) → lock_allowed x ≡ true → lock_from (lock_number x) ≡ x
unfolding lock_from lock_number lock_allowed
lock_back None t = refl
lock_back (Some u) t =
    let h : u ≤ 7 = leb-true u 7 t in
    rw (ne_eqb u 8 (λ e. omega arith), byte u h)

pub lock_forth : (n : ℕ) → lock_allowed (lock_from n) ≡ true → lock_number (lock_from n) ≡ n
unfolding lock_from lock_number lock_allowed
lock_forth n = go (eqb n 8) refl
  where
    go : (t : Bool) → eqb n 8 ≡ t → lock_allowed (cond t None (Some (capped 255 n))) ≡ true → lock_number (cond t None (Some (capped 255 n))) ≡ n
    go true e ok = sym (eqb-true n 8 e)
    go false e ok = uncapped n (leb-true (capped 255 n) 7 ok)

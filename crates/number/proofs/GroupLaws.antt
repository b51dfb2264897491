-- Laws of `read_groups`, for any number of groups and any limit of the last: what each byte does, and groups that are read one after the other.
use Prim.Native.Nat.{ℕ, zero, suc, ◌+◌, ◌*◌, ◌%◌, ◌≤◌, ◌<◌}
use native.Mathlib.Omega.{arith}
use native.Mathlib.Nat.{mul-suc, mul_comm, mul_assoc, mul-add, mul-le-mul_left}
use mathlib.Core.Path.{◌≡◌, refl, ap, ◌∙◌}
use mathlib.Core.List.{List}
use lib.ListN.{length, get_or}
use borrow.Author.Tests.{lt-ltb, le-ltb, le-leb, lt-leb}
use Rattle.number.specs.Number.{Groups, Value, Cut, Bad, limit_of, carried, read_groups}

pub limit_more : (most left : ℕ) → (left ≡ 0 → ⊥) → 127 ≡ limit_of most left
unfolding limit_of
limit_more most zero h = absurd (h refl)
limit_more most (suc left) h = refl

pub limit_small : (most left : ℕ) → most < 128 → limit_of most left < 128
unfolding limit_of
limit_small most zero h = h
limit_small most (suc left) h = omega arith

-- what the byte b at the place p does: none is there, it ends the number, or it goes before the others
module _ (most left : ℕ) (tape : List ℕ) (p : ℕ) where
  pub step_cut : length tape ≤ p → read_groups most (suc left) tape p ≡ Cut
  unfolding read_groups
  step_cut h = rw (le-ltb p (length tape) h)

  pub step_ends : (b : ℕ) → p < length tape → b ≡ get_or tape p 0 → b ≤ limit_of most left → read_groups most (suc left) tape p ≡ Value b (p + 1)
  unfolding read_groups
  step_ends b h e l = rw (lt-ltb p (length tape) h, ← e, le-leb b (limit_of most left) l)

  pub step_more : (b : ℕ) → p < length tape → b ≡ get_or tape p 0 → limit_of most left < b → read_groups most (suc left) tape p ≡ carried b (read_groups most left tape (p + 1))
  unfolding read_groups
  step_more b h e l = rw (lt-ltb p (length tape) h, ← e, lt-leb b (limit_of most left) l)

-- groups that mean v in front of what follows them, whose weight is w
unfoldable pub onto : ℕ → ℕ → Groups → Groups
onto v w (Value zero next) = Bad
onto v w (Value (suc x) next) = Value (v + w * suc x) next
onto v w Cut = Cut
onto v w Bad = Bad

pub onto_one : (b : ℕ) (g : Groups) → carried b g ≡ onto (b % 128) 128 g
unfolding carried onto
onto_one b (Value zero q) = refl
onto_one b (Value (suc x) q) = ap (λ (k : ℕ). Value k q) (omega arith)
onto_one b Cut = refl
onto_one b Bad = refl

pub onto_value : (v w b q : ℕ) → (b ≡ 0 → ⊥) → onto v w (Value b q) ≡ Value (v + w * b) q
unfolding onto
onto_value v w zero q h = absurd (h refl)
onto_value v w (suc b) q h = refl

pub onto_zero : (v w b q : ℕ) → b ≡ 0 → onto v w (Value b q) ≡ Bad
unfolding onto
onto_zero v w b q e = rw e

pub onto_carried : (v w b : ℕ) (g : Groups) → onto v w (carried b g) ≡ onto (v + w * (b % 128)) (w * 128) g
unfolding carried onto
onto_carried v w b (Value zero q) = refl
onto_carried v w b (Value (suc x) q) =
    onto_value v w (suc x * 128 + b % 128) q (λ e. omega arith)
    ∙ ap (λ (k : ℕ). Value k q) (omega (arith, mul-add w (suc x * 128) (b % 128), mul_assoc w 128 (suc x) ∙ ap (λ (k : ℕ). w * k) (mul_comm 128 (suc x))))
onto_carried v w b Cut = refl
onto_carried v w b Bad = refl

-- the numbers of at most left + 1 groups are those below this
unfoldable pub top : ℕ → ℕ → ℕ
top most zero = most + 1
top most (suc left) = top most left * 128

pub top_above : (most left : ℕ) → most < top most left
unfolding top
top_above most zero = omega arith
top_above most (suc left) = omega (arith, top_above most left)

pub limit_top : (most left : ℕ) → limit_of most left < top most left
unfolding top limit_of
limit_top most zero = omega arith
limit_top most (suc left) = omega (arith, top_above most left)

-- groups that mean less than their weight, and one more group below t, mean less than the weight of t
pub below_top : (v w b t : ℕ) → v < w → b < t → v + w * b < w * t
below_top v w b t h l = omega (arith, mul-suc w b, mul-le-mul_left {m = suc b} {n = t} w l)

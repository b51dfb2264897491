-- Bytes that stand on a tape from a place on: cut, joined, put there, and taken.
use Prim.Native.Nat.{ℕ, suc, ◌+◌, ◌<◌}
use native.Mathlib.Numerals.{add-one}
use native.Mathlib.Nat.{add-zero}
use native.Mathlib.Omega.{arith}
use mathlib.Core.Path.{◌≡◌, refl, ap}
use mathlib.Core.List.{List, [], ◌∷◌, ◌++◌}
use lib.ListN.{length, get_or, take, drop, length-append}
use lib.Seq.{drop-cons, get_or-append_seam, append_snoc}

-- the bytes s stand on the tape from p on
abbrev pub Stands : List ℕ → List ℕ → ℕ → Type 0
Stands tape [] p = Unit {0}
Stands tape (b ∷ s) p = (p < length tape) × (get_or tape p 0 ≡ b) × Stands tape s (p + 1)

pub stands_cut : (s t tape : List ℕ) (p : ℕ) → Stands tape (s ++ t) p → Stands tape s p × Stands tape t (p + length s)
stands_cut [] t tape p h = (tt, rw add-zero h)
stands_cut (b ∷ s) t tape p h =
    let c = stands_cut s t tape (p + 1) h.2 in
    let e : p + 1 + length s ≡ p + suc (length s) = omega arith in
    ((h.0, h.1, c.0), rw e at c.1)

pub stands_join : (s t tape : List ℕ) (p : ℕ) → Stands tape s p → Stands tape t (p + length s) → Stands tape (s ++ t) p
stands_join [] t tape p a b = rw add-zero at b
stands_join (x ∷ s) t tape p a b =
    let e : p + suc (length s) ≡ p + 1 + length s = omega arith in
    (a.0, a.1, stands_join s t tape (p + 1) a.2 (rw e at b))

-- bytes that were put between others stand there, and bytes that stand there are a part of the tape
pub stands_in : (s pre rest : List ℕ) → Stands (pre ++ (s ++ rest)) s (length pre)
stands_in [] pre rest = tt
stands_in (b ∷ s) pre rest =
    let e : pre ++ (b ∷ []) ++ (s ++ rest) ≡ pre ++ b ∷ (s ++ rest) = append_snoc pre b (s ++ rest) in
    let l : length (pre ++ (b ∷ [])) ≡ length pre + 1 = simp length-append in
    (simp length-append (omega arith), get_or-append_seam pre b (s ++ rest) 0, rw (e, l) at (stands_in s (pre ++ (b ∷ [])) rest))

pub stands_take : (s tape : List ℕ) (p : ℕ) → Stands tape s p → take (length s) (drop p tape) ≡ s
stands_take [] tape p h = refl
stands_take (b ∷ s) tape p h =
    rw (drop-cons tape p 0 h.0, h.1) (ap (λ (l : List ℕ). b ∷ l) (rw add-one at (stands_take s tape (p + 1) h.2)))

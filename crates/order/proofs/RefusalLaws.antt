-- Refusals and their numbers, and what passing all tests says of each of them.
use Prim.Native.Nat.{ℕ, ◌≤◌}
use native.Mathlib.Omega.{arith}
use mathlib.Core.Path.{◌≡◌, refl, sym, ap, ◌∙◌}
use mathlib.Core.Bool.{Bool, true, false, cond, ◌&&◌, and-eq-true_iff}
use mathlib.Core.List.{List, [], ◌∷◌}
use lib.Dec.{leb, eqb}
use borrow.Author.Tests.{leb-true}
use Rattle.order.specs.declared.Refusal.{Refusal}
use Rattle.order.specs.declared.Refusal.TheVariants.{WrongSize, BrokenDirectory, NoUnit, BadAddress, Cut, BadNumber, UnknownKind, FieldRange, NoRoom, BadState, OtherSource, OutOfTurn, HalvesDiffer, Unreadable}
use Rattle.order.specs.Refusal.{refusal_number, RefusalNumbers, Test, first_refusal}

-- each of the tests passes
abbrev pub Passes : List Test → Type 0
Passes [] = Unit {0}
Passes (t ∷ ts) = (t.passes ≡ true) × Passes ts

-- none of them has the number 0
abbrev pub numbered : List Test → Bool
numbered [] = true
numbered (t ∷ ts) = leb 1 t.number && numbered ts

pub passed : (ts : List Test) → numbered ts ≡ true → first_refusal ts ≡ 0 → Passes ts
unfolding first_refusal
passed [] n e = tt
passed (t ∷ ts) n e =
    let h : (leb 1 t.number ≡ true) × (numbered ts ≡ true) = (and-eq-true_iff (leb 1 t.number) (numbered ts)).0 n in
    on t.passes refl (leb-true 1 t.number h.0) (passed ts h.1) e
  where
    on : (b : Bool) → t.passes ≡ b → 1 ≤ t.number → (first_refusal ts ≡ 0 → Passes ts) → cond b (first_refusal ts) t.number ≡ 0
        → (t.passes ≡ true) × Passes ts
    on true q h r e = (q, r e)
    on false q h r e = absurd (omega arith)

pub refusal_numbers : RefusalNumbers
refusal_numbers = record { numbers = refl }

-- the refusal that has the number n, the last for any other
refusal_of : ℕ → Refusal
refusal_of n =
    cond (eqb n 1) WrongSize
    (cond (eqb n 2) BrokenDirectory
    (cond (eqb n 3) NoUnit
    (cond (eqb n 4) BadAddress
    (cond (eqb n 5) Cut
    (cond (eqb n 6) BadNumber
    (cond (eqb n 7) UnknownKind
    (cond (eqb n 8) FieldRange
    (cond (eqb n 9) NoRoom
    (cond (eqb n 10) BadState
    (cond (eqb n 11) OtherSource
    (cond (eqb n 12) OutOfTurn
    (cond (eqb n 17) HalvesDiffer
    Unreadable))))))))))))

refusal_back : (x : Refusal) → refusal_of (refusal_number x) ≡ x
unfolding refusal_of
refusal_back WrongSize = refl
refusal_back BrokenDirectory = refl
refusal_back NoUnit = refl
refusal_back BadAddress = refl
refusal_back Cut = refl
refusal_back BadNumber = refl
refusal_back UnknownKind = refl
refusal_back FieldRange = refl
refusal_back NoRoom = refl
refusal_back BadState = refl
refusal_back OtherSource = refl
refusal_back OutOfTurn = refl
refusal_back HalvesDiffer = refl
refusal_back Unreadable = refl

-- each refusal has a number of its own
pub refusal_one : (x y : Refusal) → refusal_number x ≡ refusal_number y → x ≡ y
refusal_one x y e = sym (refusal_back x) ∙ ap refusal_of e ∙ refusal_back y

-- and none has 0
pub number_pos : (x : Refusal) → 1 ≤ refusal_number x
number_pos WrongSize = omega arith
number_pos BrokenDirectory = omega arith
number_pos NoUnit = omega arith
number_pos BadAddress = omega arith
number_pos Cut = omega arith
number_pos BadNumber = omega arith
number_pos UnknownKind = omega arith
number_pos FieldRange = omega arith
number_pos NoRoom = omega arith
number_pos BadState = omega arith
number_pos OtherSource = omega arith
number_pos OutOfTurn = omega arith
number_pos HalvesDiffer = omega arith
number_pos Unreadable = omega arith

pub number_not_0 : (x : Refusal) → refusal_number x ≡ 0 → ⊥
number_not_0 x e = omega (arith, number_pos x, e)

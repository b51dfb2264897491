-- The round robin: the distance of a unit, and the first member met.
use Prim.Native.Nat.{ℕ, zero, suc, ◌+◌, ◌-◌, ◌/◌, ◌%◌, ◌^◌, ◌<◌, ◌≤◌}
use mathlib.Core.Path.{◌≡◌, refl, sym, ◌∙◌, ap}
use mathlib.Core.Bool.{Bool, true, false, cond, false≢true}
use mathlib.Core.Logic.{⊎_elim}
use native.Mathlib.Nat.{eq-or-lt_of_le, zero-div}
use native.Mathlib.Decide.{dec_lt}
use native.Mathlib.Numerals.{add-one}
use native.Mathlib.Omega.{arith}
use lib.Pow.{shr-shr}
use borrow.Author.Tests.{eq-eqb, ne_eqb, eqb-true, eqb-false}
use lib.Dec.{eqb}
use Rattle.std.specs.Prelude.{None, Some}
use Rattle.handler.specs.Handler.{met, distance, passed, first_met, turn}
use Rattle.numeric.specs.Bits.{bit_at, contains}

-- the k-th unit met is at distance k, and a unit is met at its distance

pub distance_met : (last k : ℕ) → last ≤ 7 → k ≤ 7 → distance last (met last k) ≡ k
unfolding distance met
distance_met last k hl hk = omega arith

pub met_distance : (last u : ℕ) → last ≤ 7 → u ≤ 7 → met last (distance last u) ≡ u
unfolding distance met
met_distance last u hl hu = omega arith

pub met_unit : (last k : ℕ) → met last k ≤ 7
unfolding met
met_unit last k = omega arith

pub distance_small : (last u : ℕ) → distance last u ≤ 7
unfolding distance
distance_small last u = omega arith

-- after a grant to another unit that was met no later, a unit is nearer than it was
pub distance_falls : (last g u : ℕ) → last ≤ 7 → g ≤ 7 → u ≤ 7 → distance last g ≤ distance last u → (g ≡ u → ⊥) → distance g u < distance last u
unfolding distance
distance_falls last g u hl hg hu n d = omega arith

-- the search at unit k of the eight
pub passed_here : (set last k : ℕ) → k < 8 → contains set (met last k) ≡ true → passed (8 - k) set last k ≡ k
unfolding passed
passed_here set last k h e = let n : 8 - k ≡ suc (8 - (k + 1)) = omega arith in rw (n, e)

pub passed_on : (set last k : ℕ) → k < 8 → contains set (met last k) ≡ false → passed (8 - k) set last k ≡ passed (8 - (k + 1)) set last (k + 1)
unfolding passed
passed_on set last k h e = let n : 8 - k ≡ suc (8 - (k + 1)) = omega arith in rw (n, e)

pub passed_end : (set last k : ℕ) → 8 ≤ k → passed (8 - k) set last k ≡ k
unfolding passed
passed_end set last k h = let n : 8 - k ≡ 0 = omega arith in rw n

-- where the search ends early, it ends at a member
pub passed_member : (n set last k : ℕ) → passed n set last k < n + k → contains set (met last (passed n set last k)) ≡ true
unfolding passed
passed_member zero set last k h = absurd (omega arith)
passed_member (suc n) set last k h = on (contains set (met last k)) refl (passed_member n set last (k + 1)) h
  where
    on : (t : Bool) → contains set (met last k) ≡ t →
        (passed n set last (k + 1) < n + (k + 1) → contains set (met last (passed n set last (k + 1))) ≡ true) →
        cond t k (passed n set last (k + 1)) < suc n + k → contains set (met last (cond t k (passed n set last (k + 1)))) ≡ true
    on true e r l = e
    on false e r l = r (omega arith)

-- none of the units passed is a member
pub passed_others : (n set last k j : ℕ) → k ≤ j → j < passed n set last k → contains set (met last j) ≡ false
unfolding passed
passed_others zero set last k j a b = absurd (omega arith)
passed_others (suc n) set last k j a b = on (contains set (met last k)) refl (passed_others n set last (k + 1) j) b
  where
    on : (t : Bool) → contains set (met last k) ≡ t →
        (k + 1 ≤ j → j < passed n set last (k + 1) → contains set (met last j) ≡ false) →
        j < cond t k (passed n set last (k + 1)) → contains set (met last j) ≡ false
    on true e r l = absurd (omega arith)
    on false e r l = ⊎_elim (λ (q : k ≡ j). rw (← q) e) (λ (q : k < j). r (omega arith) l) (eq-or-lt_of_le a)

-- a set that has a member isn't empty
pub with_member : (set u : ℕ) → contains set u ≡ true → set ≡ 0 → ⊥
unfolding bit_at contains
with_member set u e z =
    let q : set / 2 ^ u ≡ 0 = rw z (zero-div (2 ^ u)) in
    let m : set / 2 ^ u % 2 ≡ 1 = eqb-true (set / 2 ^ u % 2) 1 e in
    omega arith

-- a set that has none of the eight units is empty
pub without_units : (set : ℕ) → set ≤ 255 → ((u : ℕ) → u ≤ 7 → contains set u ≡ false) → set ≡ 0
unfolding bit_at contains
without_units set h none = down 8 (omega arith) (omega arith)
  where
    even : (x : ℕ) → (x % 2 ≡ 1 → ⊥) → x / 2 ≡ 0 → x ≡ 0
    even x n e = omega arith

    down : (n : ℕ) → n ≤ 8 → set / 2 ^ n ≡ 0 → set ≡ 0
    down zero l e = omega arith
    down (suc n) l e =
        down n (omega arith)
        (even (set / 2 ^ n) (eqb-false (set / 2 ^ n % 2) 1 (none n (omega arith))) (shr-shr set n 1 ∙ ap (λ (k : ℕ). set / 2 ^ k) (add-one n) ∙ e))

-- no member's distance is below the number of units passed
pub passed_nearest : (set last v : ℕ) → last ≤ 7 → v ≤ 7 → contains set v ≡ true → passed 8 set last 0 ≤ distance last v
passed_nearest set last v hl hv e = on (dec_lt (distance last v) (passed 8 set last 0))
  where
    on : Dec (distance last v < passed 8 set last 0) → passed 8 set last 0 ≤ distance last v
    on (no n) = omega arith
    on (yes l) =
        absurd (false≢true (sym (passed_others 8 set last 0 (distance last v) (omega arith) l) ∙ ap (contains set) (met_distance last v hl hv) ∙ e))

-- a set of which all eight units are passed is empty
passed_all : (set last : ℕ) → set ≤ 255 → last ≤ 7 → (passed 8 set last 0 < 8 → ⊥) → set ≡ 0
passed_all set last hs hl n = without_units set hs none
  where
    none : (u : ℕ) → u ≤ 7 → contains set u ≡ false
    none u hu =
        sym (ap (contains set) (met_distance last u hl hu)) ∙ passed_others 8 set last 0 (distance last u) (omega arith) (omega (arith, distance_small last u))

-- the first member met of a set that isn't empty is a member
pub first_met_member : (set last : ℕ) → set ≤ 255 → last ≤ 7 → (set ≡ 0 → ⊥) → contains set (first_met set last) ≡ true
unfolding first_met
first_met_member set last hs hl ne = on (dec_lt (passed 8 set last 0) 8)
  where
    on : Dec (passed 8 set last 0 < 8) → contains set (met last (passed 8 set last 0)) ≡ true
    on (yes l) = passed_member 8 set last 0 (omega arith)
    on (no n) = absurd (ne (passed_all set last hs hl n))

-- no member is nearer than the first member met
pub first_met_nearest : (set last v : ℕ) → last ≤ 7 → v ≤ 7 → contains set v ≡ true → distance last (first_met set last) ≤ distance last v
unfolding first_met
first_met_nearest set last v hl hv e =
    let n : passed 8 set last 0 ≤ distance last v = passed_nearest set last v hl hv e in
    let d : distance last v ≤ 7 = distance_small last v in
    let m : distance last (met last (passed 8 set last 0)) ≡ passed 8 set last 0 = distance_met last (passed 8 set last 0) hl (omega arith) in
    omega arith

pub first_met_unit : (set last : ℕ) → first_met set last ≤ 7
unfolding first_met
first_met_unit set last = met_unit last (passed 8 set last 0)

-- the search that stands at unit k, in a set that has it and in one that it has passed

pub turn_here : (set last k : ℕ) → k < 8 → contains set (met last k) ≡ true → passed (8 - k) set last k ≡ passed 8 set last 0
    → turn set last ≡ Some (met last k)
unfolding turn first_met
turn_here set last k h m e =
    let n : eqb set 0 ≡ false = ne_eqb set 0 (with_member set (met last k) m) in
    let q : passed 8 set last 0 ≡ k = sym e ∙ passed_here set last k h m in
    rw (n, q)

pub turn_none : (set last k : ℕ) → set ≤ 255 → last ≤ 7 → 8 ≤ k → passed (8 - k) set last k ≡ passed 8 set last 0 → turn set last ≡ None
unfolding turn
turn_none set last k hs hl h e =
    let q : passed 8 set last 0 ≡ k = sym e ∙ passed_end set last k h in
    rw (eq-eqb set 0 (passed_all set last hs hl (λ l. omega arith)))

-- The sender's tests in their order, and which operations there are.
use Prim.Native.Nat.{ℕ, ◌-◌, ◌*◌, ◌<◌, ◌≤◌, min}
use native.Mathlib.Decide.{dec_lt}
use mathlib.Core.Path.{◌≡◌, refl, sym, ap, ◌∙◌}
use mathlib.Core.Bool.{Bool, true, false, cond, ◌&&◌}
use mathlib.Core.List.{List}
use Rattle.std.specs.Prelude.{Some, None}
use native.Mathlib.Omega.{arith}
use lib.Dec.{eqb, leb}
use lib.ListN.{length, take, drop, length-drop}
use lib.Seq.{take_all}
use borrow.Author.Tests.{ne_eqb, lt-ltb, le-ltb}
use Rattle.order.specs.Refusal.{first_refusal}
use Rattle.message_rules.specs.Operation.{is_source, operation}
use Rattle.message_rules.specs.Sender.{field_test, length_test, send_refusal, operation_count, division, RefusedMakesNone, sequence_of, part_of, operation_at}

-- the numbers in their order
pub send_tests : (m : List ℕ) (s a : ℕ)
    → send_refusal m s a ≡ cond (leb 1 (length m) && is_source s a) (cond (leb (length m) 4096) 0 9) 8
unfolding send_refusal first_refusal field_test length_test
send_tests m s a = refl

-- a refused message makes no operation
pub refused_makes_none : RefusedMakesNone
unfolding RefusedMakesNone division
refused_makes_none m s a h = rw (ne_eqb (send_refusal m s a) 0 h)

-- ---- operation k of a message

-- its bytes are the first 256 of the rest of the message, or all of them where there are no more
pub part_front : (m : List ℕ) (k n : ℕ) → n ≡ min (length (take (length m - 256 * k) (drop (256 * k) m))) 256
    → take n (take (length m - 256 * k) (drop (256 * k) m)) ≡ part_of m k
unfolding part_of
part_front m k n e = ap (take n) all ∙ on (dec_lt (length m - 256 * k) 256)
  where
    l : length (drop (256 * k) m) ≡ length m - 256 * k
    l = length-drop (256 * k) m

    all : take (length m - 256 * k) (drop (256 * k) m) ≡ drop (256 * k) m
    all = take_all (length m - 256 * k) (drop (256 * k) m) (omega (arith, l))

    on : Dec (length m - 256 * k < 256) → take n (drop (256 * k) m) ≡ take 256 (drop (256 * k) m)
    on (yes h) = take_all n (drop (256 * k) m) (omega (arith, l, ap length all)) ∙ sym (take_all 256 (drop (256 * k) m) (omega (arith, l)))
    on (no h) = let f : n ≡ 256 = omega (arith, l, ap length all) in ap (λ (i : ℕ). take i (drop (256 * k) m)) f

pub operation_found : (m : List ℕ) (s a k : ℕ)
    → k < (division m s a).operations → operation_at m s a k ≡ Some (operation (sequence_of (division m s a).operations k) s a (part_of m k))
unfolding operation_at
operation_found m s a k h = rw (lt-ltb _ _ h)

pub operation_none : (m : List ℕ) (s a k : ℕ) → (division m s a).operations ≤ k → operation_at m s a k ≡ None
unfolding operation_at
operation_none m s a k h = rw (le-ltb _ _ h)

-- it starts within the message
pub start_within : (m : List ℕ) (s a k : ℕ) → k < (division m s a).operations → 256 * k ≤ length m
unfolding division operation_count
start_within m s a k h = on (eqb (send_refusal m s a) 0) refl
  where
    on : (t : Bool) → eqb (send_refusal m s a) 0 ≡ t → 256 * k ≤ length m
    on true e = let l = rw e at h in omega arith
    on false e = let l = rw e at h in omega arith

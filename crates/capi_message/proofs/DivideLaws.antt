-- A division's number of refusal; and offset and length mark an operation's bytes, where a length of 0 says that there is no such operation.
use mathlib.Core.Path.{◌≡◌, refl, sym, ap, ◌∙◌}
use mathlib.Core.Bool.{Bool, true, false}
use mathlib.Core.List.{List}
use Prim.Native.Nat.{ℕ, ◌+◌, ◌*◌, ◌/◌, ◌≤◌, ◌<◌}
use native.Mathlib.Omega.{arith}
use lib.Dec.{eqb, ltb}
use lib.ListN.{length, take, drop, length-take, length-drop}
use lib.Seq.{take-take, take-length}
use borrow.Author.Tests.{eq-eqb, ne_eqb, lt-ltb, le-ltb}
use Rattle.message_rules.specs.Operation.{operation}
use Rattle.message_rules.specs.Sender.{Division, operation_count, division, part_of, operation_at, part_found, part_offset}
use Rattle.message_rules.proofs.SenderTests.{operation_found, operation_none}
use Rattle.message_rules.proofs.SenderLaws.{division_refusal, division_count}
use Rattle.crossing.specs.Capped.{capped}
use Rattle.capi_message.specs.Divide.{divide_returned, divide_operations, operation_offset, operation_length, Marks}

-- ---- a division's number of refusal

module _ (m : List ℕ) (s a : ℕ) (d : Division) (e : d ≡ division m (capped 255 s) (capped 65535 a)) where
  pub divide_returned_lem : d.refusal ≡ divide_returned m s a
  unfolding divide_returned
  divide_returned_lem = ap (λ (x : Division). x.refusal) e

  pub divide_refused : (d.refusal ≡ 0 → ⊥) → eqb (divide_returned m s a) 0 ≡ false
  divide_refused h = ap (λ (n : ℕ). eqb n 0) (sym divide_returned_lem) ∙ ne_eqb _ 0 h

  pub divide_accepted : d.refusal ≡ 0 → eqb (divide_returned m s a) 0 ≡ true
  divide_accepted h = ap (λ (n : ℕ). eqb n 0) (sym divide_returned_lem) ∙ eq-eqb _ 0 h

-- ---- an operation's bytes

-- where they start; n operations are made
pub offset_within : (m : List ℕ) (s a k n : ℕ) → n ≡ (division m s a).operations → k < n → 256 * k ≡ part_offset m s a k
unfolding part_offset
offset_within m s a k n e h = rw (lt-ltb k (division m s a).operations (omega arith))

pub offset_past : (m : List ℕ) (s a k n : ℕ) → n ≡ (division m s a).operations → n ≤ k → 0 ≡ part_offset m s a k
unfolding part_offset
offset_past m s a k n e h = rw (le-ltb k (division m s a).operations (omega arith))

-- how many operations an accepted message makes
count : (m : List ℕ) (s a : ℕ) → (division m s a).refusal ≡ 0 → (division m s a).operations ≡ (length m + 255) / 256
unfolding operation_count
count m s a e = division_count m s a (sym (division_refusal m s a) ∙ e)

-- as many elements as are left of n from the start
take_own : (n : ℕ) (l : List ℕ) → take (length (take n l)) l ≡ take n l
take_own n l =
    let h : length (take n l) ≤ n = omega (arith, length-take n l) in
    sym (take-take (length (take n l)) n l h) ∙ take-length (take n l)

part_marked : (m : List ℕ) (s a k : ℕ)
    → take (length (part_found (operation_at m s a k))) (drop (part_offset m s a k) m) ≡ part_found (operation_at m s a k)
unfolding operation_at part_found part_offset operation part_of
part_marked m s a k = go (ltb k (division m s a).operations) refl
  where
    go : (b : Bool) → ltb k (division m s a).operations ≡ b
        → take (length (part_found (operation_at m s a k))) (drop (part_offset m s a k) m) ≡ part_found (operation_at m s a k)
    go true e = rw e (take_own 256 (drop (256 * k) m))
    go false e = rw e

part_some : (m : List ℕ) (s a k : ℕ) → (division m s a).refusal ≡ 0 → k < (division m s a).operations → 1 ≤ length (part_found (operation_at m s a k))
unfolding part_found operation part_of
part_some m s a k e h =
    let n : k < (length m + 255) / 256 = omega (arith, count m s a e) in
    rw (operation_found m s a k h) (simp (length-take, length-drop) (omega arith))

part_none : (m : List ℕ) (s a k : ℕ) → (division m s a).operations ≤ k → length (part_found (operation_at m s a k)) ≡ 0
unfolding part_found
part_none m s a k h = rw (operation_none m s a k h)

pub marks : Marks
unfolding Marks divide_returned divide_operations operation_offset operation_length
marks m s a k x y z e =
    let t = eq-eqb (divide_returned m s a) 0 e in
    record {
      bytes = rw t (part_marked m _ _ k);
      some = rw t (part_some m _ _ k e);
      none = rw t (part_none m _ _ k);
    }

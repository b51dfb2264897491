-- What an accepted message knows, the operations that it makes, and their lengths.
use Prim.Native.Nat.{ℕ, zero, suc, ◌+◌, ◌*◌, ◌-◌, ◌≤◌, ◌<◌, min}
use native.Mathlib.Nat.{min-eq_left, min-eq_right, eq-or-lt_of_le}
use native.Mathlib.Omega.{arith}
use mathlib.Core.Path.{◌≡◌, refl, sym, ◌∙◌, ap}
use mathlib.Core.Logic.{⊎_elim}
use mathlib.Core.Bool.{Bool, true, false, and-eq-true_iff}
use mathlib.Core.List.{List, [], ◌∷◌, ◌++◌}
use Rattle.std.specs.Prelude.{Some}
use lib.Dec.{eqb, leb}
use lib.ListN.{length, drop, replicate, length-take, length-drop, take-append-drop, drop_of_length-le}
use lib.Seq.{drop-drop}
use borrow.Author.Tests.{le-leb, eq-eqb, ne_eqb, eqb-true, eqb-false, leb-true}
use Rattle.order.proofs.RefusalLaws.{Passes, passed}
use Rattle.message_rules.specs.Operation.{Operation, operation, is_source, sequence_number, TableSix, starts, ends}
use Rattle.message_rules.specs.Sender.{field_test, length_test, send_refusal, Sendable, SendsExactly, operation_count, division, sequence_of, part_of, operation_at, part_found, collected, operations_from, operations, bytes_of, Divided, sequence_numbers, Sequenced}
use Rattle.message_rules.proofs.SenderTests.{send_tests, operation_found}
use Rattle.message_rules.proofs.ReceiverLaws.{source_true, source_within}

-- ---- which messages are accepted

pub sends : (m : List ℕ) (s a : ℕ) → Sendable m s a → send_refusal m s a ≡ 0
sends m s a h =
    rw (send_tests m s a, le-leb 1 (length m) h.some_bytes, source_true s a h.sender h.aid, le-leb (length m) 4096 h.short)

pub sendable : (m : List ℕ) (s a : ℕ) → send_refusal m s a ≡ 0 → Sendable m s a
unfolding send_refusal field_test length_test
sendable m s a e =
    let p : Passes (field_test m s a ∷ length_test m ∷ []) = passed (field_test m s a ∷ length_test m ∷ []) refl e in
    let f : (leb 1 (length m) ≡ true) × (is_source s a ≡ true) = (and-eq-true_iff (leb 1 (length m)) (is_source s a)).0 p.0 in
    let w : (s ≤ 7) × (a ≤ 255) = source_within s a f.1 in
    record { some_bytes = leb-true 1 (length m) f.0; sender = w.0; aid = w.1; short = leb-true (length m) 4096 p.1.0 }

pub sends_exactly : (m : List ℕ) (s a : ℕ) → SendsExactly m s a
sends_exactly m s a = record { all = sends m s a; only = sendable m s a }

-- the number in the answer is the number of the refusal
pub division_refusal : (m : List ℕ) (s a : ℕ) → (division m s a).refusal ≡ send_refusal m s a
unfolding division
division_refusal m s a = go (eqb (send_refusal m s a) 0) refl
  where
    go : (t : Bool) → eqb (send_refusal m s a) 0 ≡ t → (division m s a).refusal ≡ send_refusal m s a
    go true e = rw e (sym (eqb-true (send_refusal m s a) 0 e))
    go false e = rw e

pub division_count : (m : List ℕ) (s a : ℕ) → send_refusal m s a ≡ 0 → (division m s a).operations ≡ operation_count (length m)
unfolding division
division_count m s a e = rw (eq-eqb (send_refusal m s a) 0 e)

-- operation k of an accepted message
unfoldable pub made : List ℕ → ℕ → ℕ → ℕ → Operation
made m s a k = operation (sequence_of (operation_count (length m)) k) s a (part_of m k)

operation_made : (m : List ℕ) (s a k : ℕ) → send_refusal m s a ≡ 0 → k < operation_count (length m) → operation_at m s a k ≡ Some (made m s a k)
unfolding made
operation_made m s a k e h =
    let d = division_count m s a e in
    rw (sym d) (operation_found m s a k (omega arith))

pub from_made : (m : List ℕ) (s a k n : ℕ) → send_refusal m s a ≡ 0 → k < operation_count (length m)
    → operations_from m s a k (suc n) ≡ made m s a k ∷ operations_from m s a (suc k) n
unfolding operations_from collected
from_made m s a k n e h = rw (operation_made m s a k e h)

-- ---- lengths: with its operation k a message has 256 (k + 1) bytes, or all of them

part_length : (m : List ℕ) (k : ℕ) → length (part_of m k) ≡ min 256 (length m - 256 * k)
unfolding part_of
part_length m k = length-take 256 (drop (256 * k) m) ∙ ap (min 256) (length-drop (256 * k) m)

pub part_start : (n k : ℕ) → k < operation_count n → 256 * k < n
unfolding operation_count
part_start n k h = omega arith

pub part_full : (m : List ℕ) (k : ℕ) → suc k < operation_count (length m) → length (part_of m k) ≡ 256
unfolding operation_count
part_full m k h = part_length m k ∙ min-eq_left (omega arith)

pub part_last : (m : List ℕ) (k : ℕ) → suc k ≡ operation_count (length m) → length (part_of m k) ≡ length m - 256 * k
unfolding operation_count
part_last m k h = part_length m k ∙ min-eq_right (omega arith)

pub last_end : (n k : ℕ) → suc k ≡ operation_count n → n ≤ 256 * suc k
unfolding operation_count
last_end n k h = omega arith

-- every operation but the last is full; the last has the rest
pub record Within (m : List ℕ) (k : ℕ) : Type 0 where
  pub least : 1 ≤ length (part_of m k)
  pub most : length (part_of m k) ≤ 256
  pub end : 256 * k + length (part_of m k) ≤ length m

pub part_within : (m : List ℕ) (k : ℕ) → k < operation_count (length m) → Within m k
part_within m k h = ⊎_elim last on (eq-or-lt_of_le h)
  where
    last : suc k ≡ operation_count (length m) → Within m k
    last q = let b = part_start (length m) k h in let e = part_last m k q in let l = last_end (length m) k q in record { least = omega arith; most = omega arith; end = omega arith }

    on : suc k < operation_count (length m) → Within m k
    on q = let e = part_full m k q in let c = part_start (length m) (suc k) q in record { least = omega arith; most = omega arith; end = omega arith }

-- ---- Table 6: which operations start and which end a message

only_single : (n k : ℕ) → k < n → eqb n 1 ≡ true → k ≡ 0
only_single n k h e = let q : n ≡ 1 = eqb-true n 1 e in omega arith

pub starts_first : (n k : ℕ) → k < n → starts (sequence_of n k) ≡ eqb k 0
unfolding sequence_of starts
starts_first n k h = go (eqb n 1) (eqb k 0) (eqb (k + 1) n) refl refl refl
  where
    go : (t u v : Bool) → eqb n 1 ≡ t → eqb k 0 ≡ u → eqb (k + 1) n ≡ v → starts (sequence_of n k) ≡ eqb k 0
    go true u v e f g = rw e (sym (eq-eqb k 0 (only_single n k h e)))
    go false true v e f g = rw (e, f)
    go false false true e f g = rw (e, f, g)
    go false false false e f g = rw (e, f, g)

pub ends_last : (n k : ℕ) → k < n → ends (sequence_of n k) ≡ eqb (suc k) n
unfolding sequence_of ends
ends_last n k h = go (eqb n 1) (eqb k 0) (eqb (k + 1) n) refl refl refl
  where
    go : (t u v : Bool) → eqb n 1 ≡ t → eqb k 0 ≡ u → eqb (k + 1) n ≡ v → ends (sequence_of n k) ≡ eqb (suc k) n
    go true u v e f g = let q : n ≡ 1 = eqb-true n 1 e in rw e (sym (eq-eqb (suc k) n (omega (arith, only_single n k h e))))
    go false true v e f g =
        let z : k ≡ 0 = eqb-true k 0 f in
        rw (e, f) (sym (ne_eqb (suc k) n (λ (q : suc k ≡ n). eqb-false n 1 e (omega arith))))
    go false false true e f g =
        let q : k + 1 ≡ n = eqb-true (k + 1) n g in
        rw (e, f, g) (sym (eq-eqb (suc k) n (omega arith)))
    go false false false e f g = rw (e, f, g) (sym (ne_eqb (suc k) n (λ (q : suc k ≡ n). eqb-false (k + 1) n g (omega arith))))

pub table_six : TableSix
unfolding sequence_number
table_six = record { single = refl; first = refl; middle = refl; last = refl }

-- the number of operation k of n

number_single : sequence_number (sequence_of 1 0) ≡ 0
unfolding sequence_of sequence_number
number_single = refl

number_first : (n : ℕ) → 1 < n → sequence_number (sequence_of n 0) ≡ 1
unfolding sequence_of sequence_number
number_first n h = rw (ne_eqb n 1 (λ (q : n ≡ 1). omega arith))

number_middle : (n k : ℕ) → 1 ≤ k → k + 1 < n → sequence_number (sequence_of n k) ≡ 2
unfolding sequence_of sequence_number
number_middle n k l h =
    rw (ne_eqb n 1 (λ (q : n ≡ 1). omega arith), ne_eqb k 0 (λ (q : k ≡ 0). omega arith), ne_eqb (k + 1) n (λ (q : k + 1 ≡ n). omega arith))

number_last : (n k : ℕ) → 1 ≤ k → k + 1 ≡ n → sequence_number (sequence_of n k) ≡ 3
unfolding sequence_of sequence_number
number_last n k l h = rw (ne_eqb n 1 (λ (q : n ≡ 1). omega arith), ne_eqb k 0 (λ (q : k ≡ 0). omega arith), eq-eqb (k + 1) n h)

-- ---- the operations together

-- behind operation k nothing of a message with k operations is left
nothing_left : (n k : ℕ) → operation_count n ≤ k → n ≤ 256 * k
unfolding operation_count
nothing_left n k h = omega arith

part_and_rest : (m : List ℕ) (k : ℕ) → part_of m k ++ drop (256 * suc k) m ≡ drop (256 * k) m
unfolding part_of
part_and_rest m k =
    let e : 256 * suc k ≡ 256 * k + 256 = omega arith in
    rw (e, sym (drop-drop 256 (256 * k) m)) (take-append-drop 256 (drop (256 * k) m))

bytes_from : (m : List ℕ) (s a k n : ℕ) → send_refusal m s a ≡ 0 → k + n ≡ operation_count (length m)
    → bytes_of (operations_from m s a k n) ≡ drop (256 * k) m
unfolding bytes_of operations_from made operation
bytes_from m s a k zero e q = sym (drop_of_length-le m {i = 256 * k} (nothing_left (length m) k (omega arith)))
bytes_from m s a k (suc n) e q =
    let l : k < operation_count (length m) = omega arith in
    rw (from_made m s a k n e l) (ap (λ (x : List ℕ). part_of m k ++ x) (bytes_from m s a (suc k) n e (omega arith)) ∙ part_and_rest m k)

pub divided : (m : List ℕ) (s a : ℕ) → send_refusal m s a ≡ 0 → Divided m s a
unfolding part_found made operation operations
divided m s a e =
    let d = division_count m s a e in
    record {
      full = λ k h. let l : suc k < operation_count (length m) = omega arith in rw (operation_made m s a k e (omega arith)) (part_full m k l);
      last = λ k h.
          let l : k < operation_count (length m) = omega arith in
          let w = part_within m k l in
          rw (operation_made m s a k e l) (w.least, w.most);
      whole = bytes_from m s a 0 (division m s a).operations e (omega arith);
    }

-- ---- their sequences

numbers_made : (m : List ℕ) (s a k n : ℕ) → send_refusal m s a ≡ 0 → k < operation_count (length m)
    → sequence_numbers (operations_from m s a k (suc n))
    ≡ sequence_number (sequence_of (operation_count (length m)) k) ∷ sequence_numbers (operations_from m s a (suc k) n)
unfolding sequence_numbers made operation
numbers_made m s a k n e h = rw (from_made m s a k n e h)

-- from the second on: Middle, and at last Last
numbers_from : (m : List ℕ) (s a k n : ℕ) → send_refusal m s a ≡ 0 → 1 ≤ k → suc k + n ≡ operation_count (length m)
    → sequence_numbers (operations_from m s a k (suc n)) ≡ replicate n 2 ++ 3 ∷ []
unfolding operations_from sequence_numbers
numbers_from m s a k zero e l q =
    numbers_made m s a k zero e (omega arith)
    ∙ ap (λ (x : ℕ). x ∷ []) (number_last (operation_count (length m)) k l (omega arith))
numbers_from m s a k (suc n) e l q =
    numbers_made m s a k (suc n) e (omega arith)
    ∙ ap (λ (x : ℕ). x ∷ sequence_numbers (operations_from m s a (suc k) (suc n))) (number_middle (operation_count (length m)) k l (omega arith))
    ∙ ap (λ (xs : List ℕ). 2 ∷ xs) (numbers_from m s a (suc k) n e (omega arith) (omega arith))

count_one : (n : ℕ) → 1 ≤ n → n ≤ 256 → operation_count n ≡ 1
unfolding operation_count
count_one n l h = omega arith

count_more : (n : ℕ) → 256 < n → 2 ≤ operation_count n
unfolding operation_count
count_more n h = omega arith

nothing_behind : (m : List ℕ) (s a : ℕ) → 0 ∷ sequence_numbers (operations_from m s a 1 0) ≡ 0 ∷ []
unfolding operations_from sequence_numbers
nothing_behind m s a = refl

pub sequenced : (m : List ℕ) (s a : ℕ) → send_refusal m s a ≡ 0 → Sequenced m s a
unfolding operations
sequenced m s a e = record { single = single; parts = parts }
  where
    single : length m ≤ 256 → sequence_numbers (operations_from m s a 0 (division m s a).operations) ≡ 0 ∷ []
    single h =
        let c : operation_count (length m) ≡ 1 = count_one (length m) (sendable m s a e).some_bytes h in
        let d : (division m s a).operations ≡ 1 = division_count m s a e ∙ c in
        ap (λ (n : ℕ). sequence_numbers (operations_from m s a 0 n)) d
        ∙ numbers_made m s a 0 0 e (omega arith)
        ∙ ap (λ (n : ℕ). sequence_number (sequence_of n 0) ∷ sequence_numbers (operations_from m s a 1 0)) c
        ∙ ap (λ (x : ℕ). x ∷ sequence_numbers (operations_from m s a 1 0)) number_single
        ∙ nothing_behind m s a

    parts : 256 < length m → sequence_numbers (operations_from m s a 0 (division m s a).operations) ≡ 1 ∷ replicate ((division m s a).operations - 2) 2 ++ 3 ∷ []
    parts h =
        let c : 2 ≤ operation_count (length m) = count_more (length m) h in
        let d : (division m s a).operations ≡ operation_count (length m) = division_count m s a e in
        let f : (division m s a).operations ≡ suc (suc ((division m s a).operations - 2)) = omega arith in
        ap (λ (n : ℕ). sequence_numbers (operations_from m s a 0 n)) f
        ∙ numbers_made m s a 0 (suc ((division m s a).operations - 2)) e (omega arith)
        ∙ ap (λ (x : ℕ). x ∷ sequence_numbers (operations_from m s a 1 (suc ((division m s a).operations - 2)))) (number_first (operation_count (length m)) (omega arith))
        ∙ ap (λ (xs : List ℕ). 1 ∷ xs) (numbers_from m s a 1 ((division m s a).operations - 2) e (omega arith) (omega arith))

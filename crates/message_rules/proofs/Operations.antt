-- One operation of a message at a receiver that has had those before it, and all operations from one of them on.
use Prim.Native.Nat.{ℕ, zero, suc, ◌+◌, ◌*◌, ◌≤◌, ◌<◌}
use native.Mathlib.Nat.{zero-add}
use native.Mathlib.Omega.{arith}
use mathlib.Core.Path.{◌≡◌, refl, ◌∙◌, ap}
use mathlib.Core.Bool.{true}
use mathlib.Core.List.{List, [], ◌∷◌}
use lib.ListN.{length, take, drop}
use lib.Seq.{sets, length-sets, take-add, take_all, length-take-le}
use borrow.Author.Tests.{eq-eqb, ne_eqb, le-leb}
use Rattle.text.proofs.SpaceLaws.{sets_append}
use Rattle.std.specs.Prelude.{Some, None}
use Rattle.message_rules.specs.Operation.{Operation, operation, is_source}
use Rattle.message_rules.specs.Receiver.{Receiver, Receipt, brought, state_allowed, in_turn, is_expected, start_of, receive_refusal, taken, receipt, store_after}
use Rattle.message_rules.specs.Sender.{send_refusal, operation_count, sequence_of, part_of, operations_from}
use Rattle.message_rules.specs.Delivery.{receipts, receiver_left, store_left}
use Rattle.message_rules.proofs.ReceiverLaws.{source_true, range_of, passes_all, accepted_answer, accepted_store}
use Rattle.message_rules.proofs.SenderLaws.{sendable, made, from_made, part_start, part_full, part_last, last_end, part_within, starts_first, ends_last}

-- ---- one operation

-- the receiver before operation k: idle before the first, and then pending with 256 k bytes
unfoldable pub before : ℕ → ℕ → ℕ → Receiver
before s a zero = None
before s a (suc k) = Some (brought s a (256 * suc k))

-- the store before operation k
unfoldable pub held : List ℕ → List ℕ → ℕ → List ℕ
held m st k = sets st 0 (take (256 * k) m)

start_before : (s a k : ℕ) → start_of (before s a k) ≡ 256 * k
unfolding start_of before
start_before s a zero = refl
start_before s a (suc k) = refl

pub allowed_before : (s a k : ℕ) → is_source s a ≡ true → 256 * k ≤ 4096 → state_allowed (before s a k) ≡ true
unfolding state_allowed before
allowed_before s a zero e h = refl
allowed_before s a (suc k) e h = rw (e, le-leb 1 (256 * suc k) (omega arith), le-leb (256 * suc k) 4096 h)

turn_before : (s a n k : ℕ) → k < n → in_turn (before s a k) (sequence_of n k) ≡ true
unfolding in_turn before
turn_before s a n zero h = starts_first n 0 h
turn_before s a n (suc k) h = rw (starts_first n (suc k) h, ne_eqb (suc k) 0 (λ (q : suc k ≡ 0). absurd (omega arith)))

source_before : (s a k : ℕ) → is_expected (before s a k) s a ≡ true
unfolding is_expected before
source_before s a zero = refl
source_before s a (suc k) = rw (eq-eqb s s refl, eq-eqb a a refl)

-- the bytes of operation k behind those before it
held_next : (m st : List ℕ) (k : ℕ) → 256 * k ≤ length m → sets (held m st k) (256 * k) (part_of m k) ≡ held m st (suc k)
unfolding held part_of
held_next m st k h =
    let l : length (take (256 * k) m) ≡ 256 * k = length-take-le (256 * k) m h in
    let e : 256 * suc k ≡ 256 * k + 256 = omega arith in
    rw (e, take-add (256 * k) 256 m, sets_append (take (256 * k) m) st (take 256 (drop (256 * k) m)) 0, l, zero-add (256 * k))

accepts_made : (m : List ℕ) (s a : ℕ) (st : List ℕ) (k : ℕ) → send_refusal m s a ≡ 0 → length st ≡ 4096 → k < operation_count (length m)
    → receive_refusal (before s a k) (held m st k) (made m s a k) ≡ 0
unfolding made operation held
accepts_made m s a st k e size h =
    let p = sendable m s a e in
    let w = part_within m k h in
    let b = start_before s a k in
    passes_all (before s a k) (sets st 0 (take (256 * k) m)) (operation (sequence_of (operation_count (length m)) k) s a (part_of m k))
    (length-sets st 0 (take (256 * k) m) ∙ size)
    (allowed_before s a k (source_true s a p.sender p.aid) (omega arith))
    (range_of s a (length (part_of m k)) p.sender p.aid w.least w.most)
    (turn_before s a (operation_count (length m)) k h)
    (source_before s a k)
    (omega arith)

-- the answer to operation k and the store after it: the last completes the message, any other leaves it pending
pub store_made : (m : List ℕ) (s a : ℕ) (st : List ℕ) (k : ℕ) → send_refusal m s a ≡ 0 → length st ≡ 4096 → k < operation_count (length m)
    → store_after (before s a k) (held m st k) (made m s a k) ≡ held m st (suc k)
unfolding made operation
store_made m s a st k e size h =
    let w = part_within m k h in
    let l : 256 * k ≤ length m = omega arith in
    accepted_store (before s a k) (held m st k) (made m s a k) (accepts_made m s a st k e size h)
    ∙ ap (λ (n : ℕ). sets (held m st k) n (part_of m k)) (start_before s a k) ∙ held_next m st k l

answer_made : (m : List ℕ) (s a : ℕ) (st : List ℕ) (k : ℕ) → send_refusal m s a ≡ 0 → length st ≡ 4096 → k < operation_count (length m)
    → receipt (before s a k) (held m st k) (made m s a k)
    ≡ taken (sequence_of (operation_count (length m)) k) s a (256 * k + length (part_of m k))
unfolding made operation
answer_made m s a st k e size h =
    accepted_answer (before s a k) (held m st k) (made m s a k) (accepts_made m s a st k e size h)
    ∙ ap (λ (n : ℕ). taken (sequence_of (operation_count (length m)) k) s a (n + length (part_of m k))) (start_before s a k)

-- an answer to an operation that completes the message of n bytes, and to one that leaves it so far
unfoldable pub completing : ℕ → ℕ → ℕ → Receipt
completing s a n = record { refusal = 0; receiver = None; completion = Some (brought s a n) }

unfoldable pub continuing : Receiver → Receipt
continuing r = record { refusal = 0; receiver = r; completion = None }

pub answer_last : (m : List ℕ) (s a : ℕ) (st : List ℕ) (k : ℕ) → send_refusal m s a ≡ 0 → length st ≡ 4096 → suc k ≡ operation_count (length m)
    → receipt (before s a k) (held m st k) (made m s a k) ≡ completing s a (length m)
unfolding taken completing
answer_last m s a st k e size q =
    let h : k < operation_count (length m) = omega arith in
    let w = part_within m k h in
    let l = last_end (length m) k q in
    let p = part_last m k q in
    let b = part_start (length m) k h in
    let n : 256 * k + length (part_of m k) ≡ length m = omega arith in
    answer_made m s a st k e size h
    ∙ rw (ends_last (operation_count (length m)) k h, eq-eqb (suc k) (operation_count (length m)) q, n)

pub answer_on : (m : List ℕ) (s a : ℕ) (st : List ℕ) (k : ℕ) → send_refusal m s a ≡ 0 → length st ≡ 4096 → suc k < operation_count (length m)
    → receipt (before s a k) (held m st k) (made m s a k) ≡ continuing (before s a (suc k))
unfolding taken continuing before
answer_on m s a st k e size q =
    let h : k < operation_count (length m) = omega arith in
    let p = part_full m k q in
    let n : 256 * k + length (part_of m k) ≡ 256 * suc k = omega arith in
    answer_made m s a st k e size h
    ∙ rw (ends_last (operation_count (length m)) k h, ne_eqb (suc k) (operation_count (length m)) (λ (x : suc k ≡ operation_count (length m)). omega arith), n)

-- ---- all operations from operation k on, the last among them

-- what an operation that is answered by x, and leaves the store st', is followed by
pub receipts_step : (r : Receiver) (st : List ℕ) (o : Operation) (os : List Operation) (x : Receipt) (st' : List ℕ)
    → receipt r st o ≡ x → store_after r st o ≡ st' → receipts r st (o ∷ os) ≡ x ∷ receipts x.receiver st' os
unfolding receipts
receipts_step r st o os x st' e f = rw (e, f)

pub receiver_step : (r : Receiver) (st : List ℕ) (o : Operation) (os : List Operation) (x : Receipt) (st' : List ℕ)
    → receipt r st o ≡ x → store_after r st o ≡ st' → receiver_left r st (o ∷ os) ≡ receiver_left x.receiver st' os
unfolding receiver_left
receiver_step r st o os x st' e f = rw (e, f)

pub store_step : (r : Receiver) (st : List ℕ) (o : Operation) (os : List Operation) (x : Receipt) (st' : List ℕ)
    → receipt r st o ≡ x → store_after r st o ≡ st' → store_left r st (o ∷ os) ≡ store_left x.receiver st' os
unfolding store_left
store_step r st o os x st' e f = rw (e, f)

-- the answers to j + 1 operations that complete a message of n bytes
unfoldable pub series : ℕ → ℕ → ℕ → ℕ → ℕ → List Receipt
series s a n k zero = completing s a n ∷ []
series s a n k (suc j) = continuing (before s a (suc k)) ∷ series s a n (suc k) j

pub record Rest (m : List ℕ) (s a : ℕ) (st : List ℕ) (k j : ℕ) : Type 0 where
  pub answers : receipts (before s a k) (held m st k) (operations_from m s a k (suc j)) ≡ series s a (length m) k j
  pub receiver : receiver_left (before s a k) (held m st k) (operations_from m s a k (suc j)) ≡ None
  pub store : store_left (before s a k) (held m st k) (operations_from m s a k (suc j)) ≡ sets st 0 m

pub rest : (m : List ℕ) (s a : ℕ) (st : List ℕ) (k j : ℕ) → send_refusal m s a ≡ 0 → length st ≡ 4096 → suc k + j ≡ operation_count (length m)
    → Rest m s a st k j
unfolding operations_from receipts receiver_left store_left series completing continuing held
rest m s a st k zero e size q =
    let h : k < operation_count (length m) = omega arith in
    let l : suc k ≡ operation_count (length m) = omega arith in
    let x = answer_last m s a st k e size l in
    let y = store_made m s a st k e size h in
    let f = from_made m s a k zero e h in
    record {
      answers = rw f (receipts_step _ _ _ (operations_from m s a (suc k) zero) _ _ x y);
      receiver = rw f (receiver_step _ _ _ (operations_from m s a (suc k) zero) _ _ x y);
      store = rw f (store_step _ _ _ (operations_from m s a (suc k) zero) _ _ x y ∙ ap (sets st 0) (take_all (256 * suc k) m (last_end (length m) k l)));
    }
rest m s a st k (suc j) e size q =
    let h : k < operation_count (length m) = omega arith in
    let l : suc k < operation_count (length m) = omega arith in
    let x = answer_on m s a st k e size l in
    let y = store_made m s a st k e size h in
    let f = from_made m s a k (suc j) e h in
    let os = operations_from m s a (suc k) (suc j) in
    let i = rest m s a st (suc k) j e size (omega arith) in
    record {
      answers = rw f (receipts_step _ _ _ os _ _ x y ∙ ap (λ (xs : List Receipt). continuing (before s a (suc k)) ∷ xs) i.answers);
      receiver = rw f (receiver_step _ _ _ os _ _ x y ∙ i.receiver);
      store = rw f (store_step _ _ _ os _ _ x y ∙ i.store);
    }

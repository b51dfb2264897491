-- A message cut by the sender comes together again in the receiver, with refused operations between too (specs/Delivery.antt).
use Prim.Native.Nat.{ℕ, zero, suc, ◌-◌, ◌≤◌}
use native.Mathlib.Nat.{zero-add}
use native.Mathlib.Omega.{arith}
use mathlib.Core.Path.{◌≡◌, refl, sym, ◌∙◌, ap}
use mathlib.Core.Logic.{◌≢◌, ⊎_elim}
use mathlib.Core.List.{List, [], ◌∷◌, ◌++◌, map}
use lib.ListN.{length, drop, replicate}
use lib.Seq.{sets, sets-eq}
use borrow.Author.Tests.{eq-eqb, ne_eqb}
use Rattle.std.specs.Prelude.{None}
use Rattle.message_rules.specs.Operation.{Operation}
use Rattle.message_rules.specs.Receiver.{Receiver, Receipt, receive_refusal, refused, receipt, store_after, completion_told}
use Rattle.message_rules.specs.Sender.{send_refusal, operation_count, division, operations_from, operations}
use Rattle.message_rules.specs.Delivery.{receipts, receiver_left, store_left, Delivered, Delivers, Interleaved, kept, DeliversInterleaved, Each}
use Rattle.message_rules.proofs.ReceiverLaws.{refused_answer, refused_store}
use Rattle.message_rules.proofs.SenderLaws.{sends, sendable, division_count}
use Rattle.message_rules.proofs.Operations.{before, held, completing, continuing, receipts_step, receiver_step, store_step, series, Rest, rest}

-- ---- the theorem

series_refusals : (s a n k j : ℕ) → map (λ (x : Receipt). x.refusal) (series s a n k j) ≡ replicate (suc j) 0
unfolding series completing continuing
series_refusals s a n k zero = refl
series_refusals s a n k (suc j) = ap (λ (l : List ℕ). 0 ∷ l) (series_refusals s a n (suc k) j)

series_completions : (s a n k j : ℕ) → map (λ (x : Receipt). completion_told x.completion) (series s a n k j) ≡ replicate j [] ++ (s ∷ a ∷ n ∷ []) ∷ []
unfolding series completing continuing completion_told
series_completions s a n k zero = refl
series_completions s a n k (suc j) = ap (λ (l : List (List ℕ)). [] ∷ l) (series_completions s a n (suc k) j)

count_some : (n : ℕ) → 1 ≤ n → 1 ≤ operation_count n
unfolding operation_count
count_some n h = omega arith

-- the number of operations without the last
pub others : List ℕ → ℕ
others m = operation_count (length m) - 1

pub one_more : (m : List ℕ) (s a : ℕ) → send_refusal m s a ≡ 0 → operation_count (length m) ≡ suc (others m)
unfolding others
one_more m s a e = let c = count_some (length m) (sendable m s a e).some_bytes in omega arith

pub operations_from_lem : (m : List ℕ) (s a : ℕ) → send_refusal m s a ≡ 0 → operations m s a ≡ operations_from m s a 0 (suc (others m))
unfolding operations
operations_from_lem m s a e = ap (operations_from m s a 0) (division_count m s a e ∙ one_more m s a e)

-- all operations of an accepted message, from the first on
pub whole : (m : List ℕ) (s a : ℕ) (st : List ℕ) → send_refusal m s a ≡ 0 → length st ≡ 4096 → Rest m s a st 0 (others m)
whole m s a st e size = let q = one_more m s a e in rest m s a st 0 (others m) e size (omega arith)

-- such answers, an idle receiver and the message in the store are what is claimed
pub delivered : (m : List ℕ) (s a : ℕ) (st : List ℕ) (answers : List Receipt) (r : Receiver) (st' : List ℕ)
    → send_refusal m s a ≡ 0 → length st ≡ 4096 → answers ≡ series s a (length m) 0 (others m) → r ≡ None → st' ≡ sets st 0 m
    → Delivered m s a st answers r st'
delivered m s a st answers r st' e size x y z =
    let p = sendable m s a e in
    let d : (division m s a).operations ≡ suc (others m) = division_count m s a e ∙ one_more m s a e in
    let o : others m ≡ (division m s a).operations - 1 = omega arith in
    record {
      accepts = ap (map (λ (x : Receipt). x.refusal)) x ∙ series_refusals s a (length m) 0 (others m) ∙ ap (λ (n : ℕ). replicate n 0) (sym d);
      completes =
          ap (map (λ (x : Receipt). completion_told x.completion)) x
          ∙ series_completions s a (length m) 0 (others m)
          ∙ ap (λ (n : ℕ). replicate n [] ++ (s ∷ a ∷ length m ∷ []) ∷ []) o;
      idle = y;
      store = z ∙ sets-eq m st 0 (omega arith) ∙ ap (λ (n : ℕ). m ++ drop n st) (zero-add (length m));
    }

pub delivers : Delivers
unfolding Delivers before held
delivers m s a st p size =
    let e = sends m s a p in
    let w = whole m s a st e size in
    let o = operations_from_lem m s a e in
    delivered m s a st _ _ _ e size (rw o w.answers) (rw o w.receiver) (rw o w.store)

-- ---- with refused operations between

-- a refused operation is not kept, and leaves receiver and store
record Passed (r : Receiver) (st : List ℕ) (g : Operation) (given : List Operation) : Type 0 where
  answers : kept (receipts r st (g ∷ given)) ≡ kept (receipts r st given)
  receiver : receiver_left r st (g ∷ given) ≡ receiver_left r st given
  store : store_left r st (g ∷ given) ≡ store_left r st given

passed : (r : Receiver) (st : List ℕ) (g : Operation) (given : List Operation) → receive_refusal r st g ≢ 0 → Passed r st g given
unfolding kept refused
passed r st g given h =
    let x = refused_answer r st g h in
    let y = refused_store r st g h in
    record {
      answers = rw (receipts_step r st g given _ _ x y, ne_eqb (receive_refusal r st g) 0 h);
      receiver = receiver_step r st g given _ _ x y;
      store = store_step r st g given _ _ x y;
    }

-- what is kept of the operations given is what those sent give by themselves
record Kept (r : Receiver) (st : List ℕ) (sent given : List Operation) : Type 0 where
  answers : kept (receipts r st given) ≡ receipts r st sent
  receiver : receiver_left r st given ≡ receiver_left r st sent
  store : store_left r st given ≡ store_left r st sent

behind : (r : Receiver) (st : List ℕ) (g : Operation) (sent given : List Operation) → receive_refusal r st g ≢ 0 → Kept r st sent given
    → Kept r st sent (g ∷ given)
behind r st g sent given h k =
    let p = passed r st g given h in
    record { answers = p.answers ∙ k.answers; receiver = p.receiver ∙ k.receiver; store = p.store ∙ k.store }

ahead : (r : Receiver) (st : List ℕ) (o : Operation) (sent given : List Operation) → (receipt r st o).refusal ≡ 0
    → Kept (receipt r st o).receiver (store_after r st o) sent given → Kept r st (o ∷ sent) (o ∷ given)
unfolding receipts receiver_left store_left kept
ahead r st o sent given h k =
    record {
      answers = rw (eq-eqb (receipt r st o).refusal 0 h) (ap (λ (xs : List Receipt). receipt r st o ∷ xs) k.answers);
      receiver = k.receiver;
      store = k.store;
    }

interleaved : (r : Receiver) (st : List ℕ) (sent given : List Operation)
    → Each (λ x. x.refusal ≡ 0) (receipts r st sent) → Interleaved r st sent given → Kept r st sent given
unfolding Interleaved Each receipts receiver_left store_left kept
interleaved r st [] [] a i = record { answers = refl; receiver = refl; store = refl }
interleaved r st (o ∷ sent) [] a i = absurd i
interleaved r st [] (g ∷ given) a i = behind r st g [] given i.0 (interleaved r st [] given a i.1)
interleaved r st (o ∷ sent) (g ∷ given) a i = ⊎_elim
    (λ j. behind r st g (o ∷ sent) given j.0 (interleaved r st (o ∷ sent) given a j.1))
    (λ j. rw j.0 (ahead r st o sent given a.0 (interleaved (receipt r st o).receiver (store_after r st o) sent given a.1 j.1)))
    i

series_accepted : (s a n k j : ℕ) → Each (λ x. x.refusal ≡ 0) (series s a n k j)
unfolding Each series completing continuing
series_accepted s a n k zero = (refl, _)
series_accepted s a n k (suc j) = (refl, series_accepted s a n (suc k) j)

pub delivers_interleaved : DeliversInterleaved
unfolding DeliversInterleaved before held
delivers_interleaved m s a st given p size i =
    let e = sends m s a p in
    let w = whole m s a st e size in
    let o = operations_from_lem m s a e in
    let all : Each (λ x. x.refusal ≡ 0) (receipts None st (operations m s a)) = rw (o, w.answers) (series_accepted s a (length m) 0 (others m)) in
    let k = interleaved None st (operations m s a) given all i in
    delivered m s a st _ _ _ e size (k.answers ∙ rw o w.answers) (k.receiver ∙ rw o w.receiver) (k.store ∙ rw o w.store)

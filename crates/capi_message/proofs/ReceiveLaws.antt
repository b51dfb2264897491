-- What receiving through the C interface answers and leaves, put together from what the receiver answers and what is handed over.
use mathlib.Core.Path.{◌≡◌, refl, sym, ap, ◌∙◌}
use mathlib.Core.Logic.{◌≢◌}
use mathlib.Core.Bool.{Bool, true, false, cond}
use mathlib.Core.List.{List, ◌++◌}
use Prim.Native.Nat.{ℕ, ◌≤◌, ◌<◌}
use native.Mathlib.Omega.{arith}
use lib.Dec.{leb, eqb}
use lib.ListN.{length, drop}
use borrow.Author.Tests.{ne_eqb, le-leb, lt-leb, leb-true, eqb-true, eqb-false}
use Rattle.std.specs.Prelude.{Option, Some, None, Ok, Err}
use Rattle.order.specs.declared.Refusal.{Refusal}
use Rattle.order.specs.Refusal.{refusal_number}
use Rattle.crossing.specs.Capped.{capped}
use Rattle.message_rules.specs.declared.Received.{Received}
use Rattle.message_rules.specs.declared.Accepted.{Accepted}
use Rattle.order.proofs.RefusalLaws.{number_pos}
use Rattle.message_rules.specs.declared.Sequence.{Sequence}
use Rattle.message_rules.specs.Operation.{Operation, operation, ends}
use Rattle.message_rules.specs.Receiver.{Receiver, Receipt, receipt_told, completion_told, receive_refusal, taken, receipt, refused, store_after}
use Rattle.message_rules.proofs.ReceiverLaws.{accepted_answer, refused_answer, refused_store, answer_refusal}
use Rattle.capi_message.specs.Layout.{receiver_from, receiver_numbers, completion_numbers, Fits}
use Rattle.capi_message.specs.Operation.{operation_from, operation_sender}
use Rattle.capi_message.specs.Receive.{spaced, receive_returned, receive_receiver, receive_store, receive_completion, Follows}
use Rattle.capi_message.proofs.LayoutLaws.{inverse}

-- what a call answered and left, as its contract says
pub record Left (r st : List ℕ) (o : Operation) (c : List ℕ) (n : ℕ) (r' st' c' : List ℕ) : Type 0 where
  pub code : n ≡ receive_returned r st o c
  pub receiver : r' ≡ receive_receiver r st o c
  pub store : st' ≡ receive_store r st o c
  pub completion : c' ≡ receive_completion r st o c

-- ---- room

pub no_receiver_lem : (r c : List ℕ) → length r < 4 → spaced r c ≡ false
unfolding spaced
no_receiver_lem r c h = rw (lt-leb 4 (length r) h)

pub no_completion : (r c : List ℕ) → 4 ≤ length r → length c < 4 → spaced r c ≡ false
unfolding spaced
no_completion r c g h = rw (le-leb 4 (length r) g, lt-leb 4 (length c) h)

pub room : (r c : List ℕ) → 4 ≤ length r → 4 ≤ length c → spaced r c ≡ true
unfolding spaced
room r c g h = rw (le-leb 4 (length r) g, le-leb 4 (length c) h)

pub no_room_lem : (r st : List ℕ) (o : Operation) (c : List ℕ) → spaced r c ≡ false → Left r st o c 9 r st c
unfolding receive_returned receive_receiver receive_store receive_completion
no_room_lem r st o c e = record { code = rw e; receiver = rw e; store = rw e; completion = rw e }

-- ---- the answer handed over

-- a completion has the numbers that a receiver of as many bytes has
completion_as : (m : Option Received) → completion_numbers m ≡ receiver_numbers m
unfolding completion_numbers receiver_numbers completion_told
completion_as None = refl
completion_as (Some m) = refl

-- a refused operation leaves receiver and store
kept : (r : Receiver) (st : List ℕ) (o : Operation) → eqb (receipt r st o).refusal 0 ≡ false
    → ((receipt r st o).receiver ≡ r) × (store_after r st o ≡ st)
unfolding refused
kept r st o e =
    let n : receive_refusal r st o ≢ 0 = λ q. eqb-false _ 0 e (answer_refusal r st o ∙ q) in
    (ap (λ (x : Receipt). x.receiver) (refused_answer r st o n), refused_store r st o n)

pub handed_over : (r st : List ℕ) (o : Operation) (c : List ℕ) (x : Receipt) (n : ℕ) (r' st' c' : List ℕ) → spaced r c ≡ true
    → x ≡ receipt (receiver_from r) st o → st' ≡ store_after (receiver_from r) st o
    → (n ≡ x.refusal)
    × (r' ≡ cond (eqb x.refusal 0) (receiver_numbers x.receiver ++ drop 4 r) r)
    × (c' ≡ cond (eqb x.refusal 0) (completion_numbers x.completion ++ drop 4 c) c)
    → Left r st o c n r' st' c'
unfolding receive_returned receive_receiver receive_store receive_completion
handed_over r st o c x n r' st' c' l e f t =
    record { code = rw l (rw e at t.0); receiver = rw l (rw e at t.1); store = rw l (go _ refl); completion = rw l (rw e at t.2) }
  where
    y : Receipt
    y = receipt (receiver_from r) st o

    go : (b : Bool) → eqb y.refusal 0 ≡ b → st' ≡ cond (eqb y.refusal 0) (store_after (receiver_from r) st o) st
    go true q = rw q f
    go false q = rw q (f ∙ (kept (receiver_from r) st o q).1)

-- an accepted operation's
pub accepted_left : (r st : List ℕ) (o : Operation) (c : List ℕ) (x : Accepted) (r' st' c' : List ℕ) → spaced r c ≡ true
    → receipt_told (receiver_from r) (Ok x) ≡ receipt (receiver_from r) st o → st' ≡ store_after (receiver_from r) st o
    → r' ≡ receiver_numbers x.receiver ++ drop 4 r → c' ≡ receiver_numbers x.completion ++ drop 4 c → Left r st o c 0 r' st' c'
accepted_left r st o c x r' st' c' l e f g h =
    handed_over r st o c (receipt_told (receiver_from r) (Ok x)) 0 r' st' c' l e f (refl, g, h ∙ ap (λ (n : List ℕ). n ++ drop 4 c) (sym (completion_as x.completion)))

-- and a refused one's
pub refused_left : (r st : List ℕ) (o : Operation) (c : List ℕ) (e : Refusal) (n : ℕ) (st' : List ℕ) → spaced r c ≡ true
    → receipt_told (receiver_from r) (Err e) ≡ receipt (receiver_from r) st o → st' ≡ store_after (receiver_from r) st o → n ≡ refusal_number e
    → Left r st o c n r st' c
refused_left r st o c e n st' l h f k =
    let z : eqb (refusal_number e) 0 ≡ false = ne_eqb _ 0 (λ q. absurd (omega (arith, number_pos e, q))) in
    handed_over r st o c (receipt_told (receiver_from r) (Err e)) n r st' c l h f (k, rw z refl, rw z refl)

-- ---- calls that follow on each other

taken_fits : (q : Sequence) (s a n : ℕ) → s ≤ 255 → a ≤ 65535 → Fits (taken q s a n).receiver
unfolding taken Fits
taken_fits q s a n g h = go (ends q) refl
  where
    go : (b : Bool) → ends q ≡ b → Fits (taken q s a n).receiver
    go true e = rw e tt
    go false e = rw e (g, h)

-- the receiver after an accepted operation, whose sender and AID are numbers that their types hold
receipt_fits : (r : Receiver) (st : List ℕ) (o : Operation) → o.sender ≤ 255 → o.aid ≤ 65535 → eqb (receipt r st o).refusal 0 ≡ true
    → Fits (receipt r st o).receiver
receipt_fits r st o g h e =
    let n : receive_refusal r st o ≡ 0 = sym (answer_refusal r st o) ∙ eqb-true _ 0 e in
    rw (accepted_answer r st o n) (taken_fits o.sequence o.sender o.aid _ g h)

capped_most : (most n : ℕ) → capped most n ≤ most
unfolding capped
capped_most most n = go (leb n most) refl
  where
    go : (b : Bool) → leb n most ≡ b → capped most n ≤ most
    go true e = rw e (leb-true n most e)
    go false e = rw e (omega arith)

sender_small : (q s : ℕ) → operation_sender q s ≤ 255
unfolding operation_sender capped
sender_small q s = go (leb q 3) refl
  where
    go : (b : Bool) → leb q 3 ≡ b → operation_sender q s ≤ 255
    go true e = rw e (capped_most 255 s)
    go false e = rw e (omega arith)

follows_receiver : (r st : List ℕ) (q s a : ℕ) (b c : List ℕ) → spaced r c ≡ true
    → receiver_from (receive_receiver r st (operation_from q s a b) c) ≡ (receipt (receiver_from r) st (operation_from q s a b)).receiver
unfolding receive_receiver receive_returned operation_from operation
follows_receiver r st q s a b c l = go (eqb (receipt (receiver_from r) st o).refusal 0) refl
  where
    o : Operation
    o = operation_from q s a b

    go : (p : Bool) → eqb (receipt (receiver_from r) st o).refusal 0 ≡ p → receiver_from (receive_receiver r st o c) ≡ (receipt (receiver_from r) st o).receiver
    go true e = rw (l, e) (inverse.back _ _ (receipt_fits (receiver_from r) st o (sender_small q s) (capped_most 65535 a) e))
    go false e = rw (l, e) (sym (kept (receiver_from r) st o e).0)

follows_store : (r st : List ℕ) (o : Operation) (c : List ℕ) → spaced r c ≡ true → receive_store r st o c ≡ store_after (receiver_from r) st o
unfolding receive_store receive_returned
follows_store r st o c l = go (eqb (receipt (receiver_from r) st o).refusal 0) refl
  where
    go : (p : Bool) → eqb (receipt (receiver_from r) st o).refusal 0 ≡ p → receive_store r st o c ≡ store_after (receiver_from r) st o
    go true e = rw (l, e)
    go false e = rw (l, e) (sym (kept (receiver_from r) st o e).1)

pub follows : Follows
follows = record { receiver = follows_receiver; store = follows_store }

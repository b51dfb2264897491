-- Operations of others between the first and the last of a message are refused with 11 or 12 and disturb nothing (specs/Delivery.antt).
use Prim.Native.Nat.{ℕ, zero, suc, ◌+◌, ◌*◌, ◌<◌}
use native.Mathlib.Omega.{arith}
use mathlib.Core.Path.{◌≡◌, refl, sym, ◌∙◌, subst}
use mathlib.Core.Logic.{◌≢◌, ◌⊎◌, inl, inr, ⊎_elim}
use mathlib.Core.Bool.{Bool, true, false, cond, and-false}
use mathlib.Core.List.{List, [], ◌∷◌}
use lib.Dec.{eqb}
use lib.ListN.{length, take}
use lib.Seq.{length-sets}
use borrow.Author.Tests.{ne_eqb}
use Rattle.std.specs.Prelude.{Some, None}
use Rattle.message_rules.specs.Operation.{Operation, starts}
use Rattle.message_rules.specs.Receiver.{brought, Receiver, Receipt, state_allowed, is_expected, receive_refusal, refused, receipt, store_after}
use Rattle.message_rules.specs.Sender.{send_refusal, operation_count, operations_from, operations}
use Rattle.message_rules.specs.Delivery.{receipts, Interleaved, DeliversInterleaved, Foreign, Among, Between, Each, RefusesOthers}
use Rattle.message_rules.proofs.ReceiverLaws.{source_true, range_of, refused_answer, refused_store, other_refused}
use Rattle.message_rules.proofs.SenderLaws.{sends, sendable, made, from_made, part_start}
use Rattle.message_rules.proofs.Operations.{before, held, allowed_before, completing, continuing, answer_last, answer_on, store_made}
use Rattle.message_rules.proofs.Delivers.{others, one_more, operations_from_lem, delivers_interleaved}

-- the number of an answer where the only refusals are 11 and 12
abbrev Number : Receipt → Type 0
Number x = (x.refusal ≡ 0) ⊎ ((x.refusal ≡ 11) ⊎ (x.refusal ≡ 12))

record Others (r : Receiver) (st : List ℕ) (sent given : List Operation) : Type 0 where
  interleaves : Interleaved r st sent given
  numbers : Each Number (receipts r st given)

nothing_more : (r : Receiver) (st : List ℕ) (s a : ℕ) (given : List Operation) → Among s a [] given → Others r st [] given
unfolding Among Interleaved Each receipts
nothing_more r st s a [] h = record { interleaves = _; numbers = _ }
nothing_more r st s a (g ∷ given) h = absurd h

-- the sender's own next operation
own : (r : Receiver) (st : List ℕ) (o g : Operation) (sent given : List Operation) (x : Receipt) (st' : List ℕ)
    → g ≡ o → receipt r st o ≡ x → store_after r st o ≡ st' → x.refusal ≡ 0 → Others x.receiver st' sent given → Others r st (o ∷ sent) (g ∷ given)
unfolding Interleaved Each receipts
own r st o g sent given x st' q e f z h =
    record {
      interleaves = inr (q, rw (e, f) h.interleaves);
      numbers = rw (q, e, f) (inl z, h.numbers);
    }

-- an operation of another
refused_between : (r : Receiver) (st : List ℕ) (o g : Operation) (sent given : List Operation) → receive_refusal r st g ≢ 0
    → (receive_refusal r st g ≡ 11) ⊎ (receive_refusal r st g ≡ 12) → Others r st (o ∷ sent) given → Others r st (o ∷ sent) (g ∷ given)
unfolding Interleaved Each receipts refused
refused_between r st o g sent given h n k =
    record {
      interleaves = inl (h, k.interleaves);
      numbers = rw (refused_answer r st g h, refused_store r st g h) (inr n, k.numbers);
    }

not_expected : (s a n : ℕ) (g : Operation) → (g.sender ≢ s) ⊎ (g.aid ≢ a) → is_expected (Some (brought s a n)) g.sender g.aid ≡ false
unfolding is_expected
not_expected s a n g h = ⊎_elim (λ d. rw (ne_eqb g.sender s d)) (λ d. rw (ne_eqb g.aid a d) (and-false (eqb g.sender s))) h

other : (s a n : ℕ) (st : List ℕ) (o g : Operation) (sent given : List Operation)
    → length st ≡ 4096 → state_allowed (Some (brought s a n)) ≡ true → Foreign s a g → Others (Some (brought s a n)) st (o ∷ sent) given
    → Others (Some (brought s a n)) st (o ∷ sent) (g ∷ given)
other s a n st o g sent given size state f h = go (starts g.sequence) (other_refused s a n st g size state (range_of g.sender g.aid (length g.bytes) f.sender f.aid f.least f.most) (not_expected s a n g f.other))
  where
    go : (t : Bool) → receive_refusal (Some (brought s a n)) st g ≡ cond t 12 11 → Others (Some (brought s a n)) st (o ∷ sent) (g ∷ given)
    go true e = refused_between (Some (brought s a n)) st o g sent given (λ z. absurd (omega (arith, e, z))) (inr e) h
    go false e = refused_between (Some (brought s a n)) st o g sent given (λ z. absurd (omega (arith, e, z))) (inl e) h

-- before operation k + 1
other_before : (m : List ℕ) (s a : ℕ) (st : List ℕ) (k j : ℕ) (g : Operation) (given : List Operation)
    → send_refusal m s a ≡ 0 → length st ≡ 4096 → suc k < operation_count (length m) → Foreign s a g
    → Others (before s a (suc k)) (held m st (suc k)) (operations_from m s a (suc k) (suc j)) given
    → Others (before s a (suc k)) (held m st (suc k)) (operations_from m s a (suc k) (suc j)) (g ∷ given)
unfolding before held
other_before m s a st k j g given e size l f h =
    let p = sendable m s a e in
    let b = part_start (length m) (suc k) l in
    let o = from_made m s a (suc k) j e l in
    rw o (other s a (256 * suc k) _ (made m s a (suc k)) g (operations_from m s a (suc (suc k)) j) given
    (length-sets st 0 (take (256 * suc k) m) ∙ size)
    (allowed_before s a (suc k) (source_true s a p.sender p.aid) (omega arith))
    f
    (rw o at h))

-- from operation k + 1 on, j operations
among : (m : List ℕ) (s a : ℕ) (st : List ℕ) (k j : ℕ) (given : List Operation)
    → send_refusal m s a ≡ 0 → length st ≡ 4096 → suc k + j ≡ operation_count (length m) → Among s a (operations_from m s a (suc k) j) given
    → Others (before s a (suc k)) (held m st (suc k)) (operations_from m s a (suc k) j) given
unfolding operations_from Among completing continuing
among m s a st k zero given e size q h = nothing_more _ _ s a given h
among m s a st k (suc j) [] e size q h =
    let l : suc k < operation_count (length m) = omega arith in
    absurd (rw (from_made m s a (suc k) j e l) at h)
among m s a st k (suc zero) (g ∷ given) e size q h =
    let l : suc k < operation_count (length m) = omega arith in
    let o = from_made m s a (suc k) zero e l in
    ⊎_elim
    (λ f. other_before m s a st k zero g given e size l f.0 (among m s a st k (suc zero) given e size q (subst (λ (os : List Operation). Among s a os given) (sym o) f.1)))
    (λ f. rw o (own _ _ (made m s a (suc k)) g [] given _ _ f.0 (answer_last m s a st (suc k) e size (omega arith)) (store_made m s a st (suc k) e size l) refl (nothing_more _ _ s a given f.1)))
    (rw o at h)
among m s a st k (suc (suc j)) (g ∷ given) e size q h =
    let l : suc k < operation_count (length m) = omega arith in
    let o = from_made m s a (suc k) (suc j) e l in
    ⊎_elim
    (λ f. other_before m s a st k (suc j) g given e size l f.0 (among m s a st k (suc (suc j)) given e size q (subst (λ (os : List Operation). Among s a os given) (sym o) f.1)))
    (λ f. rw o (own _ _ (made m s a (suc k)) g (operations_from m s a (suc (suc k)) (suc j)) given _ _ f.0 (answer_on m s a st (suc k) e size (omega arith)) (store_made m s a st (suc k) e size l) refl (among m s a st (suc k) (suc j) given e size (omega arith) f.1)))
    (rw o at h)

-- from the first operation on
between : (m : List ℕ) (s a : ℕ) (st : List ℕ) (j : ℕ) (given : List Operation)
    → send_refusal m s a ≡ 0 → length st ≡ 4096 → suc j ≡ operation_count (length m) → Between s a (operations_from m s a 0 (suc j)) given
    → Others (before s a 0) (held m st 0) (operations_from m s a 0 (suc j)) given
unfolding operations_from Between completing continuing
between m s a st j [] e size q h = absurd (rw (from_made m s a 0 j e (omega arith)) at h)
between m s a st zero (g ∷ given) e size q h =
    let l : 0 < operation_count (length m) = omega arith in
    let o = from_made m s a 0 zero e l in
    let f : (g ≡ made m s a 0) × Among s a [] given = rw o at h in
    rw o (own _ _ (made m s a 0) g [] given _ _ f.0 (answer_last m s a st 0 e size q) (store_made m s a st 0 e size l) refl (nothing_more _ _ s a given f.1))
between m s a st (suc j) (g ∷ given) e size q h =
    let l : 0 < operation_count (length m) = omega arith in
    let o = from_made m s a 0 (suc j) e l in
    let f : (g ≡ made m s a 0) × Among s a (operations_from m s a 1 (suc j)) given = rw o at h in
    rw o (own _ _ (made m s a 0) g (operations_from m s a 1 (suc j)) given _ _ f.0 (answer_on m s a st 0 e size (omega arith)) (store_made m s a st 0 e size l) refl (among m s a st 0 (suc j) given e size (omega arith) f.1))

pub refuses_others : RefusesOthers
unfolding RefusesOthers DeliversInterleaved before held
refuses_others m s a st given p size h =
    let e = sends m s a p in
    let o = operations_from_lem m s a e in
    let k = between m s a st (others m) given e size (sym (one_more m s a e)) (rw o at h) in
    let i : Interleaved None st (operations m s a) given = rw o k.interleaves in
    record { numbers = k.numbers; interleaved = i; delivered = delivers_interleaved m s a st given p size i }

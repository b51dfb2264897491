-- A state of the receiver that is not allowed gets 10, and nothing else does.
use Prim.Native.Nat.{ℕ, ◌+◌, ◌<◌}
use native.Mathlib.Decide.{dec_lt}
use native.Mathlib.Omega.{arith}
use mathlib.Core.Path.{◌≡◌, refl, sym, ◌∙◌}
use mathlib.Core.Logic.{◌⊎◌, inl, inr, ⊎_elim}
use mathlib.Core.Bool.{Bool, true, false, cond, ◌&&◌, and-false, false≢true}
use mathlib.Core.List.{List}
use lib.Dec.{eqb, leb}
use lib.ListN.{length}
use borrow.Author.Tests.{eq-eqb, le-leb, eqb-true, lt-leb}
use Rattle.std.specs.Prelude.{Some, None}
use Rattle.message_rules.specs.Operation.{Operation, is_source}
use Rattle.message_rules.specs.Receiver.{Receiver, state_allowed, in_range, in_turn, is_expected, start_of, BadPending, RefusesState}
use Rattle.message_rules.proofs.ReceiverTests.{receive_tests}
use Rattle.message_rules.proofs.ReceiverLaws.{answer_refusal}

bad_state_lem : (r : Receiver) → BadPending r → state_allowed r ≡ false
unfolding BadPending state_allowed is_source
bad_state_lem None h = absurd h
bad_state_lem (Some m) h =
    let s = m.source.sender in
    let a = m.source.aid in
    let n = m.count in
    ⊎_elim (λ (e : 7 < s). rw (lt-leb s 7 e))
    (⊎_elim (λ (e : 255 < a). rw (lt-leb a 255 e, and-false (leb s 7)))
    (⊎_elim (λ (e : n ≡ 0). rw (lt-leb 1 n (omega arith), and-false (leb s 7 && leb a 255)))
    (λ (e : 4096 < n). rw (lt-leb n 4096 e, and-false (leb 1 n), and-false (leb s 7 && leb a 255)))))
    h

over : (n k : ℕ) → leb n k ≡ false → k < n
over n k e = on (dec_lt k n)
  where
    on : Dec (k < n) → k < n
    on (yes l) = l
    on (no l) = absurd (false≢true (sym e ∙ le-leb n k (omega arith)))

state_bad : (r : Receiver) → state_allowed r ≡ false → BadPending r
unfolding BadPending state_allowed is_source
state_bad None e = false≢true (sym e)
state_bad (Some m) e = on (leb m.source.sender 7) (leb m.source.aid 255) (leb 1 m.count) (leb m.count 4096) refl refl refl refl e
  where
    s : ℕ
    s = m.source.sender

    a : ℕ
    a = m.source.aid

    n : ℕ
    n = m.count

    on : (t u v w : Bool) → leb s 7 ≡ t → leb a 255 ≡ u → leb 1 n ≡ v → leb n 4096 ≡ w → ((t && u) && (v && w)) ≡ false →
        (7 < s) ⊎ ((255 < a) ⊎ ((n ≡ 0) ⊎ (4096 < n)))
    on false u v w p q x y e = inl (over s 7 p)
    on true false v w p q x y e = inr (inl (over a 255 q))
    on true true false w p q x y e = let z : n < 1 = over 1 n x in inr (inr (inl (omega arith)))
    on true true true false p q x y e = inr (inr (inr (over n 4096 y)))
    on true true true true p q x y e = absurd (false≢true (sym e))

-- the number is 10 only where the state is not allowed: no later test gives it
only_state : (t u v w x y : Bool) → ◌≡◌ {A = ℕ} (cond t (cond u (cond v (cond w (cond x (cond y 0 9) 11) 12) 8) 10) 1) 10 → (t ≡ true) × (u ≡ false)
only_state false u v w x y e = absurd (omega arith)
only_state true false v w x y e = (refl, refl)
only_state true true false w x y e = absurd (omega arith)
only_state true true true false x y e = absurd (omega arith)
only_state true true true true false y e = absurd (omega arith)
only_state true true true true true false e = absurd (omega arith)
only_state true true true true true true e = absurd (omega arith)

pub refuses_state : (r : Receiver) (st : List ℕ) (o : Operation) → RefusesState r st o
refuses_state r st o = record {
  all = λ size h. answer_refusal r st o ∙ receive_tests r st o ∙ rw (eq-eqb (length st) 4096 size, bad_state_lem r h);
  only = λ e.
      let p : (eqb (length st) 4096 ≡ true) × (state_allowed r ≡ false) = only_state
      (eqb (length st) 4096)
      (state_allowed r)
      (in_range o.sender o.aid (length o.bytes))
      (in_turn r o.sequence)
      (is_expected r o.sender o.aid)
      (leb (start_of r + length o.bytes) 4096)
      (sym (receive_tests r st o) ∙ sym (answer_refusal r st o) ∙ e) in
      (eqb-true (length st) 4096 p.0, state_bad r p.1);
}

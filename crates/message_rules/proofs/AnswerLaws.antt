-- Different answers of the code are told differently, a refusal with the receiver as it was; and a sequence and its number determine each other.
use Prim.Native.Nat.{ℕ, ◌≤◌}
use native.Mathlib.Omega.{arith}
use mathlib.Core.Path.{◌≡◌, refl, sym, ap}
use mathlib.Core.Bool.{Bool, true, false, cond}
use lib.Dec.{eqb}
use borrow.Author.Tests.{eqb-true}
use Rattle.std.specs.Prelude.{Some, None, Ok, Err}
use Rattle.order.proofs.RefusalLaws.{refusal_one, number_pos}
use Rattle.message_rules.specs.declared.Sequence.{Sequence}
use Rattle.message_rules.specs.declared.Sequence.TheVariants.{Single, First, Middle, Last}
use Rattle.message_rules.specs.Operation.{sequence_number, sequence_numbered, SequenceNumbers}
use Rattle.message_rules.specs.Receiver.{Receipt, ReceiptsApart, ToldKeeps}
use Rattle.message_rules.specs.Sender.{Division, DivisionsApart}

-- ---- answers

pub receipts_apart : ReceiptsApart
unfolding ReceiptsApart
receipts_apart r (Ok a) (Ok b) e = ap (λ (x : Receipt). Ok (record { receiver = x.receiver; completion = x.completion })) e
receipts_apart r (Ok a) (Err y) e = absurd (omega (arith, number_pos y, ap (λ (x : Receipt). x.refusal) e))
receipts_apart r (Err x) (Ok b) e = absurd (omega (arith, number_pos x, ap (λ (z : Receipt). z.refusal) e))
receipts_apart r (Err x) (Err y) e = ap Err (refusal_one x y (ap (λ (z : Receipt). z.refusal) e))

pub told_keeps : ToldKeeps
unfolding ToldKeeps
told_keeps r e = refl

pub divisions_apart : DivisionsApart
unfolding DivisionsApart
divisions_apart (Ok m) (Ok n) e = ap Ok (ap (λ (x : Division). x.operations) e)
divisions_apart (Ok m) (Err y) e = absurd (omega (arith, number_pos y, ap (λ (x : Division). x.refusal) e))
divisions_apart (Err x) (Ok n) e = absurd (omega (arith, number_pos x, ap (λ (z : Division). z.refusal) e))
divisions_apart (Err x) (Err y) e = ap Err (refusal_one x y (ap (λ (z : Division). z.refusal) e))

-- ---- sequences

sequence_back : (q : Sequence) → sequence_numbered (sequence_number q) ≡ Some q
unfolding sequence_numbered sequence_number
sequence_back Single = refl
sequence_back First = refl
sequence_back Middle = refl
sequence_back Last = refl

sequence_forth : (n : ℕ) (q : Sequence) → sequence_numbered n ≡ Some q → sequence_number q ≡ n
unfolding sequence_numbered sequence_number
sequence_forth n q e = go (eqb n 0) refl (eqb n 1) refl (eqb n 2) refl (eqb n 3) refl e
  where
    go : (t₀ : Bool) → eqb n 0 ≡ t₀ → (t₁ : Bool) → eqb n 1 ≡ t₁ → (t₂ : Bool) → eqb n 2 ≡ t₂ → (t₃ : Bool) → eqb n 3 ≡ t₃
        → cond t₀ (Some Single) (cond t₁ (Some First) (cond t₂ (Some Middle) (cond t₃ (Some Last) None))) ≡ Some q → sequence_number q ≡ n
    go true a t₁ b t₂ d t₃ f e = let x : Single ≡ q = cc in rw (← x) (sym (eqb-true n 0 a))
    go false a true b t₂ d t₃ f e = let x : First ≡ q = cc in rw (← x) (sym (eqb-true n 1 b))
    go false a false b true d t₃ f e = let x : Middle ≡ q = cc in rw (← x) (sym (eqb-true n 2 d))
    go false a false b false d true f e = let x : Last ≡ q = cc in rw (← x) (sym (eqb-true n 3 f))
    go false a false b false d false f e = absurd (let z : ◌≡◌ {A = ℕ} 0 1 = cc in omega arith)

sequence_most : (q : Sequence) → sequence_number q ≤ 3
unfolding sequence_number
sequence_most Single = omega arith
sequence_most First = omega arith
sequence_most Middle = omega arith
sequence_most Last = omega arith

pub sequence_numbers : SequenceNumbers
sequence_numbers = record { back = sequence_back; forth = sequence_forth; most = sequence_most }
